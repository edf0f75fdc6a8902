-- Immediates, as words: the fields that make up each, from its low bit to its high one.
use Rattle.std.specs.Prelude.{ℕ, [], ◌∷◌}
use Rattle.encoding.specs.Fields.{number, extended}
use Rattle.encoding.specs.Fields.Field.{holds, ignored}

-- signed ones
unfoldable pub signed8 : ℕ → ℕ → ℕ
signed8 a s = extended (holds 7 a ∷ holds 1 s ∷ [])

unfoldable pub signed9 : ℕ → ℕ → ℕ → ℕ
signed9 a b s = extended (holds 7 a ∷ holds 1 b ∷ holds 1 s ∷ [])

unfoldable pub signed14 : ℕ → ℕ → ℕ → ℕ
signed14 a b s = extended (holds 7 a ∷ holds 6 b ∷ holds 1 s ∷ [])

unfoldable pub signed22 : ℕ → ℕ → ℕ → ℕ → ℕ
signed22 a b c s = extended (holds 7 a ∷ holds 9 b ∷ holds 5 c ∷ holds 1 s ∷ [])

-- the mask of a move to the predicates, which has no bit for predicate 0
unfoldable pub signed17 : ℕ → ℕ → ℕ → ℕ
signed17 a b s = extended (ignored 1 ∷ holds 7 a ∷ holds 8 b ∷ holds 1 s ∷ [])

-- the rotating predicates, from predicate 16 on
unfoldable pub signed44 : ℕ → ℕ → ℕ
signed44 a s = extended (ignored 16 ∷ holds 27 a ∷ holds 1 s ∷ [])

-- offsets in bytes, which are whole bundles
unfoldable pub offset25 : ℕ → ℕ → ℕ
offset25 a s = extended (ignored 4 ∷ holds 20 a ∷ holds 1 s ∷ [])

unfoldable pub parted25 : ℕ → ℕ → ℕ → ℕ
parted25 a b s = extended (ignored 4 ∷ holds 7 a ∷ holds 13 b ∷ holds 1 s ∷ [])

unfoldable pub offset13 : ℕ → ℕ → ℕ
offset13 a b = extended (ignored 4 ∷ holds 7 a ∷ holds 2 b ∷ [])

-- unsigned ones
unfoldable pub number21 : ℕ → ℕ → ℕ
number21 a b = number (holds 20 a ∷ holds 1 b ∷ [])

unfoldable pub number62 : ℕ → ℕ → ℕ → ℕ
number62 a b c = number (holds 20 a ∷ holds 1 b ∷ holds 41 c ∷ [])

unfoldable pub number64 : ℕ → ℕ → ℕ → ℕ → ℕ → ℕ → ℕ
number64 a b c d e f = number (holds 7 a ∷ holds 9 b ∷ holds 5 c ∷ holds 1 d ∷ holds 41 e ∷ holds 1 f ∷ [])
