-- The number that parts make has each of them, also after its sign was extended.
use Rattle.std.proofs.Common.{◌≡◌, ℕ, ◌+◌, ◌*◌, ◌/◌, ◌%◌, ◌^◌, ◌<◌, ◌≤◌, List, [], ◌∷◌, refl, sym, ap, ◌∙◌, mod-eq_of_lt, mul_comm, add_comm, div-one, arith}
use Rattle.std.proofs.lemmas.Nat.{mod_below, pow_pos, pow-add, mul-add-lt, shr-shr, shr_high, mod_low, field_of as low-shr}
use lib.Pow.{mod-mod-pow}
use Rattle.integer.specs.Words.{signed, word_of}
use Rattle.encoding.specs.declared.immediate.Part.{Part}
use Rattle.encoding.specs.declared.immediate.Part.TheVariants.{Bits, Low, Zeros}
use Rattle.encoding.specs.Fields.{bits, Stand, span, number, extended}
use Rattle.encoding.specs.Parts.{fields, value_of, width_of}
use Rattle.encoding.proofs.Signs.{low_bits}

value_below : (slot : ℕ) (p : Part) → value_of slot p < 2 ^ width_of p
unfolding bits
value_below slot (Bits first width) = mod_below (slot / 2 ^ first) (2 ^ width) (pow_pos width)
value_below slot (Low other width) = mod_below (other / 2 ^ 0) (2 ^ width) (pow_pos width)
value_below slot (Zeros width) = pow_pos width

pub number-cons : (slot : ℕ) (p : Part) (ps : List Part) → number (fields slot (p ∷ ps)) ≡ value_of slot p + 2 ^ width_of p * number (fields slot ps)
number-cons slot (Bits first width) ps = refl
number-cons slot (Low other width) ps = refl
number-cons slot (Zeros width) ps = refl

pub span-cons : (slot : ℕ) (p : Part) (ps : List Part) → span (fields slot (p ∷ ps)) ≡ width_of p + span (fields slot ps)
span-cons slot (Bits first width) ps = refl
span-cons slot (Low other width) ps = refl
span-cons slot (Zeros width) ps = refl

turned : (v k n : ℕ) → v + k * n ≡ n * k + v
turned v k n = add_comm v (k * n) ∙ ap (λ m. m + v) (mul_comm k n)

above-below : (w v n k : ℕ) → v < 2 ^ w → n < 2 ^ k → v + 2 ^ w * n < 2 ^ (w + k)
above-below w v n k h l =
    let a : n * 2 ^ w + v < 2 ^ w * 2 ^ k = mul-add-lt n (2 ^ w) v (2 ^ k) l h in
    omega (arith, a, turned v (2 ^ w) n, pow-add 2 w k)

pub below : (slot : ℕ) (ps : List Part) → number (fields slot ps) < 2 ^ span (fields slot ps)
below slot [] = omega arith
below slot (p ∷ ps) =
    rw (number-cons slot p ps, span-cons slot p ps) (above-below _ _ _ _ (value_below slot p) (below slot ps))

-- the low bits of y are v, and n above it
module _ (y w k v n : ℕ) (h : v < 2 ^ w) (e : y % 2 ^ (w + k) ≡ v + 2 ^ w * n) where
  both : y % 2 ^ (k + w) ≡ n * 2 ^ w + v
  both = ap (λ i. y % 2 ^ i) (add_comm k w) ∙ e ∙ turned v (2 ^ w) n

  lower : y % 2 ^ w ≡ v
  lower = sym (mod-mod-pow y k w) ∙ ap (λ m. m % 2 ^ w) both ∙ mod_low n w v h

  upper : y / 2 ^ w % 2 ^ k ≡ n
  upper = sym (low-shr y k w) ∙ ap (λ m. m / 2 ^ w) both ∙ shr_high n w v h

module _ (slot x : ℕ) where
  rest : (first w v : ℕ) (ps : List Part) → v < 2 ^ w → x / 2 ^ first % 2 ^ (w + span (fields slot ps)) ≡ v + 2 ^ w * number (fields slot ps) → x / 2 ^ (first + w) % 2 ^ span (fields slot ps) ≡ number (fields slot ps)
  rest first w v ps h e =
      ap (λ m. m % 2 ^ span (fields slot ps)) (sym (shr-shr x first w)) ∙ upper (x / 2 ^ first) w _ v _ h e

  stands_from : (first : ℕ) (ps : List Part) → x / 2 ^ first % 2 ^ span (fields slot ps) ≡ number (fields slot ps) → Stand x first (fields slot ps)
  unfolding bits
  stands_from first [] e = tt
  stands_from first (Bits at w ∷ ps) e =
      let h = value_below slot (Bits at w) in
      (lower (x / 2 ^ first) w _ _ _ h e, stands_from (first + w) ps (rest first w _ ps h e))
  stands_from first (Low other w ∷ ps) e =
      let h = value_below slot (Low other w) in
      (lower (x / 2 ^ first) w _ _ _ h e, stands_from (first + w) ps (rest first w _ ps h e))
  stands_from first (Zeros w ∷ ps) e = stands_from (first + w) ps (rest first w 0 ps (pow_pos w) e)

  stands : (ps : List Part) → x % 2 ^ span (fields slot ps) ≡ number (fields slot ps) → Stand x 0 (fields slot ps)
  stands ps e = stands_from 0 ps (ap (λ m. m % 2 ^ span (fields slot ps)) (div-one x) ∙ e)

  pub number-stands : (ps : List Part) → x ≡ number (fields slot ps) → Stand x 0 (fields slot ps)
  number-stands ps e =
      stands ps (ap (λ m. m % 2 ^ span (fields slot ps)) e ∙ mod-eq_of_lt (below slot ps))

  pub extended-stands : (ps : List Part) → span (fields slot ps) ≤ 64 → x ≡ extended (fields slot ps) → Stand x 0 (fields slot ps)
  extended-stands ps few e =
      stands ps (ap (λ m. m % 2 ^ span (fields slot ps)) e ∙ low_bits (span (fields slot ps)) (number (fields slot ps)) few (below slot ps))

  pub extended-value : (ps : List Part) (n w : ℕ) → n ≡ number (fields slot ps) → w ≡ span (fields slot ps) → x ≡ word_of (signed w (n % 2 ^ w)) → x ≡ extended (fields slot ps)
  extended-value ps n w a b e = e ∙ rw (a, b, mod-eq_of_lt (below slot ps))
