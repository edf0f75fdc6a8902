use Rattle.std.proofs.Common.{◌≡◌, ℕ, ◌+◌, ◌<◌, List, [], ◌∷◌, ◌++◌, length, get_or, drop, sym, refl, ◌∙◌, arith}
use Rattle.std.proofs.Math.ListN.{get_or-append}
use Rattle.std.proofs.lemmas.List.{places, length-take}
use Rattle.std.proofs.lemmas.List.Edits.{fill_by_more}
use Rattle.memory.specs.declared.access.Right.TheVariants.{Read}
use Rattle.memory.specs.Access.{bytes_of}
use Rattle.memory.specs.Kinds.{all_rights}
use Rattle.memory.proofs.Loads.{granted-fits, load-gathered}
use Rattle.memory.proofs.Ranges.{few_bytes, some_bytes}
use Rattle.paged.specs.Kind.{meaning_of}
use Rattle.paged.specs.Pages.{paged-bounded}
use Rattle.paged.proofs.kind.Paged.load_across.Goals as goal

-- the bytes before any is read
abbrev zeros : List ℕ
zeros = 0 ∷ 0 ∷ 0 ∷ 0 ∷ 0 ∷ 0 ∷ 0 ∷ 0 ∷ []

pub overflow_add-access : goal.overflow_add-access
overflow_add-access c =
    let s = c.args.self.now in
    let size = c.args.access.size in
    let fits = granted-fits (meaning_of s) (paged-bounded s.table.now s.bytes.now) Read c.args.access.address (bytes_of size) (some_bytes size) (sym c.grants_across.ensures ∙ c.if-not-grants_across.false) in
    omega (arith, length-take c.bytes-count.result zeros)

pub loop-i-preserved : goal.loop-i-preserved
loop-i-preserved c =
    let f : ℕ → ℕ = λ k. (meaning_of c.args.self.now (c.args.access.address + k)).byte in
    let e : c.byte.result ≡ f c.loop-i.i = c.byte.ensures in
    rw e (fill_by_more f c.loop-i.byte-items c.loop-i.i 0 (omega arith) c.loop-i.invariant)

pub returns : goal.returns
returns c =
    let size = c.args.access.size in
    let few = few_bytes size in
    let long : length c.loop-i.byte-items ≡ bytes_of size = omega (arith, length-take c.bytes-count.result zeros) in
    let rest = drop c.bytes-count.result zeros in
    let read : (k : ℕ) → k < bytes_of size → get_or (c.loop-i.byte-items ++ rest) k 0 ≡ (meaning_of c.args.self.now (c.args.access.address + k)).byte =
    λ k h. get_or-append c.loop-i.byte-items rest 0 k (omega arith) ∙ c.loop-i.invariant k (omega (arith, length-take c.bytes-count.result zeros)) in
    c.load_from.ensures all_rights refl
    ∙ load-gathered (meaning_of c.args.self.now) c.args.access.address size (c.loop-i.byte-items ++ rest) (grind (arith, places)) read (sym c.if-not-grants_across.false ∙ c.grants_across.ensures)
