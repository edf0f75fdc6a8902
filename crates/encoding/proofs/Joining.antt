-- A loop that joins parts: one part more.
use Rattle.std.proofs.Common.{◌≡◌, ℕ, ◌+◌, ◌*◌, ◌^◌, ◌<◌, ◌≤◌, List, ◌∷◌, length, get_or, drop, ap, ◌∙◌, add-one, drop-cons, mul_assoc, mul_comm, mul-add, arith, pow_mono}
use Rattle.std.proofs.lemmas.Nat.{pow-add}
use Rattle.integer.specs.Words.{left}
use Rattle.encoding.specs.declared.immediate.Part.{Part}
use Rattle.encoding.specs.declared.immediate.Part.TheVariants.{Bits}
use Rattle.encoding.specs.Fields.{number, span}
use Rattle.encoding.specs.Parts.{fields, value_of, width_of}
use Rattle.encoding.proofs.Parts.{number-cons, span-cons, below}
use Rattle.encoding.proofs.Shifts.{left-whole}

module _ (slot : ℕ) (ps : List Part) (i width : ℕ) (some : i < length ps) where
  abbrev part : Part
  part = get_or ps i (Bits 0 0)

  abbrev after : List Part
  after = drop (i + 1) ps

  here : drop i ps ≡ part ∷ after
  here = rw (add-one, drop-cons ps i (Bits 0 0))

  pub width-next : width + span (fields slot (drop i ps)) ≡ span (fields slot ps) → width + width_of part + span (fields slot after) ≡ span (fields slot ps)
  width-next h = let e = ap (λ l. span (fields slot l)) here ∙ span-cons slot part after in omega arith

  module _ (value : ℕ) (few : span (fields slot ps) ≤ 64) (whole : value + 2 ^ width * number (fields slot (drop i ps)) ≡ number (fields slot ps)) where
    next : value + (value_of slot part * 2 ^ width + 2 ^ (width + width_of part) * number (fields slot after)) ≡ number (fields slot ps)
    next =
        let n : ℕ = number (fields slot after) in
        let c = ap (λ l. 2 ^ width * number (fields slot l)) here ∙ ap (λ m. 2 ^ width * m) (number-cons slot part after) in
        let d = mul-add (2 ^ width) (value_of slot part) (2 ^ width_of part * n) in
        let a = mul_assoc (2 ^ width) (2 ^ width_of part) n in
        let e = ap (λ m. m * n) (pow-add 2 width (width_of part)) in
        let f = mul_comm (2 ^ width) (value_of slot part) in
        omega arith

    fits : value + value_of slot part * 2 ^ width < 2 ^ 64
    fits =
        let b = below slot ps in
        let m : 2 ^ span (fields slot ps) ≤ 2 ^ 64 = pow_mono few in
        let n = next in
        omega arith

    shifted : left (value_of slot part) width ≡ value_of slot part * 2 ^ width
    shifted = left-whole (value_of slot part) width (let f = fits in omega arith)

    pub value-fits : value + left (value_of slot part) width < 2 ^ 64
    value-fits = rw shifted fits

    pub value-next : value + left (value_of slot part) width + 2 ^ (width + width_of part) * number (fields slot after) ≡ number (fields slot ps)
    value-next = rw shifted (let n = next in omega arith)
