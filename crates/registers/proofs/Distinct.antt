-- Two registers of one window name two cells.
use Rattle.std.proofs.Common.{◌≡◌, ℕ, ◌+◌, ◌-◌, ◌%◌, ◌<◌, ◌≤◌, true, ◌⊎◌, is_some, Option, ◌∙◌, inl, inr, ⊎_elim, mod-eq_of_lt, arith}
use Rattle.std.proofs.Math.Nat.{mod-eq-sub-mod}
use Rattle.std.proofs.lemmas.Bool.{cases_lt}
use Rattle.std.proofs.lemmas.Bool.Decides.{nat_tests}
use Rattle.registers.specs.declared.window.Window.{Window}
use Rattle.registers.specs.Banks.{cell_of, place_for}

-- a place turned around a ring
turned : (s x g : ℕ) → x < s → g ≤ s - 1 → ((x + g < s) × ((x + g) % s ≡ x + g)) ⊎ ((s ≤ x + g) × ((x + g) % s ≡ x + g - s))
turned s x g h l =
    ⊎_elim (λ p. inl (p, mod-eq_of_lt p)) (λ p. let q : x + g - s < s = omega arith in inr (p, mod-eq-sub-mod p ∙ mod-eq_of_lt q)) (cases_lt (x + g) s)

place-alone : (w : Window) (x y : ℕ) → place_for w x ≡ place_for w y → x ≡ y
place-alone w x y e = let t = w.turn in grind (arith, nat_tests, turned w.rotating x w.rename, turned w.rotating y w.rename)

pub cell-alone : (w : Window) (fixed n k : ℕ) (o : Option ℕ) → is_some o ≡ true → cell_of fixed w k ≡ o → o ≡ cell_of fixed w n → k ≡ n
cell-alone w fixed n k o s e v = let p = place-alone w (k - fixed) (n - fixed) in grind (arith, nat_tests)
