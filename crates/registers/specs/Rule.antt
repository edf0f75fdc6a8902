-- The rule that every frame marker keeps.
use Rattle.std.specs.Prelude.{ℕ, ◌-◌, ◌*◌, ◌<◌, ◌≤◌}

-- a frame has at most 96 registers; its locals and its rotating part, counted in eights, are within it
abbrev pub Sizes : ℕ → ℕ → ℕ → Type 0
Sizes sof sol sor = (sof ≤ 96) × ((sol ≤ sof) × (8 * sor ≤ sof))

-- the rename base of the general registers is below 8 × sor, or 0 if sor is 0; the others are below 96 and 48
abbrev pub Bases : ℕ → ℕ → ℕ → ℕ → Type 0
Bases sor gr fr pr = (gr ≤ 8 * sor - 1) × ((fr < 96) × (pr < 48))
