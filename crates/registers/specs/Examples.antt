-- Worked examples of naming and of the stacked cells' end.
use Rattle.std.specs.Prelude.{◌≡◌, ℕ, ◌+◌, true, false, Some}
use Rattle.registers.specs.Frames.{fits}
use Rattle.registers.specs.Markers.{Marker}
use Rattle.registers.specs.Names.{general_cell_of, predicate_cell_of}

-- a frame of 96 registers
abbrev example : ℕ → ℕ → ℕ → Marker
example sor gr pr = record { sof = 96; sol = 0; sor = sor; gr = gr; fr = 0; pr = pr }

pub record Examples : Type 0 where
  -- eight rotating registers turned by 7, at base 0: frame cell k is cell 32 + k of the bank
  pub r32 : general_cell_of (example 1 7 0) 0 32 ≡ Some (32 + 7)
  pub r33 : general_cell_of (example 1 7 0) 0 33 ≡ Some (32 + 0)
  pub r40 : general_cell_of (example 1 7 0) 0 40 ≡ Some (32 + 8)
  -- predicates turned by 47
  pub p16 : predicate_cell_of (example 0 0 47) 16 ≡ Some 63
  pub p17 : predicate_cell_of (example 0 0 47) 17 ≡ Some 16
  -- the last base at which 96 registers fit, and the next
  pub last : fits 4000 96 ≡ true
  pub next : fits 4001 96 ≡ false
