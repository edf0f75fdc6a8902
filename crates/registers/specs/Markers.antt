-- A frame marker as plain numbers.
use Rattle.std.specs.Prelude.{ℕ, ◌-◌, ◌*◌, Bool, ◌&&◌, nat_le, nat_lt}
use Rattle.registers.specs.declared.marker.FrameMarker.{FrameMarker}

pub record Marker : Type 0 where
  pub sof : ℕ
  pub sol : ℕ
  pub sor : ℕ
  pub gr : ℕ
  pub fr : ℕ
  pub pr : ℕ

-- the numbers of a `FrameMarker`, for clauses on the whole of it; others read its public fields, which a model would hide
abbrev pub marker_of : FrameMarker → Marker
marker_of m = record { sof = m.sof; sol = m.sol; sor = m.sor; gr = m.rrb_gr; fr = m.rrb_fr; pr = m.rrb_pr }

-- the rule, as a test
abbrev pub sound : Marker → Bool
sound m =
    nat_le m.sof 96 && nat_le m.sol m.sof && nat_le (8 * m.sor) m.sof && nat_le m.gr (8 * m.sor - 1) && nat_lt m.fr 96 && nat_lt m.pr 48
