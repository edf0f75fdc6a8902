-- A frame as plain numbers, and what becomes of it at a call and at a return.
use Rattle.std.specs.Prelude.{ℕ, ◌+◌, ◌-◌, Bool, cond, Ok, Err, Result, nat_le, nat_lt}
use Rattle.registers.specs.declared.frame.Frame.{Frame}
use Rattle.registers.specs.declared.frames.Misfit.{Misfit}
use Rattle.registers.specs.declared.frames.Misfit.TheVariants.{Empty, Full}
use Rattle.registers.specs.Markers.{Marker, marker_of}
use Rattle.registers.specs.Moves.{called}

-- a marker, and the first stacked cell of the frame
pub record Place : Type 0 where
  pub marker : Marker
  pub base : ℕ

-- the numbers of a `Frame`, as `marker_of` has those of a marker
abbrev pub frame_of : Frame → Place
frame_of f = record { marker = marker_of f.marker; base = f.base }

-- a frame of so many registers at a base ends within the stacked cells
abbrev pub fits : ℕ → ℕ → Bool
fits base sof = nat_le (base + sof) 4096

-- a call moves the base up by the locals
abbrev pub called_frame : Place → Place
called_frame f = record { marker = called f.marker; base = f.base + f.marker.sol }

-- a return moves it down by the locals of the marker that it returns to
abbrev pub returned_frame : Place → Marker → Result Place Misfit
returned_frame f m =
    cond (nat_lt f.base m.sol) (Err Empty) (cond (fits (f.base - m.sol) m.sof) (Ok (record { marker = m; base = f.base - m.sol })) (Err Full))

-- the answer, as plain numbers
abbrev pub answer_of : Result Frame Misfit → Result Place Misfit
answer_of (Ok f) = Ok (frame_of f)
answer_of (Err e) = Err e
