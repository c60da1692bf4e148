-- Frames at the ports of switches.
use Rattle.std.specs.Prelude.{ℕ, ◌^◌, ◌<◌}
use Rattle.format.specs.State.{header_of, port_of, switch_of}
use Rattle.widths.specs.declared.Widths.{Widths}
use Rattle.states.specs.declared.Frame.{Frame}

-- the frame of a state, in whichever direction
abbrev pub frame_of : Widths → ℕ → Frame
frame_of w s = record { switch = switch_of w s; port = port_of w s; header = header_of w s }

-- its switch, its port and its header are within the widths
pub record FitsIn (w : Widths) (frame : Frame) : Type 0 where
  pub switch : frame.switch < 2 ^ w.w
  pub port : frame.port < 2 ^ w.p
  pub header : frame.header < 2 ^ w.h
