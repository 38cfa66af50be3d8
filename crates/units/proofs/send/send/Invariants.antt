use Rattle.std.proofs.Common.{◌≡◌, ◌++◌, map, take, drop}
use Rattle.dali.specs.Frame.{frame_bytes}
use Rattle.dali.specs.declared.frame.Frame.{Frame}
use Rattle.units.specs.Received.{received, replies}
use Rattle.units.specs.Unit.{unit_after}
use Rattle.units.proofs.send.send.Given as goal

-- The units before the place have reacted, and what they replied is received.
abbrev pub invariant-loop-unit : goal.invariant-loop-unit
invariant-loop-unit l =
    (frame : Frame) → frame_bytes frame ≡ l.bytes
    → (l.units ≡ map (unit_after l.bus frame) (take l.unit-index l.initial.units) ++ drop l.unit-index l.initial.units)
    × (l.received ≡ received (replies l.bus frame (take l.unit-index l.initial.units)))
