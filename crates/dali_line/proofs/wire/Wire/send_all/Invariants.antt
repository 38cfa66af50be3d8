use Rattle.std.proofs.Common.{◌≡◌, drop}
use Rattle.dali_line.specs.Controller.{units_after_all, bus_after_all}
use Rattle.dali_line.proofs.wire.Wire.send_all.Given as goal

-- The frames that are left give what all of them give.
abbrev pub invariant-loop-frame : goal.invariant-loop-frame
invariant-loop-frame l =
    (units_after_all l.self.bus (drop l.frame-index l.frames) l.self.units.items ≡ units_after_all l.initial.self.bus l.frames l.initial.self.units.items)
    × (bus_after_all l.self.bus (drop l.frame-index l.frames) ≡ bus_after_all l.initial.self.bus l.frames)
