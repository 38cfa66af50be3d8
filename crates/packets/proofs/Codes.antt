-- The codes of parameters fit their bytes.
use Rattle.std.proofs.Common.{◌+◌, ◌^◌, ◌<◌, arith}
use Rattle.packets.specs.Parameter.{class_of, pid_of}
use Rattle.packets.specs.declared.parameter.Parameter.{Parameter}
use Rattle.packets.specs.declared.parameter.Parameter.TheVariants as parameter

-- The class of a reply too, which is one more.
pub class_fits : (p : Parameter) → class_of p + 1 < 2 ^ 8
class_fits parameter.Branch = omega arith
class_fits parameter.Mute = omega arith
class_fits parameter.UnMute = omega arith
class_fits parameter.DeviceInfo = omega arith
class_fits parameter.StartAddress = omega arith

pub pid_fits : (p : Parameter) → pid_of p < 2 ^ 16
pid_fits parameter.Branch = omega arith
pid_fits parameter.Mute = omega arith
pid_fits parameter.UnMute = omega arith
pid_fits parameter.DeviceInfo = omega arith
pid_fits parameter.StartAddress = omega arith
