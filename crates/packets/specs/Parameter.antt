-- The command class and the parameter ID of each parameter.
use Rattle.std.specs.Prelude.{ℕ, Bool, cond, ◌&&◌, Some, None, Option, ◌==◌}
use Rattle.packets.specs.declared.parameter.Parameter.{Parameter}
use Rattle.packets.specs.declared.parameter.Parameter.TheVariants.{Branch, Mute, UnMute, DeviceInfo, StartAddress}

-- 10 discovery, 20 get, 30 set.
abbrev pub class_of : Parameter → ℕ
class_of Branch = 0x10
class_of Mute = 0x10
class_of UnMute = 0x10
class_of DeviceInfo = 0x20
class_of StartAddress = 0x30

abbrev pub pid_of : Parameter → ℕ
pid_of Branch = 0x0001
pid_of Mute = 0x0002
pid_of UnMute = 0x0003
pid_of DeviceInfo = 0x0060
pid_of StartAddress = 0x00F0

abbrev pub has_codes : ℕ → ℕ → Parameter → Bool
has_codes class pid p = class == class_of p && pid == pid_of p

-- The parameter that has these codes.
abbrev pub parameter_at : ℕ → ℕ → Option Parameter
parameter_at class pid =
    cond (has_codes class pid Branch) (Some Branch)
    (cond (has_codes class pid Mute) (Some Mute)
    (cond (has_codes class pid UnMute) (Some UnMute)
    (cond (has_codes class pid DeviceInfo) (Some DeviceInfo)
    (cond (has_codes class pid StartAddress) (Some StartAddress) None))))
