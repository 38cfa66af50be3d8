-- What stands on the cable when fixtures have replied.
use Rattle.std.specs.Prelude.{ℕ, cond, List, bit_and, bit_or, nat_lt}
use Rattle.keys.specs.Uid.{uid_number}
use Rattle.keys.specs.declared.uid.Uid.{Uid}
use Rattle.branch.specs.Overlaid.{overlaid}
use Rattle.fixtures.specs.Message.{message_bytes}
use Rattle.rdm_line.specs.declared.cable.Cable.{Cable}
use Rattle.rdm_line.specs.declared.cable.Cable.TheVariants.{Quiet, Carries, Noise}
use Rattle.rdm_line.specs.declared.cable.Sent.{Sent}
use Rattle.rdm_line.specs.declared.mode.Mode.{Mode}
use Rattle.rdm_line.specs.declared.mode.Mode.TheVariants.{Garble, Or, And, Lowest}

-- Nothing, bytes with the lowest key of those that sent them, or noise.
pub data Signal : Type 0 where
  quiet : Signal
  carrying : List ℕ → Uid → Signal
  noise : Signal

abbrev pub sent_bytes : Sent → List ℕ
sent_bytes sent = message_bytes sent.message

-- What a cable holds, by the bytes of its message.
abbrev pub signal_on : Cable → Signal
signal_on Quiet = quiet
signal_on (Carries sent) = carrying (sent_bytes sent) sent.sender
signal_on Noise = noise

-- The one with the lower number.
abbrev pub lower : Uid → Uid → Uid
lower x y = cond (nat_lt (uid_number y) (uid_number x)) y x

-- What the replies of two keys become together.
abbrev pub collided : Mode → List ℕ → Uid → List ℕ → Uid → Signal
collided Garble a x b y = noise
collided Or a x b y = carrying (overlaid bit_or a b) (lower x y)
collided And a x b y = carrying (overlaid bit_and a b) (lower x y)
collided Lowest a x b y = cond (nat_lt (uid_number y) (uid_number x)) (carrying b y) (carrying a x)

-- What two signals become together. One alone stays as it is.
abbrev pub joined : Mode → Signal → Signal → Signal
joined mode quiet s = s
joined mode (carrying a x) quiet = carrying a x
joined mode (carrying a x) (carrying b y) = collided mode a x b y
joined mode (carrying a x) noise = noise
joined mode noise s = noise
