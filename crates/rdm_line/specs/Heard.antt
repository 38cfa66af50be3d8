-- What is read off the cable.
use Rattle.std.specs.Prelude.{ℕ, Bool, true, false, None, Ok, Err, Option, Result}
use Rattle.std.specs.Option.{option_map}
use Rattle.std.specs.Result.{result_ok}
use Rattle.keys.specs.Uid.{uid_number}
use Rattle.keys.specs.declared.uid.Uid.{Uid}
use Rattle.refusals.specs.declared.Refusal.{Refusal}
use Rattle.rdm.specs.ReadReply.{DataOfReply, reply_at, info_at}
use Rattle.rdm.specs.declared.read_reply.Expected.{Expected}
use Rattle.rdm.specs.declared.reply_as_read.ReadReply.{ReadReply}
use Rattle.rdm.specs.declared.reply.DeviceInfo.{DeviceInfo}
use Rattle.rdm.specs.declared.reply.Response.TheVariants.{Ack, Nack}
use Rattle.branch.specs.BranchReply.{branch_read}
use Rattle.lines.specs.declared.answers.Footprint.{Footprint}
use Rattle.lines.specs.declared.answers.ProbeAnswer.{ProbeAnswer}
use Rattle.lines.specs.declared.answers.ProbeAnswer.TheVariants.{Silent, Clear, Garbled}
use Rattle.rdm_line.specs.Cable.{Signal, quiet, carrying, noise}

-- An answer by the number of its key.
abbrev pub answer_number : ProbeAnswer Uid → ProbeAnswer ℕ
answer_number Silent = Silent
answer_number (Clear key) = Clear (uid_number key)
answer_number Garbled = Garbled

-- Bytes that do not read as a branch reply are garbled.
abbrev pub read_as : Result ℕ Refusal → ProbeAnswer ℕ
read_as (Ok n) = Clear n
read_as (Err refusal) = Garbled

abbrev pub branch_heard : Signal → ProbeAnswer ℕ
branch_heard quiet = Silent
branch_heard (carrying bytes sender) = read_as (branch_read bytes)
branch_heard noise = Garbled

-- What was read of a reply.
abbrev pub reply_data : ReadReply → DataOfReply
reply_data reply = (reply.response, reply.place, reply.payload.now)

-- The reply to the question that is expected to be answered, if one is read.
abbrev pub reply_heard : Expected → Signal → Option DataOfReply
reply_heard expected quiet = None
reply_heard expected (carrying bytes sender) = result_ok (reply_at expected bytes)
reply_heard expected noise = None

-- Whether a reply says yes.
abbrev pub says_yes : Result DataOfReply Refusal → Bool
says_yes (Ok (Ack, place, payload)) = true
says_yes (Ok (Nack, place, payload)) = false
says_yes (Err refusal) = false

abbrev pub yes_heard : Expected → Signal → Bool
yes_heard expected quiet = false
yes_heard expected (carrying bytes sender) = says_yes (reply_at expected bytes)
yes_heard expected noise = false

-- What a reply tells of a fixture.
abbrev pub footprint_told : DeviceInfo → Footprint
footprint_told info = record { width = info.width; address = info.address }

abbrev pub tells : Result DataOfReply Refusal → Option Footprint
tells (Ok (response, place, payload)) = option_map footprint_told (info_at payload)
tells (Err refusal) = None

abbrev pub footprint_heard : Expected → Signal → Option Footprint
footprint_heard expected quiet = None
footprint_heard expected (carrying bytes sender) = tells (reply_at expected bytes)
footprint_heard expected noise = None
