-- What the reply reader makes of bytes.
use Rattle.std.specs.Prelude.{ℕ, ◌+◌, ◌-◌, ◌^◌, Bool, cond, ◌&&◌, List, length, Some, None, Ok, Err, Option, Result, ◌==◌, nat_lt}
use Rattle.keys.specs.Uid.{uid_number}
use Rattle.keys.specs.declared.uid.Uid.{Uid}
use Rattle.refusals.specs.declared.Refusal.{Refusal}
use Rattle.refusals.specs.declared.Refusal.TheVariants.{NoMatch}
use Rattle.octets.specs.Bytes.{two_at}
use Rattle.packets.specs.Opened.{opened}
use Rattle.packets.specs.Parameter.{class_of, pid_of}
use Rattle.rdm.specs.Reply.{reply_parameter}
use Rattle.packets.specs.declared.header.Header.{Header}
use Rattle.packets.specs.declared.parameter.Parameter.{Parameter}
use Rattle.rdm.specs.declared.read_reply.Expected.{Expected}
use Rattle.rdm.specs.declared.reply_as_read.ReadReply.{ReadReply}
use Rattle.rdm.specs.declared.received.Received.{Received}
use Rattle.rdm.specs.declared.reply.DeviceInfo.{DeviceInfo}
use Rattle.rdm.specs.declared.reply.Reply.{Reply}
use Rattle.rdm.specs.declared.reply.Response.{Response}
use Rattle.rdm.specs.declared.reply.Response.TheVariants.{Ack, Nack}

abbrev pub expects : Parameter → ℕ → Uid → Expected
expects p transaction key = record {
  class = class_of p;
  pid = pid_of p;
  transaction = transaction;
  key = uid_number key;
}

-- What a reply to a question is expected to match.
abbrev pub expected_by : Reply → Received → Expected
expected_by reply q = record {
  class = class_of (reply_parameter reply);
  pid = pid_of (reply_parameter reply);
  transaction = q.transaction;
  key = q.destination;
}

-- The class is the question's and one more, the parameter and the transaction number are the question's, and the reply
-- goes from the key that was asked, which is one, to the controller.
unfoldable pub matches : Expected → Header → Bool
matches e h =
    (h.class == e.class + 1)
    && (h.pid == e.pid
    && (h.transaction == e.transaction
    && (h.source == e.key && (h.destination == 0x7FF000000000 && nat_lt e.key (2 ^ 48 - 1)))))

-- Type 00 has data of any size, type 02 has two bytes.
abbrev pub response_at : ℕ → ℕ → Option Response
response_at kind size = cond (kind == 0x00) (Some Ack) (cond (kind == 0x02 && size == 2) (Some Nack) None)

-- A reply: its response, the place of its data and the data.
abbrev pub DataOfReply : Type 0
DataOfReply = Response × ℕ × List ℕ

abbrev pub with_response : Option Response → List ℕ → Result DataOfReply Refusal
with_response (Some response) payload = Ok (response, 24, payload)
with_response None payload = Err NoMatch

abbrev pub reply_in : Expected → Result (Header × List ℕ) Refusal → Result DataOfReply Refusal
reply_in e (Ok (h, payload)) =
    cond (matches e h) (with_response (response_at h.kind (length payload)) payload) (Err NoMatch)
reply_in e (Err refusal) = Err refusal

unfoldable pub reply_at : Expected → List ℕ → Result DataOfReply Refusal
reply_at e bytes = reply_in e (opened bytes)

-- What a reader answered, by what its slice holds.
abbrev pub reply_held : Result ReadReply Refusal → Result DataOfReply Refusal
reply_held (Ok r) = Ok (r.response, r.place, r.payload.now)
reply_held (Err refusal) = Err refusal

-- What a fixture tells of itself. FFFF stands for no start address.
abbrev pub info_at : List ℕ → Option DeviceInfo
info_at payload =
    cond (length payload == 19)
    (Some (record {
      width = two_at payload 10;
      address = cond (two_at payload 14 == 0xFFFF) None (Some (record { slot = two_at payload 14 }));
    }))
    None
