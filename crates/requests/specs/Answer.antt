-- The answers, as text.
use Rattle.std.specs.Prelude.{◌≡◌, ℕ, cond, List, ◌++◌, length, Some, None, Ok, Err, codes, Option, Result, nat_lt}
use Rattle.octets.specs.Writer.{Wrote}
use Rattle.octets.specs.declared.writer.Writer.{Writer}
use Rattle.refusals.specs.declared.Refusal.{Refusal}
use Rattle.branch.specs.BranchReply.{branch_read}
use Rattle.rdm.specs.ReadReply.{reply_at}
use Rattle.rdm.specs.declared.read_reply.Expected.{Expected}
use Rattle.text.specs.Digits.{and_then}
use Rattle.text.specs.Hexadecimal.{hex_text}
use Rattle.fields.specs.Fields.{field_at, byte_field, two_byte_field, hex_field, last_bytes, same_word}
use Rattle.outgoing.specs.Outgoing.{outgoing_refusal, outgoing_frame}
use Rattle.shown.specs.Shown.{refusal_text, key_text, reply_text}
use Rattle.requests.specs.Room.{answered_in}
use Rattle.requests.specs.Writing.{writing_at}
use Rattle.requests.specs.declared.writing.Writing.{Writing}

-- The frame that was written, or its refusal.
abbrev pub frame_text : Result ℕ Refusal → List ℕ → List ℕ
frame_text (Ok n) frame = hex_text frame
frame_text (Err refusal) frame = refusal_text refusal

abbrev pub writing_text : Writing → List ℕ
writing_text w =
    frame_text (answered_in (outgoing_refusal w.frame) (outgoing_frame w.frame) w.room) (outgoing_frame w.frame)

-- CLASS PID TN KEY
abbrev pub expected_at : List ℕ → Option Expected
expected_at line =
    and_then (byte_field 1 line)
    (λ class. and_then (two_byte_field 2 line)
    (λ pid. and_then (byte_field 3 line)
    (λ tn. and_then (hex_field 4 line)
    (λ key. Some (record { class = class; pid = pid; transaction = tn; key = key })))))

abbrev pub reply_answer : List ℕ → Option (List ℕ)
reply_answer line = and_then (expected_at line) (λ e. and_then (last_bytes 5 line) (λ bytes. Some (reply_text (reply_at e bytes))))

abbrev pub branch_answer : List ℕ → Option (List ℕ)
branch_answer line = and_then (last_bytes 1 line) (λ bytes. Some (key_text (branch_read bytes)))

abbrev pub writing_answer : List ℕ → List ℕ → Option (List ℕ)
writing_answer word line = and_then (writing_at word line) (λ w. Some (writing_text w))

-- The answer to a request that begins with a word; none if the line cannot be read.
abbrev pub answer_of : List ℕ → List ℕ → Option (List ℕ)
answer_of word line =
    cond (same_word word (codes "reply")) (reply_answer line)
    (cond (same_word word (codes "readbranch")) (branch_answer line) (writing_answer word line))

-- A text was put, if there is one, and nothing else was.
abbrev pub Answered : Writer → Option (List ℕ) → Option (Unit {0}) → Writer → Type 0
Answered old (Some text) result new = (result ≡ Some tt) × Wrote old text new
Answered old None result new = (result ≡ None) × (new ≡ old)

-- ? stands for a line that cannot be read.
abbrev pub or_unread : Option (List ℕ) → List ℕ
or_unread (Some text) = text
or_unread None = codes "?"

abbrev pub known_answer : List ℕ → Option (List ℕ)
known_answer line = and_then (field_at 0 line) (λ word. answer_of word line)

unfoldable pub answer_text : List ℕ → List ℕ
answer_text line = or_unread (known_answer line)

-- The line, and its answer behind it; a line of more than 2,048 bytes is not printed again.
unfoldable pub answer_line : List ℕ → List ℕ
answer_line line = cond (nat_lt 2048 (length line)) (codes "= ?") (line ++ (codes " = " ++ answer_text line))
