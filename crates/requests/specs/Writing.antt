-- What a request asks to be written.
use Rattle.std.specs.Prelude.{◌≡◌, ℕ, cond, List, Some, None, codes, Option}
use Rattle.text.specs.Digits.{and_then}
use Rattle.fields.specs.Fields.{byte_field, hex_field, decimal_field, last_decimal, same_word}
use Rattle.requests.specs.declared.writing.Writing.{Writing}
use Rattle.outgoing.specs.declared.Outgoing.{Outgoing}
use Rattle.outgoing.specs.declared.Outgoing.TheVariants.{Branch, Mute, UnMute, DeviceInfo, StartAddress, BranchReply, Search, Program}

-- A frame, and ROOM in the field with a number, which is the last.
abbrev pub asked : Outgoing → ℕ → List ℕ → Option Writing
asked frame place line = and_then (last_decimal place line) (λ room. Some (record { frame = frame; room = room }))

-- A frame by its transaction number and key, and one by its key alone.
abbrev pub to_key_at : (ℕ → ℕ → Outgoing) → List ℕ → Option Writing
to_key_at frame line = and_then (byte_field 1 line) (λ tn. and_then (hex_field 2 line) (λ key. asked (frame tn key) 3 line))

abbrev pub of_key_at : (ℕ → Outgoing) → List ℕ → Option Writing
of_key_at frame line = and_then (hex_field 1 line) (λ key. asked (frame key) 2 line)

-- r is what a line asks for, whichever frame a maker of frames makes of its numbers.
abbrev pub ToKey : (ℕ → ℕ → Outgoing → Type 0) → List ℕ → Option Writing → Type 0
ToKey Makes line r = (frame : ℕ → ℕ → Outgoing) → ((tn key : ℕ) (made : Outgoing) → Makes tn key made → made ≡ frame tn key) → r ≡ to_key_at frame line

abbrev pub OfKey : (ℕ → Outgoing → Type 0) → List ℕ → Option Writing → Type 0
OfKey Makes line r = (frame : ℕ → Outgoing) → ((key : ℕ) (made : Outgoing) → Makes key made → made ≡ frame key) → r ≡ of_key_at frame line

-- TN LO HI, TN KEY, TN KEY ADDR, KEY or ADDR, and ROOM.
unfoldable pub branch_at : List ℕ → Option Writing
branch_at line =
    and_then (byte_field 1 line)
    (λ tn. and_then (hex_field 2 line) (λ lo. and_then (hex_field 3 line) (λ hi. asked (Branch tn lo hi) 4 line)))

unfoldable pub mute_at : List ℕ → Option Writing
mute_at line = to_key_at Mute line

unfoldable pub un_mute_at : List ℕ → Option Writing
un_mute_at line = to_key_at UnMute line

unfoldable pub device_info_at : List ℕ → Option Writing
device_info_at line = to_key_at DeviceInfo line

unfoldable pub start_address_at : List ℕ → Option Writing
start_address_at line =
    and_then (byte_field 1 line)
    (λ tn. and_then (hex_field 2 line) (λ key. and_then (decimal_field 3 line) (λ slot. asked (StartAddress tn key slot) 4 line)))

unfoldable pub branch_reply_at : List ℕ → Option Writing
branch_reply_at line = of_key_at BranchReply line

unfoldable pub search_at : List ℕ → Option Writing
search_at line = of_key_at Search line

unfoldable pub program_at : List ℕ → Option Writing
program_at line = and_then (decimal_field 1 line) (λ slot. asked (Program slot) 2 line)

-- By the word that begins the line.
abbrev pub writing_at : List ℕ → List ℕ → Option Writing
writing_at word line =
    cond (same_word word (codes "branch")) (branch_at line)
    (cond (same_word word (codes "mute")) (mute_at line)
    (cond (same_word word (codes "unmute")) (un_mute_at line)
    (cond (same_word word (codes "info")) (device_info_at line)
    (cond (same_word word (codes "start")) (start_address_at line)
    (cond (same_word word (codes "branchreply")) (branch_reply_at line)
    (cond (same_word word (codes "search")) (search_at line)
    (cond (same_word word (codes "program")) (program_at line) None)))))))
