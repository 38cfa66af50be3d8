-- The figures, in one joint statement.
use Rattle.std.specs.Prelude.{◌≡◌, ℕ, [], ◌∷◌, Ok, bit_and, bit_or}
use Rattle.branch.specs.BranchReply.{branch_reply, branch_read}
use Rattle.branch.specs.Overlaid.{overlaid}
use Rattle.octets.specs.Bytes.{two_at}
use Rattle.outgoing.specs.Numbers.{branch_frame}

-- Two fixtures of one maker.
abbrev first_key : ℕ
first_key = 0x7FF300000001

abbrev second_key : ℕ
second_key = 0x7FF300000002

pub record Figures : Type 0 where
  -- The branch reply of the first key.
  pub branch_reply_of_first_key : branch_reply first_key
      ≡ 0xFE ∷ 0xFE ∷ 0xFE ∷ 0xFE ∷ 0xFE ∷ 0xFE ∷ 0xFE ∷ 0xAA ∷ 0xFF ∷ 0x7F ∷ 0xFB ∷ 0xF7 ∷ 0xAA ∷ 0x55 ∷ 0xAA ∷ 0x55
      ∷ 0xAA ∷ 0x55 ∷ 0xAB ∷ 0x55 ∷ 0xAF ∷ 0x57 ∷ 0xEF ∷ 0x7D ∷ []
  -- The frame that asks about all keys ends in its checksum.
  pub checksum_of_first_branch : two_at (branch_frame 0x00 0x000000000000 0xFFFFFFFFFFFE) 36 ≡ 0x0E71
  -- Two replies that overlap read as a key that neither of them is.
  pub read_under_or : branch_read (overlaid bit_or (branch_reply first_key) (branch_reply second_key)) ≡ Ok 0x7FF300000003
  pub read_under_and : branch_read (overlaid bit_and (branch_reply first_key) (branch_reply second_key)) ≡ Ok 0x7FF300000000
