-- Texts written one behind the other into a lent buffer.
use Rattle.std.specs.Prelude.{◌≡◌, ℕ, ◌+◌, ◌≤◌, List, length}
use Rattle.std.specs.Borrow.{MutBor}
use Rattle.octets.specs.Buffer.{put_at}
use Rattle.octets.specs.declared.writer.Writer.{Writer}

-- The writer has a lent buffer, and nothing is written yet.
pub record Lent (buf : MutBor (List ℕ)) (new : Writer) : Type 0 where
  pub same : new.buf.ghost_name ≡ buf.ghost_name
  pub bytes : new.buf.now ≡ buf.now
  pub nothing : new.end ≡ 0

-- So many bytes more have room.
abbrev pub HasRoom : ℕ → Writer → Type 0
HasRoom size w = w.end + size ≤ length w.buf.now

-- A text was put behind what was written, in the same lent buffer, and all else in it is as it was.
pub record Wrote (old : Writer) (text : List ℕ) (new : Writer) : Type 0 where
  pub same : new.buf.ghost_name ≡ old.buf.ghost_name
  pub room : length new.buf.now ≡ length old.buf.now
  pub end : new.end ≡ old.end + length text
  pub bytes : new.buf.now ≡ put_at old.buf.now old.end text
