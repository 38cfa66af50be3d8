-- The answer to a line, or a question mark.
use Rattle.std.proofs.Common.{◌≡◌, ℕ, ◌<◌, ◌≤◌, true, false, List, ◌++◌, length, is_some, Some, None, codes, Option, subst}
use Rattle.std.proofs.lemmas.Bool.{lt-ltb, le-ltb}
use Rattle.octets.specs.Writer.{Wrote}
use Rattle.octets.specs.declared.writer.Writer.{Writer}
use Rattle.requests.specs.Answer.{Answered, or_unread, answer_text, answer_line}

module _ (old mid : Writer) (r : Option (Unit {0})) where
  pub some_answer : (o : Option (List ℕ)) → Answered old o r mid → is_some r ≡ true → Wrote old (or_unread o) mid
  some_answer (Some text) (is, wrote) some = wrote
  some_answer None (is, same) some = absurd cc

  -- Nothing was put, and then a question mark.
  pub nothing_put : (o : Option (List ℕ)) → Answered old o r mid → is_some r ≡ false → mid ≡ old
  nothing_put (Some text) (is, wrote) none = absurd cc
  nothing_put None (is, same) none = same

  pub no_answer : (o : Option (List ℕ)) (new : Writer) → Answered old o r mid → is_some r ≡ false → Wrote mid (codes "?") new → Wrote old (or_unread o) new
  no_answer (Some text) new (is, wrote) none put = absurd cc
  no_answer None new (is, same) none put = subst (λ w. Wrote w (codes "?") new) same put

-- Which line is printed.
pub long_line : (line : List ℕ) → 2048 < length line → answer_line line ≡ codes "= ?"
unfolding answer_line
long_line line long = rw (lt-ltb 2048 (length line) long)

pub short_line : (line : List ℕ) → length line ≤ 2048 → answer_line line ≡ line ++ (codes " = " ++ answer_text line)
unfolding answer_line
short_line line short = rw (le-ltb 2048 (length line) short)
