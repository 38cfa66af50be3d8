-- Which answers list a key.
use Rattle.std.specs.Prelude.{ℕ, Bool, true, false, not, ◌&&◌, List, [], ◌∷◌, length, Some, None, Option, nat_lt}
use Rattle.keys.specs.declared.range.Range.{Range}
use Rattle.refusals.specs.declared.Refusal.{Refusal}
use Rattle.walk_law.specs.Ranks.{is_in}
use Rattle.walk_law.specs.Walk.{Walk, refusal_of}
use Rattle.walk_law.specs.declared.question.Answer.{Answer}
use Rattle.walk_law.specs.declared.question.Answer.TheVariants as answer

-- Whether a key is not listed, and there is a place for it.
abbrev pub is_new : ℕ → ℕ → List ℕ → Bool
is_new places k listed = not (is_in k listed) && nat_lt (length listed) places

-- Whether an answer lists the key whose hush was next: the key replied, is not listed, and there is a place for it.
abbrev pub lists_in : ℕ → List (Range ℕ) → Option ℕ → Answer ℕ → List ℕ → Bool
lists_in places [] hushing a listed = false
lists_in places (r ∷ rs) None a listed = false
lists_in places (r ∷ rs) (Some k) (answer.Probe p) listed = false
lists_in places (r ∷ rs) (Some k) (answer.Hush true) listed = is_new places k listed
lists_in places (r ∷ rs) (Some k) (answer.Hush false) listed = false

abbrev pub unless_refusal : Option Refusal → Bool → Bool
unless_refusal (Some refusal) lists = false
unless_refusal None lists = lists

-- The same of an answer that may be refused.
unfoldable pub lists_key : ℕ → Walk → Answer ℕ → Bool
lists_key places w a = unless_refusal (refusal_of w a) (lists_in places w.pending w.hushing a w.listed)
