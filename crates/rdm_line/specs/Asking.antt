-- A question that is put to every fixture of a table, or of a line.
use Rattle.std.specs.Prelude.{ℕ, cond, List, map, is_some}
use Rattle.fixtures.specs.declared.fixture.Fixture.{Fixture}
use Rattle.rdm.specs.Question.{question_refusal, question_frame}
use Rattle.rdm.specs.declared.question.Question.{Question}
use Rattle.rdm_line.specs.Cable.{Signal, quiet}
use Rattle.rdm_line.specs.Sending.{after, replies_to}
use Rattle.rdm_line.specs.State.{State, fitted, with_fitted}
use Rattle.rdm_line.specs.declared.mode.Mode.{Mode}

-- Lines ask with transaction number 0.
abbrev pub frame_of : Question → List ℕ
frame_of q = question_frame q 0

-- What the writer refuses is not sent: no fixture changes, and the cable stays quiet.
unfoldable pub asked : Question → List Fixture → List Fixture
asked q fs = cond (is_some (question_refusal q)) fs (map (after (frame_of q)) fs)

unfoldable pub replies : Mode → Question → List Fixture → Signal
replies mode q fs = cond (is_some (question_refusal q)) quiet (replies_to mode (frame_of q) fs)

-- A line that is shut asks nothing.
abbrev pub line_asked : Question → State → State
line_asked q s = cond s.live (with_fitted (asked q) s) s

abbrev pub line_replies : Question → State → Signal
line_replies q s = cond s.live (replies s.mode q (fitted s)) quiet
