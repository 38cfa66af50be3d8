-- What can become of a walk that has heard from its lowest pending range, by rank.
use Rattle.std.specs.Prelude.{◌≡◌, ℕ, suc, ◌<◌, cond, List, ◌∷◌, length, None, Option}
use Rattle.keys.specs.declared.range.Range.{Range}
use Rattle.walk_law.specs.Run.{range_ranks}
use Rattle.walk_law.specs.Walk as law
use Rattle.walk_law.specs.declared.phase.Phase.TheVariants.{Contradicted}
use Rattle.discovery.specs.Pending.{without_first, has_memory}
use Rattle.discovery.specs.Walks.{with_hush, with_probe}
use Rattle.discovery.specs.declared.walk.course.Course.{Course}
use Rattle.discovery.specs.declared.walk.course.Course.TheVariants.{Drop, Probe, Hush, Split, End}

abbrev pub course_ranks : {K : Type 0} → (K → ℕ) → Course K → Course ℕ
course_ranks rank Drop = Drop
course_ranks rank Probe = Probe
course_ranks rank (Hush k) = Hush (rank k)
course_ranks rank (Split lower upper) = Split (range_ranks rank lower) (range_ranks rank upper)
course_ranks rank (End phase) = End phase

-- The walk after a course.
abbrev pub taken : Course ℕ → law.Walk → law.Walk
taken Drop w = law.going_on (without_first w.pending) None w.listed (suc w.questions)
taken Probe w = with_probe w.listed w
taken (Hush k) w = with_hush k w
taken (Split lower upper) w =
    cond (has_memory w.pending) (law.going_on (lower ∷ upper ∷ without_first w.pending) None w.listed (suc w.questions)) (law.ended Contradicted w)
taken (End phase) w = law.ended phase w

-- Whatever is pending behind a range, in memory, a course leads where a rule of the law does. The rule is told which ranks were
-- listed; the course finds those that are then.
abbrev pub LeadsAs : (Range ℕ → List (Range ℕ) → law.Walk → law.Walk) → Range ℕ → List ℕ → List ℕ → Course ℕ → Type 0
LeadsAs rule r before after course =
    (rs : List (Range ℕ)) (hushing : Option ℕ) (questions : ℕ)
    → length rs < law.most_pending
    → law.in_memory (law.walking r rs hushing before questions) (rule r rs (law.walking r rs hushing before questions)) ≡ taken course (law.walking r rs hushing after questions)
