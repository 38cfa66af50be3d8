use Rattle.std.proofs.Common.{true, false, Some, None, sym, ap, ◌∙◌}
use Rattle.std.specs.Option.{option_map}
use Rattle.records.specs.Rows.{row_ranks}
use Rattle.walk_law.specs.Run.{range_ranks, probe_ranks, answer_ranks}
use Rattle.walk_law.specs.Walk.{in_memory, after_probe, after_no, after_yes}
use Rattle.walk_law.specs.declared.question.Answer.TheVariants.{Probe, Hush}
use Rattle.discovery.specs.Books.{rows_of, places_of}
use Rattle.discovery.specs.Courses.{course_ranks}
use Rattle.discovery.specs.Walks.{standing}
use Rattle.discovery.proofs.Hearing.{answer_as, answer_to_none, course_leads, stands_still}
use Rattle.discovery.proofs.Stacks.{few_pending}
use Rattle.discovery.proofs.walk.Walk.hear_answer.Goals as goal

pub returns-in_default-clause-walk : goal.returns-in_default-clause-walk
returns-in_default-clause-walk g c =
    let rank = g.K.Family.rank in
    let book = c.args.book.now in
    let w = standing rank c.args.self.now (row_ranks rank (rows_of book)) in
    stands_still w (few_pending rank c.args.self.now.pending)
    ∙ ap (in_memory w) (sym (answer_to_none w (sym c.in_default.ensures) (places_of book) (option_map rank c.args.self.now.hushing) (answer_ranks rank c.args.answer)))

pub returns-in-None-Probe-clause-walk : goal.returns-in-None-Probe-clause-walk
returns-in-None-Probe-clause-walk g c =
    let rank = g.K.Family.rank in
    let book = c.args.book.now in
    let listed = row_ranks rank (rows_of book) in
    let w = standing rank c.args.self.now listed in
    let r = range_ranks rank c.in-Some.range in
    let lowest = sym c.in-Some.ensures in
    c.take.ensures listed
    ∙ course_leads w r lowest c.requires.walking (few_pending rank c.args.self.now.pending) (λ s rs. after_probe s rs (probe_ranks rank c.in-None-Probe.reply)) listed listed (course_ranks rank c.after_probe.result) c.after_probe.ensures
    ∙ ap (in_memory w) (sym (answer_as w r lowest rank (places_of book) c.args.self.now.hushing None c.args.answer (Probe c.in-None-Probe.reply) c.in-None-Probe.is-0 c.in-None-Probe.is-1))

pub returns-in-None-Hush-clause-walk : goal.returns-in-None-Hush-clause-walk
returns-in-None-Hush-clause-walk g c =
    let rank = g.K.Family.rank in
    let book = c.args.book.now in
    let w = standing rank c.args.self.now (row_ranks rank (rows_of book)) in
    let r = range_ranks rank c.in-Some.range in
    stands_still w (few_pending rank c.args.self.now.pending)
    ∙ ap (in_memory w) (sym (answer_as w r (sym c.in-Some.ensures) rank (places_of book) c.args.self.now.hushing None c.args.answer (Hush _) c.in-None-Hush.is-0 c.in-None-Hush.is-1))

pub returns-in-Some-Probe-clause-walk : goal.returns-in-Some-Probe-clause-walk
returns-in-Some-Probe-clause-walk g c =
    let rank = g.K.Family.rank in
    let book = c.args.book.now in
    let w = standing rank c.args.self.now (row_ranks rank (rows_of book)) in
    let r = range_ranks rank c.in-Some.range in
    stands_still w (few_pending rank c.args.self.now.pending)
    ∙ ap (in_memory w) (sym (answer_as w r (sym c.in-Some.ensures) rank (places_of book) c.args.self.now.hushing (Some _) c.args.answer (Probe _) c.in-Some-Probe.is-0 c.in-Some-Probe.is-1))

pub returns-then-replied-clause-walk : goal.returns-then-replied-clause-walk
returns-then-replied-clause-walk g c =
    let rank = g.K.Family.rank in
    let book = c.args.book.now in
    let listed = row_ranks rank (rows_of book) in
    let w = standing rank c.args.self.now listed in
    let r = range_ranks rank c.in-Some.range in
    let lowest = sym c.in-Some.ensures in
    c.take-then-replied.ensures (row_ranks rank (rows_of c.after_yes.new.book))
    ∙ course_leads w r lowest c.requires.walking (few_pending rank c.args.self.now.pending) (after_yes (places_of book) (rank c.in-Some-Hush.key)) listed (row_ranks rank (rows_of c.after_yes.new.book)) (course_ranks rank c.after_yes.result) c.after_yes.ensures.walk
    ∙ ap (in_memory w) (sym (answer_as w r lowest rank (places_of book) c.args.self.now.hushing (Some c.in-Some-Hush.key) c.args.answer (Hush true) c.in-Some-Hush.is-0 (c.in-Some-Hush.is-1 ∙ ap Hush c.if-replied.true)))

pub returns-else-replied-clause-walk : goal.returns-else-replied-clause-walk
returns-else-replied-clause-walk g c =
    let rank = g.K.Family.rank in
    let book = c.args.book.now in
    let listed = row_ranks rank (rows_of book) in
    let w = standing rank c.args.self.now listed in
    let r = range_ranks rank c.in-Some.range in
    let lowest = sym c.in-Some.ensures in
    c.take-else-replied.ensures listed
    ∙ course_leads w r lowest c.requires.walking (few_pending rank c.args.self.now.pending) after_no listed listed (course_ranks rank c.after_no.result) (c.after_no.ensures listed)
    ∙ ap (in_memory w) (sym (answer_as w r lowest rank (places_of book) c.args.self.now.hushing (Some c.in-Some-Hush.key) c.args.answer (Hush false) c.in-Some-Hush.is-0 (c.in-Some-Hush.is-1 ∙ ap Hush c.if-replied.false)))
