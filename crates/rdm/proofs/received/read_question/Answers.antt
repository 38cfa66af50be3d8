use Rattle.std.proofs.Common.{None, Some, ap, ◌∙◌}
use Rattle.rdm.specs.Received.{question_at, question_in, asked_of}
use Rattle.rdm.proofs.QuestionsRead.{question_read}
use Rattle.rdm.proofs.received.read_question.Goals as goal

pub returns-in_err-packet : goal.returns-in_err-packet
unfolding question_at
returns-in_err-packet c =
    c.from_residual.ensures
    ∙ question_read c.read_packet.result c.ok.result None c.ok.ensures.value c.in_err-packet.was
    ∙ ap question_in c.read_packet.ensures

pub returns : goal.returns
unfolding question_at
returns c =
    let packet = c.in_ok-packet.packet in
    let asked = c.read_asked.ensures ∙ ap (λ p. asked_of p packet.payload.now) c.from_codes-parameter.ensures in
    ap (λ a. Some (record { destination = packet.header.destination; source = packet.header.source; transaction = packet.header.transaction; asked = a })) asked
    ∙ question_read c.read_packet.result c.ok.result (Some packet) c.ok.ensures.value c.in_ok-packet.was
    ∙ ap question_in c.read_packet.ensures
