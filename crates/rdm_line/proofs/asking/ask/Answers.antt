use Rattle.std.proofs.Common.{replicate}
use Rattle.rdm.specs.Question.{question_refusal}
use Rattle.fixtures.proofs.Whole.{refused_before, first_bytes}
use Rattle.rdm_line.specs.Asking.{frame_of}
use Rattle.rdm_line.proofs.Questions.{question_size, refused_table, refused_signal, table_from, signal_from}
use Rattle.rdm_line.proofs.asking.ask.Goals as goal

pub returns-in-Err : goal.returns-in-Err
returns-in-Err c =
    let q = c.args.question in
    let fs = c.args.fixtures.now in
    let mode = c.args.mode in
    let why = refused_before (frame_of q) (replicate 38 0) (question_size q) (question_refusal q) _ _ c.write.ensures.answer c.in-Err.is in
    record { table = refused_table q fs _ why; signal = refused_signal q fs mode _ why }

pub returns-in-Ok : goal.returns-in-Ok
returns-in-Ok c =
    let q = c.args.question in
    let fs = c.args.fixtures.now in
    let mode = c.args.mode in
    let sent = first_bytes (frame_of q) (replicate 38 0) (question_size q) (question_refusal q) _ _ c.write.new.buf c.write.ensures.answer c.in-Ok.is c.write.ensures.after in
    record {
      table = table_from q fs sent.0 c.write.new.buf c.in-Ok.len sent.1 _ c.send.ensures.table;
      signal = signal_from q fs sent.0 c.write.new.buf c.in-Ok.len sent.1 mode _ c.send.ensures.signal;
    }
