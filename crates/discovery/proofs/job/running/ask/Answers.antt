use Rattle.discovery.specs.Books.{rows_of}
use Rattle.discovery.specs.Walks.{walk_of}
use Rattle.discovery.proofs.Asking.{honest_reply, book_unlisted, book_listed}
use Rattle.discovery.proofs.job.running.ask.Goals as goal

pub returns : goal.returns
returns g c =
    let rank = g.L.Key.Family.rank in
    let m = g.L.Line.means c.args.line.now in
    let n = g.L.Line.means c.put_question-answer.new.line in
    let w = c.args.job.now.walk in
    let book = c.args.book.now in
    let reply = c.put_question-answer.result in
    record {
      reply = reply;
      honest = honest_reply rank m n (walk_of rank w (rows_of book)) c.in-Some.question reply c.in-Some.ensures c.put_question-answer.ensures;
      is_heard = c.hear.ensures.walk;
      book_kept = λ old. book_unlisted rank book c.hear.new.book w.hushing _ c.hear.ensures.book old;
      key_listed = λ new k is.
          book_listed rank book c.hear.new.book g.met.L.Key.Family.same_rank_same_key w.hushing _ c.hear.ensures.book new k is;
    }
