use Rattle.std.proofs.Common.{◌-◌, ◌++◌, ap, ◌∙◌, arith, length-take}
use borrow.Rule.Slice.PartMut.{post_of}
use Rattle.outgoing.specs.Outgoing.{outgoing_refusal, outgoing_frame}
use Rattle.requests.proofs.Frames.{frame_short, same_room, frame_read}
use Rattle.requests.proofs.writing.Writing.write.Goals as goal

pub returns : goal.returns
returns c =
    let frame = c.args.self.frame in
    let short = frame_short frame in
    let rest = post_of 0 (c.min-end.result - 0) c.args.buf.now in
    record {
      answer =
          c.write.ensures.answer
          ∙ same_room (outgoing_refusal frame) (outgoing_frame frame) _ c.args.self.room short (simp length-take (omega arith));
      frame =
          frame_read (outgoing_frame frame) _ rest short (outgoing_refusal frame) _ _ c.write.ensures.answer
          (ap (λ part. part ++ rest) c.write.ensures.after);
    }
