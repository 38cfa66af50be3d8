use Rattle.std.proofs.Common.{◌≡◌, None, ap, ◌∙◌}
use Rattle.dali.specs.Frame.{frame_bytes}
use Rattle.octets.specs.Writers.{answered, left_in}
use Rattle.dali.specs.declared.frame.Frame.{Frame}
use Rattle.dali.proofs.Frames.{same_frame}
use Rattle.octets.proofs.Written.{written_result}
use Rattle.dali.proofs.frame.Frame.write.Goals as goal

pub returns : goal.returns
returns c =
    let frame = c.args.self in
    let buf = c.args.buf.now in
    let answer = c.write_bytes.ensures.answer ∙ ap (λ bytes. answered None bytes buf) c.bytes.ensures in
    let after = c.write_bytes.ensures.after ∙ ap (λ bytes. left_in None bytes buf) c.bytes.ensures in
    record {
      answer = answer;
      after = after;
      reads_back =
          written_result None (frame_bytes frame) buf _ _ (λ bytes. (read : Frame) → frame_bytes read ≡ bytes → read ≡ frame)
          answer
          after
          (λ _ read same. same_frame read frame same);
    }
