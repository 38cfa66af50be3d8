use Rattle.std.proofs.Common.{length, ap, ◌∙◌}
use Rattle.text.specs.Digits.{and_then}
use Rattle.text.specs.Hexadecimal.{bytes_read, bytes_left}
use Rattle.fields.specs.Fields.{bytes_in, last_bytes}
use Rattle.fields.proofs.Sizes.{last_short, last_fits, read_bytes}
use Rattle.fields.proofs.last_bytes.Goals as goal

pub returns : goal.returns
returns c =
    let line = c.args.line.now in
    let buf = c.args.buf.now in
    let room = last_fits c.args.n line buf c.requires.room in
    let found = ap (λ field. and_then field bytes_in) c.in_ok-last_field.ensures in
    let answer = c.read_bytes.ensures.answer ∙ ap (λ bytes. bytes_read bytes buf) found ∙ room.0 in
    let after = c.read_bytes.ensures.after ∙ ap (λ bytes. bytes_left bytes buf) found ∙ room.1 in
    record {
      answer = answer;
      after = after;
      bytes = read_bytes (last_bytes c.args.n line) _ (length line) buf _ (last_short c.args.n line) c.requires.room answer after;
    }
