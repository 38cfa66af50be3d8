use Rattle.std.proofs.Common.{◌≡◌, ◌∙◌, rules}
use Rattle.std.specs.Option.{option_map}
use Rattle.dali_line.specs.Meaning.{footprint_at}
use Rattle.dali_line.specs.Meanings.{query_answer_is}
use Rattle.dali_line.proofs.line.calls.DaliLineLine.query.Goals as goal

pub returns-clause-answer : goal.returns-clause-answer
returns-clause-answer c =
    let mapped : c.map.result ≡ option_map footprint_at c.query_address.result = search rules in
    mapped ∙ query_answer_is c.args.self.now c.args.key c.query_address.result c.query_address.ensures.answer
