use Rattle.std.proofs.Common.{sym, refl}
use Rattle.keys.specs.Uids.{orders_agree}
use Rattle.keys.proofs.uid.Uid.number.Goals as goal

pub returns : goal.returns
returns c = record { value = refl; ordered_as_keys = λ other. sym (orders_agree c.args.self other) }
