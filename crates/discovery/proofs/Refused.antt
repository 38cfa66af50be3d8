-- A call that checks before it changes anything: refused with nothing changed, or done.
use Rattle.std.proofs.Common.{◌≡◌, Some, None, Ok, Err, Option, refl}
use Rattle.refusals.specs.declared.Refusal.{Refusal}
use Rattle.job_law.specs.Calls.{refused_or_done}

pub is_refused : (o : Option Refusal) (e : Refusal) → Err e ≡ refused_or_done o → o ≡ Some e
is_refused None e is = cc
is_refused (Some refusal) e is = cc

pub is_free : (o : Option Refusal) → Ok tt ≡ refused_or_done o → o ≡ None
is_free None is = refl
is_free (Some refusal) is = cc
