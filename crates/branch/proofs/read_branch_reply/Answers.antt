use Rattle.std.proofs.Common.{◌≡◌, ap, ◌∙◌, rules}
use Rattle.std.proofs.ByRecursion.{All-from_get_or}
use Rattle.std.proofs.lemmas.Result.{err_from_is_err_and}
use Rattle.branch.specs.BranchReply.{key_number, branch_read, rest_read}
use Rattle.branch.proofs.BranchOnly.{answer_only}
use Rattle.branch.proofs.Carried.{Byte}
use Rattle.branch.proofs.Leads.{no_lead, some_lead}
use Rattle.branch.proofs.read_branch_reply.Goals as goal

pub returns-in_err-body : goal.returns-in_err-body
unfolding branch_read
returns-in_err-body c =
    let p = err_from_is_err_and c.from_residual.result c.from_residual.ensures.1 in
    let read = no_lead c.strip_lead.result c.ok_or.result _ c.ok_or.ensures.value c.in_err-body.was ∙ ap rest_read c.strip_lead.ensures in
    record { answer = rw (p.1, p.2) read; is_the_reply_of_its_key = rw p.1 tt }

pub returns : goal.returns
unfolding branch_read
returns c =
    let bytes = c.args.bytes.now in
    let read : key_number c.read_body.result ≡ branch_read bytes =
    c.read_body.ensures ∙ some_lead c.strip_lead.result c.ok_or.result _ c.ok_or.ensures.value c.in_ok-body.was ∙ ap rest_read c.strip_lead.ensures in
    record {
      answer = read;
      is_the_reply_of_its_key = answer_only bytes _ (All-from_get_or Byte bytes 0 (λ i _. search (rules, c.type_inv.bytes i))) read;
    }
