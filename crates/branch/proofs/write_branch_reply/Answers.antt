use Rattle.std.proofs.Common.{◌≡◌, ℕ, ◌≤◌, drop, None, Ok, arith, rules}
use Rattle.std.proofs.lemmas.Bool.Decides.{nat_tests}
use Rattle.keys.specs.Uid.{uid_number}
use Rattle.branch.specs.BranchReply.{branch_reply, branch_read}
use Rattle.branch.proofs.BranchReplies.{length-reply, wrote_reply}
use Rattle.branch.proofs.BranchReadBack.{branch_reads_back}
use Rattle.octets.proofs.Written.{written_result}
use Rattle.branch.proofs.write_branch_reply.Goals as goal

pub returns-then-buf-lt-SIZE : goal.returns-then-buf-lt-SIZE
returns-then-buf-lt-SIZE c = let size = length-reply (uid_number c.args.key) in grind (arith, nat_tests)

-- The answer, and what is left in the buffer.
pub returns-clause-answer : goal.returns-clause-answer
returns-clause-answer c =
    let size = length-reply (uid_number c.args.key) in
    let whole =
    wrote_reply _ (uid_number c.args.key) c.checksum-sum.result c.new-out.result c.put.new.self c.put_pairs.new.out
    c.put_pairs-2.new.out
    c.new-out.ensures
    (search rules)
    (search rules)
    (search rules)
    (search rules) in
    grind (arith, nat_tests)

pub returns-clause-after : goal.returns-clause-after
returns-clause-after c =
    let size = length-reply (uid_number c.args.key) in
    let whole =
    wrote_reply _ (uid_number c.args.key) c.checksum-sum.result c.new-out.result c.put.new.self c.put_pairs.new.out
    c.put_pairs-2.new.out
    c.new-out.ensures
    (search rules)
    (search rules)
    (search rules)
    (search rules) in
    grind (arith, nat_tests)

pub returns-clause-reads_back : goal.returns-clause-reads_back
returns-clause-reads_back c =
    let n = uid_number c.args.key in
    written_result None (branch_reply n) c.args.buf.now _ _ (λ bytes. (lost : ℕ) → lost ≤ 7 → branch_read (drop lost bytes) ≡ Ok n)
    (returns-clause-answer c)
    (returns-clause-after c)
    (λ _ lost few. branch_reads_back n lost c.args.key.key few)
