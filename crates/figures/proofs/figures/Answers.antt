use Rattle.std.proofs.Common.{refl}
use Rattle.branch.specs.BranchReply.{branch_reply, branch_read, sum_carried}
use Rattle.packets.specs.Packet.{packet_of}
use Rattle.rdm.specs.Question.{ends_bytes}
use Rattle.figures.proofs.figures.Goals as goal

pub returns : goal.returns
unfolding branch_reply branch_read sum_carried packet_of ends_bytes
returns c = record {
  count = refl;
  figures = record {
    branch_reply_of_first_key = refl;
    checksum_of_first_branch = refl;
    read_under_or = refl;
    read_under_and = refl;
  };
}
