use Rattle.std.proofs.Common.{◌≡◌, take}
use Rattle.octets.specs.Bytes.{checksum_of}
use Rattle.octets.proofs.checksum.checksum.Given as goal

abbrev pub invariant-loop-b : goal.invariant-loop-b
invariant-loop-b l = l.sum ≡ checksum_of (take l.b-index l.bytes)
