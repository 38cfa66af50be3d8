-- What is refused of a frame that goes out, and its bytes.
use Rattle.std.specs.Prelude.{ℕ, List, Option}
use Rattle.branch.specs.BranchReply.{branch_reply}
use Rattle.dali.specs.Search.{search_bytes}
use Rattle.refusals.specs.declared.Refusal.{Refusal}
use Rattle.outgoing.specs.Numbers.{branch_refusal, branch_frame, destination_refusal, mute_frame, un_mute_frame, key_refusal, info_frame, start_refusal, start_frame, search_refusal, program_refusal, program_bytes}
use Rattle.outgoing.specs.declared.Outgoing.{Outgoing}
use Rattle.outgoing.specs.declared.Outgoing.TheVariants.{Branch, Mute, UnMute, DeviceInfo, StartAddress, BranchReply, Search, Program}

abbrev pub outgoing_refusal : Outgoing → Option Refusal
outgoing_refusal (Branch transaction lo hi) = branch_refusal lo hi
outgoing_refusal (Mute transaction to) = destination_refusal to
outgoing_refusal (UnMute transaction to) = destination_refusal to
outgoing_refusal (DeviceInfo transaction key) = key_refusal key
outgoing_refusal (StartAddress transaction key slot) = start_refusal key slot
outgoing_refusal (BranchReply key) = key_refusal key
outgoing_refusal (Search key) = search_refusal key
outgoing_refusal (Program slot) = program_refusal slot

abbrev pub outgoing_frame : Outgoing → List ℕ
outgoing_frame (Branch transaction lo hi) = branch_frame transaction lo hi
outgoing_frame (Mute transaction to) = mute_frame transaction to
outgoing_frame (UnMute transaction to) = un_mute_frame transaction to
outgoing_frame (DeviceInfo transaction key) = info_frame transaction key
outgoing_frame (StartAddress transaction key slot) = start_frame transaction key slot
outgoing_frame (BranchReply key) = branch_reply key
outgoing_frame (Search key) = search_bytes key
outgoing_frame (Program slot) = program_bytes slot
