use Rattle.std.proofs.Common.{◌≡◌, ℕ, ◌+◌, ◌≤◌, List, length}
use Rattle.artery_machine.specs.Parts.{kept, answers, frames_given, frames_gone}
use Rattle.artery_machine.specs.Doing.{in_bytes, each}
use Rattle.artery_machine.specs.Hearing.{hears}
use Rattle.artery_core.proofs.coming.hears_frames.Given as goal

abbrev pub invariant-loop-left : goal.invariant-loop-left
invariant-loop-left l = record {
  few : length l.bytes.rest ≤ l.left;
  heard : each (frames_given (l.left + 1) l.bytes) (hears l.number l.stream) l.work ≡ each (frames_given (answers l.fn.bytes) l.fn.bytes) (hears l.fn.number l.fn.stream) l.fn.work;
  gone : frames_gone (l.left + 1) l.bytes ≡ frames_gone (answers l.fn.bytes) l.fn.bytes;
}

abbrev pub decreases-loop-left : goal.decreases-loop-left
decreases-loop-left l = l.left
