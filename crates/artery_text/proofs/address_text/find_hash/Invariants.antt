use Rattle.std.proofs.Common.{◌≡◌, ◌≤◌, length, take}
use Rattle.artery_text.specs.Reading.{last_hash}
use Rattle.artery_text.proofs.address_text.find_hash.Given as goal

abbrev pub invariant-loop-end : goal.invariant-loop-end
invariant-loop-end l = record {
  within : l.end ≤ length l.text;
  so_far : last_hash (take l.end l.text) ≡ last_hash l.text;
}

abbrev pub decreases-loop-end : goal.decreases-loop-end
decreases-loop-end l = l.end
