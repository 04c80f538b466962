use Rattle.std.proofs.Common.{◌≡◌, drop}
use Rattle.artery_replay.specs.Tally.{journal_in}
use Rattle.artery_replay.proofs.Tallied.{tallied}
use Rattle.artery_replay.proofs.tally.Tally.counts_all.Given as goal

abbrev pub invariant-loop-outcome : goal.invariant-loop-outcome
invariant-loop-outcome l = record {
  so_far : tallied l.tally (journal_in (drop l.outcome-index l.outcomes)) ≡ tallied l.fn.self (journal_in l.outcomes);
}
