use Rattle.std.proofs.Common.{◌≡◌, ◌++◌, drop}
use Rattle.artery_replay.specs.Texts.{outcomes_text}
use Rattle.artery_replay.proofs.printing.print_outcomes.Given as goal

abbrev pub invariant-loop-outcome : goal.invariant-loop-outcome
invariant-loop-outcome l = record {
  so_far : l.out ++ outcomes_text l.form (drop l.outcome-index l.outcomes) ≡ l.fn.out ++ outcomes_text l.form l.outcomes;
}
