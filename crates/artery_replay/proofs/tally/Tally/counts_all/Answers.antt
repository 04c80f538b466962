use Rattle.std.proofs.Common.{◌≤◌, length, drop, ap, sym, ◌∙◌, rules}
use Rattle.std.proofs.lemmas.List.{drop_all}
use Rattle.artery_replay.specs.Tally.{journal_in}
use Rattle.artery_replay.proofs.Tallied.{tallied, all_counted}
use Rattle.artery_replay.proofs.tally.Tally.counts_all.Goals as goal

pub returns : goal.returns
returns c =
    let at_end : length c.args.outcomes.now ≤ c.loop-outcome.outcome-index = search rules in
    let none = drop_all c.loop-outcome.outcome-index c.args.outcomes.now at_end in
    all_counted c.args.self c.loop-outcome.tally (journal_in c.args.outcomes.now)
    (sym (ap (λ rest. tallied c.loop-outcome.tally (journal_in rest)) none) ∙ c.loop-outcome.invariant.so_far)
