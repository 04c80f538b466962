use Rattle.std.proofs.Common.{◌≡◌, ◌++◌, map}
use Rattle.artery_tables.proofs.ranking.ranked_names.Given as goal

abbrev pub invariant-loop-name : goal.invariant-loop-name
invariant-loop-name l = map (λ e. (e.0.now, e.1)) l.names.items ++ l.name-iterator ≡ l.counts.entries
