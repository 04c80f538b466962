use Rattle.std.proofs.Common.{◌≡◌, ◌++◌, map, drop}
use Rattle.artery_tables.proofs.ranking.copies_of.Given as goal

abbrev pub invariant-loop-named : goal.invariant-loop-named
invariant-loop-named l = l.names ++ map (λ e. e.0.now) (drop l.named-index l.ranked) ≡ map (λ e. e.0.now) l.ranked
