use Rattle.std.proofs.Common.{◌≡◌, ◌++◌, map}
use Rattle.artery_watch.specs.Standing.{in_order, watchers_by}
use Rattle.artery_watch.proofs.remotes.sorted_watchers.Given as goal

abbrev pub invariant-loop-number : goal.invariant-loop-number
invariant-loop-number l = l.names ++ map (λ e. e.1) l._number-iterator ≡ map (λ e. e.1) (watchers_by (in_order l.places.entries))
