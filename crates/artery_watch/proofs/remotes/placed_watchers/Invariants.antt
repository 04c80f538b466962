use Rattle.std.proofs.Common.{◌≡◌, ◌++◌, map}
use Rattle.artery_watch.specs.Standing.{by_place}
use Rattle.artery_watch.proofs.remotes.placed_watchers.Given as goal

abbrev pub invariant-loop-remote : goal.invariant-loop-remote
invariant-loop-remote l = l.names ++ map (λ remote. remote.watcher) (by_place l.remote-iterator) ≡ map (λ remote. remote.watcher) (by_place l.places.entries)
