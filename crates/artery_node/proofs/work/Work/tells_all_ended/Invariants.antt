use Rattle.std.proofs.Common.{◌≡◌, drop}
use Rattle.artery_machine.specs.Doing.{each}
use Rattle.artery_machine.specs.Watching.{tells_ended}
use Rattle.artery_node.proofs.work.Work.tells_all_ended.Given as goal

abbrev pub invariant-loop-watcher : goal.invariant-loop-watcher
invariant-loop-watcher l = each (drop l.watcher-index l.watchers) (tells_ended l.path) l.self ≡ each l.fn.watchers (tells_ended l.fn.path) l.fn.self
