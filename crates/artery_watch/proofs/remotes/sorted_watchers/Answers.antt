use Rattle.std.proofs.Common.{rules, ◌≡◌, ◌∙◌, ℕ, List, map}
use Rattle.artery_watch.specs.Standing.{in_order, watchers_by}
use Rattle.artery_watch.proofs.Sorting.{watchers_are}
use Rattle.artery_watch.proofs.remotes.sorted_watchers.Goals as goal

pub returns : goal.returns
returns c =
    let all : c.loop-number.names ≡ map (λ (e : ℕ × List ℕ). e.1) (watchers_by (in_order c.args.places.now.entries)) = search rules in
    all ∙ watchers_are (in_order c.args.places.now.entries)
