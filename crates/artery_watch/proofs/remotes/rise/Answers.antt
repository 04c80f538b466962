use Rattle.std.proofs.Common.{rules, ◌≡◌, ◌∙◌, ap, Some}
use Rattle.std.specs.Map.{lookup, set_value}
use Rattle.artery_watch.specs.Keys.{same_remote, remote_of}
use Rattle.artery_watch.specs.Standing.{in_order}
use Rattle.artery_watch.proofs.Stood.{risen_last}
use Rattle.artery_watch.proofs.remotes.rise.Goals as goal

pub returns-in-Some-clause-ok : goal.returns-in-Some-clause-ok
returns-in-Some-clause-ok c =
    let r = remote_of c.args.watcher.now c.args.origin.now in
    let set : (c.get_mut.follows.lender (Some c.args.number)).entries ≡ set_value (same_remote r) c.args.places.now.entries (Some c.args.number) = search rules in
    let found : lookup (same_remote r) c.args.places.now.entries ≡ Some c.in-Some.place.now = search rules in
    ap in_order set ∙ risen_last r c.args.number c.args.places.now.entries c.in-Some.place.now found c.requires.fallen c.requires.below
