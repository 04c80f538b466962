use Rattle.std.proofs.Common.{rules, ◌≡◌, ◌∙◌, ap, None}
use Rattle.std.specs.Map.{set_value}
use Rattle.artery_watch.specs.Keys.{same_remote, remote_of}
use Rattle.artery_watch.specs.Standing.{in_order}
use Rattle.artery_watch.proofs.Stood.{fallen}
use Rattle.artery_watch.proofs.remotes.fell.Goals as goal

pub returns-clause-rest : goal.returns-clause-rest
returns-clause-rest c =
    let r = remote_of c.args.watcher.now c.args.origin.now in
    let set : (c.get_mut.follows.lender None).entries ≡ set_value (same_remote r) c.args.places.now.entries None = search rules in
    ap in_order set ∙ fallen r c.args.places.now.entries c.get_mut.ensures.unique c.requires
