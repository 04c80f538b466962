use Rattle.std.proofs.Common.{rules, ◌≡◌, ◌<◌, Some, None, slice_get}
use Rattle.artery_watch.proofs.Rising.{rising_some, rising_none}
use Rattle.artery_watch.proofs.remotes.lowest_from.Goals as goal

pub returns-in_default-number : goal.returns-in_default-number
returns-in_default-number c =
    let at : slice_get c.args.places.now.entries c.args.at ≡ Some (c.in-Some._remote.now, None) = search rules in
    rising_none c.args.places.now.entries c.args.at c.args.low c.in-Some._remote.now at c.requires

pub returns : goal.returns
returns c =
    let at : slice_get c.args.places.now.entries c.args.at ≡ Some (c.in-Some._remote.now, Some c.in-Some-number.number) = search rules in
    let less : c.in-Some-number.number < c.args.low = search rules in
    rising_some c.args.places.now.entries c.args.at c.args.low c.in-Some-number.number c.in-Some._remote.now at less c.requires
