use Rattle.std.proofs.Common.{rules, ◌≡◌, Some, None, slice_get}
use Rattle.std.specs.BTreeMap.{insert_entry}
use Rattle.std.specs.Ordering.{nat_cmp}
use Rattle.artery_watch.proofs.Sorting.{put_some, put_none}
use Rattle.artery_watch.proofs.remotes.put_at.Goals as goal

pub returns-in_default-number : goal.returns-in_default-number
returns-in_default-number c =
    let at : slice_get c.args.places.now.entries c.args.at ≡ Some (c.in-Some.remote.now, None) = search rules in
    put_none c.args.places.now.entries c.args.at c.in-Some.remote.now c.args.found.now.entries at c.requires.behind

pub returns : goal.returns
returns c =
    let at : slice_get c.args.places.now.entries c.args.at ≡ Some (c.in-Some.remote.now, Some c.in-Some-number.number) = search rules in
    let put : c.put.new.found.entries ≡ insert_entry nat_cmp c.args.found.now.entries c.in-Some-number.number c.in-Some.remote.now.watcher = search rules in
    put_some c.args.places.now.entries c.args.at c.in-Some.remote.now c.in-Some-number.number c.args.found.now.entries c.put.new.found.entries c.requires.rises at c.requires.behind put
