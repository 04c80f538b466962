use Rattle.std.proofs.Common.{rules, ◌≡◌, true, false, length, ap, List, arith}
use Rattle.artery_watch.specs.Keys.{remote_of}
use Rattle.artery_watch.specs.Standing.{standing}
use Rattle.artery_watch.specs.Watcher.{is_among}
use Rattle.artery_watch.specs.declared.remote.RemoteWatcher.{RemoteWatcher}
use Rattle.artery_watch.proofs.Stood.{one_less, same_many, stand_without, stand_same, rises_without, rises_same}
use Rattle.artery_watch.proofs.remotes.Remotes.remove.Goals as goal

pub invariant_of-self : goal.invariant_of-self
invariant_of-self c =
    let r = remote_of c.args.watcher.now c.args.origin.now in
    let old = c.self.inside.places.entries in
    let new = c.fell.new.places.entries in
    let out : is_among r (standing old) ≡ false = search rules in (
      same_many r (standing old) (standing new) c.self.inside.stand c.self.invariant.0 out (stand_without r old new c.fell.ensures.rest),
      rises_without r c.self.inside.added old new c.self.invariant.1 c.fell.ensures.rest,
    )

pub invariant_of-self-2 : goal.invariant_of-self-2
invariant_of-self-2 c =
    let r = remote_of c.args.watcher.now c.args.origin.now in
    let old = c.self.inside.places.entries in
    let mid = c.fell.new.places.entries in
    let new = c.tidy.new.places.entries in
    let among : is_among r (standing old) ≡ true = search rules in
    let less = one_less r (standing old) (standing mid) c.self.inside.stand c.self.invariant.0 among (stand_without r old mid c.fell.ensures.rest) in
    let same : length (standing new) ≡ length (standing mid) = ap (λ (xs : List RemoteWatcher). length xs) (stand_same mid new c.tidy.ensures) in (
      omega (arith, less, same),
      rises_same c.self.inside.added mid new (rises_without r c.self.inside.added old mid c.self.invariant.1 c.fell.ensures.rest) c.tidy.ensures,
    )
