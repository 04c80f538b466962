use Rattle.std.proofs.Common.{rules, ◌≡◌, ◌+◌, ◌++◌, [], ◌∷◌, subst}
use Rattle.artery_watch.specs.Keys.{remote_of}
use Rattle.artery_watch.specs.Standing.{in_order, standing, IsWithin}
use Rattle.artery_watch.proofs.Stood.{one_more, stand_after, rises_after}
use Rattle.artery_watch.proofs.remotes.Remotes.add.Goals as goal

pub invariant_of-self-2 : goal.invariant_of-self-2
invariant_of-self-2 c =
    let r = remote_of c.args.watcher.now c.args.origin.now in
    let old = c.self.inside.places.entries in
    let new = c.rise.new.places.entries in
    let is : in_order new ≡ in_order old ++ (r, c.self.inside.added) ∷ [] = search rules in
    let next : c.self.inside.added + 1 ≡ c.in-Some.next = search rules in (
      one_more r (standing old) (standing new) c.self.inside.stand c.self.invariant.0 (stand_after r c.self.inside.added old new is),
      subst (λ n. IsWithin 0 n (in_order new)) next (rises_after r c.self.inside.added old new c.self.invariant.1 is),
    )
