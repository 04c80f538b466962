use Rattle.std.proofs.Common.{rules, ◌≡◌, ◌++◌, ◌∙◌, sym, codes}
use Rattle.std.specs.Prelude.{Some}
use Rattle.artery_watch.specs.Place.{after}
use Rattle.artery_watch.proofs.Places.{some_after}
use Rattle.artery_watch.proofs.place.after_colon.Goals as goal

pub returns : goal.returns
returns c =
    let a = c.args.address.now in
    let first : after (c.args.address.now.protocol ++ codes "://" ++ c.args.address.now.system ++ codes "@" ++ c.args.address.now.host) c.args.text.now ≡ Some c.in_ok-text.text.now = search rules in
    c.after.ensures ∙ sym (some_after (a.protocol ++ codes "://" ++ a.system ++ codes "@" ++ a.host) (codes ":") c.args.text.now c.in_ok-text.text.now first)
