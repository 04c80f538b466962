use Rattle.std.proofs.Common.{rules, arith}
use Rattle.std.proofs.lemmas.Grind.{common_steps}
use Rattle.artery_connections.proofs.Made.{made_in_room}
use Rattle.artery_connections.proofs.connections.Connections.push.Goals as goal

pub invariant_of-self-2 : goal.invariant_of-self-2
invariant_of-self-2 c =
    made_in_room c.self.inside.made.items _ _ _ _ _ _ _ _ _ _ _ _ _ c.args.dialer c.args.dial c.args.far c.args.number c.len-place.result c.self.invariant
    (grind (arith, common_steps)) (search rules) (search rules) (search rules)
    c.in_ok-note.ensures.places c.in_ok-note-2.ensures.places c.in_ok-add_to_both.ensures.near c.in_ok-add_to_both.ensures.far
