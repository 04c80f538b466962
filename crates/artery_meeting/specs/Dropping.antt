-- The rule that drops a request, by what its connection would answer.
use Rattle.std.specs.Prelude.{nat_lt, ◌||◌, not, if◌then◌else◌, length, Option, None, Some}
use Rattle.artery_base.specs.declared.address.Address.{Address}
use Rattle.artery_base.specs.declared.address.UniqueAddress.{UniqueAddress}
use Rattle.artery_handshake.specs.declared.in_conn.OnReq.{OnReq}
use Rattle.artery_journal.specs.declared.rule.Rule.{Rule as DropRule}
use Rattle.artery_journal.specs.declared.rule.Rule.TheVariants as rules
use Rattle.artery_machine.specs.Parts.{kept}
use Rattle.artery_machine.specs.Node.{Node, same_address, has_origin}
use Rattle.artery_machine.specs.Making.{may_have}
use Rattle.artery_machine.specs.Handshaking.{is_other, most_origins}

-- The first of these rules drops a request, on a connection that would give this answer to it: it is for another address; it is from the own address; it is from another origin, or with another nonce, than the connection is known for; its peer is one too many; its origin is one too many.
abbrev pub rule_for : Node kept → OnReq → UniqueAddress → Address → Option DropRule
rule_for n answer v to =
    if not (same_address to n.me.address) then Some rules.NotMe
    else if same_address v.address n.me.address then Some rules.Itself
    else if is_other answer then Some rules.Origin
    else if not (may_have v.address n) then Some rules.Peers
    else if not (has_origin v n || nat_lt (length n.origins) most_origins) then Some rules.Origins
    else None
