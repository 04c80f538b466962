-- The inbound connection that is found by its number.
use Rattle.std.proofs.Common.{◌≡◌, ℕ, Bool, true, false, cond, List, [], ◌∷◌, refl, ap, sym, ◌∙◌, arith}
use Rattle.std.specs.Prelude.{Option, Some, find, ◌==◌}
use Rattle.std.proofs.lemmas.Bool.Decides.{nat_tests}
use Rattle.artery_base.specs.declared.address.Address.{Address}
use Rattle.artery_base.specs.declared.address.UniqueAddress.{UniqueAddress}
use Rattle.artery_handshake.specs.declared.in_conn.OnReq.{OnReq}
use Rattle.artery_handshake.specs.Incoming.{answer_to_req}
use Rattle.artery_journal.specs.declared.rule.Rule.{Rule as DropRule}
use Rattle.artery_machine.specs.Parts.{kept}
use Rattle.artery_machine.specs.Node.{Inbound, is_number, inbound_at}
use Rattle.artery_machine.specs.Doing.{Doing, in_bytes}
use Rattle.artery_machine.specs.Handshaking.{drops_or, is_asked, requested, request_rule}
use Rattle.artery_meeting.specs.Dropping.{rule_for}

passes : {X : Type 0} (test : X → Bool) (xs : List X) (x : X) → find test xs ≡ Some x → test x ≡ true
passes test [] x h = cc
passes {X} test (y ∷ ys) x h = by (test y) refl h (passes test ys x)
  where
    by : (b : Bool) → test y ≡ b → cond b (Some y) (find test ys) ≡ Some x → (find test ys ≡ Some x → test x ≡ true) → test x ≡ true
    by true e h rest = let same : y ≡ x = cc in ap test (sym same) ∙ e
    by false e h rest = rest h

some_same : {X : Type 0} (x y : X) → Some x ≡ Some y → x ≡ y
some_same x y h = cc

has_number : (number : ℕ) (is : List (Inbound kept)) (i : Inbound kept) → find (is_number number) is ≡ Some i → i.number ≡ number
has_number number is i h = let same : (i.number == number) ≡ true = passes (is_number number) is i h in grind (arith, nat_tests)

-- What is done by the number of the connection, once it was read, is what is done by the connection.
pub is_requested : (number : ℕ) (i j : Inbound kept) (v : UniqueAddress) (to : Address) (its_nonce : Option ℕ) (answer : OnReq) (rule : Option DropRule) (d e : Doing kept in_bytes)
    → inbound_at number d.node ≡ Some i → Some j ≡ inbound_at number d.node → answer ≡ answer_to_req v its_nonce j.state → rule ≡ rule_for d.node answer v to
    → e ≡ drops_or number rule (is_asked number v its_nonce) d → e ≡ requested i v to its_nonce d
is_requested number i j v to its_nonce answer rule d e found read is first done =
    let same : j ≡ i = some_same j i (read ∙ found) in
    done
    ∙ ap (λ r. drops_or number r (is_asked number v its_nonce) d) (first ∙ ap (λ a. rule_for d.node a v to) (is ∙ ap (λ (x : Inbound kept). answer_to_req v its_nonce x.state) same))
    ∙ ap (λ n. drops_or n (request_rule d.node i v to its_nonce) (is_asked n v its_nonce) d) (sym (has_number number d.node.inbound i found))
