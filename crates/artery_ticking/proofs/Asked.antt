-- The incarnation that is current stays so when it is asked for a heartbeat.
use Rattle.std.proofs.Common.{◌≡◌, ℕ, Bool, true, false, cond, List, [], ◌∷◌, refl, ap, sym, ◌∙◌}
use Rattle.std.specs.Prelude.{Option, Some, None, find}
use Rattle.artery_base.specs.declared.address.Address.{Address}
use Rattle.artery_machine.specs.Lists.{or_else, change_first}
use Rattle.artery_machine.specs.Parts.{kept}
use Rattle.artery_machine.specs.Node.{Peer, new_peer, is_peer, peer_at, current_of}
use Rattle.artery_machine.specs.Doing.{Doing, in_bytes, peer_becomes}
use Rattle.artery_machine.specs.Ticking.{asked_at}

found_after : (test : Peer kept → Bool) (f : Peer kept → Peer kept) (ps : List (Peer kept)) (other : Peer kept)
    → ((p : Peer kept) → test (f p) ≡ test p) → ((p : Peer kept) → current_of (f p) ≡ current_of p)
    → current_of (or_else other (find test (change_first test f ps))) ≡ current_of (or_else other (find test ps))
found_after test f [] other there same = refl
found_after test f (p ∷ ps) other there same = by (test p) refl (found_after test f ps other there same)
  where
    by : (b : Bool) → test p ≡ b → current_of (or_else other (find test (change_first test f ps))) ≡ current_of (or_else other (find test ps))
        → current_of (or_else other (find test (cond b (f p ∷ ps) (p ∷ change_first test f ps)))) ≡ current_of (or_else other (cond b (Some p) (find test ps)))
    by true e rest = ap (λ b. current_of (or_else other (cond b (Some (f p)) (find test ps)))) (there p ∙ e) ∙ same p
    by false e rest = ap (λ b. current_of (or_else other (cond b (Some p) (find test (change_first test f ps))))) e ∙ rest

pub current_stays : (address : Address) (now : ℕ) (d w : Doing kept in_bytes) (current : Option ℕ) → current ≡ current_of (peer_at address d.node)
    → w ≡ peer_becomes address (asked_at now) d → current_of (peer_at address w.node) ≡ current
current_stays address now d w current is work =
    ap (λ (x : Doing kept in_bytes). current_of (peer_at address x.node)) work
    ∙ found_after (is_peer address) (asked_at now) d.node.peers (new_peer address) (λ p. refl) (λ p. refl)
    ∙ sym is
