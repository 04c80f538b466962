-- A system message that a peer accepted, or did not.
use Rattle.std.proofs.Common.{◌≡◌, ℕ, Bool, true, false, cond, List, [], ◌∷◌, refl, ap, sym, ◌∙◌}
use Rattle.std.specs.Prelude.{Option, Some, if◌then◌else◌}
use Rattle.std.specs.List.{find}
use Rattle.artery_base.specs.declared.address.Address.{Address}
use Rattle.artery_base.specs.declared.message.SysMsg.{SysMsg}
use Rattle.artery_delivery.specs.declared.outbound.Accept.{Accept}
use Rattle.artery_delivery.specs.declared.outbound.Accept.TheVariants.{Accepted, Waiting, Overflow}
use Rattle.artery_delivery.specs.Outbound.{acceptance, kept_accepted}
use Rattle.artery_machine.specs.Parts.{kept}
use Rattle.artery_assoc.specs.Peer.{PeerState}
use Rattle.artery_machine.specs.Lists.{or_else, change_first}
use Rattle.artery_machine.specs.Node.{Peer, new_peer, same_address, is_peer, peer_at, current_of}
use Rattle.artery_machine.specs.Doing.{Doing, in_bytes, peer_becomes}
use Rattle.artery_machine.specs.Sending.{with_out, keeps_nothing, begins_waiting, sent_as, sends_now}
use Rattle.artery_peer.specs.Accepting.{accepted_by}
use Rattle.artery_node.specs.Steps.{sent, sent_after}
use Rattle.artery_node.proofs.Places.{change_same, change_twice}

-- A peer stays at its address when it begins to wait.
waits_there : (address : Address) (now : ℕ) (p : Peer kept) → is_peer address (begins_waiting now p) ≡ is_peer address p
waits_there address now p = by (keeps_nothing p)
  where
    by : (b : Bool) → is_peer address (if b then record p { quiet = now; patience = now } else p) ≡ is_peer address p
    by true = refl
    by false = refl

-- What a peer becomes by an answer, and what follows then, is what the rule says of that answer.
after_answer : (address : Address) (m : SysMsg) (d : Doing kept in_bytes) (a : Accept)
    → sent_after address (current_of (peer_at address d.node)) m a (peer_becomes address (accepted_by d.node.moment m a) d) ≡ sent_as address m a d
after_answer address m d (Accepted n) =
    ap (λ (ps : List (Peer kept)). sent address (current_of (peer_at address d.node)) n m (record d { node = record d.node { peers = ps } }))
    (sym (change_twice (is_peer address) (begins_waiting d.node.moment) (with_out (kept_accepted m)) d.node.peers (waits_there address d.node.moment)))
after_answer address m d (Waiting place) = refl
after_answer address m d (Overflow back) =
    ap (λ (ps : List (Peer kept)). sent_after address (current_of (peer_at address d.node)) m (Overflow back) (record d { node = record d.node { peers = ps } }))
    (change_same (is_peer address) (λ p. p) d.node.peers (λ p found. refl))

-- The same of the answer that came.
pub accepted_so : (address : Address) (m : SysMsg) (d w e : Doing kept in_bytes) (a : Accept) (current : Option ℕ)
    → a ≡ acceptance m (peer_at address d.node).out
    → w ≡ peer_becomes address (accepted_by d.node.moment m (acceptance m (peer_at address d.node).out)) d
    → current ≡ current_of (peer_at address d.node)
    → e ≡ sent_after address current m a w
    → e ≡ sends_now address m d
accepted_so address m d w e a current is work now told =
    told
    ∙ ap (λ b. sent_after address current m b w) is
    ∙ ap (λ c. sent_after address c m (acceptance m (peer_at address d.node).out) w) now
    ∙ ap (sent_after address (current_of (peer_at address d.node)) m (acceptance m (peer_at address d.node).out)) work
    ∙ after_answer address m d (acceptance m (peer_at address d.node).out)

-- The incarnation that is current stays so when a message is accepted, or not.
keeps_incarnations : (now : ℕ) (m : SysMsg) (a : Accept) (p : Peer kept) → (accepted_by now m a p).incarnations ≡ p.incarnations
keeps_incarnations now m (Accepted n) p = by (keeps_nothing p)
  where
    by : (b : Bool) → (if b then record p { quiet = now; patience = now } else p).incarnations ≡ p.incarnations
    by true = refl
    by false = refl
keeps_incarnations now m (Waiting place) p = refl
keeps_incarnations now m (Overflow back) p = refl

found_after : (test : Peer kept → Bool) (f : Peer kept → Peer kept) (ps : List (Peer kept)) (other : Peer kept)
    → ((p : Peer kept) → test (f p) ≡ test p) → ((p : Peer kept) → (f p).incarnations ≡ p.incarnations)
    → (or_else other (find test (change_first test f ps))).incarnations ≡ (or_else other (find test ps)).incarnations
found_after test f [] other there same = refl
found_after test f (p ∷ ps) other there same = by (test p) refl (found_after test f ps other there same)
  where
    by : (b : Bool) → test p ≡ b → (or_else other (find test (change_first test f ps))).incarnations ≡ (or_else other (find test ps)).incarnations
        → (or_else other (find test (cond b (f p ∷ ps) (p ∷ change_first test f ps)))).incarnations ≡ (or_else other (cond b (Some p) (find test ps))).incarnations
    by true e rest = ap (λ b. (or_else other (cond b (Some (f p)) (find test ps))).incarnations) (there p ∙ e) ∙ same p
    by false e rest = ap (λ b. (or_else other (cond b (Some p) (find test (change_first test f ps)))).incarnations) e ∙ rest

pub current_stays : (address : Address) (m : SysMsg) (d w : Doing kept in_bytes) (a : Accept) (current : Option ℕ) → current ≡ current_of (peer_at address d.node)
    → w ≡ peer_becomes address (accepted_by d.node.moment m a) d → current ≡ current_of (peer_at address w.node)
current_stays address m d w a current now work =
    now
    ∙ sym (ap (λ i. i.current) (found_after (is_peer address) (accepted_by d.node.moment m a) d.node.peers (new_peer address)
    (λ p. ap (λ (i : PeerState). same_address i.address address) (keeps_incarnations d.node.moment m a p)) (keeps_incarnations d.node.moment m a)))
    ∙ ap (λ (x : Doing kept in_bytes). current_of (peer_at address x.node)) (sym work)
