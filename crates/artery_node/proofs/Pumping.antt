-- Messages that are written one after the other, until none is next.
use Rattle.std.proofs.Common.{◌≡◌, ℕ, zero, suc, ◌-◌, ◌<◌, false, List, refl, ap, sym, ◌∙◌, arith}
use Rattle.std.specs.Prelude.{Option, Some, None, is_some, if◌then◌else◌, ◌+◌}
use Rattle.artery_base.specs.declared.address.Address.{Address}
use Rattle.artery_base.specs.declared.message.SysMsg.{SysMsg}
use Rattle.artery_control.specs.declared.control.Control.TheVariants as controls
use Rattle.artery_delivery.specs.Outbound.{Kept, next_to_write, kept_pumped}
use Rattle.artery_machine.specs.Lists.{or_else}
use Rattle.artery_machine.specs.Parts.{kept}
use Rattle.artery_machine.specs.Node.{Peer, new_peer, is_peer, peer_at, current_of}
use Rattle.artery_machine.specs.Doing.{Doing, Rule, in_bytes, times, peer_becomes}
use Rattle.artery_machine.specs.Closing.{on_control_to}
use Rattle.artery_machine.specs.Sending.{with_out, pumps_next, pumps_one}
use Rattle.artery_node.proofs.Places.{change_same}

none_is : {X : Type 0} (o : Option X) → is_some o ≡ false → o ≡ None
none_is None h = refl
none_is (Some x) h = cc

none_next : (address : Address) (d : Doing kept in_bytes) → next_to_write (peer_at address d.node).out ≡ None → pumps_one address d ≡ d
none_next address d h = ap (λ o. pumps_next address o d) h

times_none : (k : ℕ) (address : Address) (d : Doing kept in_bytes) → next_to_write (peer_at address d.node).out ≡ None → times k (pumps_one address) d ≡ d
times_none zero address d h = refl
times_none (suc k) address d h = ap (times k (pumps_one address)) (none_next address d h) ∙ times_none k address d h

-- Where none was next, all are written.
pub stops : (k : ℕ) (address : Address) (d e f : Doing kept in_bytes) → is_some (next_to_write (peer_at address d.node).out) ≡ false → e ≡ pumps_one address d → times k (pumps_one address) d ≡ f → e ≡ f
stops k address d e f none is all =
    let h = none_is (next_to_write (peer_at address d.node).out) none in
    is ∙ none_next address d h ∙ sym (times_none k address d h) ∙ all

-- One turn more.
pub turn : (k : ℕ) (r : Rule kept in_bytes) (d e : Doing kept in_bytes) → 0 < k → e ≡ r d → times (k - 1) r e ≡ times k r d
turn zero r d e h is = absurd (omega arith)
turn (suc k) r d e h is = let less : suc k - 1 ≡ k = omega arith in rw less (ap (times k r) is)

pumped_by : (k : Kept) (o : Option (ℕ × SysMsg)) → o ≡ None → (if is_some o then record k { written = k.written + 1 } else k) ≡ k
pumped_by k None h = refl
pumped_by k (Some next) h = cc

pumped_none : (k : Kept) → next_to_write k ≡ None → kept_pumped k ≡ k
pumped_none k h = pumped_by k (next_to_write k) h

-- Where none is next, nothing changes.
pub nothing_pumped : (address : Address) (d e : Doing kept in_bytes) → None ≡ next_to_write (peer_at address d.node).out → e ≡ peer_becomes address (with_out kept_pumped) d → e ≡ pumps_one address d
nothing_pumped address d e h is =
    is
    ∙ ap (λ (ps : List (Peer kept)). record d { node = record d.node { peers = ps } })
    (change_same (is_peer address) (with_out kept_pumped) d.node.peers
    (λ x found. ap (λ o. record x { out = o }) (pumped_none x.out (sym (ap (λ (p : Option (Peer kept)). next_to_write (or_else (new_peer address) p).out) found) ∙ sym h))))
    ∙ sym (none_next address d (sym h))

-- The next message is written, and counts as written.
pub one_pumped : (address : Address) (d w e : Doing kept in_bytes) (n : ℕ) (m : SysMsg) (current : Option ℕ) → Some (n, m) ≡ next_to_write (peer_at address d.node).out
    → w ≡ peer_becomes address (with_out kept_pumped) d → current ≡ current_of (peer_at address d.node) → e ≡ on_control_to address current (controls.Numbered n m d.node.me) w
    → e ≡ pumps_one address d
one_pumped address d w e n m current next is now told =
    told
    ∙ ap (on_control_to address current (controls.Numbered n m d.node.me)) is
    ∙ ap (λ c. on_control_to address c (controls.Numbered n m d.node.me) (peer_becomes address (with_out kept_pumped) d)) now
    ∙ ap (λ o. pumps_next address o d) next
