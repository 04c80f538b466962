-- Messages that waited, told one after the other.
use Rattle.std.proofs.Common.{◌≡◌, ℕ, Bool, true, false, suc, ◌+◌, ◌<◌, ◌≤◌, List, [], ◌∷◌, length, drop, get_or, refl, ap, sym, ◌∙◌, arith}
use Rattle.std.specs.Prelude.{Some, None, slice_get, ◌==◌, ◌-◌, if◌then◌else◌}
use Rattle.std.proofs.lemmas.Option.{get_or_from_slice_get, slice_get_within, slice_get-get_or}
use Rattle.std.proofs.lemmas.Bool.Decides.{nat_tests}
use Rattle.std.proofs.lemmas.List.{drop_all}
use Rattle.artery_base.specs.declared.address.Address.{Address}
use Rattle.artery_base.specs.declared.message.SysMsg.{SysMsg}
use Rattle.artery_delivery.specs.Outbound.{Kept, kept_message}
use Rattle.artery_machine.specs.Parts.{kept}
use Rattle.artery_machine.specs.Node.{Node, peer_at}
use Rattle.artery_machine.specs.Doing.{Doing, in_bytes}
use Rattle.artery_machine.specs.Sending.{tells_sent}
use Rattle.artery_machine.specs.Handshaking.{tells_all_sent}
use Rattle.artery_meeting.proofs.Each.{drop_one}

-- The messages that are kept for the peer at an address or wait.
abbrev pub waiting_at : Address → Node kept → List SysMsg
waiting_at address n = (peer_at address n).out.messages

at_place : (told : ℕ) (k : Kept) → kept_message (told + 1) k ≡ slice_get k.messages told
at_place told k = by (told + 1 == 0) refl
  where
    by : (b : Bool) → (told + 1 == 0) ≡ b → (if b then None else slice_get k.messages (told + 1 - 1)) ≡ slice_get k.messages told
    by true e = absurd (grind (arith, nat_tests))
    by false e = let back : told + 1 - 1 ≡ told = omega arith in ap (slice_get k.messages) back

-- One message more is told.
pub next_told : (address : Address) (uid told : ℕ) (m : SysMsg) (d e f : Doing kept in_bytes) (n : Node kept) → Some m ≡ kept_message (told + 1) (peer_at address d.node).out → d.node ≡ n
    → e ≡ tells_sent address (Some uid) (told + 1) m d
    → tells_all_sent address uid (told + 1) (drop told (waiting_at address n)) d ≡ f
    → tells_all_sent address uid (told + 1 + 1) (drop (told + 1) (waiting_at address n)) e ≡ f
next_told address uid told m d e f n next same is so_far =
    let here : slice_get (waiting_at address n) told ≡ Some m = sym (next ∙ at_place told (peer_at address d.node).out ∙ ap (λ (o : Node kept). slice_get (waiting_at address o) told) same) in
    let rest : drop told (waiting_at address n) ≡ m ∷ drop (suc told) (waiting_at address n) =
    drop_one told (waiting_at address n) m m (slice_get_within (waiting_at address n) told m here) (sym (get_or_from_slice_get (waiting_at address n) told m m here)) in
    let step : told + 1 ≡ suc told = omega arith in
    ap (tells_all_sent address uid (told + 1 + 1) (drop (told + 1) (waiting_at address n))) is
    ∙ ap (λ i. tells_all_sent address uid (told + 1 + 1) (drop i (waiting_at address n)) (tells_sent address (Some uid) (told + 1) m d)) step
    ∙ sym (ap (λ ms. tells_all_sent address uid (told + 1) ms d) rest)
    ∙ so_far

some_there : {X : Type 0} (i : ℕ) (xs : List X) → i < length xs → slice_get xs i ≡ None → ⊥
some_there i [] h gone = omega arith
some_there i (x ∷ xs) h gone = let same : None ≡ Some (get_or (x ∷ xs) i x) = sym gone ∙ slice_get-get_or (x ∷ xs) i x h in cc

-- Where fewer were told than wait, there is a next one.
pub none_there : (address : Address) (told waiting : ℕ) (d e f : Doing kept in_bytes) (n : Node kept) → None ≡ kept_message (told + 1) (peer_at address d.node).out → d.node ≡ n
    → told < waiting → waiting ≡ length (waiting_at address n) → e ≡ f
none_there address told waiting d e f n next same less all =
    let within : told < length (waiting_at address n) = omega (arith, less, all) in
    let gone : slice_get (waiting_at address n) told ≡ None = sym (next ∙ at_place told (peer_at address d.node).out ∙ ap (λ (o : Node kept). slice_get (waiting_at address o) told) same) in
    absurd (some_there told (waiting_at address n) within gone)

-- Where as many were told as wait, all are.
pub all_told : (address : Address) (uid told waiting : ℕ) (d f : Doing kept in_bytes) (n : Node kept) → waiting ≤ told → waiting ≡ length (waiting_at address n)
    → tells_all_sent address uid (told + 1) (drop told (waiting_at address n)) d ≡ f → d ≡ f
all_told address uid told waiting d f n past all so_far =
    sym (ap (λ ms. tells_all_sent address uid (told + 1) ms d) (drop_all told (waiting_at address n) (omega (arith, past, all)))) ∙ so_far
