-- When exactly each answer comes.
use Rattle.std.proofs.Common.{◌≡◌, ℕ, ◌+◌, ◌<◌, ◌≤◌, Bool, true, false, true≢false, refl, ap, sym, arith, rules}
use Rattle.std.specs.Prelude.{Option, Some, None, ◌&&◌, ◌==◌, nat_le, if◌then◌else◌}
use Rattle.std.specs.Cmp.Rules.{comparing}
use Rattle.std.proofs.lemmas.Bool.Decides.{nat_tests}
use Rattle.artery_base.specs.declared.address.UniqueAddress.{UniqueAddress}
use Rattle.artery_frame.specs.declared.stream.Stream.{Stream}
use Rattle.artery_handshake.specs.declared.out_conn.OutConn.{OutConn}
use Rattle.artery_handshake.specs.declared.out_conn.OutState.{OutState}
use Rattle.artery_handshake.specs.declared.out_conn.OutState.TheVariants.{Dialing, Asked, Bound}
use Rattle.artery_handshake.specs.declared.out_conn.OnRsp.{OnRsp}
use Rattle.artery_handshake.specs.declared.out_conn.OnRsp.TheVariants.{Bind, Repeat, Stray}
use Rattle.artery_handshake.specs.declared.out_conn.OnTick.{OnTick}
use Rattle.artery_handshake.specs.declared.out_conn.OnTick.TheVariants.{Nothing, AskAgain, GiveUp}
use Rattle.artery_handshake.specs.declared.in_conn.InState.{InState}
use Rattle.artery_handshake.specs.declared.in_conn.InState.TheVariants.{Raw, Known}
use Rattle.artery_handshake.specs.declared.in_conn.OnReq.{OnReq}
use Rattle.artery_handshake.specs.declared.in_conn.OnReq.TheVariants.{Repeated, OtherOrigin}
use Rattle.artery_handshake.specs.Outgoing.{state_is_dialing, is_dialing, state_dialed, conn_dialed, is_meant, IsMeant, answer_in, answer_to_rsp, state_after_rsp, conn_answered, due_in, answer_to_tick, state_after_tick, conn_ticked, DialedExactly, AnsweredExactly, TickedExactly}
use Rattle.artery_handshake.specs.Incoming.{same_origin, same_nonce, answer_to_req, state_after_req, RequestedExactly}

-- a dial that is up
dialed_in : (now dial : ℕ) (stream : Stream) (s : OutState) → DialedExactly now (record { dial = dial; stream = stream; state = s }) (record { dial = dial; stream = stream; state = state_dialed now s }) (state_is_dialing s)
dialed_in now dial stream Dialing = record { yes = (λ h. refl, λ h. refl); asked = λ h. refl; else_same = λ h. cc }
dialed_in now dial stream (Asked begun last) = record { yes = (λ h. cc, λ h. cc); asked = λ h. cc; else_same = λ h. refl }
dialed_in now dial stream (Bound uid) = record { yes = (λ h. cc, λ h. cc); asked = λ h. cc; else_same = λ h. refl }

pub dialed_exactly : (now : ℕ) (old new : OutConn) (result : Bool) → result ≡ is_dialing old → new ≡ conn_dialed now old → DialedExactly now old new result
dialed_exactly now old new result is left = rw (is, left) (dialed_in now old.dial old.stream old.state)

-- the test of the two fields
meant_is : (me dial : ℕ) (for_uid its_nonce : Option ℕ) → is_meant me dial for_uid its_nonce ≡ true → IsMeant me dial for_uid its_nonce
meant_is me dial (Some uid) (Some n) h = (grind (arith, nat_tests), grind (arith, nat_tests))
meant_is me dial (Some uid) None h = tt
meant_is me dial None its_nonce h = tt

is_meant_where : (me dial : ℕ) (for_uid its_nonce : Option ℕ) → IsMeant me dial for_uid its_nonce → is_meant me dial for_uid its_nonce ≡ true
is_meant_where me dial (Some uid) (Some n) h = let a : uid ≡ me = h.0 in let b : n ≡ dial = h.1 in grind (arith, nat_tests)
is_meant_where me dial (Some uid) None h = refl
is_meant_where me dial None its_nonce h = refl

-- an answer in each state
module _ (me from dial : ℕ) (for_uid its_nonce : Option ℕ) (stream : Stream) where
  abbrev AnsweredIn : OutState → OnRsp → Type 0
  AnsweredIn s answer = AnsweredExactly me from for_uid its_nonce (record { dial = dial; stream = stream; state = s }) (record { dial = dial; stream = stream; state = state_after_rsp answer s }) answer

  in_dialing : AnsweredIn Dialing Stray
  in_dialing = record {
    bind = λ uid. (λ h. cc, λ p. absurd p.0);
    repeat = (λ h. cc, λ p. let e : Dialing ≡ Bound from = p.0 in cc);
    bound = λ uid h. cc;
    repeat_same = λ h. refl;
    stray_same = λ h. refl;
  }

  in_asked : (begun last : ℕ) (meant : Bool) → (meant ≡ true → IsMeant me dial for_uid its_nonce) → (IsMeant me dial for_uid its_nonce → meant ≡ true) → AnsweredIn (Asked begun last) (if meant then Bind from else Stray)
  in_asked begun last true then_so only_then = record {
    bind = λ uid. (λ h. (tt, then_so refl, (let e : Bind from ≡ Bind uid = h in cc)), λ p. ap Bind (sym p.2));
    repeat = (λ h. cc, λ p. let e : Asked begun last ≡ Bound from = p.0 in cc);
    bound = λ uid h. (let e : Bind from ≡ Bind uid = h in let same : from ≡ uid = cc in ap (λ (x : ℕ). record { dial = dial; stream = stream; state = Bound x }) same);
    repeat_same = λ h. cc;
    stray_same = λ h. cc;
  }
  in_asked begun last false then_so only_then = record {
    bind = λ uid. (λ h. cc, λ p. absurd (true≢false (sym (only_then p.1))));
    repeat = (λ h. cc, λ p. let e : Asked begun last ≡ Bound from = p.0 in cc);
    bound = λ uid h. cc;
    repeat_same = λ h. refl;
    stray_same = λ h. refl;
  }

  in_bound : (uid : ℕ) (both : Bool) → (both ≡ true → (uid ≡ from) × IsMeant me dial for_uid its_nonce) → (uid ≡ from → IsMeant me dial for_uid its_nonce → both ≡ true) → AnsweredIn (Bound uid) (if both then Repeat else Stray)
  in_bound uid true then_so only_then = record {
    bind = λ other. (λ h. cc, λ p. absurd p.0);
    repeat = (λ h. (ap Bound (then_so refl).0, (then_so refl).1), λ p. refl);
    bound = λ other h. cc;
    repeat_same = λ h. refl;
    stray_same = λ h. refl;
  }
  in_bound uid false then_so only_then = record {
    bind = λ other. (λ h. cc, λ p. absurd p.0);
    repeat = (λ h. cc, λ p. (let e : Bound uid ≡ Bound from = p.0 in let same : uid ≡ from = cc in absurd (true≢false (sym (only_then same p.1)))));
    bound = λ other h. cc;
    repeat_same = λ h. refl;
    stray_same = λ h. refl;
  }

both_are : (meant : Bool) (uid from : ℕ) → (meant && (uid == from)) ≡ true → (uid ≡ from) × (meant ≡ true)
both_are true uid from h = (grind (arith, nat_tests), refl)
both_are false uid from h = cc

are_both : (meant : Bool) (uid from : ℕ) → uid ≡ from → meant ≡ true → (meant && (uid == from)) ≡ true
are_both meant uid from same then_so = grind (arith, nat_tests)

answered_in : (me from dial : ℕ) (for_uid its_nonce : Option ℕ) (stream : Stream) (s : OutState)
    → AnsweredExactly me from for_uid its_nonce (record { dial = dial; stream = stream; state = s }) (record { dial = dial; stream = stream; state = state_after_rsp (answer_in s from (is_meant me dial for_uid its_nonce)) s }) (answer_in s from (is_meant me dial for_uid its_nonce))
answered_in me from dial for_uid its_nonce stream Dialing = in_dialing me from dial for_uid its_nonce stream
answered_in me from dial for_uid its_nonce stream (Asked begun last) = in_asked me from dial for_uid its_nonce stream begun last (is_meant me dial for_uid its_nonce) (meant_is me dial for_uid its_nonce) (is_meant_where me dial for_uid its_nonce)
answered_in me from dial for_uid its_nonce stream (Bound uid) =
    in_bound me from dial for_uid its_nonce stream uid (is_meant me dial for_uid its_nonce && (uid == from))
    (λ h. let b = both_are (is_meant me dial for_uid its_nonce) uid from h in (b.0, meant_is me dial for_uid its_nonce b.1))
    (λ same meant. are_both (is_meant me dial for_uid its_nonce) uid from same (is_meant_where me dial for_uid its_nonce meant))

pub answered_exactly : (me from : ℕ) (for_uid its_nonce : Option ℕ) (old new : OutConn) (result : OnRsp) → result ≡ answer_to_rsp me from for_uid its_nonce old → new ≡ conn_answered me from for_uid its_nonce old → AnsweredExactly me from for_uid its_nonce old new result
answered_exactly me from for_uid its_nonce old new result is left = rw (is, left) (answered_in me from old.dial for_uid its_nonce old.stream old.state)

-- a moment in each state
late_is : (limit now : ℕ) → nat_le limit now ≡ true → limit ≤ now
late_is limit now h = grind (arith, nat_tests)

early_is : (limit now : ℕ) → nat_le limit now ≡ false → now < limit
early_is limit now h = grind (arith, nat_tests)

module _ (now dial : ℕ) (stream : Stream) where
  abbrev TickedIn : OutState → OnTick → Type 0
  TickedIn s due = TickedExactly now (record { dial = dial; stream = stream; state = s }) (record { dial = dial; stream = stream; state = state_after_tick due now s }) due

  in_dialing_tick : TickedIn Dialing Nothing
  in_dialing_tick = record {
    give_up = (λ h. cc, λ p. absurd p);
    again = (λ h. cc, λ p. absurd p);
    asked = λ begun last h e. cc;
    give_up_same = λ h. refl;
    nothing_same = λ h. refl;
  }

  in_bound_tick : (uid : ℕ) → TickedIn (Bound uid) Nothing
  in_bound_tick uid = record {
    give_up = (λ h. cc, λ p. absurd p);
    again = (λ h. cc, λ p. absurd p);
    asked = λ begun last h e. cc;
    give_up_same = λ h. refl;
    nothing_same = λ h. refl;
  }

  in_asked_tick : (begun last : ℕ) (over due : Bool) → (over ≡ true → begun + 20000 ≤ now) → (over ≡ false → now < begun + 20000) → (due ≡ true → last + 1000 ≤ now) → (due ≡ false → now < last + 1000)
      → TickedIn (Asked begun last) (if over then GiveUp else if due then AskAgain else Nothing)
  in_asked_tick begun last true due late early is not_yet = record {
    give_up = (λ h. late refl, λ p. refl);
    again = (λ h. cc, λ p. (let a : begun + 20000 ≤ now = late refl in let b : now < begun + 20000 = p.0 in absurd (omega arith)));
    asked = λ begun' last' h e. cc;
    give_up_same = λ h. refl;
    nothing_same = λ h. refl;
  }
  in_asked_tick begun last false true late early is not_yet = record {
    give_up = (λ h. cc, λ p. (let a : begun + 20000 ≤ now = p in let b : now < begun + 20000 = early refl in absurd (omega arith)));
    again = (λ h. (early refl, is refl), λ p. refl);
    asked = λ begun' last' h e. (let same : begun ≡ begun' = cc in ap (λ (x : ℕ). record { dial = dial; stream = stream; state = Asked x now }) same);
    give_up_same = λ h. cc;
    nothing_same = λ h. cc;
  }
  in_asked_tick begun last false false late early is not_yet = record {
    give_up = (λ h. cc, λ p. (let a : begun + 20000 ≤ now = p in let b : now < begun + 20000 = early refl in absurd (omega arith)));
    again = (λ h. cc, λ p. (let a : last + 1000 ≤ now = p.1 in let b : now < last + 1000 = not_yet refl in absurd (omega arith)));
    asked = λ begun' last' h e. cc;
    give_up_same = λ h. refl;
    nothing_same = λ h. refl;
  }

ticked_in : (now dial : ℕ) (stream : Stream) (s : OutState) → TickedExactly now (record { dial = dial; stream = stream; state = s }) (record { dial = dial; stream = stream; state = state_after_tick (due_in now s) now s }) (due_in now s)
ticked_in now dial stream Dialing = in_dialing_tick now dial stream
ticked_in now dial stream (Asked begun last) =
    in_asked_tick now dial stream begun last (nat_le (begun + 20000) now) (nat_le (last + 1000) now)
    (late_is (begun + 20000) now) (early_is (begun + 20000) now) (late_is (last + 1000) now) (early_is (last + 1000) now)
ticked_in now dial stream (Bound uid) = in_bound_tick now dial stream uid

pub ticked_exactly : (now : ℕ) (old new : OutConn) (result : OnTick) → result ≡ answer_to_tick now old → new ≡ conn_ticked now old → TickedExactly now old new result
ticked_exactly now old new result is left = rw (is, left) (ticked_in now old.dial old.stream old.state)

-- a request in each state
same_is : (a b : UniqueAddress) → same_origin a b ≡ true → a ≡ b
same_is a b h = search (comparing, rules)

same_self : (a : UniqueAddress) → same_origin a a ≡ true
same_self a = search (comparing, rules)

nonce_is : (a b : Option ℕ) → same_nonce a b ≡ true → a ≡ b
nonce_is (Some a) (Some b) h = let same : a ≡ b = grind (arith, nat_tests) in ap Some same
nonce_is (Some a) None h = cc
nonce_is None (Some b) h = cc
nonce_is None None h = refl

nonce_self : (a : Option ℕ) → same_nonce a a ≡ true
nonce_self (Some a) = grind (arith, nat_tests)
nonce_self None = refl

both_true : (a b : Bool) → (a && b) ≡ true → (a ≡ true) × (b ≡ true)
both_true true b h = (refl, h)
both_true false b h = cc

in_known : (origin known : UniqueAddress) (its_nonce shown : Option ℕ) (same : Bool) → (same ≡ true → Known known shown ≡ Known origin its_nonce) → (Known known shown ≡ Known origin its_nonce → same ≡ true)
    → RequestedExactly origin its_nonce (Known known shown) (Known known shown) (if same then Repeated else OtherOrigin)
in_known origin known its_nonce shown true then_so only_then = record {
  opened = (λ h. cc, λ p. cc);
  repeated = (λ h. then_so refl, λ p. refl);
  known = λ h. cc;
  repeated_same = λ h. refl;
  other_same = λ h. refl;
}
in_known origin known its_nonce shown false then_so only_then = record {
  opened = (λ h. cc, λ p. cc);
  repeated = (λ h. cc, λ p. absurd (true≢false (sym (only_then p))));
  known = λ h. cc;
  repeated_same = λ h. refl;
  other_same = λ h. refl;
}

known_are : (a b : UniqueAddress) (m n : Option ℕ) → a ≡ b → m ≡ n → Known a m ≡ Known b n
known_are a b m n e f = rw (e, f) refl

same_where : (a b : UniqueAddress) (m n : Option ℕ) → Known a m ≡ Known b n → (same_origin a b && same_nonce m n) ≡ true
same_where a b m n h = let e : a ≡ b = cc in let f : m ≡ n = cc in rw (e, f, same_self b, nonce_self n) refl

requested_in : (origin : UniqueAddress) (its_nonce : Option ℕ) (s : InState) → RequestedExactly origin its_nonce s (state_after_req origin its_nonce s) (answer_to_req origin its_nonce s)
requested_in origin its_nonce Raw = record {
  opened = (λ h. refl, λ p. refl);
  repeated = (λ h. cc, λ p. cc);
  known = λ h. refl;
  repeated_same = λ h. cc;
  other_same = λ h. cc;
}
requested_in origin its_nonce (Known known shown) =
    in_known origin known its_nonce shown (same_origin known origin && same_nonce shown its_nonce)
    (λ h. let b = both_true (same_origin known origin) (same_nonce shown its_nonce) h in known_are known origin shown its_nonce (same_is known origin b.0) (nonce_is shown its_nonce b.1))
    (same_where known origin shown its_nonce)

pub requested_exactly : (origin : UniqueAddress) (its_nonce : Option ℕ) (old new : InState) (result : OnReq) → result ≡ answer_to_req origin its_nonce old → new ≡ state_after_req origin its_nonce old → RequestedExactly origin its_nonce old new result
requested_exactly origin its_nonce old new result is left = rw (is, left) (requested_in origin its_nonce old)
