-- What lists of calls leave of a connection.
use Rattle.std.proofs.Common.{◌≡◌, ℕ, Bool, true, false, List, [], ◌∷◌, refl, ap, ◌∙◌, inl, inr, ◌⊎◌}
use Rattle.std.specs.Prelude.{Option, ◌&&◌, ◌==◌, if◌then◌else◌}
use Rattle.artery_base.specs.declared.address.UniqueAddress.{UniqueAddress}
use Rattle.artery_handshake.specs.declared.out_conn.OutConn.{OutConn}
use Rattle.artery_handshake.specs.declared.out_conn.OutState.{OutState}
use Rattle.artery_handshake.specs.declared.out_conn.OutState.TheVariants.{Dialing, Asked, Bound}
use Rattle.artery_handshake.specs.declared.out_conn.OnRsp.{OnRsp}
use Rattle.artery_handshake.specs.declared.out_conn.OnRsp.TheVariants.{Bind, Repeat, Stray}
use Rattle.artery_handshake.specs.declared.out_conn.OnTick.{OnTick}
use Rattle.artery_handshake.specs.declared.out_conn.OnTick.TheVariants.{Nothing, AskAgain, GiveUp}
use Rattle.artery_handshake.specs.declared.in_conn.InState.TheVariants.{Known}
use Rattle.artery_handshake.specs.Outgoing.{state_dialed, is_meant, answer_in, answer_to_rsp, state_after_rsp, answer_to_tick, state_after_tick}
use Rattle.artery_handshake.specs.Runs.{OutCall, dialed, answered, ticked, conn_called, conn_after, IsBind, BindsWithin, state_after}

-- a state that is bound after a call was so before, or the call is a Bind
dialed_bound : (uid now : ℕ) (s : OutState) → state_dialed now s ≡ Bound uid → s ≡ Bound uid
dialed_bound uid now Dialing h = cc
dialed_bound uid now (Asked begun last) h = h
dialed_bound uid now (Bound other) h = h

bind_has : (uid other : ℕ) → Bound other ≡ Bound uid → Bind other ≡ Bind uid
bind_has uid other h = let same : other ≡ uid = cc in ap Bind same

answered_bound : (uid : ℕ) (answer : OnRsp) (s : OutState) → state_after_rsp answer s ≡ Bound uid → (s ≡ Bound uid) ⊎ (answer ≡ Bind uid)
answered_bound uid (Bind other) s h = inr (bind_has uid other h)
answered_bound uid Repeat s h = inl h
answered_bound uid Stray s h = inl h

ticked_bound : (uid now : ℕ) (due : OnTick) (s : OutState) → state_after_tick due now s ≡ Bound uid → s ≡ Bound uid
ticked_bound uid now Nothing s h = h
ticked_bound uid now AskAgain Dialing h = h
ticked_bound uid now AskAgain (Asked begun last) h = cc
ticked_bound uid now AskAgain (Bound other) h = h
ticked_bound uid now GiveUp s h = h

call_bound : (uid : ℕ) (call : OutCall) (c : OutConn) → (conn_called call c).state ≡ Bound uid → (c.state ≡ Bound uid) ⊎ IsBind uid call c
call_bound uid (dialed now) c h = inl (dialed_bound uid now c.state h)
call_bound uid (answered me from for_uid its_nonce) c h = answered_bound uid (answer_to_rsp me from for_uid its_nonce c) c.state h
call_bound uid (ticked now) c h = inl (ticked_bound uid now (answer_to_tick now c) c.state h)

pub bound_by : (uid : ℕ) (calls : List OutCall) (c : OutConn) → (conn_after calls c).state ≡ Bound uid → (c.state ≡ Bound uid) ⊎ BindsWithin uid calls c
bound_by uid [] c h = inl h
bound_by uid (call ∷ calls) c h = at (bound_by uid calls (conn_called call c) h)
  where
    first : (c.state ≡ Bound uid) ⊎ IsBind uid call c → (c.state ≡ Bound uid) ⊎ BindsWithin uid (call ∷ calls) c
    first (inl was) = inl was
    first (inr bind) = inr (record { before = []; call = call; after = calls; place = refl; bind = bind })

    at : ((conn_called call c).state ≡ Bound uid) ⊎ BindsWithin uid calls (conn_called call c) → (c.state ≡ Bound uid) ⊎ BindsWithin uid (call ∷ calls) c
    at (inl now) = first (call_bound uid call c now)
    at (inr later) = inr (record { before = call ∷ later.before; call = later.call; after = later.after; place = ap (λ (rest : List OutCall). call ∷ rest) later.place; bind = later.bind })

-- a bound connection stays so
repeats_or_stray : (uid : ℕ) (yes : Bool) → state_after_rsp (if yes then Repeat else Stray) (Bound uid) ≡ Bound uid
repeats_or_stray uid true = refl
repeats_or_stray uid false = refl

answered_stays : (uid from : ℕ) (meant : Bool) (s : OutState) → s ≡ Bound uid → state_after_rsp (answer_in s from meant) s ≡ Bound uid
answered_stays uid from meant s h = rw h (repeats_or_stray uid (meant && (uid == from)))

call_stays : (uid : ℕ) (call : OutCall) (c : OutConn) → c.state ≡ Bound uid → (conn_called call c).state ≡ Bound uid
call_stays uid (dialed now) c h = rw h refl
call_stays uid (answered me from for_uid its_nonce) c h = answered_stays uid from (is_meant me c.dial for_uid its_nonce) c.state h
call_stays uid (ticked now) c h = rw h refl

pub stays_bound : (uid : ℕ) (calls : List OutCall) (c : OutConn) → c.state ≡ Bound uid → (conn_after calls c).state ≡ Bound uid
stays_bound uid [] c h = h
stays_bound uid (call ∷ calls) c h = stays_bound uid calls (conn_called call c) (call_stays uid call c h)

-- no call changes the dial number and the stream
call_dial : (call : OutCall) (c : OutConn) → (conn_called call c).dial ≡ c.dial
call_dial (dialed now) c = refl
call_dial (answered me from for_uid its_nonce) c = refl
call_dial (ticked now) c = refl

pub same_dial : (calls : List OutCall) (c : OutConn) → (conn_after calls c).dial ≡ c.dial
same_dial [] c = refl
same_dial (call ∷ calls) c = same_dial calls (conn_called call c) ∙ call_dial call c

call_stream : (call : OutCall) (c : OutConn) → (conn_called call c).stream ≡ c.stream
call_stream (dialed now) c = refl
call_stream (answered me from for_uid its_nonce) c = refl
call_stream (ticked now) c = refl

pub same_stream : (calls : List OutCall) (c : OutConn) → (conn_after calls c).stream ≡ c.stream
same_stream [] c = refl
same_stream (call ∷ calls) c = same_stream calls (conn_called call c) ∙ call_stream call c

-- an opened connection stays as it is
pub stays_known : (origin : UniqueAddress) (its_nonce : Option ℕ) (requests : List (UniqueAddress × Option ℕ)) → state_after requests (Known origin its_nonce) ≡ Known origin its_nonce
stays_known origin its_nonce [] = refl
stays_known origin its_nonce (request ∷ requests) = stays_known origin its_nonce requests
