-- A connection that was dialed: what each call answers and leaves, and when exactly.
use Rattle.std.specs.Prelude.{◌≡◌, ◌↔◌, ℕ, ◌+◌, ◌<◌, ◌≤◌, Bool, true, false, IsTrue, ◌&&◌, ◌==◌, nat_le, Option, Some, None, if◌then◌else◌}
use Rattle.artery_handshake.specs.declared.out_conn.OutConn.{OutConn}
use Rattle.artery_handshake.specs.declared.out_conn.OutState.{OutState}
use Rattle.artery_handshake.specs.declared.out_conn.OutState.TheVariants.{Dialing, Asked, Bound}
use Rattle.artery_handshake.specs.declared.out_conn.OnRsp.{OnRsp}
use Rattle.artery_handshake.specs.declared.out_conn.OnRsp.TheVariants.{Bind, Repeat, Stray}
use Rattle.artery_handshake.specs.declared.out_conn.OnTick.{OnTick}
use Rattle.artery_handshake.specs.declared.out_conn.OnTick.TheVariants.{Nothing, AskAgain, GiveUp}

-- Whether a state is Dialing.
abbrev pub state_is_dialing : OutState → Bool
state_is_dialing Dialing = true
state_is_dialing (Asked begun last) = false
state_is_dialing (Bound uid) = false

-- Whether a connection is not up yet.
abbrev pub is_dialing : OutConn → Bool
is_dialing c = state_is_dialing c.state

-- A dialed connection asks for the first time at this moment; in any other state nothing changes.
abbrev pub state_dialed : ℕ → OutState → OutState
state_dialed now Dialing = Asked now now
state_dialed now (Asked begun last) = Asked begun last
state_dialed now (Bound uid) = Bound uid

-- A connection after it is up.
abbrev pub conn_dialed : ℕ → OutConn → OutConn
conn_dialed now c = record c { state = state_dialed now c.state }

-- An answer is meant for a connection where it bears the own UID and the connection's dial number, or where it lacks one of the two.
abbrev pub is_meant : ℕ → ℕ → Option ℕ → Option ℕ → Bool
is_meant me dial (Some uid) (Some its_nonce) = (uid == me) && (its_nonce == dial)
is_meant me dial (Some uid) None = true
is_meant me dial None its_nonce = true

-- An answer that is meant for it binds a connection that asked, and is a repeat on one that is bound to its sender; else it is stray.
abbrev pub answer_in : OutState → ℕ → Bool → OnRsp
answer_in Dialing from meant = Stray
answer_in (Asked begun last) from meant = if meant then Bind from else Stray
answer_in (Bound uid) from meant = if meant && (uid == from) then Repeat else Stray

-- What an answer with these two fields from a UID does to a connection of the node with the UID me.
abbrev pub answer_to_rsp : ℕ → ℕ → Option ℕ → Option ℕ → OutConn → OnRsp
answer_to_rsp me from for_uid its_nonce c = answer_in c.state from (is_meant me c.dial for_uid its_nonce)

-- Bind alone changes the state.
abbrev pub state_after_rsp : OnRsp → OutState → OutState
state_after_rsp (Bind uid) state = Bound uid
state_after_rsp Repeat state = state
state_after_rsp Stray state = state

-- A connection after an answer.
abbrev pub conn_answered : ℕ → ℕ → Option ℕ → Option ℕ → OutConn → OutConn
conn_answered me from for_uid its_nonce c = record c { state = state_after_rsp (answer_to_rsp me from for_uid its_nonce c) c.state }

-- A connection that asked is given up 20,000 ms after its first request, and else asks again 1,000 ms after its last.
abbrev pub due_in : ℕ → OutState → OnTick
due_in now Dialing = Nothing
due_in now (Asked begun last) = if nat_le (begun + 20000) now then GiveUp else if nat_le (last + 1000) now then AskAgain else Nothing
due_in now (Bound uid) = Nothing

-- What is to be done at a moment.
abbrev pub answer_to_tick : ℕ → OutConn → OnTick
answer_to_tick now c = due_in now c.state

-- A connection that asked has done so last at this moment.
abbrev pub asked_last : ℕ → OutState → OutState
asked_last now Dialing = Dialing
asked_last now (Asked begun last) = Asked begun now
asked_last now (Bound uid) = Bound uid

-- AskAgain alone changes the state.
abbrev pub state_after_tick : OnTick → ℕ → OutState → OutState
state_after_tick Nothing now state = state
state_after_tick AskAgain now state = asked_last now state
state_after_tick GiveUp now state = state

-- A connection after a moment.
abbrev pub conn_ticked : ℕ → OutConn → OutConn
conn_ticked now c = record c { state = state_after_tick (answer_to_tick now c) now c.state }

-- An answer has both fields, and they are the own UID and the dial number; or it has not both.
abbrev pub IsMeant : ℕ → ℕ → Option ℕ → Option ℕ → Type 0
IsMeant me dial (Some uid) (Some its_nonce) = (uid ≡ me) × (its_nonce ≡ dial)
IsMeant me dial (Some uid) None = Unit {0}
IsMeant me dial None its_nonce = Unit {0}

-- The state is Asked.
abbrev pub IsAsked : OutState → Type 0
IsAsked Dialing = ⊥
IsAsked (Asked begun last) = Unit {0}
IsAsked (Bound uid) = ⊥

-- When exactly `on_dialed` answers true, and what it leaves.
pub record DialedExactly (now : ℕ) (old new : OutConn) (result : Bool) : Type 0 where
  pub yes : IsTrue result ↔ (old.state ≡ Dialing)
  pub asked : IsTrue result → new ≡ record old { state = Asked now now }
  pub else_same : result ≡ false → new ≡ old

-- When exactly `on_rsp` answers Bind and Repeat, and what it leaves. Stray is every other answer.
pub record AnsweredExactly (me from : ℕ) (for_uid its_nonce : Option ℕ) (old new : OutConn) (result : OnRsp) : Type 0 where
  pub bind : (uid : ℕ) → (result ≡ Bind uid) ↔ (IsAsked old.state × IsMeant me old.dial for_uid its_nonce × (uid ≡ from))
  pub repeat : (result ≡ Repeat) ↔ ((old.state ≡ Bound from) × IsMeant me old.dial for_uid its_nonce)
  pub bound : (uid : ℕ) → result ≡ Bind uid → new ≡ record old { state = Bound uid }
  pub repeat_same : result ≡ Repeat → new ≡ old
  pub stray_same : result ≡ Stray → new ≡ old

-- The far side did not answer for 20,000 ms since it was first asked.
abbrev pub IsOverdue : ℕ → OutState → Type 0
IsOverdue now Dialing = ⊥
IsOverdue now (Asked begun last) = begun + 20000 ≤ now
IsOverdue now (Bound uid) = ⊥

-- The far side is not overdue, and did not answer for 1,000 ms since it was last asked.
abbrev pub IsToBeAsked : ℕ → OutState → Type 0
IsToBeAsked now Dialing = ⊥
IsToBeAsked now (Asked begun last) = (now < begun + 20000) × (last + 1000 ≤ now)
IsToBeAsked now (Bound uid) = ⊥

-- When exactly `on_tick` answers GiveUp and AskAgain, and what it leaves. Nothing is every other answer.
pub record TickedExactly (now : ℕ) (old new : OutConn) (result : OnTick) : Type 0 where
  pub give_up : (result ≡ GiveUp) ↔ IsOverdue now old.state
  pub again : (result ≡ AskAgain) ↔ IsToBeAsked now old.state
  pub asked : (begun last : ℕ) → result ≡ AskAgain → old.state ≡ Asked begun last → new ≡ record old { state = Asked begun now }
  pub give_up_same : result ≡ GiveUp → new ≡ old
  pub nothing_same : result ≡ Nothing → new ≡ old
