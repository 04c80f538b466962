-- The calls of a connection one after the other, and the call that bound it.
use Rattle.std.specs.Prelude.{◌≡◌, ℕ, List, [], ◌∷◌, ◌++◌, Option}
use Rattle.artery_base.specs.declared.address.UniqueAddress.{UniqueAddress}
use Rattle.artery_handshake.specs.declared.out_conn.OutConn.{OutConn}
use Rattle.artery_handshake.specs.declared.out_conn.OnRsp.TheVariants.{Bind}
use Rattle.artery_handshake.specs.declared.in_conn.InState.{InState}
use Rattle.artery_handshake.specs.Outgoing.{conn_dialed, answer_to_rsp, conn_answered, conn_ticked}
use Rattle.artery_handshake.specs.Incoming.{state_after_req}

-- A call of a connection that was dialed, with its arguments.
pub data OutCall : Type 0 where
  dialed : ℕ → OutCall
  answered : ℕ → ℕ → Option ℕ → Option ℕ → OutCall
  ticked : ℕ → OutCall

-- A connection after a call.
abbrev pub conn_called : OutCall → OutConn → OutConn
conn_called (dialed now) c = conn_dialed now c
conn_called (answered me from for_uid its_nonce) c = conn_answered me from for_uid its_nonce c
conn_called (ticked now) c = conn_ticked now c

-- A connection after a list of calls, the first of them first.
abbrev pub conn_after : List OutCall → OutConn → OutConn
conn_after [] c = c
conn_after (call ∷ calls) c = conn_after calls (conn_called call c)

-- A call is an answer of a peer to which a connection says Bind with this UID.
abbrev pub IsBind : ℕ → OutCall → OutConn → Type 0
IsBind uid (dialed now) c = ⊥
IsBind uid (answered me from for_uid its_nonce) c = answer_to_rsp me from for_uid its_nonce c ≡ Bind uid
IsBind uid (ticked now) c = ⊥

-- One of these calls says Bind with this UID.
pub record BindsWithin (uid : ℕ) (calls : List OutCall) (c : OutConn) : Type 0 where
  pub before : List OutCall
  pub call : OutCall
  pub after : List OutCall
  pub place : calls ≡ before ++ call ∷ after
  pub bind : IsBind uid call (conn_after before c)

-- The state of a connection that came in, after a list of requests, the first of them first.
abbrev pub state_after : List (UniqueAddress × Option ℕ) → InState → InState
state_after [] state = state
state_after (request ∷ requests) state = state_after requests (state_after_req request.0 request.1 state)
