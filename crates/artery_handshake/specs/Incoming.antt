-- A connection that came in: what a handshake request on it answers and leaves, and when exactly.
use Rattle.std.specs.Prelude.{◌≡◌, ◌↔◌, ℕ, Bool, true, false, ◌&&◌, ◌==◌, Option, Some, None, if◌then◌else◌}
use Rattle.artery_base.specs.declared.address.UniqueAddress.{UniqueAddress}
use Rattle.artery_base.specs.contracts.address.UniqueAddressPartialEq.TheImpl as unique_eq
use Rattle.artery_handshake.specs.declared.in_conn.InState.{InState}
use Rattle.artery_handshake.specs.declared.in_conn.InState.TheVariants.{Raw, Known}
use Rattle.artery_handshake.specs.declared.in_conn.OnReq.{OnReq}
use Rattle.artery_handshake.specs.declared.in_conn.OnReq.TheVariants.{Opened, Repeated, OtherOrigin}

-- Whether two unique addresses are equal.
abbrev pub same_origin : UniqueAddress → UniqueAddress → Bool
same_origin = (unique_eq.ghosts).eq

-- Whether two nonces are equal, or both are absent.
abbrev pub same_nonce : Option ℕ → Option ℕ → Bool
same_nonce (Some one) (Some other) = one == other
same_nonce (Some one) None = false
same_nonce None (Some other) = false
same_nonce None None = true

-- The first request opens a connection; a later one repeats it where it has the same origin and the same nonce, and else is another's.
abbrev pub answer_to_req : UniqueAddress → Option ℕ → InState → OnReq
answer_to_req origin its_nonce Raw = Opened
answer_to_req origin its_nonce (Known known shown) = if same_origin known origin && same_nonce shown its_nonce then Repeated else OtherOrigin

-- The state after a request: the first one fixes the origin and the nonce, and any other changes nothing.
abbrev pub state_after_req : UniqueAddress → Option ℕ → InState → InState
state_after_req origin its_nonce Raw = Known origin its_nonce
state_after_req origin its_nonce (Known known shown) = Known known shown

-- When exactly `on_req` answers Opened and Repeated, and what it leaves. OtherOrigin is every other answer.
pub record RequestedExactly (origin : UniqueAddress) (its_nonce : Option ℕ) (old new : InState) (result : OnReq) : Type 0 where
  pub opened : (result ≡ Opened) ↔ (old ≡ Raw)
  pub repeated : (result ≡ Repeated) ↔ (old ≡ Known origin its_nonce)
  pub known : result ≡ Opened → new ≡ Known origin its_nonce
  pub repeated_same : result ≡ Repeated → new ≡ old
  pub other_same : result ≡ OtherOrigin → new ≡ old
