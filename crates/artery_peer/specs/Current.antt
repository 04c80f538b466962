-- What always holds of the UID that is current at a peer.
use Rattle.std.specs.Prelude.{◌≡◌, ℕ, Bool, false, Some, is_some}
use Rattle.artery_assoc.specs.Peer.{PeerState, is_closed}

-- Messages to a peer are numbered exactly where a UID is current, and that UID was not closed.
pub record IsOpen (learnt : Bool) (p : PeerState) : Type 0 where
  pub numbered : learnt ≡ is_some p.current
  pub not_closed : (uid : ℕ) → p.current ≡ Some uid → is_closed uid p ≡ false
