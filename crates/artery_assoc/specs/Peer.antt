-- A peer: its address, the UID of its current incarnation, if one is known, and the UIDs that are closed for ever.
use Rattle.std.specs.Prelude.{ℕ, ◌+◌, Bool, false, ◌==◌, nat_le, List, [], ◌∷◌, ◌++◌, length, Option, Some, None, option_to_list, if◌then◌else◌}
use Rattle.std.specs.List.{list_any}
use Rattle.artery_base.specs.declared.address.Address.{Address}
use Rattle.artery_assoc.specs.Limits.{most_incarnations}
use Rattle.artery_assoc.specs.declared.peer.Learn.{Learn}
use Rattle.artery_assoc.specs.declared.peer.Learn.TheVariants.{Learnt, Same, WasClosed, ClosedFull}
use Rattle.artery_assoc.specs.declared.peer.Close.{Close}
use Rattle.artery_assoc.specs.declared.peer.Close.TheVariants.{Closed, AlreadyClosed, NotCurrent}

-- The address, the UID of the current incarnation, and the UIDs that are closed, the first closed first.
pub record PeerState : Type 0 where
  pub address : Address
  pub current : Option ℕ
  pub closed : List ℕ

-- A peer that was just made knows no incarnation.
abbrev pub new_peer : Address → PeerState
new_peer address = record { address = address; current = None; closed = [] }

-- A UID is closed where it is among the closed ones.
abbrev pub is_closed : ℕ → PeerState → Bool
is_closed uid p = list_any (λ c. c == uid) p.closed

-- Whether a UID is the one that is known, if one is.
abbrev pub is_that : ℕ → Option ℕ → Bool
is_that uid None = false
is_that uid (Some current) = current == uid

-- A UID is current where it is the one that is known.
abbrev pub is_current : ℕ → PeerState → Bool
is_current uid p = is_that uid p.current

-- No further UID is learnt where the closed ones and the current one together are 1,024.
abbrev pub is_full : PeerState → Bool
is_full p = nat_le most_incarnations (length p.closed + length (option_to_list p.current))

-- A closed UID is never learnt again; the current one is the same; else it is learnt, if there is room, and the former one is told.
abbrev pub learning : ℕ → PeerState → Learn
learning uid p =
    if is_closed uid p then WasClosed
    else if is_current uid p then Same
    else if is_full p then ClosedFull else Learnt p.current

-- The peer after an answer: a UID that is learnt is current, and a former one is closed; else nothing changes.
abbrev pub peer_after_learn : Learn → ℕ → PeerState → PeerState
peer_after_learn (Learnt former) uid p = record p { current = Some uid; closed = p.closed ++ option_to_list former }
peer_after_learn Same uid p = p
peer_after_learn WasClosed uid p = p
peer_after_learn ClosedFull uid p = p

-- The peer after it was told a UID.
abbrev pub peer_learnt : ℕ → PeerState → PeerState
peer_learnt uid p = peer_after_learn (learning uid p) uid p

-- Only the current UID is closed.
abbrev pub closing : ℕ → PeerState → Close
closing uid p = if is_closed uid p then AlreadyClosed else if is_current uid p then Closed else NotCurrent

-- The peer after an answer: a UID that is closed is among the closed ones and no UID is current; else nothing changes.
abbrev pub peer_after_close : Close → ℕ → PeerState → PeerState
peer_after_close Closed uid p = record p { current = None; closed = p.closed ++ uid ∷ [] }
peer_after_close AlreadyClosed uid p = p
peer_after_close NotCurrent uid p = p

-- The peer after it was told to close a UID.
abbrev pub peer_closed : ℕ → PeerState → PeerState
peer_closed uid p = peer_after_close (closing uid p) uid p

-- A call that changes a peer: it learns a UID or closes one.
pub data PeerCall : Type 0 where
  learns : ℕ → PeerCall
  closes : ℕ → PeerCall

-- The peer after a call.
abbrev pub peer_called : PeerCall → PeerState → PeerState
peer_called (learns uid) p = peer_learnt uid p
peer_called (closes uid) p = peer_closed uid p

-- The peer after a list of calls, the first of them first.
abbrev pub peer_after : List PeerCall → PeerState → PeerState
peer_after [] p = p
peer_after (call ∷ calls) p = peer_after calls (peer_called call p)
