-- A UID that is learnt is current, and not closed.
use Rattle.std.proofs.Common.{◌≡◌, ℕ, Bool, true, false, List, [], ◌∷◌, ◌++◌, refl, ap, sym, ◌∙◌}
use Rattle.std.specs.Prelude.{Option, Some, None, is_some, ◌==◌, ◌||◌, option_to_list, if◌then◌else◌}
use Rattle.std.specs.List.{list_any}
use Rattle.std.proofs.lemmas.List.Folds.{list_any-append}
use Rattle.artery_assoc.specs.Peer.{PeerState, is_closed, is_current, is_that, is_full, learning, peer_learnt, peer_after_learn}
use Rattle.artery_assoc.specs.declared.peer.Learn.{Learn}
use Rattle.artery_assoc.specs.declared.peer.Learn.TheVariants.{Learnt, Same, WasClosed, ClosedFull}
use Rattle.artery_peer.specs.Current.{IsOpen}

-- A UID that would be learnt is not closed,
not_closed : (uid : ℕ) (p : PeerState) → learning uid p ≡ Learnt p.current → is_closed uid p ≡ false
not_closed uid p h = by (is_closed uid p) (is_current uid p) (is_full p) h
  where
    by : (closed current full : Bool) → (if closed then WasClosed else if current then Same else if full then ClosedFull else Learnt p.current) ≡ Learnt p.current → closed ≡ false
    by true current full h = cc
    by false current full h = refl

-- and not current.
not_current : (uid : ℕ) (p : PeerState) → learning uid p ≡ Learnt p.current → is_that uid p.current ≡ false
not_current uid p h = by (is_closed uid p) (is_current uid p) (is_full p) h
  where
    by : (closed current full : Bool) → (if closed then WasClosed else if current then Same else if full then ClosedFull else Learnt p.current) ≡ Learnt p.current → current ≡ false
    by true current full h = cc
    by false true full h = cc
    by false false full h = refl

-- The former UID is the only one that is closed then.
any_former : (uid : ℕ) (former : Option ℕ) → list_any (λ c. c == uid) (option_to_list former) ≡ is_that uid former
any_former uid None = refl
any_former uid (Some c) = by (c == uid)
  where
    by : (b : Bool) → (b || false) ≡ b
    by true = refl
    by false = refl

stays_not_closed : (uid : ℕ) (p : PeerState) → learning uid p ≡ Learnt p.current → list_any (λ c. c == uid) (p.closed ++ option_to_list p.current) ≡ false
stays_not_closed uid p h =
    list_any-append (λ c. c == uid) p.closed (option_to_list p.current)
    ∙ ap (λ b. b || list_any (λ c. c == uid) (option_to_list p.current)) (not_closed uid p h)
    ∙ any_former uid p.current
    ∙ not_current uid p h

opens : (uid : ℕ) (p : PeerState) → learning uid p ≡ Learnt p.current → IsOpen true (peer_after_learn (Learnt p.current) uid p)
opens uid p h = record {
  numbered = refl;
  not_closed = λ other same. let is : uid ≡ other = cc in rw (sym is) (stays_not_closed uid p h);
}

-- Once a UID was learnt, messages are numbered, and it is not closed.
pub is_open : (learnt : Bool) (uid : ℕ) (p q : PeerState) → learnt ≡ true → learning uid p ≡ Learnt p.current → q ≡ peer_learnt uid p → IsOpen learnt q
is_open learnt uid p q numbered h is =
    let same : q ≡ peer_after_learn (Learnt p.current) uid p = is ∙ ap (λ answer. peer_after_learn answer uid p) h in
    rw numbered (rw same (opens uid p h))
