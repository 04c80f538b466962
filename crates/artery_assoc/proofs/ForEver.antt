-- A closed UID stays closed.
use Rattle.std.proofs.Common.{◌≡◌, ℕ, Bool, true, false, List, [], ◌∷◌, ◌++◌, refl, sym, true≢false, arith}
use Rattle.std.specs.Prelude.{◌==◌, ◌||◌, Some, option_to_list}
use Rattle.std.specs.List.{list_any}
use Rattle.std.proofs.lemmas.Bool.Decides.{nat_tests}
use Rattle.artery_assoc.specs.declared.peer.Learn.{Learn}
use Rattle.artery_assoc.specs.declared.peer.Learn.TheVariants.{Learnt, Same, WasClosed, ClosedFull}
use Rattle.artery_assoc.specs.declared.peer.Close.{Close}
use Rattle.artery_assoc.specs.declared.peer.Close.TheVariants.{Closed, AlreadyClosed, NotCurrent}
use Rattle.artery_assoc.specs.Peer.{PeerState, PeerCall, learns, closes, is_closed, learning, closing, peer_learnt, peer_closed, peer_after_learn, peer_after_close, peer_called, peer_after}

pub any_before : (test : ℕ → Bool) (xs ys : List ℕ) → list_any test xs ≡ true → list_any test (xs ++ ys) ≡ true
any_before test [] ys h = absurd (true≢false (sym h))
any_before test (x ∷ xs) ys h = by (test x) h (any_before test xs ys)
  where
    by : (b : Bool) → (b || list_any test xs) ≡ true → (list_any test xs ≡ true → list_any test (xs ++ ys) ≡ true) → (b || list_any test (xs ++ ys)) ≡ true
    by true h rest = refl
    by false h rest = rest h

pub any_last : (uid : ℕ) (xs : List ℕ) → list_any (λ c. c == uid) (xs ++ uid ∷ []) ≡ true
any_last uid [] = grind (arith, nat_tests)
any_last uid (x ∷ xs) = by (x == uid) (any_last uid xs)
  where
    by : (b : Bool) → list_any (λ c. c == uid) (xs ++ uid ∷ []) ≡ true → (b || list_any (λ c. c == uid) (xs ++ uid ∷ [])) ≡ true
    by true rest = refl
    by false rest = rest

pub learn_keeps : (uid other : ℕ) (p : PeerState) → is_closed other p ≡ true → is_closed other (peer_learnt uid p) ≡ true
learn_keeps uid other p h = by (learning uid p)
  where
    by : (answer : Learn) → is_closed other (peer_after_learn answer uid p) ≡ true
    by (Learnt former) = any_before (λ c. c == other) p.closed (option_to_list former) h
    by Same = h
    by WasClosed = h
    by ClosedFull = h

pub close_keeps : (uid other : ℕ) (p : PeerState) → is_closed other p ≡ true → is_closed other (peer_closed uid p) ≡ true
close_keeps uid other p h = by (closing uid p)
  where
    by : (answer : Close) → is_closed other (peer_after_close answer uid p) ≡ true
    by Closed = any_before (λ c. c == other) p.closed (uid ∷ []) h
    by AlreadyClosed = h
    by NotCurrent = h

call_keeps : (other : ℕ) (call : PeerCall) (p : PeerState) → is_closed other p ≡ true → is_closed other (peer_called call p) ≡ true
call_keeps other (learns uid) p h = learn_keeps uid other p h
call_keeps other (closes uid) p h = close_keeps uid other p h

pub stays_closed : (other : ℕ) (p : PeerState) (calls : List PeerCall) → is_closed other p ≡ true → is_closed other (peer_after calls p) ≡ true
stays_closed other p [] h = h
stays_closed other p (call ∷ calls) h = stays_closed other (peer_called call p) calls (call_keeps other call p h)

pub former_is_closed : (uid former : ℕ) (p : PeerState) → learning uid p ≡ Learnt (Some former) → is_closed former (peer_learnt uid p) ≡ true
former_is_closed uid former p h = rw h (any_last former p.closed)

pub closed_is_closed : (uid : ℕ) (p : PeerState) → closing uid p ≡ Closed → is_closed uid (peer_closed uid p) ≡ true
closed_is_closed uid p h = rw h (any_last uid p.closed)
