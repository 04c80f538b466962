-- What one more ask or heartbeat changes in the whole list.
use Rattle.std.proofs.Common.{◌≡◌, ℕ, ◌+◌, Bool, true, false, List, [], ◌∷◌, ◌++◌, refl, ap, ◌∙◌, sym}
use Rattle.std.specs.Prelude.{Option, Some, None, option_to_list, nat_le, if◌then◌else◌}
use Rattle.std.specs.List.{find}
use Rattle.std.specs.Option.{option_or}
use Rattle.std.proofs.lemmas.List.Folds.{find-append}
use Rattle.artery_detector.specs.Availability.{Beat, ask, heartbeat, asks, noted, unheard_asks, first_in_time, counted_ask, heartbeats, head_of, last_of, last_after, is_recent, is_available}
use Rattle.artery_detector.specs.Kept.{Kept, heard_after, asked_after, kept_asked, kept_heard, kept_available, Stands}

-- the lists after one ask more
asks_asked : (now : ℕ) (b : List Beat) → asks (b ++ ask now ∷ []) ≡ asks b ++ now ∷ []
asks_asked now [] = refl
asks_asked now (ask m ∷ b) = ap (λ (xs : List ℕ). m ∷ xs) (asks_asked now b)
asks_asked now (heartbeat m ∷ b) = asks_asked now b

noted_asked : (now : ℕ) (b : List Beat) → noted (b ++ ask now ∷ []) ≡ noted b
noted_asked now [] = refl
noted_asked now (ask m ∷ b) = noted_asked now b
noted_asked now (heartbeat m ∷ b) = ap (λ (xs : List ℕ). m ∷ xs) (noted_asked now b)

-- an ask is heard of nothing before it where nothing was noted
abbrev with_ask : ℕ → List ℕ → List ℕ → List ℕ
with_ask now u [] = u ++ now ∷ []
with_ask now u (x ∷ n) = u

with_more : (now m : ℕ) (u n : List ℕ) → m ∷ with_ask now u n ≡ with_ask now (m ∷ u) n
with_more now m u [] = refl
with_more now m u (x ∷ n) = refl

unheard_asked : (now : ℕ) (b : List Beat) → unheard_asks (b ++ ask now ∷ []) ≡ with_ask now (unheard_asks b) (noted b)
unheard_asked now [] = refl
unheard_asked now (ask m ∷ b) = ap (λ (xs : List ℕ). m ∷ xs) (unheard_asked now b) ∙ with_more now m (unheard_asks b) (noted b)
unheard_asked now (heartbeat m ∷ b) = refl

-- where nothing was noted, all asks have nothing heard before them
abbrev SameWhereNone : List ℕ → List ℕ → List ℕ → Type 0
SameWhereNone u a [] = u ≡ a
SameWhereNone u a (x ∷ n) = Unit {0}

same_with : (m : ℕ) (u a n : List ℕ) → SameWhereNone u a n → SameWhereNone (m ∷ u) (m ∷ a) n
same_with m u a [] h = ap (λ (xs : List ℕ). m ∷ xs) h
same_with m u a (x ∷ n) h = tt

unheard_are_asks : (b : List Beat) → SameWhereNone (unheard_asks b) (asks b) (noted b)
unheard_are_asks [] = refl
unheard_are_asks (ask m ∷ b) = same_with m (unheard_asks b) (asks b) (noted b) (unheard_are_asks b)
unheard_are_asks (heartbeat m ∷ b) = tt

-- the last heartbeat after one ask more
abbrev last_heard : List ℕ → List ℕ → Option ℕ
last_heard u n = last_of (option_to_list (first_in_time u) ++ n)

last_or_later : (now f : ℕ) (found : Option ℕ) → heard_after now f (last_of (option_to_list found ++ [])) ≡ last_of (option_to_list (option_or found (if nat_le (f + 1000) now then Some now else None)) ++ [])
last_or_later now f (Some m) = refl
last_or_later now f None = by (nat_le (f + 1000) now)
  where
    by : (b : Bool) → (if b then Some now else None) ≡ last_of (option_to_list (if b then Some now else None) ++ [])
    by true = refl
    by false = refl

last_when_none : (now : ℕ) (a : List ℕ) → (asked_after now (head_of a) (last_heard a [])).last_heartbeat ≡ last_heard (a ++ now ∷ []) []
last_when_none now [] = refl
last_when_none now (f ∷ later) =
    last_or_later now f (find (λ m. nat_le (f + 1000) m) later)
    ∙ ap (λ (o : Option ℕ). last_of (option_to_list o ++ [])) (sym (find-append (λ m. nat_le (f + 1000) m) later (now ∷ [])))

last_when_some : (now x : ℕ) (first counted : Option ℕ) (n : List ℕ) → (asked_after now first (last_of (option_to_list counted ++ x ∷ n))).last_heartbeat ≡ last_of (option_to_list counted ++ x ∷ n)
last_when_some now x None counted n = refl
last_when_some now x (Some f) None n = refl
last_when_some now x (Some f) (Some m) n = refl

last_asked : (now : ℕ) (a u n : List ℕ) → SameWhereNone u a n → (asked_after now (head_of a) (last_heard u n)).last_heartbeat ≡ last_heard (with_ask now u n) n
last_asked now a u [] h = rw h (last_when_none now a)
last_asked now a u (x ∷ n) h = last_when_some now x (head_of a) (first_in_time u) n

head_asked : (now : ℕ) (a : List ℕ) (last : Option ℕ) → (asked_after now (head_of a) last).first_ask ≡ head_of (a ++ now ∷ [])
head_asked now [] last = refl
head_asked now (x ∷ a) last = refl

pub asked_stands : (now : ℕ) (k : Kept) (b : List Beat) → Stands k b → Stands (kept_asked now k) (b ++ ask now ∷ [])
asked_stands now k b s = record {
  first_ask = rw (s.first_ask, s.last_heartbeat, asks_asked now b) (head_asked now (asks b) (last_of (heartbeats b)));
  last_heartbeat = rw (s.first_ask, s.last_heartbeat, noted_asked now b, unheard_asked now b) (last_asked now (asks b) (unheard_asks b) (noted b) (unheard_are_asks b));
}

-- the same for what a call left
pub ask_goes_on : (now : ℕ) (old new : Kept) (b : List Beat) → Stands old b → new ≡ kept_asked now old → Stands new (b ++ ask now ∷ [])
ask_goes_on now old new b s left = rw left (asked_stands now old b s)

-- the lists after one heartbeat more
asks_heard : (now : ℕ) (b : List Beat) → asks (b ++ heartbeat now ∷ []) ≡ asks b
asks_heard now [] = refl
asks_heard now (ask m ∷ b) = ap (λ (xs : List ℕ). m ∷ xs) (asks_heard now b)
asks_heard now (heartbeat m ∷ b) = asks_heard now b

noted_heard : (now : ℕ) (b : List Beat) → noted (b ++ heartbeat now ∷ []) ≡ noted b ++ now ∷ []
noted_heard now [] = refl
noted_heard now (ask m ∷ b) = noted_heard now b
noted_heard now (heartbeat m ∷ b) = ap (λ (xs : List ℕ). m ∷ xs) (noted_heard now b)

unheard_heard : (now : ℕ) (b : List Beat) → unheard_asks (b ++ heartbeat now ∷ []) ≡ unheard_asks b
unheard_heard now [] = refl
unheard_heard now (ask m ∷ b) = ap (λ (xs : List ℕ). m ∷ xs) (unheard_heard now b)
unheard_heard now (heartbeat m ∷ b) = refl

last_after_end : (now x : ℕ) (xs : List ℕ) → last_after x (xs ++ now ∷ []) ≡ now
last_after_end now x [] = refl
last_after_end now x (y ∷ ys) = last_after_end now y ys

last_is_end : (now : ℕ) (counted : Option ℕ) (n : List ℕ) → Some now ≡ last_of (option_to_list counted ++ (n ++ now ∷ []))
last_is_end now None [] = refl
last_is_end now None (x ∷ n) = ap Some (sym (last_after_end now x n))
last_is_end now (Some m) n = ap Some (sym (last_after_end now m n))

pub heard_stands : (now : ℕ) (k : Kept) (b : List Beat) → Stands k b → Stands (kept_heard now k) (b ++ heartbeat now ∷ [])
heard_stands now k b s = record {
  first_ask = rw (s.first_ask, asks_heard now b) refl;
  last_heartbeat = rw (noted_heard now b, unheard_heard now b) (last_is_end now (counted_ask b) (noted b));
}

pub heartbeat_goes_on : (now : ℕ) (old new : Kept) (b : List Beat) → Stands old b → new ≡ kept_heard now old → Stands new (b ++ heartbeat now ∷ [])
heartbeat_goes_on now old new b s left = rw left (heard_stands now old b s)

pub available_alike : (now : ℕ) (k : Kept) (b : List Beat) → Stands k b → kept_available now k ≡ is_available now b
available_alike now k b s = ap (is_recent now) s.last_heartbeat
