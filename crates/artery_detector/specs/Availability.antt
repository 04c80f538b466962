-- Whether a peer is available, by the whole list of the asks and heartbeats with their moments in milliseconds.
use Rattle.std.specs.Prelude.{◌≡◌, ℕ, ◌+◌, ◌<◌, ◌≤◌, Bool, true, nat_lt, nat_le, List, [], ◌∷◌, ◌++◌, Option, Some, None, option_to_list}
use Rattle.std.specs.List.{find, AllByRecursion}

-- The peer was asked, or it was heard of, at a moment.
pub data Beat : Type 0 where
  ask : ℕ → Beat
  heartbeat : ℕ → Beat

-- The moments of the asks, in their order.
abbrev pub asks : List Beat → List ℕ
asks [] = []
asks (ask now ∷ beats) = now ∷ asks beats
asks (heartbeat now ∷ beats) = asks beats

-- The moments of the heartbeats that were noted, in their order.
abbrev pub noted : List Beat → List ℕ
noted [] = []
noted (ask now ∷ beats) = noted beats
noted (heartbeat now ∷ beats) = now ∷ noted beats

-- The moments of the asks that have no noted heartbeat before them.
abbrev pub unheard_asks : List Beat → List ℕ
unheard_asks [] = []
unheard_asks (ask now ∷ beats) = now ∷ unheard_asks beats
unheard_asks (heartbeat now ∷ beats) = []

-- Of asks with nothing heard before them, the first one behind the very first that is 1,000 ms or more after it.
abbrev pub first_in_time : List ℕ → Option ℕ
first_in_time [] = None
first_in_time (first ∷ later) = find (λ now. nat_le (first + 1000) now) later

-- One ask at most counts as a heartbeat: of those with no heartbeat before them, the first that is 1,000 ms or more after the first ask.
abbrev pub counted_ask : List Beat → Option ℕ
counted_ask beats = first_in_time (unheard_asks beats)

-- The moments of the heartbeats, in their order: the ask that counts, which has none before it, and those that were noted.
abbrev pub heartbeats : List Beat → List ℕ
heartbeats beats = option_to_list (counted_ask beats) ++ noted beats

-- The first of a list.
abbrev pub head_of : List ℕ → Option ℕ
head_of [] = None
head_of (x ∷ xs) = Some x

-- The last of a list, behind another one.
abbrev pub last_after : ℕ → List ℕ → ℕ
last_after x [] = x
last_after x (y ∷ ys) = last_after y ys

-- The last of a list.
abbrev pub last_of : List ℕ → Option ℕ
last_of [] = None
last_of (x ∷ xs) = Some (last_after x xs)

-- A peer with this last heartbeat is available before 11,000 ms have gone by since then, and where there is no heartbeat.
abbrev pub is_recent : ℕ → Option ℕ → Bool
is_recent now None = true
is_recent now (Some last) = nat_lt now (last + 11000)

-- A peer is available by the last of its heartbeats.
abbrev pub is_available : ℕ → List Beat → Bool
is_available now beats = is_recent now (last_of (heartbeats beats))

-- An ask at this moment counts as a heartbeat in these beats: others stand before it, no heartbeat among them, and it is the first one
-- that is 1,000 ms or more after the first of them.
pub record CountsIn (now : ℕ) (beats : List Beat) : Type 0 where
  pub first : ℕ
  pub others : List ℕ
  pub before : List Beat
  pub after : List Beat
  pub place : beats ≡ before ++ ask now ∷ after
  pub unheard : noted before ≡ []
  pub asked : asks before ≡ first ∷ others
  pub in_time : first + 1000 ≤ now
  pub too_early : AllByRecursion (λ other. other < first + 1000) others
