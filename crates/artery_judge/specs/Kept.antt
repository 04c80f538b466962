-- What the judge keeps, and when that stands for the lines taken so far.
use Rattle.std.specs.Prelude.{◌≡◌, ℕ, Bool, true, false, not, ◌&&◌, ◌||◌, ◌==◌, nat_lt, max, List, [], ◌∷◌, ◌++◌, length, drop, is_some, Option, Some, None, if◌then◌else◌}
use Rattle.std.specs.List.{list_any}
use Rattle.artery_base.specs.declared.message.Tell.{Tell}
use Rattle.artery_base.specs.declared.address.UniqueAddress.{UniqueAddress}
use Rattle.artery_journal.specs.declared.line.Line.{Line}
use Rattle.artery_judge.specs.declared.verdict.Law.{Law}
use Rattle.artery_judge.specs.Lines.{Entry, Way, Rest, same, is_way, of, says_sent, says_took, says_told, says_got, says_closed, deals, says_watched, says_unwatched, is_started, is_stopped, rest_if, is_said, with_rest}
use Rattle.artery_judge.specs.declared.nodes.Node.{Node}
use Rattle.artery_judge.specs.Laws.{same_tell, is_prefix, is_subsequence, sent_to, taken_from, is_dial, is_nonce, told_to, got_from, has_closed, is_watch, has_watched, has_ended, has_line, has_stopped, is_above, has_later, first_law}

-- What is kept: the system messages sent and not taken, the ordinary messages told and not passed over, who has closed whom, the
-- watches that began and those that ended, and of each incarnation that has a line whether it stopped and its last moment.
pub record Kept : Type 0 where
  pub sent : UniqueAddress → UniqueAddress → List Rest
  pub told : UniqueAddress → UniqueAddress → ℕ → List Tell
  pub closed : UniqueAddress → UniqueAddress → Bool
  pub began : UniqueAddress → ℕ → Bool
  pub ended : UniqueAddress → ℕ → Bool
  pub node : UniqueAddress → Option Node

-- Whether an incarnation stopped.
abbrev pub node_stopped : Option Node → Bool
node_stopped None = false
node_stopped (Some node) = node.stopped

-- The last moment of an incarnation.
abbrev pub node_moment : Option Node → ℕ
node_moment None = 0
node_moment (Some node) = node.moment

-- An incarnation with a line more.
abbrev pub noted : Bool → ℕ → Option Node → Node
noted stopped moment node = record { stopped = node_stopped node || stopped; moment = max (node_moment node) moment }

-- What is left of a list past the first element that equals a message, and nothing where none does.
abbrev pub past_tell : Tell → List Tell → List Tell
past_tell x [] = []
past_tell x (y ∷ ys) = if same_tell y x then ys else past_tell x ys

-- The same past messages one after the other.
abbrev pub past_tells : List Tell → List Tell → List Tell
past_tells [] ys = ys
past_tells (x ∷ xs) ys = past_tells xs (past_tell x ys)

-- What is kept stands for the lines taken so far.
pub record Stands (k : Kept) (lines : List Entry) : Type 0 where
  pub taken : (a b : UniqueAddress) → is_prefix (taken_from a b lines) (sent_to a b lines) ≡ true
  pub sent : (a b : UniqueAddress) → k.sent a b ≡ drop (length (taken_from a b lines)) (sent_to a b lines)
  pub got : (a b : UniqueAddress) (d : ℕ) → is_subsequence (got_from a b d lines) (told_to a b d lines) ≡ true
  pub told : (a b : UniqueAddress) (d : ℕ) → k.told a b d ≡ past_tells (got_from a b d lines) (told_to a b d lines)
  pub closed : (a b : UniqueAddress) → k.closed a b ≡ has_closed a b lines
  pub began : (a : UniqueAddress) (id : ℕ) → k.began a id ≡ has_watched a id lines
  pub ended : (a : UniqueAddress) (id : ℕ) → k.ended a id ≡ has_ended a id lines
  pub seen : (a : UniqueAddress) → is_some (k.node a) ≡ has_line a lines
  pub stopped : (a : UniqueAddress) → node_stopped (k.node a) ≡ has_stopped a lines
  pub moment : (a : UniqueAddress) (m : ℕ) → nat_lt m (node_moment (k.node a)) ≡ has_later a m lines

-- A moment that is absent counts as 0, above which there is every other.
abbrev pub moment_or_first : Option ℕ → ℕ
moment_or_first None = 0
moment_or_first (Some m) = m

-- What taking a line makes of what is kept.
pub record Takes (e : Entry) (old new : Kept) : Type 0 where
  pub sent : (a b : UniqueAddress) → new.sent a b ≡ drop (length (rest_if (is_way b a) (says_took e.1))) (with_rest (old.sent a b) (rest_if (is_way a b) (says_sent e.1)))
  pub told : (a b : UniqueAddress) (d : ℕ) → new.told a b d ≡ past_tells (rest_if (is_nonce b a d) (says_got e.1)) (with_rest (old.told a b d) (rest_if (is_dial a b d) (says_told e.1)))
  pub closed : (a b : UniqueAddress) → new.closed a b ≡ (is_said (is_way a b) (says_closed e.1) || old.closed a b)
  pub began : (a : UniqueAddress) (id : ℕ) → new.began a id ≡ (is_said (is_watch a id) (says_watched e.1) || old.began a id)
  pub ended : (a : UniqueAddress) (id : ℕ) → new.ended a id ≡ (is_said (is_watch a id) (says_unwatched e.1) || old.ended a id)
  pub node : (a : UniqueAddress) → new.node a ≡ (if same a (of e.1) then Some (noted (is_stopped e.1) (moment_or_first e.0) (old.node a)) else old.node a)

-- Whether a line breaks the prefix law, as the kept messages tell: unless it takes the first one that is not taken.
abbrev pub finds_prefix : Kept → Option (Way × Rest) → Bool
finds_prefix k None = false
finds_prefix k (Some ((b, a), rest)) = not (is_prefix (rest ∷ []) (k.sent a b))

-- Whether a line breaks the close law.
abbrev pub finds_closed : Kept → Option Way → Bool
finds_closed k None = false
finds_closed k (Some (a, b)) = k.closed a b

-- Whether a line begins a watch again.
abbrev pub finds_again : Kept → Option (UniqueAddress × ℕ) → Bool
finds_again k None = false
finds_again k (Some (a, id)) = k.began a id

-- Whether a line ends a watch that does not stand.
abbrev pub finds_nothing : Kept → Option (UniqueAddress × ℕ) → Bool
finds_nothing k None = false
finds_nothing k (Some (a, id)) = not (k.began a id && not (k.ended a id))

-- Whether a line breaks the watch law.
abbrev pub finds_watch : Kept → Line → Bool
finds_watch k line = finds_again k (says_watched line) || finds_nothing k (says_unwatched line)

-- Whether a line breaks the ordinary law: unless its message is among those kept.
abbrev pub finds_ordinary : Kept → Option ((Way × Option ℕ) × Tell) → Bool
finds_ordinary k None = false
finds_ordinary k (Some ((way, None), message)) = true
finds_ordinary k (Some (((b, a), Some d), message)) = not (list_any (λ t. same_tell t message) (k.told a b d))

-- Whether a line breaks the stopped law.
abbrev pub finds_stopped : Kept → Line → Bool
finds_stopped k line = node_stopped (k.node (of line)) || (is_started line && is_some (k.node (of line)))

-- Whether a line breaks the moment law.
abbrev pub finds_moment : Kept → Entry → Bool
finds_moment k (None, line) = false
finds_moment k (Some m, line) = nat_lt m (node_moment (k.node (of line)))

-- The first law that a line breaks, as what is kept tells.
abbrev pub found_law : Kept → Entry → Option Law
found_law k e = first_law (finds_prefix k (says_took e.1)) (finds_closed k (deals e.1)) (finds_watch k e.1) (finds_ordinary k (says_got e.1)) (finds_stopped k e.1) (finds_moment k e)
