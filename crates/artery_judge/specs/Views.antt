-- What the judge's tables hold, as functions.
use Rattle.std.specs.Prelude.{ℕ, Bool, false, ◌&&◌, ◌==◌, List, [], Option, None, Some, unwrap_or}
use Rattle.std.specs.Map.{lookup}
use Rattle.std.specs.List.{list_any}
use Rattle.artery_judge.specs.declared.keys.Incarnation.{Incarnation}
use Rattle.artery_base.specs.declared.message.Tell.{Tell}
use Rattle.artery_base.specs.declared.address.UniqueAddress.{UniqueAddress}
use Rattle.artery_judge.specs.declared.keys.Pair.{Pair}
use Rattle.artery_judge.specs.declared.keys.Link.{Link}
use Rattle.artery_judge.specs.declared.keys.Watch.{Watch}
use Rattle.artery_judge.specs.declared.sent.Numbered.{Numbered}
use Rattle.artery_judge.specs.declared.nodes.Node.{Node}
use Rattle.artery_judge.specs.Lines.{Rest, same, is_way}
use Rattle.artery_judge.specs.Laws.{is_watch, is_dial}
use Rattle.artery_judge.specs.Kept.{Kept}

-- Whether a key is that of a way.
abbrev pub is_pair : UniqueAddress → UniqueAddress → Pair → Bool
is_pair a b key = is_way a b (key.of.now, key.other.now)

-- Whether a key is that of a connection.
abbrev pub is_link : UniqueAddress → UniqueAddress → ℕ → Link → Bool
is_link a b d key = is_dial a b d ((key.of.now, key.other.now), key.dial)

-- Whether a key is that of a watch.
abbrev pub is_watch_key : UniqueAddress → ℕ → Watch → Bool
is_watch_key a id key = is_watch a id (key.of.now, key.id)

-- A message with its number.
abbrev pub numbered : Numbered → Rest
numbered r = (r.n, r.message.now)

-- The queue at the key that passes the test; an empty one where there is none.
abbrev pub queue_at : {K X : Type 0} → (K → Bool) → List (K × List X) → List X
queue_at test entries = unwrap_or (lookup test entries) []

-- The messages from a to b.
abbrev pub sent_at : UniqueAddress → UniqueAddress → List (Pair × List Rest) → List Rest
sent_at a b entries = queue_at (is_pair a b) entries

-- The messages that a told b on its connection d.
abbrev pub told_at : UniqueAddress → UniqueAddress → ℕ → List (Link × List Tell) → List Tell
told_at a b d entries = queue_at (is_link a b d) entries

-- Whether a pair is there.
abbrev pub has_pair : UniqueAddress → UniqueAddress → List Pair → Bool
has_pair a b keys = list_any (is_pair a b) keys

-- Whether a watch is there.
abbrev pub has_watch : UniqueAddress → ℕ → List Watch → Bool
has_watch a id keys = list_any (is_watch_key a id) keys

-- Whether a key is that of an incarnation.
abbrev pub is_node : UniqueAddress → Incarnation → Bool
is_node a key = same a key.of.now

-- What is kept of an incarnation.
abbrev pub node_at : UniqueAddress → List (Incarnation × Node) → Option Node
node_at a entries = lookup (is_node a) entries

-- The judge's tables.
pub record Tables : Type 0 where
  pub sent : List (Pair × List Rest)
  pub told : List (Link × List Tell)
  pub closed : List Pair
  pub began : List Watch
  pub ended : List Watch
  pub nodes : List (Incarnation × Node)

-- What the tables keep.
abbrev pub kept : Tables → Kept
kept t = record {
  sent = λ a b. sent_at a b t.sent;
  told = λ a b d. told_at a b d t.told;
  closed = λ a b. has_pair a b t.closed;
  began = λ a id. has_watch a id t.began;
  ended = λ a id. has_watch a id t.ended;
  node = λ a. node_at a t.nodes;
}
