-- What watches and remote watches are found by.
use Rattle.std.specs.Prelude.{ℕ, Bool, ◌&&◌, ◌==◌, nat_eq, List}
use Rattle.std.specs.Cmp.Lexicographic.{pointwise}
use Rattle.artery_base.specs.declared.address.Address.{Address}
use Rattle.artery_base.specs.declared.address.UniqueAddress.{UniqueAddress}
use Rattle.artery_watch.specs.declared.pair.Pair.{Pair}
use Rattle.artery_watch.specs.declared.remote.RemoteWatcher.{RemoteWatcher}

-- Whether two texts have the same bytes.
abbrev pub same_text : List ℕ → List ℕ → Bool
same_text = pointwise nat_eq

-- Whether two addresses have the same protocol, system, host and port.
abbrev pub same_address : Address → Address → Bool
same_address a b = same_text a.protocol b.protocol && (same_text a.system b.system && (same_text a.host b.host && (a.port == b.port)))

-- Whether two unique addresses have the same address and the same UID.
abbrev pub same_origin : UniqueAddress → UniqueAddress → Bool
same_origin a b = same_address a.address b.address && (a.uid == b.uid)

-- Whether two pairs have the same watcher and the same watchee.
abbrev pub same_pair : Pair → Pair → Bool
same_pair p q = same_text p.watcher q.watcher && same_text p.watchee q.watchee

-- Whether two remote watches of one actor have the same watcher and the same origin.
abbrev pub same_remote : RemoteWatcher → RemoteWatcher → Bool
same_remote r s = same_text r.watcher s.watcher && same_origin r.origin s.origin

-- The pair of this watcher and this watchee.
abbrev pub pair_of : List ℕ → List ℕ → Pair
pair_of watcher watchee = record { watcher = watcher; watchee = watchee }

-- The remote watch of an actor by this watcher, told by this origin.
abbrev pub remote_of : List ℕ → UniqueAddress → RemoteWatcher
remote_of watcher origin = record { watcher = watcher; origin = origin }
