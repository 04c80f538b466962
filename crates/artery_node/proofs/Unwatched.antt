-- The end of a watch that does not stand.
use Rattle.std.proofs.Common.{◌≡◌, ℕ, Bool, true, false, cond, List, [], ◌∷◌, refl, ap, true≢false}
use Rattle.std.specs.Prelude.{Option, Some, None, is_some}
use Rattle.std.specs.Map.{lookup, remove_entry}
use Rattle.artery_watch.specs.Keys.{same_pair, same_text}
use Rattle.artery_watch.specs.declared.remote.RemoteWatcher.{RemoteWatcher}
use Rattle.artery_watch.specs.declared.answers.Stop.TheVariants.{NotThere}
use Rattle.artery_watch.specs.declared.pair.Pair.{Pair}
use Rattle.artery_watch.specs.declared.answers.Unwatch.TheVariants.{NotWatched}
use Rattle.artery_watch.specs.Watcher.{Kept, id_of, unwatching_by, unwatching, kept_unwatched, watchers_of, stopping_by, stopping, kept_stopped, remote_watched_by, remote_watching, kept_remote_watched}
use Rattle.artery_watch.specs.declared.answers.RemoteWatch.TheVariants as remote

is_none : (o : Option ℕ) → unwatching_by o ≡ NotWatched → o ≡ None
is_none None h = refl
is_none (Some id) h = cc

remove_absent : {K V : Type 0} (test : K → Bool) (es : List (K × V)) → lookup test es ≡ None → remove_entry test es ≡ es
remove_absent test [] h = refl
remove_absent {K} {V} test (e ∷ es) h = by (test e.0) h (remove_absent test es)
  where
    by : (b : Bool) → cond b (Some e.1) (lookup test es) ≡ None → (lookup test es ≡ None → remove_entry test es ≡ es) → cond b es (e ∷ remove_entry test es) ≡ e ∷ es
    by true here rest = absurd (true≢false (ap is_some here))
    by false there rest = ap (λ (r : List (K × V)). e ∷ r) (rest there)

-- Where a pair is not watched, its end changes nothing.
pub not_watched : (p : Pair) (k : Kept) → unwatching p k.watches ≡ NotWatched → kept_unwatched p k ≡ k
not_watched p k h = ap (λ list. record k { watches = record k.watches { list = list } }) (remove_absent (same_pair p) k.watches.list (is_none (id_of p k.watches) h))

is_absent : (o : Option (List RemoteWatcher)) → stopping_by o ≡ NotThere → o ≡ None
is_absent None h = refl
is_absent (Some remotes) h = cc

-- Where an actor is not there, its end changes nothing.
pub not_there : (path : List ℕ) (k : Kept) → stopping path k.actors ≡ NotThere → kept_stopped path k ≡ k
not_there path k h = ap (λ actors. record k { actors = actors }) (remove_absent (same_text path) k.actors (is_absent (watchers_of path k.actors) h))

-- Where an actor is not there, a watch of it changes nothing.
pub not_added : (path : List ℕ) (r : RemoteWatcher) (k : Kept) → remote_watching path r k.actors ≡ remote.NotThere → kept_remote_watched path r k ≡ k
not_added path r k h = ap (λ answer. record k { actors = remote_watched_by answer path r k.actors }) h
