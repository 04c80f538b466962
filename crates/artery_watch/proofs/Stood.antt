-- Places of remote watches, of which some do not stand.
use Rattle.std.proofs.Common.{◌≡◌, ℕ, suc, ◌+◌, ◌<◌, ◌≤◌, ◌^◌, Bool, true, false, cond, List, [], ◌∷◌, ◌++◌, length, refl, ap, sym, ◌∙◌, subst, true≢false, arith, eqb-true}
use Rattle.std.specs.Prelude.{Option, Some, None, is_some, not, ◌&&◌, ◌||◌, ◌==◌, filter}
use Rattle.std.specs.List.{list_any, IsDistinct, AllByRecursion}
use Rattle.std.specs.Map.{lookup, set_value, remove_entry, keys_of}
use Rattle.std.specs.Set.{remove_key}
use Rattle.std.specs.Cmp.Lexicographic.{bytes_decides}
use Rattle.std.proofs.lemmas.Map.Keys.{IsDistinct-head, IsDistinct-tail}
use Rattle.std.proofs.lemmas.Map.Made.{length-remove_key}
use Rattle.std.proofs.lemmas.List.{length-append}
use Rattle.indexmap.specs.IndexMap.{insert_entry}
use Rattle.artery_base.specs.declared.address.UniqueAddress.{UniqueAddress}
use Rattle.artery_watch.specs.declared.remote.RemoteWatcher.{RemoteWatcher}
use Rattle.artery_watch.specs.contracts.remote.RemoteWatcherPartialEq.TheImpl as remote_eq
use Rattle.artery_watch.specs.contracts.remote.RemoteWatcherEq.TheImpl.Laws.{laws-law}
use Rattle.artery_watch.specs.Keys.{same_remote, same_origin, same_text, same_address}
use Rattle.artery_watch.specs.Standing.{Places, Numbered, put, in_order, standing, IsWithin, Rises, left_of, count}
use Rattle.artery_watch.specs.Watcher.{is_among, not_from}
use Rattle.artery_watch.proofs.Inserted.{inserted_last, kept_absent}
use Rattle.artery_watch.proofs.Order.{keys, kept_by, put_length, put_any, put_end, put_before, put_within, within_end, within_without, without_own, without_none, without_put, keys_without, keys_end, within_kept, kept_put, lost_put, keys_kept}

module _ (t : RemoteWatcher → Bool) where
  -- what has no place does not stand
  none_among : (es : Places) → lookup t es ≡ None → list_any t (standing es) ≡ false
  none_among [] h = refl
  none_among ((r, v) ∷ es) h = by (t r) refl v h (none_among es)
    where
      by : (b : Bool) → t r ≡ b → (v : Option ℕ) → cond b (Some v) (lookup t es) ≡ None → (lookup t es ≡ None → list_any t (standing es) ≡ false) → list_any t (standing ((r, v) ∷ es)) ≡ false
      by true is v h rest = absurd (true≢false (ap is_some h))
      by false is None h rest = rest h
      by false is (Some n) h rest = put_any t r n (in_order es) ∙ ap (λ b. b || list_any t (standing es)) is ∙ rest h

-- a key that is equal to one that is apart from all others has no other place
alone : (r x : RemoteWatcher) → same_remote r x ≡ true → (es : Places) → AllByRecursion (λ y. same_remote x y ≡ false) (keys_of es) → lookup (same_remote r) es ≡ None
alone r x h [] all = refl
alone r x h (e ∷ es) all = rw (laws-law.congr r x e.0 h ∙ all.0) (alone r x h es all.1)

number_is : (x y : Option ℕ) → Some x ≡ Some y → x ≡ y
number_is x y e = ap (λ (o : Option (Option ℕ)). elim o [ None ↦ x | Some z ↦ z ]) e

-- a place says whether its remote watch stands
pub stands_is : (r : RemoteWatcher) (es : Places) (v : Option ℕ) → IsDistinct same_remote (keys_of es) → lookup (same_remote r) es ≡ Some v → is_some v ≡ is_among r (standing es)
stands_is r [] v d h = absurd (true≢false (sym (ap is_some h)))
stands_is r ((x, s) ∷ es) v d h = by (same_remote r x) refl s h (stands_is r es v (IsDistinct-tail same_remote x (keys_of es) d))
  where
    by : (b : Bool) → same_remote r x ≡ b → (s : Option ℕ) → cond b (Some s) (lookup (same_remote r) es) ≡ Some v → (lookup (same_remote r) es ≡ Some v → is_some v ≡ is_among r (standing es)) → is_some v ≡ is_among r (standing ((x, s) ∷ es))
    by true is (Some n) h rest = sym (ap is_some (number_is (Some n) v h)) ∙ sym (put_any (same_remote r) x n (in_order es) ∙ ap (λ b. b || is_among r (standing es)) is)
    by true is None h rest = sym (ap is_some (number_is None v h)) ∙ sym (none_among (same_remote r) es (alone r x is es (IsDistinct-head same_remote x (keys_of es) d)))
    by false is (Some n) h rest = rest h ∙ sym (put_any (same_remote r) x n (in_order es) ∙ ap (λ b. b || is_among r (standing es)) is)
    by false is None h rest = rest h

pub none_stands : (r : RemoteWatcher) (es : Places) → lookup (same_remote r) es ≡ None → is_among r (standing es) ≡ false
none_stands r es h = none_among (same_remote r) es h

-- one that is made to stand no longer is gone, and no other
gone : (r : RemoteWatcher) (low high : ℕ) (es : Places) → IsDistinct same_remote (keys_of es) → IsWithin low high (in_order es) → in_order (set_value (same_remote r) es None) ≡ remove_entry (same_remote r) (in_order es)
gone r low high [] d w = refl
gone r low high ((x, None) ∷ es) d w = by (same_remote r x) refl (gone r low high es (IsDistinct-tail same_remote x (keys_of es) d) w)
  where
    by : (b : Bool) → same_remote r x ≡ b → in_order (set_value (same_remote r) es None) ≡ remove_entry (same_remote r) (in_order es) → in_order (cond b ((x, None) ∷ es) ((x, None) ∷ set_value (same_remote r) es None)) ≡ remove_entry (same_remote r) (in_order es)
    by true is rest = sym (without_none (same_remote r) (in_order es) (none_among (same_remote r) es (alone r x is es (IsDistinct-head same_remote x (keys_of es) d))))
    by false is rest = rest
gone r low high ((x, Some n) ∷ es) d w = by (same_remote r x) refl (gone r low high es (IsDistinct-tail same_remote x (keys_of es) d) (put_within x n low high (in_order es) w).rest)
  where
    by : (b : Bool) → same_remote r x ≡ b → in_order (set_value (same_remote r) es None) ≡ remove_entry (same_remote r) (in_order es) → in_order (cond b ((x, None) ∷ es) ((x, Some n) ∷ set_value (same_remote r) es None)) ≡ remove_entry (same_remote r) (put x n (in_order es))
    by true is rest = sym (without_own (same_remote r) x n (in_order es) is (none_among (same_remote r) es (alone r x is es (IsDistinct-head same_remote x (keys_of es) d))))
    by false is rest = ap (put x n) rest ∙ sym (without_put (same_remote r) x n low high (in_order es) is (put_within x n low high (in_order es) w).rest)

pub fallen : (r : RemoteWatcher) (es : Places) → IsDistinct same_remote (keys_of es) → Rises (in_order es) → in_order (set_value (same_remote r) es None) ≡ remove_entry (same_remote r) (in_order es)
fallen r es d w = gone r 0 w.high es d w.within

pub none_falls : (r : RemoteWatcher) (es : Places) → lookup (same_remote r) es ≡ None → remove_entry (same_remote r) (in_order es) ≡ in_order es
none_falls r es h = without_none (same_remote r) (in_order es) (none_among (same_remote r) es h)

-- what is the same is equal
and_first : (a b : Bool) → (a && b) ≡ true → a ≡ true
and_first true b h = refl
and_first false b h = h

and_second : (a b : Bool) → (a && b) ≡ true → b ≡ true
and_second true b h = h
and_second false b h = absurd (true≢false (sym h))

same_is : (r x : RemoteWatcher) → same_remote r x ≡ true → x ≡ r
same_is r x h =
    let watcher : r.watcher ≡ x.watcher = (bytes_decides r.watcher x.watcher).0 (and_first (same_text r.watcher x.watcher) (same_origin r.origin x.origin) h) in
    let origin = and_second (same_text r.watcher x.watcher) (same_origin r.origin x.origin) h in
    let a = r.origin.address in
    let b = x.origin.address in
    let address = and_first (same_address a b) (r.origin.uid == x.origin.uid) origin in
    let uid : r.origin.uid ≡ x.origin.uid = eqb-true r.origin.uid x.origin.uid (and_second (same_address a b) (r.origin.uid == x.origin.uid) origin) in
    let protocol : a.protocol ≡ b.protocol = (bytes_decides a.protocol b.protocol).0 (and_first (same_text a.protocol b.protocol) (same_text a.system b.system && (same_text a.host b.host && (a.port == b.port))) address) in
    let behind = and_second (same_text a.protocol b.protocol) (same_text a.system b.system && (same_text a.host b.host && (a.port == b.port))) address in
    let system : a.system ≡ b.system = (bytes_decides a.system b.system).0 (and_first (same_text a.system b.system) (same_text a.host b.host && (a.port == b.port)) behind) in
    let last = and_second (same_text a.system b.system) (same_text a.host b.host && (a.port == b.port)) behind in
    let host : a.host ≡ b.host = (bytes_decides a.host b.host).0 (and_first (same_text a.host b.host) (a.port == b.port) last) in
    let port : a.port ≡ b.port = eqb-true a.port b.port (and_second (same_text a.host b.host) (a.port == b.port) last) in
    sym (λ i. record { watcher = watcher i; origin = record { address = record { protocol = protocol i; system = system i; host = host i; port = port i }; uid = uid i } })

-- one that has a place and is made to stand is the last
risen : (r : RemoteWatcher) (n low : ℕ) (es : Places) (v : Option ℕ) → lookup (same_remote r) es ≡ Some v → is_among r (standing es) ≡ false → IsWithin low n (in_order es) → in_order (set_value (same_remote r) es (Some n)) ≡ in_order es ++ (r, n) ∷ []
risen r n low [] v found fallen w = absurd (true≢false (sym (ap is_some found)))
risen r n low ((x, None) ∷ es) v found fallen w = by (same_remote r x) refl found (λ f. risen r n low es v f fallen w)
  where
    by : (b : Bool) → same_remote r x ≡ b → cond b (Some None) (lookup (same_remote r) es) ≡ Some v → (lookup (same_remote r) es ≡ Some v → in_order (set_value (same_remote r) es (Some n)) ≡ in_order es ++ (r, n) ∷ [])
        → in_order (cond b ((x, Some n) ∷ es) ((x, None) ∷ set_value (same_remote r) es (Some n))) ≡ in_order es ++ (r, n) ∷ []
    by true is f rest = put_end x n low n (in_order es) w (omega arith) ∙ ap (λ (z : RemoteWatcher). in_order es ++ (z, n) ∷ []) (same_is r x is)
    by false is f rest = rest f
risen r n low ((x, Some m) ∷ es) v found fallen w =
    let none = sym (put_any (same_remote r) x m (in_order es)) ∙ fallen in
    let p = put_within x m low n (in_order es) w in
    by (same_remote r x) none found (λ f a. risen r n low es v f a p.rest) p.below
  where
    by : (b : Bool) → (b || is_among r (standing es)) ≡ false → cond b (Some (Some m)) (lookup (same_remote r) es) ≡ Some v → (lookup (same_remote r) es ≡ Some v → is_among r (standing es) ≡ false → in_order (set_value (same_remote r) es (Some n)) ≡ in_order es ++ (r, n) ∷ []) → m < n
        → in_order (cond b ((x, Some n) ∷ es) ((x, Some m) ∷ set_value (same_remote r) es (Some n))) ≡ put x m (in_order es) ++ (r, n) ∷ []
    by true none f rest less = absurd (true≢false none)
    by false none f rest less = ap (put x m) (rest f none) ∙ put_before x m r n (in_order es) less

pub risen_last : (r : RemoteWatcher) (n : ℕ) (es : Places) (v : Option ℕ) → lookup (same_remote r) es ≡ Some v → is_among r (standing es) ≡ false → IsWithin 0 n (in_order es) → in_order (set_value (same_remote r) es (Some n)) ≡ in_order es ++ (r, n) ∷ []
risen_last r n es v found fallen w = risen r n 0 es v found fallen w

-- one that has no place is added as the last
added : (r : RemoteWatcher) (n low : ℕ) (es : Places) → IsWithin low n (in_order es) → in_order (es ++ (r, Some n) ∷ []) ≡ in_order es ++ (r, n) ∷ []
added r n low [] w = refl
added r n low ((x, None) ∷ es) w = added r n low es w
added r n low ((x, Some m) ∷ es) w =
    let p = put_within x m low n (in_order es) w in
    ap (put x m) (added r n low es p.rest) ∙ put_before x m r n (in_order es) p.below

pub last_stands : (r : RemoteWatcher) (n : ℕ) (es new : Places) → lookup (same_remote r) es ≡ None → IsWithin 0 n (in_order es) → new ≡ insert_entry (remote_eq.ghosts).eq es r (Some n) → in_order new ≡ in_order es ++ (r, n) ∷ []
last_stands r n es new h w is = ap in_order is ∙ ap in_order (inserted_last same_remote r (Some n) es (ap is_some h)) ∙ added r n 0 es w

-- the list of those that stand, after each change
pub stand_after : (r : RemoteWatcher) (n : ℕ) (old new : Places) → in_order new ≡ in_order old ++ (r, n) ∷ [] → standing new ≡ standing old ++ r ∷ []
stand_after r n old new is = ap keys is ∙ keys_end (in_order old) r n

pub stand_without : (r : RemoteWatcher) (old new : Places) → in_order new ≡ remove_entry (same_remote r) (in_order old) → standing new ≡ remove_key (same_remote r) (standing old)
stand_without r old new is = ap keys is ∙ keys_without (same_remote r) (in_order old)

pub stand_same : (old new : Places) → in_order new ≡ in_order old → standing new ≡ standing old
stand_same old new is = ap keys is

pub rises_after : (r : RemoteWatcher) (n : ℕ) (old new : Places) → IsWithin 0 n (in_order old) → in_order new ≡ in_order old ++ (r, n) ∷ [] → IsWithin 0 (n + 1) (in_order new)
rises_after r n old new w is = subst (IsWithin 0 (n + 1)) (sym is) (within_end r n 0 n (in_order old) w (omega arith))

pub rises_without : (r : RemoteWatcher) (n : ℕ) (old new : Places) → IsWithin 0 n (in_order old) → in_order new ≡ remove_entry (same_remote r) (in_order old) → IsWithin 0 n (in_order new)
rises_without r n old new w is = subst (IsWithin 0 n) (sym is) (within_without (same_remote r) 0 n (in_order old) w)

pub rises_same : (n : ℕ) (old new : Places) → IsWithin 0 n (in_order old) → in_order new ≡ in_order old → IsWithin 0 n (in_order new)
rises_same n old new w is = subst (IsWithin 0 n) (sym is) w

pub rises : (n : ℕ) (xs : Numbered) → IsWithin 0 n xs → Rises xs
rises n xs w = record { high = n; within = w }

-- places of those that stand, alone
kept_standing : (es : Places) → in_order (filter (λ place. is_some place.1) es) ≡ in_order es
kept_standing [] = refl
kept_standing ((r, Some n) ∷ es) = ap (put r n) (kept_standing es)
kept_standing ((r, None) ∷ es) = kept_standing es

pub kept_after : (es new : Places) → new ≡ filter (λ place. is_some place.1) es → in_order new ≡ in_order es
kept_after es new is = ap in_order is ∙ kept_standing es

-- places where an origin is forgotten
abbrev others : UniqueAddress → RemoteWatcher → Bool
others o r = not (same_origin o r.origin)

left_stand : (o : UniqueAddress) (low high : ℕ) (es : Places) → IsWithin low high (in_order es) → in_order (left_of o es) ≡ kept_by (others o) (in_order es)
left_stand o low high [] w = refl
left_stand o low high ((r, None) ∷ es) w = by (same_origin o r.origin) (left_stand o low high es w)
  where
    by : (b : Bool) → in_order (left_of o es) ≡ kept_by (others o) (in_order es) → in_order ((r, cond b None None) ∷ left_of o es) ≡ kept_by (others o) (in_order es)
    by true rest = rest
    by false rest = rest
left_stand o low high ((r, Some n) ∷ es) w =
    let p = put_within r n low high (in_order es) w in
    by (same_origin o r.origin) refl (left_stand o low high es p.rest) p.rest
  where
    by : (b : Bool) → same_origin o r.origin ≡ b → in_order (left_of o es) ≡ kept_by (others o) (in_order es) → IsWithin low high (in_order es) → in_order ((r, cond b None (Some n)) ∷ left_of o es) ≡ kept_by (others o) (put r n (in_order es))
    by true is rest p = rest ∙ sym (lost_put (others o) r n (in_order es) (ap not is))
    by false is rest p = ap (put r n) rest ∙ sym (kept_put (others o) r n low high (in_order es) (ap not is) p)

pub others_left : (o : UniqueAddress) (es new : Places) → Rises (in_order es) → new ≡ left_of o es → standing new ≡ not_from o (standing es)
others_left o es new w is = ap standing is ∙ ap keys (left_stand o 0 w.high es w.within) ∙ keys_kept (others o) (in_order es)

pub rises_left : (o : UniqueAddress) (n : ℕ) (es new : Places) → IsWithin 0 n (in_order es) → new ≡ left_of o es → IsWithin 0 n (in_order new)
rises_left o n es new w is = subst (IsWithin 0 n) (sym (ap in_order is ∙ left_stand o 0 n es w)) (within_kept (others o) 0 n (in_order es) w)

-- how many stand
keys_many : (xs : Numbered) → length (keys xs) ≡ length xs
keys_many [] = refl
keys_many (x ∷ xs) = ap suc (keys_many xs)

many : (es : Places) → length (in_order es) ≡ count es
many [] = refl
many ((r, Some n) ∷ es) = omega (arith, put_length r n (in_order es), many es)
many ((r, None) ∷ es) = omega (arith, many es)

pub count_stands : (es new : Places) (n : ℕ) → n ≡ count new → n ≡ length (standing new)
count_stands es new n c = c ∙ sym (keys_many (in_order new) ∙ many new)

at_most : (es : Places) → count es ≤ length es
at_most [] = omega arith
at_most ((r, Some n) ∷ es) = omega (arith, at_most es)
at_most ((r, None) ∷ es) = omega (arith, at_most es)

few_stand : (es : Places) → length (standing es) ≤ length es
few_stand es = omega (arith, keys_many (in_order es), many es, at_most es)

-- how many stand once one is added, once one is removed, and where none was there
pub one_more : (r : RemoteWatcher) (old new : List RemoteWatcher) (n : ℕ) → n ≡ length old → new ≡ old ++ r ∷ [] → n + 1 ≡ length new
one_more r old new n c is = omega (arith, c, ap (λ (xs : List RemoteWatcher). length xs) is, length-append old (r ∷ []))

pub few_fit : (es : Places) (n len : ℕ) → n ≡ length (standing es) → len ≡ length es → len < 2 ^ 63 → n < 2 ^ 63
few_fit es n len c is small = omega (arith, c, is, small, few_stand es)

pub one_less : (r : RemoteWatcher) (old new : List RemoteWatcher) (n : ℕ) → n ≡ length old → is_among r old ≡ true → new ≡ remove_key (same_remote r) old → n ≡ length new + 1
one_less r old new n c h is = omega (arith, c, ap (λ (xs : List RemoteWatcher). length xs) is, length-remove_key (same_remote r) old h)

pub same_many : (r : RemoteWatcher) (old new : List RemoteWatcher) (n : ℕ) → n ≡ length old → is_among r old ≡ false → new ≡ remove_key (same_remote r) old → n ≡ length new
same_many r old new n c h is = c ∙ sym (ap (λ (xs : List RemoteWatcher). length xs) (is ∙ kept_absent (same_remote r) old h))
