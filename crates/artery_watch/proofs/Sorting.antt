-- Watchers by their numbers, which are put one by one, the last place first.
use Rattle.std.proofs.Common.{◌≡◌, ℕ, zero, suc, ◌+◌, ◌<◌, Bool, true, false, cond, List, [], ◌∷◌, length, drop, refl, ap, sym, ◌∙◌, true≢false, arith, nat_lt}
use Rattle.std.proofs.lemmas.Bool.Decides.{nat_tests}
use Rattle.std.specs.Prelude.{Option, Some, None, is_some, ◌==◌, map, slice_get}
use Rattle.std.specs.Ordering.{nat_cmp}
use Rattle.std.specs.BTreeMap.{insert_entry}
use Rattle.artery_watch.specs.declared.remote.RemoteWatcher.{RemoteWatcher}
use Rattle.artery_watch.specs.Standing.{Places, Numbered, put, in_order, IsWithin, Rises, watchers_by}
use Rattle.artery_watch.proofs.Order.{keys, put_within}

equal_not : (n m : ℕ) → m < n → (n == m) ≡ false
equal_not n m h = grind (arith, nat_tests, h)

-- a map by numbers puts as a list in the order of numbers does
put_is : (r : RemoteWatcher) (n low high : ℕ) (xs : Numbered) → IsWithin low high (put r n xs) → insert_entry nat_cmp (watchers_by xs) n r.watcher ≡ watchers_by (put r n xs)
put_is r n low high [] w = refl
put_is r n low high (e ∷ es) w = by (nat_lt n e.1) refl w (put_is r n (e.1 + 1) high es)
  where
    by : (b : Bool) → nat_lt n e.1 ≡ b → IsWithin low high (cond b ((r, n) ∷ e ∷ es) (e ∷ put r n es)) → (IsWithin (e.1 + 1) high (put r n es) → insert_entry nat_cmp (watchers_by es) n r.watcher ≡ watchers_by (put r n es))
        → insert_entry nat_cmp (watchers_by (e ∷ es)) n r.watcher ≡ watchers_by (cond b ((r, n) ∷ e ∷ es) (e ∷ put r n es))
    by true is w rest = rw is refl
    by false is w rest =
        let more = (put_within r n (e.1 + 1) high es w.1).from in
        rw (is, equal_not n e.1 (omega (arith, more))) (ap (λ (xs : List (ℕ × List ℕ)). (e.1, e.0.watcher) ∷ xs) (rest w.1))

rest_within : (low high : ℕ) (es : Places) (i : ℕ) → IsWithin low high (in_order es) → IsWithin low high (in_order (drop i es))
rest_within low high [] zero w = w
rest_within low high [] (suc i) w = w
rest_within low high (e ∷ es) zero w = w
rest_within low high ((r, None) ∷ es) (suc i) w = rest_within low high es i w
rest_within low high ((r, Some n) ∷ es) (suc i) w = rest_within low high es i (put_within r n low high (in_order es) w).rest

behind : (es : Places) (i : ℕ) (e : RemoteWatcher × Option ℕ) → slice_get es i ≡ Some e → drop i es ≡ e ∷ drop (suc i) es
behind [] i e h = absurd (true≢false (sym (ap is_some h)))
behind (x ∷ es) zero e h = ap (λ (o : Option (RemoteWatcher × Option ℕ)). elim o [ None ↦ x | Some z ↦ z ] ∷ es) h
behind (x ∷ es) (suc i) e h = behind es i e h

next : (i : ℕ) → suc i ≡ i + 1
next i = omega arith

pub behind_it : (es : Places) (i : ℕ) (e : RemoteWatcher × Option ℕ) → slice_get es i ≡ Some e → drop i es ≡ e ∷ drop (i + 1) es
behind_it es i e h = behind es i e h ∙ ap (λ n. e ∷ drop n es) (next i)

pub put_some : (es : Places) (i : ℕ) (r : RemoteWatcher) (n : ℕ) (old new : List (ℕ × List ℕ)) → Rises (in_order es) → slice_get es i ≡ Some (r, Some n) → old ≡ watchers_by (in_order (drop (i + 1) es))
    → new ≡ insert_entry nat_cmp old n r.watcher → new ≡ watchers_by (in_order (drop i es))
put_some es i r n old new w at was is =
    let here = behind_it es i (r, Some n) at in
    is ∙ ap (λ xs. insert_entry nat_cmp xs n r.watcher) was
    ∙ put_is r n 0 w.high (in_order (drop (i + 1) es)) (rw (sym (ap in_order here)) (rest_within 0 w.high es i w.within))
    ∙ sym (ap (λ (xs : Places). watchers_by (in_order xs)) here)

pub put_none : (es : Places) (i : ℕ) (r : RemoteWatcher) (old : List (ℕ × List ℕ)) → slice_get es i ≡ Some (r, None) → old ≡ watchers_by (in_order (drop (i + 1) es)) → old ≡ watchers_by (in_order (drop i es))
put_none es i r old at was = was ∙ sym (ap (λ (xs : Places). watchers_by (in_order xs)) (behind_it es i (r, None) at))

pub none_behind : (es : Places) → [] ≡ watchers_by (in_order (drop (length es) es))
none_behind [] = refl
none_behind (e ∷ es) = none_behind es

pub watchers_are : (xs : Numbered) → map (λ (e : ℕ × List ℕ). e.1) (watchers_by xs) ≡ map (λ (r : RemoteWatcher). r.watcher) (keys xs)
watchers_are [] = refl
watchers_are (e ∷ es) = ap (λ (xs : List (List ℕ)). e.0.watcher ∷ xs) (watchers_are es)
