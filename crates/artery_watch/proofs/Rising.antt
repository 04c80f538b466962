-- Places whose numbers rise.
use Rattle.std.proofs.Common.{◌≡◌, ℕ, ◌+◌, ◌<◌, List, [], ◌∷◌, length, drop, refl, ap, sym, ◌∙◌, subst, arith}
use Rattle.std.specs.Prelude.{Some, None, map, slice_get}
use Rattle.artery_watch.specs.declared.remote.RemoteWatcher.{RemoteWatcher}
use Rattle.artery_watch.specs.Standing.{Places, put, in_order, standing, IsWithin, listed, by_place, IsRising}
use Rattle.artery_watch.proofs.Order.{keys, lower, put_front}
use Rattle.artery_watch.proofs.Sorting.{behind_it}

pub rising_none : (es : Places) (i low : ℕ) (r : RemoteWatcher) → slice_get es i ≡ Some (r, None) → IsRising low (drop (i + 1) es) → IsRising low (drop i es)
rising_none es i low r at h = subst (IsRising low) (sym (behind_it es i (r, None) at)) (record { high = h.high; within = h.within; same = h.same })

pub rising_some : (es : Places) (i low n : ℕ) (r : RemoteWatcher) → slice_get es i ≡ Some (r, Some n) → n < low → IsRising low (drop (i + 1) es) → IsRising n (drop i es)
rising_some es i low n r at less h =
    let rest = drop (i + 1) es in
    let within : IsWithin (n + 1) h.high (listed rest) = lower (n + 1) low h.high (listed rest) (omega (arith, less)) h.within in
    subst (IsRising n) (sym (behind_it es i (r, Some n) at)) (record {
      high = h.high;
      within = (omega arith, within);
      same = ap (put r n) h.same ∙ put_front r n h.high (listed rest) within;
    })

nothing_left : (es : Places) → drop (length es) es ≡ []
nothing_left [] = refl
nothing_left (e ∷ es) = nothing_left es

pub rising_end : (es : Places) (n low : ℕ) → n ≡ length es → IsRising low (drop n es)
rising_end es n low is = subst (IsRising low) (sym (ap (λ n. drop n es) is ∙ nothing_left es)) (record { high = low; within = omega arith; same = refl })

pub rising_all : (es : Places) (low : ℕ) → IsRising low (drop 0 es) → in_order es ≡ listed es
rising_all [] low h = h.same
rising_all (e ∷ es) low h = h.same

keys_listed : (es : Places) → keys (listed es) ≡ by_place es
keys_listed [] = refl
keys_listed ((r, Some n) ∷ es) = ap (λ (xs : List RemoteWatcher). r ∷ xs) (keys_listed es)
keys_listed ((r, None) ∷ es) = keys_listed es

pub by_place_is : (es : Places) → in_order es ≡ listed es → map (λ (r : RemoteWatcher). r.watcher) (by_place es) ≡ map (λ (r : RemoteWatcher). r.watcher) (standing es)
by_place_is es h = ap (λ (xs : List RemoteWatcher). map (λ (r : RemoteWatcher). r.watcher) xs) (sym (ap keys h ∙ keys_listed es))
