-- Remote watches in the order of their numbers.
use Rattle.std.proofs.Common.{◌≡◌, ℕ, ◌+◌, ◌<◌, ◌≤◌, Bool, true, false, cond, List, [], ◌∷◌, ◌++◌, length, refl, ap, sym, ◌∙◌, true≢false, arith, nat_lt, lt-ltb, le-ltb, ltb-true}
use Rattle.std.specs.Prelude.{◌||◌, map, filter, if◌then◌else◌}
use Rattle.std.specs.List.{list_any}
use Rattle.std.specs.Map.{remove_entry}
use Rattle.std.specs.Set.{remove_key}
use Rattle.artery_watch.specs.declared.remote.RemoteWatcher.{RemoteWatcher}
use Rattle.artery_watch.specs.Standing.{Numbered, put, IsWithin}

abbrev pub keys : Numbered → List RemoteWatcher
keys xs = map (λ e. e.0) xs

pub put_length : (r : RemoteWatcher) (n : ℕ) (xs : Numbered) → length (put r n xs) ≡ length xs + 1
put_length r n [] = refl
put_length r n (e ∷ es) = by (nat_lt n e.1) (put_length r n es)
  where
    by : (b : Bool) → length (put r n es) ≡ length es + 1 → length (if b then (r, n) ∷ e ∷ es else e ∷ put r n es) ≡ length (e ∷ es) + 1
    by true h = omega arith
    by false h = omega (arith, h)

turn : (a b c : Bool) → (a || (b || c)) ≡ (b || (a || c))
turn true true c = refl
turn true false c = refl
turn false true c = refl
turn false false c = refl

pub put_any : (t : RemoteWatcher → Bool) (r : RemoteWatcher) (n : ℕ) (xs : Numbered) → list_any t (keys (put r n xs)) ≡ (t r || list_any t (keys xs))
put_any t r n [] = refl
put_any t r n (e ∷ es) = by (nat_lt n e.1) (put_any t r n es)
  where
    by : (b : Bool) → list_any t (keys (put r n es)) ≡ (t r || list_any t (keys es)) → list_any t (keys (if b then (r, n) ∷ e ∷ es else e ∷ put r n es)) ≡ (t r || (t e.0 || list_any t (keys es)))
    by true h = refl
    by false h = ap (λ b. t e.0 || b) h ∙ turn (t e.0) (t r) (list_any t (keys es))

pub lower : (low mid high : ℕ) (xs : Numbered) → low ≤ mid → IsWithin mid high xs → IsWithin low high xs
lower low mid high [] le h = omega (arith, le, h)
lower low mid high (e ∷ es) le h = (omega (arith, le, h.0), h.1)

spans : (low high : ℕ) (xs : Numbered) → IsWithin low high xs → low ≤ high
spans low high [] h = h
spans low high (e ∷ es) h = omega (arith, h.0, spans (e.1 + 1) high es h.1)

pub put_front : (r : RemoteWatcher) (n high : ℕ) (xs : Numbered) → IsWithin (n + 1) high xs → put r n xs ≡ (r, n) ∷ xs
put_front r n high [] h = refl
put_front r n high (e ∷ es) h = ap (λ b. if b then (r, n) ∷ e ∷ es else e ∷ put r n es) (lt-ltb n e.1 (omega (arith, h.0)))

-- one with a number that is not below another's comes behind it
put_behind : (r : RemoteWatcher) (n : ℕ) (e : RemoteWatcher × ℕ) (es : Numbered) → nat_lt n e.1 ≡ false → put r n (e ∷ es) ≡ e ∷ put r n es
put_behind r n e es h = ap (λ b. if b then (r, n) ∷ e ∷ es else e ∷ put r n es) h

-- one with the highest number is the last
pub put_end : (r : RemoteWatcher) (n low high : ℕ) (xs : Numbered) → IsWithin low high xs → high ≤ n → put r n xs ≡ xs ++ (r, n) ∷ []
put_end r n low high [] h le = refl
put_end r n low high (e ∷ es) h le =
    put_behind r n e es (le-ltb n e.1 (omega (arith, le, spans (e.1 + 1) high es h.1)))
    ∙ ap (λ (rest : Numbered). e ∷ rest) (put_end r n (e.1 + 1) high es h.1 le)

-- and one with a lower number comes before it
pub put_before : (r : RemoteWatcher) (m : ℕ) (z : RemoteWatcher) (n : ℕ) (xs : Numbered) → m < n → put r m (xs ++ (z, n) ∷ []) ≡ put r m xs ++ (z, n) ∷ []
put_before r m z n [] lt = put_front r m (n + 1) ((z, n) ∷ []) (omega (arith, lt), omega arith)
put_before r m z n (e ∷ es) lt = by (nat_lt m e.1) (put_before r m z n es lt)
  where
    by : (b : Bool) → put r m (es ++ (z, n) ∷ []) ≡ put r m es ++ (z, n) ∷ [] → (if b then (r, m) ∷ e ∷ es ++ (z, n) ∷ [] else e ∷ put r m (es ++ (z, n) ∷ [])) ≡ (if b then (r, m) ∷ e ∷ es else e ∷ put r m es) ++ (z, n) ∷ []
    by true h = refl
    by false h = ap (λ (rest : Numbered). e ∷ rest) h

-- what is known of one that was put among others
pub record IsPut (n low high : ℕ) (xs : Numbered) : Type 0 where
  pub from : low ≤ n
  pub below : n < high
  pub rest : IsWithin low high xs

pub put_within : (r : RemoteWatcher) (n low high : ℕ) (xs : Numbered) → IsWithin low high (put r n xs) → IsPut n low high xs
put_within r n low high [] h = record { from = h.0; below = omega (arith, h.1); rest = omega (arith, h.0, h.1) }
put_within r n low high (e ∷ es) h = by (nat_lt n e.1) h (put_within r n (e.1 + 1) high es)
  where
    by : (b : Bool) → IsWithin low high (if b then (r, n) ∷ e ∷ es else e ∷ put r n es) → (IsWithin (e.1 + 1) high (put r n es) → IsPut n (e.1 + 1) high es) → IsPut n low high (e ∷ es)
    by true h rest = record { from = h.0; below = omega (arith, h.1.0, spans (e.1 + 1) high es h.1.1); rest = (omega (arith, h.0, h.1.0), h.1.1) }
    by false h rest =
        let p = rest h.1 in
        record { from = omega (arith, h.0, p.from); below = p.below; rest = (h.0, p.rest) }

pub within_end : (r : RemoteWatcher) (n low high : ℕ) (xs : Numbered) → IsWithin low high xs → high ≤ n → IsWithin low (n + 1) (xs ++ (r, n) ∷ [])
within_end r n low high [] h le = (omega (arith, h, le), omega arith)
within_end r n low high (e ∷ es) h le = (h.0, within_end r n (e.1 + 1) high es h.1 le)

pub within_without : (t : RemoteWatcher → Bool) (low high : ℕ) (xs : Numbered) → IsWithin low high xs → IsWithin low high (remove_entry t xs)
within_without t low high [] h = h
within_without t low high (e ∷ es) h = by (t e.0) (within_without t (e.1 + 1) high es h.1)
  where
    by : (b : Bool) → IsWithin (e.1 + 1) high (remove_entry t es) → IsWithin low high (if b then es else e ∷ remove_entry t es)
    by true rest = lower low (e.1 + 1) high es (omega (arith, h.0)) h.1
    by false rest = (h.0, rest)

-- one that is put among others and removed again leaves them
pub without_own : (t : RemoteWatcher → Bool) (r : RemoteWatcher) (n : ℕ) (xs : Numbered) → t r ≡ true → list_any t (keys xs) ≡ false → remove_entry t (put r n xs) ≡ xs
without_own t r n [] h none = ap (λ b. cond b [] ((r, n) ∷ [])) h
without_own t r n (e ∷ es) h none = by (nat_lt n e.1) (t e.0) refl none (without_own t r n es h)
  where
    by : (b c : Bool) → t e.0 ≡ c → (c || list_any t (keys es)) ≡ false → (list_any t (keys es) ≡ false → remove_entry t (put r n es) ≡ es) → remove_entry t (if b then (r, n) ∷ e ∷ es else e ∷ put r n es) ≡ e ∷ es
    by b true is none rest = absurd (true≢false none)
    by true false is none rest = ap (λ b. cond b (e ∷ es) ((r, n) ∷ remove_entry t (e ∷ es))) h
    by false false is none rest = ap (λ b. cond b (put r n es) (e ∷ remove_entry t (put r n es))) is ∙ ap (λ (xs : Numbered). e ∷ xs) (rest none)

pub without_none : (t : RemoteWatcher → Bool) (xs : Numbered) → list_any t (keys xs) ≡ false → remove_entry t xs ≡ xs
without_none t [] none = refl
without_none t (e ∷ es) none = by (t e.0) none (without_none t es)
  where
    by : (b : Bool) → (b || list_any t (keys es)) ≡ false → (list_any t (keys es) ≡ false → remove_entry t es ≡ es) → (if b then es else e ∷ remove_entry t es) ≡ e ∷ es
    by true none rest = absurd (true≢false none)
    by false none rest = ap (λ (xs : Numbered). e ∷ xs) (rest none)

-- another is removed before or after
pub without_put : (t : RemoteWatcher → Bool) (r : RemoteWatcher) (n low high : ℕ) (xs : Numbered) → t r ≡ false → IsWithin low high xs → remove_entry t (put r n xs) ≡ put r n (remove_entry t xs)
without_put t r n low high [] h w = ap (λ b. cond b [] ((r, n) ∷ [])) h
without_put t r n low high (e ∷ es) h w = by (nat_lt n e.1) refl (without_put t r n (e.1 + 1) high es h w.1)
  where
    step : (b : Bool) → nat_lt n e.1 ≡ false → remove_entry t (put r n es) ≡ put r n (remove_entry t es) → cond b (put r n es) (e ∷ remove_entry t (put r n es)) ≡ put r n (cond b es (e ∷ remove_entry t es))
    step true is rest = refl
    step false is rest = ap (λ (xs : Numbered). e ∷ xs) rest ∙ sym (put_behind r n e (remove_entry t es) is)

    by : (b : Bool) → nat_lt n e.1 ≡ b → remove_entry t (put r n es) ≡ put r n (remove_entry t es) → remove_entry t (if b then (r, n) ∷ e ∷ es else e ∷ put r n es) ≡ put r n (remove_entry t (e ∷ es))
    by true is rest =
        let less = ltb-true n e.1 is in
        ap (λ b. cond b (e ∷ es) ((r, n) ∷ remove_entry t (e ∷ es))) h
        ∙ sym (put_front r n high (remove_entry t (e ∷ es)) (within_without t (n + 1) high (e ∷ es) (omega (arith, less), w.1)))
    by false is rest = step (t e.0) is rest

pub keys_without : (t : RemoteWatcher → Bool) (xs : Numbered) → keys (remove_entry t xs) ≡ remove_key t (keys xs)
keys_without t [] = refl
keys_without t (e ∷ es) = by (t e.0) (keys_without t es)
  where
    by : (b : Bool) → keys (remove_entry t es) ≡ remove_key t (keys es) → keys (if b then es else e ∷ remove_entry t es) ≡ (if b then keys es else e.0 ∷ remove_key t (keys es))
    by true h = refl
    by false h = ap (λ (xs : List RemoteWatcher). e.0 ∷ xs) h

pub keys_end : (xs : Numbered) (r : RemoteWatcher) (n : ℕ) → keys (xs ++ (r, n) ∷ []) ≡ keys xs ++ r ∷ []
keys_end [] r n = refl
keys_end (e ∷ es) r n = ap (λ (xs : List RemoteWatcher). e.0 ∷ xs) (keys_end es r n)

-- some that pass a test are kept
abbrev pub kept_by : (RemoteWatcher → Bool) → Numbered → Numbered
kept_by q xs = filter (λ e. q e.0) xs

pub within_kept : (q : RemoteWatcher → Bool) (low high : ℕ) (xs : Numbered) → IsWithin low high xs → IsWithin low high (kept_by q xs)
within_kept q low high [] h = h
within_kept q low high (e ∷ es) h = by (q e.0) (within_kept q (e.1 + 1) high es h.1)
  where
    by : (b : Bool) → IsWithin (e.1 + 1) high (kept_by q es) → IsWithin low high (if b then e ∷ kept_by q es else kept_by q es)
    by true rest = (h.0, rest)
    by false rest = lower low (e.1 + 1) high (kept_by q es) (omega (arith, h.0)) rest

pub kept_put : (q : RemoteWatcher → Bool) (r : RemoteWatcher) (n low high : ℕ) (xs : Numbered) → q r ≡ true → IsWithin low high xs → kept_by q (put r n xs) ≡ put r n (kept_by q xs)
kept_put q r n low high [] h w = ap (λ b. cond b ((r, n) ∷ []) []) h
kept_put q r n low high (e ∷ es) h w = by (nat_lt n e.1) refl (kept_put q r n (e.1 + 1) high es h w.1)
  where
    step : (b : Bool) → nat_lt n e.1 ≡ false → kept_by q (put r n es) ≡ put r n (kept_by q es) → cond b (e ∷ kept_by q (put r n es)) (kept_by q (put r n es)) ≡ put r n (cond b (e ∷ kept_by q es) (kept_by q es))
    step true is rest = ap (λ (xs : Numbered). e ∷ xs) rest ∙ sym (put_behind r n e (kept_by q es) is)
    step false is rest = rest

    by : (b : Bool) → nat_lt n e.1 ≡ b → kept_by q (put r n es) ≡ put r n (kept_by q es) → kept_by q (if b then (r, n) ∷ e ∷ es else e ∷ put r n es) ≡ put r n (kept_by q (e ∷ es))
    by true is rest =
        let less = ltb-true n e.1 is in
        ap (λ b. cond b ((r, n) ∷ kept_by q (e ∷ es)) (kept_by q (e ∷ es))) h
        ∙ sym (put_front r n high (kept_by q (e ∷ es)) (within_kept q (n + 1) high (e ∷ es) (omega (arith, less), w.1)))
    by false is rest = step (q e.0) is rest

pub lost_put : (q : RemoteWatcher → Bool) (r : RemoteWatcher) (n : ℕ) (xs : Numbered) → q r ≡ false → kept_by q (put r n xs) ≡ kept_by q xs
lost_put q r n [] h = ap (λ b. cond b ((r, n) ∷ []) []) h
lost_put q r n (e ∷ es) h = by (nat_lt n e.1) (lost_put q r n es h)
  where
    step : (b : Bool) → kept_by q (put r n es) ≡ kept_by q es → cond b (e ∷ kept_by q (put r n es)) (kept_by q (put r n es)) ≡ cond b (e ∷ kept_by q es) (kept_by q es)
    step true rest = ap (λ (xs : Numbered). e ∷ xs) rest
    step false rest = rest

    by : (b : Bool) → kept_by q (put r n es) ≡ kept_by q es → kept_by q (if b then (r, n) ∷ e ∷ es else e ∷ put r n es) ≡ kept_by q (e ∷ es)
    by true rest = ap (λ b. cond b ((r, n) ∷ kept_by q (e ∷ es)) (kept_by q (e ∷ es))) h
    by false rest = step (q e.0) rest

pub keys_kept : (q : RemoteWatcher → Bool) (xs : Numbered) → keys (kept_by q xs) ≡ filter q (keys xs)
keys_kept q [] = refl
keys_kept q (e ∷ es) = by (q e.0) (keys_kept q es)
  where
    by : (b : Bool) → keys (kept_by q es) ≡ filter q (keys es) → keys (if b then e ∷ kept_by q es else kept_by q es) ≡ (if b then e.0 ∷ filter q (keys es) else filter q (keys es))
    by true h = ap (λ (xs : List RemoteWatcher). e.0 ∷ xs) h
    by false h = h
