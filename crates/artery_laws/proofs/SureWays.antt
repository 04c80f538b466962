-- All that was written on a connection, of which no more was delivered: it lies over what is kept of the connection.
use Rattle.std.proofs.Common.{◌≡◌, ℕ, zero, suc, ◌+◌, ◌-◌, ◌≤◌, Bool, true, false, cond, min, List, [], ◌∷◌, ◌++◌, length, drop, refl, ap, sym, ◌∙◌, arith, append-nil, zero-le}
use Rattle.std.proofs.lemmas.List.{length-append, length-drop, drop-drop, drop-append-le}
use Rattle.std.proofs.lemmas.Grind.{flat_map-append}
use Rattle.std.proofs.lemmas.Bool.Decides.{nat_tests}
use Rattle.artery_machine.specs.Deeds.{Writing}
use Rattle.artery_machine.specs.Ways.{Ways, Wrote, Written, Waiting, as_told, bytes_on, left_on, whole_ways, kept_ways, kept_delivered}
use Rattle.artery_laws.specs.OverWays.{WaysOver}

-- what is on a connection, of which no more bytes were delivered than written
pub record Sure : Type 0 where
  pub whole : Written
  pub within : whole.delivered ≤ length (bytes_on whole)

told_twice : (a b : ℕ) → as_told (as_told a + b) ≡ as_told (a + b)
told_twice a b = grind (arith, nat_tests)

-- one writing more
longer : (writing : Writing) (bytes : List ℕ) (w : Written) → bytes_on (whole_ways.wrote writing bytes w) ≡ bytes_on w ++ bytes
longer writing bytes w = flat_map-append (λ (x : Wrote). x.bytes) w.all (record { writing = writing; bytes = bytes } ∷ []) ∙ ap (λ bs. bytes_on w ++ bs) (append-nil bytes)

wrote_length : (writing : Writing) (bytes : List ℕ) (w : Written) → length (bytes_on (whole_ways.wrote writing bytes w)) ≡ length (bytes_on w) + length bytes
wrote_length writing bytes w = ap length (longer writing bytes w) ∙ length-append (bytes_on w) bytes

-- bytes that are gone are at most all
drop_most : (count : ℕ) (bs : List ℕ) → drop (min count (length bs)) bs ≡ drop count bs
drop_most zero bs = rw (let e : min 0 (length bs) ≡ 0 = grind (arith, nat_tests) in e) refl
drop_most (suc count) [] = rw (let e : min (suc count) 0 ≡ 0 = grind (arith, nat_tests) in e) refl
drop_most (suc count) (b ∷ bs) = rw (let e : min (suc count) (suc (length bs)) ≡ suc (min count (length bs)) = grind (arith, nat_tests) in e) (drop_most count bs)

within_more : (d n count : ℕ) → d ≤ n → d + min count (n - d) ≤ n
within_more d n count h = grind (arith, nat_tests)

pub delivered_within : (count : ℕ) (w : Written) → w.delivered ≤ length (bytes_on w) → w.delivered + min count (length (left_on w)) ≤ length (bytes_on w)
delivered_within count w h = by w.is_open
  where
    by : (b : Bool) → w.delivered + min count (length (cond b (drop w.delivered (bytes_on w)) [])) ≤ length (bytes_on w)
    by true = rw (length-drop w.delivered (bytes_on w)) (within_more w.delivered (length (bytes_on w)) count h)
    by false = grind (arith, nat_tests)

pub wrote_within : (writing : Writing) (bytes : List ℕ) (w : Written) → w.delivered ≤ length (bytes_on w) → w.delivered ≤ length (bytes_on (whole_ways.wrote writing bytes w))
wrote_within writing bytes w h = rw (wrote_length writing bytes w) (omega arith)

abbrev pub sure_ways : Ways
sure_ways = record {
  Way = Sure;
  nothing_written = record { whole = whole_ways.nothing_written; within = zero-le };
  wrote = λ writing bytes s. record { whole = whole_ways.wrote writing bytes s.whole; within = wrote_within writing bytes s.whole s.within };
  delivered_more = λ count s. record { whole = whole_ways.delivered_more count s.whole; within = delivered_within count s.whole s.within };
  ended = λ s. record { whole = whole_ways.ended s.whole; within = s.within };
  is_open = λ s. s.whole.is_open;
  undelivered = λ s. left_on s.whole;
  written = λ s. as_told (length (bytes_on s.whole));
  delivered = λ s. as_told s.whole.delivered;
}

abbrev pub over_whole_ways : WaysOver sure_ways whole_ways
over_whole_ways = record {
  way = λ s. s.whole;
  nothing_written = refl;
  wrote = λ writing bytes s. refl;
  delivered_more = λ count s. refl;
  ended = λ s. refl;
  is_open = λ s. refl;
  undelivered = λ s. refl;
  written = λ s. refl;
  delivered = λ s. refl;
}

-- what is kept of a connection
abbrev pub kept_of : Written → Waiting
kept_of w = record { bytes = left_on w; written = as_told (length (bytes_on w)); delivered = as_told w.delivered; is_open = w.is_open }

pub wrote_kept : (writing : Writing) (bytes : List ℕ) (w : Written) → w.delivered ≤ length (bytes_on w) → kept_ways.wrote writing bytes (kept_of w) ≡ kept_of (whole_ways.wrote writing bytes w)
wrote_kept writing more w h =
    ap (λ bs. record (kept_of w) { bytes = bs; written = as_told (as_told (length (bytes_on w)) + length more) }) (bytes w.is_open)
    ∙ ap (λ n. record (kept_of w) { bytes = left_on (whole_ways.wrote writing more w); written = n }) (told_twice (length (bytes_on w)) (length more) ∙ ap as_told (sym (wrote_length writing more w)))
  where
    bytes : (b : Bool) → cond b (cond b (drop w.delivered (bytes_on w)) [] ++ more) (cond b (drop w.delivered (bytes_on w)) []) ≡ cond b (drop w.delivered (bytes_on (whole_ways.wrote writing more w))) []
    bytes true = sym (ap (drop w.delivered) (longer writing more w) ∙ drop-append-le w.delivered (bytes_on w) more h)
    bytes false = refl

pub delivered_kept : (count : ℕ) (w : Written) → kept_ways.delivered_more count (kept_of w) ≡ kept_of (whole_ways.delivered_more count w)
delivered_kept count w =
    ap (λ bs. record (kept_delivered count (kept_of w)) { bytes = bs }) (bytes w.is_open)
    ∙ ap (λ n. record (kept_of (whole_ways.delivered_more count w)) { delivered = n }) (told_twice w.delivered (min count (length (left_on w))))
  where
    bytes : (b : Bool) → drop count (cond b (drop w.delivered (bytes_on w)) []) ≡ cond b (drop (w.delivered + min count (length (cond b (drop w.delivered (bytes_on w)) []))) (bytes_on w)) []
    bytes true = sym (drop_most count (drop w.delivered (bytes_on w))) ∙ drop-drop (min count (length (drop w.delivered (bytes_on w)))) w.delivered (bytes_on w)
    bytes false = nothing_left count
      where
        nothing_left : (count : ℕ) → drop {A = ℕ} count [] ≡ []
        nothing_left zero = refl
        nothing_left (suc count) = refl

abbrev pub over_kept_ways : WaysOver sure_ways kept_ways
over_kept_ways = record {
  way = λ s. kept_of s.whole;
  nothing_written = refl;
  wrote = λ writing bytes s. wrote_kept writing bytes s.whole s.within;
  delivered_more = λ count s. delivered_kept count s.whole;
  ended = λ s. refl;
  is_open = λ s. refl;
  undelivered = λ s. refl;
  written = λ s. refl;
  delivered = λ s. refl;
}
