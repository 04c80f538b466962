-- What is on a connection of a network, on its way from who dialed to the far side: all that was ever written, or what is still to come and two counts.
use Rattle.std.specs.Prelude.{ℕ, ◌+◌, ◌-◌, ◌^◌, Bool, true, false, min, if◌then◌else◌, List, [], ◌∷◌, ◌++◌, length, drop}
use Rattle.std.specs.List.{flat_map}
use Rattle.artery_machine.specs.Deeds.{Writing}

-- What the rules of a network ask of what is on a connection. They know nothing else of it.
pub record Ways : Type 1 where
  pub Way : Type 0
  pub nothing_written : Way
  -- something more was written, with these bytes
  pub wrote : Writing → List ℕ → Way → Way
  -- so many more bytes were delivered, at most all that are undelivered
  pub delivered_more : ℕ → Way → Way
  -- the far side has ended: what was undelivered is lost, and so is what is written from then on
  pub ended : Way → Way
  -- whether the far side is open
  pub is_open : Way → Bool
  -- the bytes that are undelivered
  pub undelivered : Way → List ℕ
  -- how many bytes were written and how many delivered
  pub written : Way → ℕ
  pub delivered : Way → ℕ

-- A number as it is told: one above 18,446,744,073,709,551,615 as that number.
abbrev pub as_told : ℕ → ℕ
as_told n = min n (2 ^ 64 - 1)

-- ---- whole

-- What was written, and its bytes.
pub record Wrote : Type 0 where
  pub writing : Writing
  pub bytes : List ℕ

-- All that was written, each with its bytes, how many of all these bytes were delivered, and whether the far side is open. It is never shortened.
pub record Written : Type 0 where
  pub all : List Wrote
  pub delivered : ℕ
  pub is_open : Bool

-- All bytes that were written.
abbrev pub bytes_on : Written → List ℕ
bytes_on w = flat_map (λ (x : Wrote). x.bytes) w.all

-- The bytes that are undelivered: those behind the delivered ones, and none once the far side has ended.
abbrev pub left_on : Written → List ℕ
left_on w = if w.is_open then drop w.delivered (bytes_on w) else []

-- What is on a connection is all that was ever written on it.
abbrev pub whole_ways : Ways
whole_ways = record {
  Way = Written;
  nothing_written = record { all = []; delivered = 0; is_open = true };
  wrote = λ writing bytes w. record w { all = w.all ++ record { writing = writing; bytes = bytes } ∷ [] };
  delivered_more = λ count w. record w { delivered = w.delivered + min count (length (left_on w)) };
  ended = λ w. record w { is_open = false };
  is_open = λ w. w.is_open;
  undelivered = left_on;
  written = λ w. as_told (length (bytes_on w));
  delivered = λ w. as_told w.delivered;
}

-- ---- what is kept

-- The bytes that are undelivered, how many were written and delivered, and whether the far side is open.
pub record Waiting : Type 0 where
  pub bytes : List ℕ
  pub written : ℕ
  pub delivered : ℕ
  pub is_open : Bool

-- Bytes come behind those that wait, where the far side is open, and count.
abbrev pub kept_wrote : List ℕ → Waiting → Waiting
kept_wrote more k = record k { bytes = if k.is_open then k.bytes ++ more else k.bytes; written = as_told (k.written + length more) }

-- So many of the bytes that wait are gone and count, at most all.
abbrev pub kept_delivered : ℕ → Waiting → Waiting
kept_delivered count k = record k { bytes = drop count k.bytes; delivered = as_told (k.delivered + min count (length k.bytes)) }

-- No bytes wait any more.
abbrev pub kept_ended : Waiting → Waiting
kept_ended k = record k { bytes = []; is_open = false }

-- What is kept of a connection are the bytes to come, and counts.
abbrev pub kept_ways : Ways
kept_ways = record {
  Way = Waiting;
  nothing_written = record { bytes = []; written = 0; delivered = 0; is_open = true };
  wrote = λ writing bytes k. kept_wrote bytes k;
  delivered_more = kept_delivered;
  ended = kept_ended;
  is_open = λ k. k.is_open;
  undelivered = λ k. k.bytes;
  written = λ k. k.written;
  delivered = λ k. k.delivered;
}
