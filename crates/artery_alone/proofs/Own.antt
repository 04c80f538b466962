-- What a law reads of the lines before is told by the incarnation whose line it is: the lines of others may be left out.
use Rattle.std.proofs.Common.{◌≡◌, ℕ, Bool, true, false, cond, List, [], ◌∷◌, ◌++◌, refl, ap, sym, ◌∙◌, true≢false, append_assoc}
use Rattle.std.specs.Prelude.{◌&&◌, ◌||◌, ◌==◌, filter, Option, Some, None}
use Rattle.std.specs.List.{list_any}
use Rattle.artery_base.specs.declared.address.UniqueAddress.{UniqueAddress}
use Rattle.artery_journal.specs.declared.line.Line.{Line}
use Rattle.artery_journal.specs.declared.line.Line.TheVariants as lines
use Rattle.artery_judge.specs.Lines.{Entry, same, is_way, of, says_closed, deals, says_watched, says_unwatched, is_started, is_stopped, is_said}
use Rattle.artery_judge.specs.Laws.{is_watch, is_above, has_closed, has_watched, has_ended, has_line, has_stopped, has_later, breaks_closed, watches_again, ends_nothing}
use Rattle.artery_alone.specs.Alone.{Law, close_law, watch_law, stopped_law, moment_law, Keeps}
use Rattle.artery_alone.proofs.Names.{and_left, unique_self}

-- The lines of one incarnation.
abbrev pub of_one : UniqueAddress → List Entry → List Entry
of_one a ls = filter (λ e. same a (of e.1)) ls

pub of_both : (a : UniqueAddress) (xs ys : List Entry) → of_one a (xs ++ ys) ≡ of_one a xs ++ of_one a ys
of_both a [] ys = refl
of_both a (x ∷ xs) ys = by (same a (of x.1)) (of_both a xs ys)
  where
    by : (b : Bool) → of_one a (xs ++ ys) ≡ of_one a xs ++ of_one a ys → cond b (x ∷ of_one a (xs ++ ys)) (of_one a (xs ++ ys)) ≡ cond b (x ∷ of_one a xs) (of_one a xs) ++ of_one a ys
    by true rest = ap (λ ls. x ∷ ls) rest
    by false rest = rest

-- A test that only lines of one incarnation pass does not ask for the others.
any_of : (a : UniqueAddress) (test : Entry → Bool) → ((e : Entry) → test e ≡ true → same a (of e.1) ≡ true) → (ls : List Entry) → list_any test (of_one a ls) ≡ list_any test ls
any_of a test h [] = refl
any_of a test h (e ∷ ls) = by (same a (of e.1)) (test e) refl (h e) (any_of a test h ls)
  where
    by : (b c : Bool) → test e ≡ c → (c ≡ true → b ≡ true) → list_any test (of_one a ls) ≡ list_any test ls → list_any test (cond b (e ∷ of_one a ls) (of_one a ls)) ≡ (c || list_any test ls)
    by true c t g rest = ap (λ x. x || list_any test (of_one a ls)) t ∙ ap (λ x. c || x) rest
    by false true t g rest = absurd (true≢false (sym (g refl)))
    by false false t g rest = rest

-- ---- who says it

-- What a line says is of the incarnation whose line it is.
record IsOwn (a : UniqueAddress) (line : Line) : Type 0 where
  pub closed : (b : UniqueAddress) → is_said (is_way a b) (says_closed line) ≡ true → same a (of line) ≡ true
  pub watched : (id : ℕ) → is_said (is_watch a id) (says_watched line) ≡ true → same a (of line) ≡ true
  pub unwatched : (id : ℕ) → is_said (is_watch a id) (says_unwatched line) ≡ true → same a (of line) ≡ true

is_own : (a : UniqueAddress) (line : Line) → IsOwn a line
is_own a (lines.Started who) = record { closed = λ b h. absurd cc; watched = λ id h. absurd cc; unwatched = λ id h. absurd cc }
is_own a (lines.Stopped who) = record { closed = λ b h. absurd cc; watched = λ id h. absurd cc; unwatched = λ id h. absurd cc }
is_own a (lines.Learnt who other) = record { closed = λ b h. absurd cc; watched = λ id h. absurd cc; unwatched = λ id h. absurd cc }
is_own a (lines.Closed who other cause) = record { closed = λ b h. and_left (same a who) (same b other) h; watched = λ id h. absurd cc; unwatched = λ id h. absurd cc }
is_own a (lines.Sent who other n message) = record { closed = λ b h. absurd cc; watched = λ id h. absurd cc; unwatched = λ id h. absurd cc }
is_own a (lines.Took who other n message) = record { closed = λ b h. absurd cc; watched = λ id h. absurd cc; unwatched = λ id h. absurd cc }
is_own a (lines.Again who other n) = record { closed = λ b h. absurd cc; watched = λ id h. absurd cc; unwatched = λ id h. absurd cc }
is_own a (lines.Gap who other n) = record { closed = λ b h. absurd cc; watched = λ id h. absurd cc; unwatched = λ id h. absurd cc }
is_own a (lines.Told who other dial message) = record { closed = λ b h. absurd cc; watched = λ id h. absurd cc; unwatched = λ id h. absurd cc }
is_own a (lines.Got who other n message) = record { closed = λ b h. absurd cc; watched = λ id h. absurd cc; unwatched = λ id h. absurd cc }
is_own a (lines.Dropped who conn rule) = record { closed = λ b h. absurd cc; watched = λ id h. absurd cc; unwatched = λ id h. absurd cc }
is_own a (lines.Stray who other n) = record { closed = λ b h. absurd cc; watched = λ id h. absurd cc; unwatched = λ id h. absurd cc }
is_own a (lines.Barred who other) = record { closed = λ b h. absurd cc; watched = λ id h. absurd cc; unwatched = λ id h. absurd cc }
is_own a (lines.Notice who other) = record { closed = λ b h. absurd cc; watched = λ id h. absurd cc; unwatched = λ id h. absurd cc }
is_own a (lines.Watched who x watcher watchee) = record { closed = λ b h. absurd cc; watched = λ id h. and_left (same a who) (id == x) h; unwatched = λ id h. absurd cc }
is_own a (lines.Unwatched who x) = record { closed = λ b h. absurd cc; watched = λ id h. absurd cc; unwatched = λ id h. and_left (same a who) (id == x) h }
is_own a (lines.Terminated who x) = record { closed = λ b h. absurd cc; watched = λ id h. absurd cc; unwatched = λ id h. and_left (same a who) (id == x) h }
is_own a (lines.Refused who reason) = record { closed = λ b h. absurd cc; watched = λ id h. absurd cc; unwatched = λ id h. absurd cc }
is_own a (lines.Spawned who path) = record { closed = λ b h. absurd cc; watched = λ id h. absurd cc; unwatched = λ id h. absurd cc }
is_own a (lines.Ended who path) = record { closed = λ b h. absurd cc; watched = λ id h. absurd cc; unwatched = λ id h. absurd cc }
is_own a (lines.Advertised who other kind version count) = record { closed = λ b h. absurd cc; watched = λ id h. absurd cc; unwatched = λ id h. absurd cc }
is_own a (lines.Adopted who other kind version) = record { closed = λ b h. absurd cc; watched = λ id h. absurd cc; unwatched = λ id h. absurd cc }
is_own a (lines.Skipped who sender k seen at) = record { closed = λ b h. absurd cc; watched = λ id h. absurd cc; unwatched = λ id h. absurd cc }
is_own a (lines.Idle who other) = record { closed = λ b h. absurd cc; watched = λ id h. absurd cc; unwatched = λ id h. absurd cc }

closed_of : (a b : UniqueAddress) (ls : List Entry) → has_closed a b (of_one a ls) ≡ has_closed a b ls
closed_of a b ls = any_of a (λ e. is_said (is_way a b) (says_closed e.1)) (λ e h. (is_own a e.1).closed b h) ls

watched_of : (a : UniqueAddress) (id : ℕ) (ls : List Entry) → has_watched a id (of_one a ls) ≡ has_watched a id ls
watched_of a id ls = any_of a (λ e. is_said (is_watch a id) (says_watched e.1)) (λ e h. (is_own a e.1).watched id h) ls

ended_of : (a : UniqueAddress) (id : ℕ) (ls : List Entry) → has_ended a id (of_one a ls) ≡ has_ended a id ls
ended_of a id ls = any_of a (λ e. is_said (is_watch a id) (says_unwatched e.1)) (λ e h. (is_own a e.1).unwatched id h) ls

stopped_of : (a : UniqueAddress) (ls : List Entry) → has_stopped a (of_one a ls) ≡ has_stopped a ls
stopped_of a ls = any_of a (λ e. same a (of e.1) && is_stopped e.1) (λ e h. and_left (same a (of e.1)) (is_stopped e.1) h) ls

line_of : (a : UniqueAddress) (ls : List Entry) → has_line a (of_one a ls) ≡ has_line a ls
line_of a ls = any_of a (λ e. same a (of e.1)) (λ e h. h) ls

later_of : (a : UniqueAddress) (m : ℕ) (ls : List Entry) → has_later a m (of_one a ls) ≡ has_later a m ls
later_of a m ls = any_of a (λ e. same a (of e.1) && is_above m e.0) (λ e h. and_left (same a (of e.1)) (is_above m e.0) h) ls

-- ---- what a law reads

record ReadsOwn (ls : List Entry) (line : Line) : Type 0 where
  pub close : breaks_closed (of_one (of line) ls) (deals line) ≡ breaks_closed ls (deals line)
  pub again : watches_again (of_one (of line) ls) (says_watched line) ≡ watches_again ls (says_watched line)
  pub nothing : ends_nothing (of_one (of line) ls) (says_unwatched line) ≡ ends_nothing ls (says_unwatched line)

reads_own : (ls : List Entry) (line : Line) → ReadsOwn ls line
reads_own ls (lines.Started who) = record { close = refl; again = refl; nothing = refl }
reads_own ls (lines.Stopped who) = record { close = refl; again = refl; nothing = refl }
reads_own ls (lines.Learnt who other) = record { close = closed_of who other ls; again = refl; nothing = refl }
reads_own ls (lines.Closed who other cause) = record { close = closed_of who other ls; again = refl; nothing = refl }
reads_own ls (lines.Sent who other n message) = record { close = closed_of who other ls; again = refl; nothing = refl }
reads_own ls (lines.Took who other n message) = record { close = closed_of who other ls; again = refl; nothing = refl }
reads_own ls (lines.Again who other n) = record { close = closed_of who other ls; again = refl; nothing = refl }
reads_own ls (lines.Gap who other n) = record { close = closed_of who other ls; again = refl; nothing = refl }
reads_own ls (lines.Told who other dial message) = record { close = closed_of who other ls; again = refl; nothing = refl }
reads_own ls (lines.Got who other n message) = record { close = closed_of who other ls; again = refl; nothing = refl }
reads_own ls (lines.Dropped who conn rule) = record { close = refl; again = refl; nothing = refl }
reads_own ls (lines.Stray who other n) = record { close = refl; again = refl; nothing = refl }
reads_own ls (lines.Barred who other) = record { close = refl; again = refl; nothing = refl }
reads_own ls (lines.Notice who other) = record { close = refl; again = refl; nothing = refl }
reads_own ls (lines.Watched who x watcher watchee) = record { close = refl; again = watched_of who x ls; nothing = refl }
reads_own ls (lines.Unwatched who x) = record { close = refl; again = refl; nothing = rw (watched_of who x ls, ended_of who x ls) refl }
reads_own ls (lines.Terminated who x) = record { close = refl; again = refl; nothing = rw (watched_of who x ls, ended_of who x ls) refl }
reads_own ls (lines.Refused who reason) = record { close = refl; again = refl; nothing = refl }
reads_own ls (lines.Spawned who path) = record { close = refl; again = refl; nothing = refl }
reads_own ls (lines.Ended who path) = record { close = refl; again = refl; nothing = refl }
reads_own ls (lines.Advertised who other kind version count) = record { close = refl; again = refl; nothing = refl }
reads_own ls (lines.Adopted who other kind version) = record { close = refl; again = refl; nothing = refl }
reads_own ls (lines.Skipped who sender k seen at) = record { close = refl; again = refl; nothing = refl }
reads_own ls (lines.Idle who other) = record { close = refl; again = refl; nothing = refl }

-- A law that reads of the lines before only those of the incarnation whose line it is.
pub record OfOne (law : Law) : Type 0 where
  pub same_of : (ls : List Entry) (e : Entry) → law (of_one (of e.1) ls) e ≡ law ls e

pub close_of_one : OfOne close_law
close_of_one = record { same_of = λ ls e. (reads_own ls e.1).close }

pub watch_of_one : OfOne watch_law
watch_of_one = record { same_of = λ ls e. ap (λ b. b || ends_nothing (of_one (of e.1) ls) (says_unwatched e.1)) (reads_own ls e.1).again ∙ ap (λ b. watches_again ls (says_watched e.1) || b) (reads_own ls e.1).nothing }

pub stopped_of_one : OfOne stopped_law
stopped_of_one = record { same_of = λ ls e. ap (λ b. b || (is_started e.1 && has_line (of e.1) (of_one (of e.1) ls))) (stopped_of (of e.1) ls) ∙ ap (λ b. has_stopped (of e.1) ls || (is_started e.1 && b)) (line_of (of e.1) ls) }

pub moment_of_one : OfOne moment_law
moment_of_one = record { same_of = λ ls e. by ls e.0 e.1 }
  where
    by : (ls : List Entry) (o : Option ℕ) (line : Line) → moment_law (of_one (of line) ls) (o, line) ≡ moment_law ls (o, line)
    by ls None line = refl
    by ls (Some m) line = later_of (of line) m ls

-- Where the lines of each incarnation are the first of lines that keep such a law, all lines keep it.
pub keeps_by_one : (law : Law) → OfOne law → (ls : List Entry) → ((a : UniqueAddress) → (rest : List Entry) × Keeps law (of_one a ls ++ rest)) → Keeps law ls
keeps_by_one law o ls h before after e is =
    let a : UniqueAddress = of e.1 in
    let k = h a in
    let here : of_one a (e ∷ after) ≡ e ∷ of_one a after = ap (λ b. cond b (e ∷ of_one a after) (of_one a after)) (unique_self a) in
    let at : of_one a ls ++ k.0 ≡ of_one a before ++ e ∷ (of_one a after ++ k.0) =
    ap (λ x. of_one a x ++ k.0) is
    ∙ ap (λ x. x ++ k.0) (of_both a before (e ∷ after) ∙ ap (λ x. of_one a before ++ x) here)
    ∙ append_assoc (of_one a before) (e ∷ of_one a after) k.0 in
    sym (o.same_of before e) ∙ k.1 (of_one a before) (of_one a after ++ k.0) e at
