-- Journals with the newest line first, and what a line more makes of them.
use Rattle.std.proofs.Common.{◌≡◌, ℕ, Bool, true, false, List, [], ◌∷◌, refl, ap, ◌∙◌}
use Rattle.std.specs.Prelude.{◌&&◌, ◌||◌, Some, None}
use Rattle.artery_base.specs.declared.address.UniqueAddress.{UniqueAddress}
use Rattle.artery_journal.specs.declared.line.Line.{Line}
use Rattle.artery_journal.specs.declared.line.Line.TheVariants as lines
use Rattle.artery_judge.specs.Lines.{Entry, same, of, says_closed, says_took, deals, says_watched, says_unwatched, is_started, is_stopped}
use Rattle.artery_judge.specs.Laws.{has_closed, has_watched, has_ended, has_stopped, has_line, taken_from, breaks_closed}
use Rattle.artery_machine.specs.Deeds.{Deed, Dials, Writes, Hangs, Tells}
use Rattle.artery_machine.specs.Doing.{Sink}
use Rattle.artery_alone.proofs.Names.{unique_self}
use Rattle.artery_alone.specs.Alone.{Law, close_law, watch_law, stopped_law}

-- The lines so far with those of a deed before them.
abbrev pub noted : ℕ → Deed → List Entry → List Entry
noted m (Dials dial address) ls = ls
noted m (Writes dial writing) ls = ls
noted m (Hangs conn) ls = ls
noted m (Tells line) ls = (Some m, line) ∷ ls

-- Lines are noted, the newest first, each with this moment.
abbrev pub noting : ℕ → Sink
noting m = record { Deeds = List Entry; told = noted m }

-- No line breaks a law after those before it.
abbrev pub Unbroken : Law → List Entry → Type 0
Unbroken law [] = Unit {0}
Unbroken law (e ∷ es) = (law es e ≡ false) × Unbroken law es

-- Lines that are lawful, none of which is of an end.
pub record Sound (ls : List Entry) : Type 0 where
  pub running : (a : UniqueAddress) → has_stopped a ls ≡ false
  pub close : Unbroken close_law ls
  pub watch : Unbroken watch_law ls
  pub stopped : Unbroken stopped_law ls

and_false : (b : Bool) → (b && false) ≡ false
and_false true = refl
and_false false = refl

or_none : (b c : Bool) → b ≡ false → c ≡ false → (b || c) ≡ false
or_none true c h k = h
or_none false c h k = k

-- A line more that is of no start and no end, and breaks neither the close nor the watch law.
pub sound_on : (m : ℕ) (ls : List Entry) (line : Line) → Sound ls → is_started line ≡ false → is_stopped line ≡ false → close_law ls (Some m, line) ≡ false → watch_law ls (Some m, line) ≡ false → Sound ((Some m, line) ∷ ls)
sound_on m ls line s begins ends close watch = record {
  running = λ a. or_none (same a (of line) && is_stopped line) (has_stopped a ls) (ap (λ b. same a (of line) && b) ends ∙ and_false (same a (of line))) (s.running a);
  close = (close, s.close);
  watch = (watch, s.watch);
  stopped = (or_none (has_stopped (of line) ls) (is_started line && has_line (of line) ls) (s.running (of line)) (ap (λ b. b && has_line (of line) ls) begins), s.stopped);
}

-- ---- lines that no law reads

-- All lines are of one incarnation.
abbrev pub AllOf : UniqueAddress → List Entry → Type 0
AllOf a [] = Unit {0}
AllOf a (e ∷ es) = (same a (of e.1) ≡ true) × AllOf a es

-- Lines after which all that the laws read is the same, and which are of the same incarnation.
pub record Quietly (who : UniqueAddress) (m : ℕ) (ls ks : List Entry) : Type 0 where
  pub closed : (a b : UniqueAddress) → has_closed a b ks ≡ has_closed a b ls
  pub watched : (a : UniqueAddress) (id : ℕ) → has_watched a id ks ≡ has_watched a id ls
  pub ended : (a : UniqueAddress) (id : ℕ) → has_ended a id ks ≡ has_ended a id ls
  pub took : (a b : UniqueAddress) → taken_from a b ks ≡ taken_from a b ls
  pub sound : Sound ls → Sound ks
  pub own : AllOf who ls → AllOf who ks

pub quiet_none : (who : UniqueAddress) (m : ℕ) (ls : List Entry) → Quietly who m ls ls
quiet_none who m ls = record { closed = λ a b. refl; watched = λ a id. refl; ended = λ a id. refl; took = λ a b. refl; sound = λ s. s; own = λ o. o }

pub quiet_both : (who : UniqueAddress) (m : ℕ) (ls ks js : List Entry) → Quietly who m ls ks → Quietly who m ks js → Quietly who m ls js
quiet_both who m ls ks js x y = record {
  closed = λ a b. y.closed a b ∙ x.closed a b;
  watched = λ a id. y.watched a id ∙ x.watched a id;
  ended = λ a id. y.ended a id ∙ x.ended a id;
  took = λ a b. y.took a b ∙ x.took a b;
  sound = λ s. y.sound (x.sound s);
  own = λ o. y.own (x.own o);
}

-- Whether no law reads a line, but for whose it is.
abbrev pub is_quiet : Line → Bool
is_quiet (lines.Dropped a conn rule) = true
is_quiet (lines.Stray a b n) = true
is_quiet (lines.Barred a b) = true
is_quiet (lines.Notice a b) = true
is_quiet (lines.Refused a reason) = true
is_quiet (lines.Spawned a path) = true
is_quiet (lines.Ended a path) = true
is_quiet (lines.Advertised a b kind version count) = true
is_quiet (lines.Adopted a b kind version) = true
is_quiet (lines.Skipped a sender k seen at) = true
is_quiet (lines.Idle a b) = true
is_quiet line = false

-- A line that says nothing of what the laws read.
pub record SaysNothing (line : Line) : Type 0 where
  pub closed : says_closed line ≡ None
  pub deals : deals line ≡ None
  pub watched : says_watched line ≡ None
  pub unwatched : says_unwatched line ≡ None
  pub took : says_took line ≡ None
  pub started : is_started line ≡ false
  pub stopped : is_stopped line ≡ false

nothing_said : (line : Line) → is_quiet line ≡ true → SaysNothing line
nothing_said (lines.Dropped a conn rule) h = record { closed = refl; deals = refl; watched = refl; unwatched = refl; took = refl; started = refl; stopped = refl }
nothing_said (lines.Stray a b n) h = record { closed = refl; deals = refl; watched = refl; unwatched = refl; took = refl; started = refl; stopped = refl }
nothing_said (lines.Barred a b) h = record { closed = refl; deals = refl; watched = refl; unwatched = refl; took = refl; started = refl; stopped = refl }
nothing_said (lines.Notice a b) h = record { closed = refl; deals = refl; watched = refl; unwatched = refl; took = refl; started = refl; stopped = refl }
nothing_said (lines.Refused a reason) h = record { closed = refl; deals = refl; watched = refl; unwatched = refl; took = refl; started = refl; stopped = refl }
nothing_said (lines.Spawned a path) h = record { closed = refl; deals = refl; watched = refl; unwatched = refl; took = refl; started = refl; stopped = refl }
nothing_said (lines.Ended a path) h = record { closed = refl; deals = refl; watched = refl; unwatched = refl; took = refl; started = refl; stopped = refl }
nothing_said (lines.Advertised a b kind version count) h = record { closed = refl; deals = refl; watched = refl; unwatched = refl; took = refl; started = refl; stopped = refl }
nothing_said (lines.Adopted a b kind version) h = record { closed = refl; deals = refl; watched = refl; unwatched = refl; took = refl; started = refl; stopped = refl }
nothing_said (lines.Skipped a sender k seen at) h = record { closed = refl; deals = refl; watched = refl; unwatched = refl; took = refl; started = refl; stopped = refl }
nothing_said (lines.Idle a b) h = record { closed = refl; deals = refl; watched = refl; unwatched = refl; took = refl; started = refl; stopped = refl }
nothing_said (lines.Started a) h = absurd cc
nothing_said (lines.Stopped a) h = absurd cc
nothing_said (lines.Learnt a b) h = absurd cc
nothing_said (lines.Closed a b cause) h = absurd cc
nothing_said (lines.Sent a b n message) h = absurd cc
nothing_said (lines.Took a b n message) h = absurd cc
nothing_said (lines.Again a b n) h = absurd cc
nothing_said (lines.Gap a b n) h = absurd cc
nothing_said (lines.Told a b dial message) h = absurd cc
nothing_said (lines.Got a b n message) h = absurd cc
nothing_said (lines.Watched a id watcher watchee) h = absurd cc
nothing_said (lines.Unwatched a id) h = absurd cc
nothing_said (lines.Terminated a id) h = absurd cc

by_nothing : (who : UniqueAddress) (m : ℕ) (ls : List Entry) (line : Line) → SaysNothing line → of line ≡ who → Quietly who m ls ((Some m, line) ∷ ls)
by_nothing who m ls line n is = record {
  closed = λ a b. rw n.closed refl;
  watched = λ a id. rw n.watched refl;
  ended = λ a id. rw n.unwatched refl;
  took = λ a b. rw n.took refl;
  sound = λ s. sound_on m ls line s n.started n.stopped (ap (breaks_closed ls) n.deals) (rw (n.watched, n.unwatched) refl);
  own = λ o. (ap (same who) is ∙ unique_self who, o);
}

-- A line more that no law reads.
pub quiet_line : (who : UniqueAddress) (m : ℕ) (ls : List Entry) (line : Line) → is_quiet line ≡ true → of line ≡ who → Quietly who m ls ((Some m, line) ∷ ls)
quiet_line who m ls line h is = by_nothing who m ls line (nothing_said line h) is
