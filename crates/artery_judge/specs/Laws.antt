-- The laws of a journal: which line breaks which law, given the lines before it.
use Rattle.std.specs.Prelude.{◌≡◌, ℕ, ◌+◌, Bool, true, false, not, ◌&&◌, ◌||◌, ◌==◌, nat_lt, List, [], ◌∷◌, ◌++◌, length, map, Option, Some, None, if◌then◌else◌}
use Rattle.std.specs.List.{list_any}
use Rattle.artery_base.specs.declared.message.Tell.{Tell}
use Rattle.artery_base.specs.declared.address.UniqueAddress.{UniqueAddress}
use Rattle.artery_base.specs.contracts.message.SysMsgPartialEq.TheImpl as sys_eq
use Rattle.artery_base.specs.contracts.message.TellPartialEq.TheImpl as tell_eq
use Rattle.artery_journal.specs.declared.line.Line.{Line}
use Rattle.artery_journal.specs.declared.stamped.Stamped.{Stamped}
use Rattle.artery_journal.specs.declared.journal.Journal.{Journal}
use Rattle.artery_journal.specs.declared.journal.Journal.TheVariants.{Plain, Stamped as StampedForm}
use Rattle.artery_judge.specs.declared.verdict.Law.{Law}
use Rattle.artery_judge.specs.declared.verdict.Law.TheVariants.{Prefix, Closed, Watch, Ordinary, Stopped, Moment}
use Rattle.artery_judge.specs.declared.verdict.Verdict.{Verdict}
use Rattle.artery_judge.specs.declared.verdict.Verdict.TheVariants.{Lawful, Broken}
use Rattle.artery_judge.specs.Lines.{Entry, Way, Rest, same, is_way, of, says_sent, says_took, says_told, says_got, says_closed, deals, says_watched, says_unwatched, is_started, is_stopped, rests, is_said}

-- Whether two system messages have the same number, serializer, manifest and payload.
abbrev pub same_rest : Rest → Rest → Bool
same_rest x y = (x.0 == y.0) && (sys_eq.ghosts).eq x.1 y.1

-- Whether two ordinary messages are equal.
abbrev pub same_tell : Tell → Tell → Bool
same_tell = (tell_eq.ghosts).eq

-- Whether a list is a prefix of another.
abbrev pub is_prefix : List Rest → List Rest → Bool
is_prefix [] ys = true
is_prefix (x ∷ xs) [] = false
is_prefix (x ∷ xs) (y ∷ ys) = same_rest y x && is_prefix xs ys

-- Whether a list is a subsequence of another: what is left of that where some of its elements are taken out.
abbrev pub is_subsequence : List Tell → List Tell → Bool
is_subsequence [] ys = true
is_subsequence (x ∷ xs) [] = false
is_subsequence (x ∷ xs) (y ∷ ys) = (same_tell y x && is_subsequence xs ys) || is_subsequence (x ∷ xs) ys

-- All system messages that a sent to b.
abbrev pub sent_to : UniqueAddress → UniqueAddress → List Entry → List Rest
sent_to a b lines = rests says_sent (is_way a b) lines

-- All system messages that b took from a.
abbrev pub taken_from : UniqueAddress → UniqueAddress → List Entry → List Rest
taken_from a b lines = rests says_took (is_way b a) lines

-- Whether a number is that of a way and a connection.
abbrev pub is_dial : UniqueAddress → UniqueAddress → ℕ → Way × ℕ → Bool
is_dial a b d key = is_way a b key.0 && (d == key.1)

-- Whether a nonce is there, and is that of a way and a connection.
abbrev pub is_nonce : UniqueAddress → UniqueAddress → ℕ → Way × Option ℕ → Bool
is_nonce a b d (way, None) = false
is_nonce a b d (way, Some n) = is_way a b way && (d == n)

-- All ordinary messages that a told b on its connection d.
abbrev pub told_to : UniqueAddress → UniqueAddress → ℕ → List Entry → List Tell
told_to a b d lines = rests says_told (is_dial a b d) lines

-- All ordinary messages that b got from a with the nonce d.
abbrev pub got_from : UniqueAddress → UniqueAddress → ℕ → List Entry → List Tell
got_from a b d lines = rests says_got (is_nonce b a d) lines

-- A line `b took a REST` breaks the prefix law unless what b took from a up to it is a prefix of what a sent to b before it.
abbrev pub breaks_prefix : List Entry → Option (Way × Rest) → Bool
breaks_prefix before None = false
breaks_prefix before (Some ((b, a), rest)) = not (is_prefix (taken_from a b before ++ rest ∷ []) (sent_to a b before))

-- Whether a has closed b.
abbrev pub has_closed : UniqueAddress → UniqueAddress → List Entry → Bool
has_closed a b lines = list_any (λ e. is_said (is_way a b) (says_closed e.1)) lines

-- A line of a that deals with b breaks the close law after a line `a closed b CAUSE`.
abbrev pub breaks_closed : List Entry → Option Way → Bool
breaks_closed before None = false
breaks_closed before (Some (a, b)) = has_closed a b before

-- Whether a watch is that of an incarnation and an id.
abbrev pub is_watch : UniqueAddress → ℕ → UniqueAddress × ℕ → Bool
is_watch a id watch = same a watch.0 && (id == watch.1)

-- Whether a began the watch with this id.
abbrev pub has_watched : UniqueAddress → ℕ → List Entry → Bool
has_watched a id lines = list_any (λ e. is_said (is_watch a id) (says_watched e.1)) lines

-- Whether a's watch with this id has ended.
abbrev pub has_ended : UniqueAddress → ℕ → List Entry → Bool
has_ended a id lines = list_any (λ e. is_said (is_watch a id) (says_unwatched e.1)) lines

-- A line `a watched ID` breaks the watch law after another with that ID.
abbrev pub watches_again : List Entry → Option (UniqueAddress × ℕ) → Bool
watches_again before None = false
watches_again before (Some (a, id)) = has_watched a id before

-- A line `a terminated ID` or `a unwatched ID` breaks it unless `a watched ID` stands before it and neither of these does.
abbrev pub ends_nothing : List Entry → Option (UniqueAddress × ℕ) → Bool
ends_nothing before None = false
ends_nothing before (Some (a, id)) = not (has_watched a id before && not (has_ended a id before))

-- A line breaks the watch law in one of these ways.
abbrev pub breaks_watch : List Entry → Line → Bool
breaks_watch before line = watches_again before (says_watched line) || ends_nothing before (says_unwatched line)

-- A line `b got a D REST` breaks the ordinary law unless what b got from a with D up to it is a subsequence of what a told b on D
-- before it. With no nonce it names no such line.
abbrev pub breaks_ordinary : List Entry → Option ((Way × Option ℕ) × Tell) → Bool
breaks_ordinary before None = false
breaks_ordinary before (Some ((way, None), message)) = true
breaks_ordinary before (Some (((b, a), Some d), message)) = not (is_subsequence (got_from a b d before ++ message ∷ []) (told_to a b d before))

-- Whether a has a line.
abbrev pub has_line : UniqueAddress → List Entry → Bool
has_line a lines = list_any (λ e. same a (of e.1)) lines

-- Whether a has stopped.
abbrev pub has_stopped : UniqueAddress → List Entry → Bool
has_stopped a lines = list_any (λ e. same a (of e.1) && is_stopped e.1) lines

-- A line of a breaks the stopped law after `a stopped`, and a line `a started` after any line of a.
abbrev pub breaks_stopped : List Entry → Line → Bool
breaks_stopped before line = has_stopped (of line) before || (is_started line && has_line (of line) before)

-- Whether a moment is there, and is above another.
abbrev pub is_above : ℕ → Option ℕ → Bool
is_above m None = false
is_above m (Some n) = nat_lt m n

-- Whether a has a line with a moment above this one.
abbrev pub has_later : UniqueAddress → ℕ → List Entry → Bool
has_later a m lines = list_any (λ e. same a (of e.1) && is_above m e.0) lines

-- A line breaks the moment law after a line of the same incarnation with a moment above its own.
abbrev pub breaks_moment : List Entry → Entry → Bool
breaks_moment before (None, line) = false
breaks_moment before (Some m, line) = has_later (of line) m before

-- The first law in their order that is broken.
abbrev pub first_law : Bool → Bool → Bool → Bool → Bool → Bool → Option Law
first_law prefix close watch ordinary stopped moment =
    if prefix then Some Prefix
    else if close then Some Closed
    else if watch then Some Watch
    else if ordinary then Some Ordinary
    else if stopped then Some Stopped
    else if moment then Some Moment
    else None

-- The first law that a line breaks after the lines before it, if it breaks one.
abbrev pub broken_law : List Entry → Entry → Option Law
broken_law before e = first_law (breaks_prefix before (says_took e.1)) (breaks_closed before (deals e.1)) (breaks_watch before e.1) (breaks_ordinary before (says_got e.1)) (breaks_stopped before e.1) (breaks_moment before e)

-- What a line that breaks a law, or none, makes of the verdict on the lines from it on.
abbrev pub at_line : List Entry → Option Law → Verdict → Verdict
at_line before None rest = rest
at_line before (Some law) rest = Broken (length before + 1) law

-- The verdict on lines that follow others: the first that breaks a law, with the first law that it breaks, or that there is none.
abbrev pub verdict_after : List Entry → List Entry → Verdict
verdict_after before [] = Lawful
verdict_after before (e ∷ es) = at_line before (broken_law before e) (verdict_after (before ++ e ∷ []) es)

-- The verdict on a journal.
abbrev pub verdict : List Entry → Verdict
verdict lines = verdict_after [] lines

-- The lines of form 1, which have no moments.
abbrev pub plain : List Line → List Entry
plain lines = map (λ line. (None, line)) lines

-- The lines of form 2, with their moments.
abbrev pub stamped : List Stamped → List Entry
stamped lines = map (λ s. (Some s.moment, s.line)) lines

-- The lines of a journal.
abbrev pub lines_of : Journal → List Entry
lines_of (Plain lines) = plain lines
lines_of (StampedForm lines) = stamped lines

-- No line of the journal breaks a law.
abbrev pub NoneBreaks : List Entry → Type 0
NoneBreaks lines = (before after : List Entry) (e : Entry) → lines ≡ before ++ e ∷ after → broken_law before e ≡ None
