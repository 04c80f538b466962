-- What the laws read in a line of a journal.
use Rattle.std.specs.Prelude.{ℕ, Bool, true, false, ◌&&◌, ◌==◌, List, [], ◌∷◌, ◌++◌, flat_map, Option, Some, None, if◌then◌else◌}
use Rattle.artery_base.specs.declared.message.SysMsg.{SysMsg}
use Rattle.artery_base.specs.declared.message.Tell.{Tell}
use Rattle.artery_base.specs.declared.address.UniqueAddress.{UniqueAddress}
use Rattle.artery_base.specs.contracts.address.UniqueAddressPartialEq.TheImpl as unique_eq
use Rattle.artery_journal.specs.declared.line.Line.{Line}
use Rattle.artery_journal.specs.declared.line.Line.TheVariants.{Started, Stopped, Learnt, Closed, Sent, Took, Again, Gap, Told, Got, Dropped, Stray, Barred, Notice, Watched, Unwatched, Terminated, Refused, Spawned, Ended, Advertised, Adopted, Skipped, Idle}

-- A line with its moment, if it has one.
abbrev pub Entry : Type 0
Entry = Option ℕ × Line

-- Whether two incarnations are the same.
abbrev pub same : UniqueAddress → UniqueAddress → Bool
same = (unique_eq.ghosts).eq

-- Two incarnations: the one whose line it is, and the other.
abbrev pub Way : Type 0
Way = UniqueAddress × UniqueAddress

-- Whether it is the way of these two.
abbrev pub is_way : UniqueAddress → UniqueAddress → Way → Bool
is_way a b way = same a way.0 && same b way.1

-- The number of a system message and the message.
abbrev pub Rest : Type 0
Rest = ℕ × SysMsg

-- The incarnation whose line it is.
abbrev pub of : Line → UniqueAddress
of (Started a) = a
of (Stopped a) = a
of (Learnt a b) = a
of (Closed a b cause) = a
of (Sent a b n message) = a
of (Took a b n message) = a
of (Again a b n) = a
of (Gap a b n) = a
of (Told a b dial message) = a
of (Got a b n message) = a
of (Dropped a conn rule) = a
of (Stray a b n) = a
of (Barred a b) = a
of (Notice a b) = a
of (Watched a id watcher watchee) = a
of (Unwatched a id) = a
of (Terminated a id) = a
of (Refused a reason) = a
of (Spawned a path) = a
of (Ended a path) = a
of (Advertised a b kind version count) = a
of (Adopted a b kind version) = a
of (Skipped a sender k seen at) = a
of (Idle a b) = a

-- Of a line `a sent b REST`: a and b, and the rest.
abbrev pub says_sent : Line → Option (Way × Rest)
says_sent (Sent a b n message) = Some ((a, b), (n, message))
says_sent line = None

-- Of a line `a took b REST`: a and b, and the rest.
abbrev pub says_took : Line → Option (Way × Rest)
says_took (Took a b n message) = Some ((a, b), (n, message))
says_took line = None

-- Of a line `a told b D REST`: a, b and D, and the rest.
abbrev pub says_told : Line → Option ((Way × ℕ) × Tell)
says_told (Told a b dial message) = Some (((a, b), dial), message)
says_told line = None

-- Of a line `a got b D REST`: a, b and D, if there is one, and the rest.
abbrev pub says_got : Line → Option ((Way × Option ℕ) × Tell)
says_got (Got a b n message) = Some (((a, b), n), message)
says_got line = None

-- Of a line `a closed b CAUSE`: a and b.
abbrev pub says_closed : Line → Option Way
says_closed (Closed a b cause) = Some (a, b)
says_closed line = None

-- Of a line that none may write of an incarnation that it has closed: the two.
abbrev pub deals : Line → Option Way
deals (Learnt a b) = Some (a, b)
deals (Closed a b cause) = Some (a, b)
deals (Sent a b n message) = Some (a, b)
deals (Took a b n message) = Some (a, b)
deals (Again a b n) = Some (a, b)
deals (Gap a b n) = Some (a, b)
deals (Told a b dial message) = Some (a, b)
deals (Got a b n message) = Some (a, b)
deals line = None

-- Of a line `a watched ID`: a and ID.
abbrev pub says_watched : Line → Option (UniqueAddress × ℕ)
says_watched (Watched a id watcher watchee) = Some (a, id)
says_watched line = None

-- Of a line `a terminated ID` or `a unwatched ID`: a and ID.
abbrev pub says_unwatched : Line → Option (UniqueAddress × ℕ)
says_unwatched (Unwatched a id) = Some (a, id)
says_unwatched (Terminated a id) = Some (a, id)
says_unwatched line = None

-- Whether it is a line `a started`.
abbrev pub is_started : Line → Bool
is_started (Started a) = true
is_started line = false

-- Whether it is a line `a stopped`.
abbrev pub is_stopped : Line → Bool
is_stopped (Stopped a) = true
is_stopped line = false

-- The rest of what a line says, if it says it of what passes the test.
abbrev pub rest_if : {K R : Type 0} → (K → Bool) → Option (K × R) → List R
rest_if test None = []
rest_if test (Some said) = if test said.0 then said.1 ∷ [] else []

-- A list with others after it.
abbrev pub with_rest : {R : Type 0} → List R → List R → List R
with_rest xs [] = xs
with_rest xs (r ∷ rs) = xs ++ r ∷ rs

-- The rests of all lines that say so.
abbrev pub rests : {K R : Type 0} → (Line → Option (K × R)) → (K → Bool) → List Entry → List R
rests says test lines = flat_map (λ e. rest_if test (says e.1)) lines

-- Whether a line says something of what passes the test.
abbrev pub is_said : {K : Type 0} → (K → Bool) → Option K → Bool
is_said test None = false
is_said test (Some said) = test said
