-- How often each kind of line stands in a journal, which `gen` tells.
use Rattle.std.specs.Prelude.{ℕ, ◌+◌, Bool, true, false, if◌then◌else◌, List, [], ◌∷◌, ◌++◌, length, codes, decimal}
use Rattle.std.specs.List.{count_by}
use Rattle.artery_journal.specs.declared.line.Line.{Line}
use Rattle.artery_journal.specs.declared.line.Line.TheVariants as lines
use Rattle.artery_machine.specs.declared.world.Outcome.{Outcome}
use Rattle.artery_machine.specs.declared.world.Outcome.TheVariants as outcomes
use Rattle.artery_machine.specs.Ways.{as_told}
use Rattle.artery_replay.specs.declared.tally.Tally.{Tally}

-- The lines of a journal among what came of events.
abbrev pub journal_in : List Outcome → List Line
journal_in [] = []
journal_in (outcomes.Line moment line ∷ rest) = line ∷ journal_in rest
journal_in (outcomes.Wrote uid dial bytes ∷ rest) = journal_in rest

-- Whether a line tells that a system message was accepted.
abbrev pub is_sent : Line → Bool
is_sent (lines.Sent of other n message) = true
is_sent _ = false

-- Whether a line tells that a system message was taken.
abbrev pub is_took : Line → Bool
is_took (lines.Took of other n message) = true
is_took _ = false

-- Whether a line tells that an ordinary message was written.
abbrev pub is_told : Line → Bool
is_told (lines.Told of other dial message) = true
is_told _ = false

-- Whether a line tells that an ordinary message came.
abbrev pub is_got : Line → Bool
is_got (lines.Got of other _ message) = true
is_got _ = false

-- Whether a line tells that an incarnation was closed.
abbrev pub is_closed : Line → Bool
is_closed (lines.Closed of other cause) = true
is_closed _ = false

-- Whether a line tells that a watcher was told of an end.
abbrev pub is_terminated : Line → Bool
is_terminated (lines.Terminated of id) = true
is_terminated _ = false

-- How often lines of a kind stand in a journal, as told.
abbrev pub how_many : (Line → Bool) → List Line → ℕ
how_many kind journal = as_told (count_by kind journal)

-- The summary of a journal: how many lines it has, and how many of some kinds.
abbrev pub tally_of : List Line → Tally
tally_of journal = record {
  lines = as_told (length journal);
  sent = how_many is_sent journal;
  took = how_many is_took journal;
  told = how_many is_told journal;
  got = how_many is_got journal;
  closed = how_many is_closed journal;
  terminated = how_many is_terminated journal;
}

-- A number with one more, as told, where there is one more.
abbrev pub more_where : Bool → ℕ → ℕ
more_where one n = if one then as_told (n + 1) else n

-- A summary with one line more.
abbrev pub one_more : Line → Tally → Tally
one_more line t = record {
  lines = as_told (t.lines + 1);
  sent = more_where (is_sent line) t.sent;
  took = more_where (is_took line) t.took;
  told = more_where (is_told line) t.told;
  got = more_where (is_got line) t.got;
  closed = more_where (is_closed line) t.closed;
  terminated = more_where (is_terminated line) t.terminated;
}

-- A word and a number on a line.
abbrev pub entry_text : List ℕ → ℕ → List ℕ
entry_text word n = word ++ codes " " ++ decimal n ++ codes "\n"

-- The lines of a summary.
abbrev pub tally_text : Tally → List ℕ
tally_text t = entry_text (codes "lines") t.lines
    ++ entry_text (codes "sent") t.sent
    ++ entry_text (codes "took") t.took
    ++ entry_text (codes "told") t.told
    ++ entry_text (codes "got") t.got
    ++ entry_text (codes "closed") t.closed
    ++ entry_text (codes "terminated") t.terminated

-- The summary of what came of a run.
abbrev pub summary_text : List Outcome → List ℕ
summary_text outcomes = tally_text (tally_of (journal_in outcomes))
