-- What `replay` tells of a script: the journal of its run, which keeps laws.
use Rattle.std.specs.Prelude.{ℕ, ◌≤◌, List, length, Option, None, Some, IfOk}
use Rattle.std.specs.Io.KnownBytes.{Appends}
use Rattle.artery_script.specs.declared.script.ScriptLine.{ScriptLine}
use Rattle.artery_script.specs.Scripts.{script_of}
use Rattle.artery_machine.specs.declared.world.Outcome.{Outcome}
use Rattle.artery_alone.specs.Alone.{Keeps, close_law, watch_law, stopped_law, moment_law}
use Rattle.artery_alone.specs.Network.{journal_of}
use Rattle.artery_prefix.specs.Prefix.{prefix_law}
use Rattle.artery_names.specs.Ordinary.{ordinary_law}
use Rattle.artery_replay.specs.declared.form.Form.{Form}
use Rattle.artery_replay.specs.Replay.{run_text}
use Rattle.artery_cli.specs.declared.command.Command.{Command}
use Rattle.artery_cli.specs.declared.command.Command.TheVariants.{Show, Whole, Generate}
use Rattle.artery_cli.specs.declared.command.Task.{Task}
use Rattle.artery_cli.specs.declared.command.Task.TheVariants.{Replay, Make, CheckControl, CheckJournal, Audit}
use Rattle.artery_cli.specs.Limits.{most_bytes}
use Rattle.artery_cli.specs.Answers.{whole_run}

-- No line among what came of events breaks one of these laws: what one incarnation took from another is a prefix of what that other sent to it
-- before; an incarnation that was closed is not learnt, closed, sent to, told, taken from, got from or heard again; each watch has an id of its own
-- and ends at most once; what one incarnation got from another on a connection is a subsequence of what that other told it on that before; nothing
-- stands behind a stop and no start behind a line of the same incarnation; and moments do not fall.
pub record KeepsLaws (told : List Outcome) : Type 0 where
  pub prefix : Keeps prefix_law (journal_of told)
  pub close : Keeps close_law (journal_of told)
  pub watch : Keeps watch_law (journal_of told)
  pub ordinary : Keeps ordinary_law (journal_of told)
  pub stopped : Keeps stopped_law (journal_of told)
  pub moment : Keeps moment_law (journal_of told)

-- The run of a script was told in this form, over whole histories, and the lines of its journal keep the laws.
pub record TellsLawfully (form : Form) (script : List ScriptLine) (old new : Option (List ℕ)) : Type 0 where
  pub written : Appends old new (run_text form (whole_run script))
  pub lawful : KeepsLaws (whole_run script).world.outcomes

-- Where a task plays the script that a text tells, this is so of its form and the script.
abbrev pub IfScriptPlayed : Task → List ℕ → (Form → List ScriptLine → Type 0) → Type 0
IfScriptPlayed (Replay form) text says = length text ≤ most_bytes → IfOk (script_of text) (says form)
IfScriptPlayed Make text says = Unit {0}
IfScriptPlayed (CheckControl manifest) text says = Unit {0}
IfScriptPlayed CheckJournal text says = Unit {0}
IfScriptPlayed (Audit merge) text says = Unit {0}

-- Where a command plays the script that its input tells, this is so of its form and the script.
abbrev pub IfPlayed : Option Command → List ℕ → (Form → List ScriptLine → Type 0) → Type 0
IfPlayed None text says = Unit {0}
IfPlayed (Some Show) text says = Unit {0}
IfPlayed (Some (Whole task)) text says = IfScriptPlayed task text says
IfPlayed (Some (Generate number)) text says = Unit {0}
