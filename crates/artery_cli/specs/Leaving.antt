-- What a command leaves in the sink where it ends before its work is done.
use Rattle.std.specs.Prelude.{◌≡◌, ◌⊎◌, ◌≤◌, ◌+◌, true, ℕ, nat_lt, if◌then◌else◌, List, [], ◌++◌, length, Option, None, Some}
use Rattle.std.specs.Result.{result_ok}
use Rattle.std.specs.Io.KnownBytes.{Appends, Keeps, Consumes}
use Rattle.artery_base.specs.Words.{IsPrefix}
use Rattle.artery_io.specs.Written.{TakesFront}
use Rattle.artery_capture.specs.Shown.{front_lines}
use Rattle.artery_cli.specs.declared.command.Command.{Command}
use Rattle.artery_cli.specs.declared.command.Command.TheVariants.{Show, Whole, Generate}
use Rattle.artery_cli.specs.declared.command.Task.{Task}
use Rattle.artery_cli.specs.declared.command.Task.TheVariants.{Replay, Make, CheckControl, CheckJournal, Audit}
use Rattle.artery_cli.specs.declared.stop.Stop.{Stop}
use Rattle.artery_cli.specs.declared.stop.Stop.TheVariants as stops
use Rattle.artery_cli.specs.Command.{reads_input}
use Rattle.artery_cli.specs.Limits.{most_bytes}
use Rattle.artery_cli.specs.Answers.{answer_of, whole_run, memory_fault, read_fault}
use Rattle.artery_script.specs.declared.script.ScriptLine.{ScriptLine}
use Rattle.artery_script.specs.Scripts.{script_of}
use Rattle.artery_machine.specs.declared.world.Outcome.{Outcome}
use Rattle.artery_replay.specs.declared.form.Form.{Form}
use Rattle.artery_replay.specs.Texts.{front_text, outcomes_text}

-- what a command has written once it has read these bytes and not yet the end: `show` the lines of the whole frames, the others nothing
abbrev pub told_of : Option Command → List ℕ → List ℕ
told_of None seen = []
told_of (Some Show) seen = front_lines seen
told_of (Some (Whole task)) seen = []
told_of (Some (Generate number)) seen = []

-- the source failed: the lines of what had been taken from it were written, and then this last line
pub record LeavesRead (command : Option Command) (last : List ℕ) (left left' old new : Option (List ℕ)) : Type 0 where
  pub seen : List ℕ
  pub consumed : Consumes left left' seen
  pub written : Appends old new (told_of command seen ++ last)

-- what is told of a run before its end: what stands before everything else, and the first of these outcomes
pub record IsRunPart (form : Form) (all : List Outcome) (part : List ℕ) : Type 0 where
  pub outcomes : List Outcome
  pub first : IsPrefix outcomes all
  pub is : part ≡ front_text form ++ outcomes_text form outcomes

-- a part of what is told of a script that is played: nothing, or its first outcomes
abbrev pub IsPlayedPart : Form → List ScriptLine → List ℕ → Type 0
IsPlayedPart form script part = (part ≡ []) ⊎ IsRunPart form (whole_run script).world.outcomes part

-- the script of a text within the limit, if it tells one
abbrev pub script_in : List ℕ → Option (List ScriptLine)
script_in text = if nat_lt most_bytes (length text) then None else result_ok (script_of text)

-- a part of the answer of `replay`: nothing, where the text is no script
abbrev pub IsScriptPart : Form → Option (List ScriptLine) → List ℕ → Type 0
IsScriptPart form None part = part ≡ []
IsScriptPart form (Some script) part = IsPlayedPart form script part

-- a part of a task's answer: of `replay` what its first outcomes tell, of the others nothing
abbrev pub IsTaskPart : Task → List ℕ → List ℕ → Type 0
IsTaskPart (Replay form) text part = IsScriptPart form (script_in text) part
IsTaskPart Make text part = part ≡ []
IsTaskPart (CheckControl manifest) text part = part ≡ []
IsTaskPart CheckJournal text part = part ≡ []
IsTaskPart (Audit merge) text part = part ≡ []

-- a part of a command's answer by whole lines: of `show` the lines of the whole frames of some first bytes, at most 67,108,865 of them
abbrev pub IsPart : Option Command → List ℕ → List ℕ → Type 0
IsPart None text part = part ≡ []
IsPart (Some Show) text part = (seen : List ℕ) × IsPrefix seen text × (length seen ≤ most_bytes + 1) × (part ≡ front_lines seen)
IsPart (Some (Whole task)) text part = IsTaskPart task text part
IsPart (Some (Generate number)) text part = part ≡ []

-- memory ran out: a part of the answer was written, and then this last line
pub record LeavesPart (command : Option Command) (last text : List ℕ) (old new : Option (List ℕ)) : Type 0 where
  pub part : List ℕ
  pub is_part : IsPart command text part
  pub written : Appends old new (part ++ last)

-- a last line behind a part of the answer: none, or that memory ran out
abbrev pub IsLast : List ℕ → Type 0
IsLast last = (last ≡ []) ⊎ (last ≡ memory_fault)

-- a part of the answer, alone or with the line that memory ran out
pub record IsPartWith (command : Option Command) (text whole : List ℕ) : Type 0 where
  pub part : List ℕ
  pub is_part : IsPart command text part
  pub last : List ℕ
  pub is_last : IsLast last
  pub is : whole ≡ part ++ last

-- what a command that reads has written once it has read some first bytes, and then the line that the source failed
pub record IsReadWith (command : Option Command) (text whole : List ℕ) : Type 0 where
  pub reads : reads_input command ≡ true
  pub seen : List ℕ
  pub first : IsPrefix seen text
  pub is : whole ≡ told_of command seen ++ read_fault

-- what a command would leave: its answer, or a part of it where memory runs out, or what it leaves where the source fails
abbrev pub IsLeft : Option Command → List ℕ → List ℕ → Type 0
IsLeft command text whole = (whole ≡ (answer_of command text).written) ⊎ (IsPartWith command text whole ⊎ IsReadWith command text whole)

-- the sink failed: it took a front of what the command would have left
pub record LeavesFront (command : Option Command) (text : List ℕ) (old new : Option (List ℕ)) : Type 0 where
  pub whole : List ℕ
  pub is_left : IsLeft command text whole
  pub taken : TakesFront old new whole

-- what stands in the sink where a command stops for this reason, before its last line; where the source failed, `LeavesRead` tells it
abbrev pub Leaves : Stop → Option Command → List ℕ → Option (List ℕ) → Option (List ℕ) → Type 0
Leaves stops.Read command text old new = Unit {0}
Leaves stops.Write command text old new = LeavesFront command text old new
Leaves stops.NoMemory command text old new = LeavesPart command [] text old new

-- writing one text stopped: the sink took a front of it, or memory ran out before
abbrev pub WritingStops : Stop → List ℕ → Option (List ℕ) → Option (List ℕ) → Type 0
WritingStops stops.Read text old new = ⊥
WritingStops stops.Write text old new = TakesFront old new text
WritingStops stops.NoMemory text old new = Keeps old new
