-- What a command writes, and its status.
use Rattle.std.specs.Prelude.{◌≡◌, ℕ, ◌+◌, Bool, true, false, flat_map, nat_lt, if◌then◌else◌, List, [], ◌∷◌, ◌++◌, length, take, codes, decimal, Option, None, Some, Result, Ok, Err}
use Rattle.std.specs.Result.{result_ok}
use Rattle.std.specs.Io.KnownBytes.{Appends}
use Rattle.artery_text.specs.Reading.{hex_of}
use Rattle.artery_capture.specs.ControlText.{control_text, fault_text}
use Rattle.artery_capture.specs.Shown.{front_lines, last_line, has_fault}
use Rattle.artery_making.specs.Made.{stream_made}
use Rattle.artery_making.specs.declared.fault.MakeFault.{MakeFault}
use Rattle.artery_making.specs.declared.fault.MakeFault.TheVariants as make_faults
use Rattle.artery_cli.specs.declared.command.Command.{Command}
use Rattle.artery_cli.specs.declared.command.Command.TheVariants.{Show, Whole, Generate}
use Rattle.artery_cli.specs.declared.command.Task.{Task}
use Rattle.artery_cli.specs.declared.command.Task.TheVariants.{Replay, Make, CheckControl, CheckJournal, Audit}
use Rattle.artery_cli.specs.Limits.{most_bytes}
use Rattle.artery_cli.specs.declared.refusal.Refusal.{Refusal}
use Rattle.artery_cli.specs.declared.refusal.Refusal.TheVariants.{TooManyBytes, TooManyLines, TooManyParts, BadLine}
use Rattle.artery_cli.specs.Command.{command_of}
use Rattle.artery_control.specs.declared.control.Control.{Control}
use Rattle.artery_control.specs.declared.fault.ControlFault.{ControlFault}
use Rattle.artery_control.specs.Message.{message_of}
use Rattle.artery_lines.specs.Lines.{lines_of}
use Rattle.artery_lines.specs.Lines.{most_lines}
use Rattle.artery_journal.specs.declared.journal.Journal.{Journal}
use Rattle.artery_journal.specs.declared.journal.Journal.TheVariants as journals
use Rattle.artery_journal_reading.specs.declared.fault.JournalFault.{JournalFault}
use Rattle.artery_journal_reading.specs.declared.fault.JournalFault.TheVariants as journal_faults
use Rattle.artery_journal_reading.specs.Journals.{journal_of as journal_told}
use Rattle.artery_judge.specs.declared.verdict.Law.{Law}
use Rattle.artery_judge.specs.declared.verdict.Law.TheVariants as laws
use Rattle.artery_judge.specs.declared.verdict.Verdict.{Verdict}
use Rattle.artery_judge.specs.declared.verdict.Verdict.TheVariants as verdicts
use Rattle.artery_judge.specs.Laws.{verdict, lines_of as entries}
use Rattle.artery_text.specs.Spelling.{unique_text}
use Rattle.artery_journal.specs.declared.line.Line.{Line as JournalLine}
use Rattle.artery_journal.specs.Texts.{line_text}
use Rattle.artery_audit.specs.declared.part.Part.{Part}
use Rattle.artery_audit.specs.Outcome.{StuckAt, outcome}
use Rattle.artery_parts_reading.specs.declared.fault.PartsFault.{PartsFault}
use Rattle.artery_parts_reading.specs.declared.fault.PartsFault.TheVariants as parts_faults
use Rattle.artery_parts_reading.specs.Parts.{parts_of}
use Rattle.artery_script.specs.declared.script.ScriptFault.{ScriptFault}
use Rattle.artery_script.specs.declared.script.ScriptFault.TheVariants as script_faults
use Rattle.artery_script.specs.declared.script.ScriptLine.{ScriptLine}
use Rattle.artery_script.specs.Scripts.{script_of}
use Rattle.artery_generator.specs.Scripts.{script_of as generated}
use Rattle.artery_machine.specs.declared.world.Outcome.{Outcome}
use Rattle.artery_machine.specs.Parts.{Parts, whole}
use Rattle.artery_machine.specs.Ways.{Ways, whole_ways}
use Rattle.artery_machine.specs.Playing.{Run, Stop as RunStop, run}
use Rattle.artery_replay.specs.declared.form.Form.{Form}
use Rattle.artery_replay.specs.Texts.{stop_text, stop_status}
use Rattle.artery_replay.specs.Replay.{run_text, run_status}
use Rattle.artery_replay.specs.Tally.{summary_text}

-- what is written, and the status
pub record Answer : Type 0 where
  pub written : List ℕ
  pub status : ℕ

-- what the sink holds more is what the answer writes, and the status is the answer's
pub record Answers (a : Answer) (old new : Option (List ℕ)) (status : ℕ) : Type 0 where
  pub written : Appends old new a.written
  pub is_status : status ≡ a.status

-- this text, and this status
abbrev pub answer_with : List ℕ → ℕ → Answer
answer_with text status = record { written = text; status = status }

-- the line that tells that memory ran out
abbrev pub memory_fault : List ℕ
memory_fault = codes "fault memory\n"

-- the line that tells that the source failed
abbrev pub read_fault : List ℕ
read_fault = codes "fault read\n"

-- no definition asks for memory, so this is no command's answer
abbrev pub memory_answer : Answer
memory_answer = record { written = memory_fault; status = 9 }

-- ---- input that is refused before it is done

-- an input that is too long is told with status 6, as are too many parts, and a line that says nothing with its number and status 2
abbrev pub refusal_answer : Refusal → Answer
refusal_answer TooManyBytes = record { written = codes "fault limit bytes\n"; status = 6 }
refusal_answer TooManyLines = record { written = codes "fault limit lines\n"; status = 6 }
refusal_answer TooManyParts = record { written = codes "fault limit parts\n"; status = 6 }
refusal_answer (BadLine line) = record { written = codes "fault line " ++ decimal line ++ codes "\n"; status = 2 }

-- ---- replay

-- the run of a script on a network with whole histories
abbrev pub whole_run : List ScriptLine → Run whole whole_ways
whole_run script = run {P = whole} {W = whole_ways} script

-- what is told of a run: its outcomes in this form, and then the counts of its connections, or the line at which it stopped
abbrev pub run_answer : {P : Parts} {W : Ways} → Form → Run P W → Answer
run_answer form r = record { written = run_text form r; status = run_status r.stop }

-- a script that is read is played; the first bad line is told, and more than 1,000,000 lines
abbrev pub script_answer : Form → Result (List ScriptLine) ScriptFault → Answer
script_answer form (Ok script) = run_answer form (whole_run script)
script_answer form (Err (script_faults.BadLine line)) = refusal_answer (BadLine line)
script_answer form (Err script_faults.TooManyLines) = refusal_answer TooManyLines
script_answer form (Err script_faults.NoMemory) = memory_answer

-- ---- gen

-- the summary of a journal that a run told to its end, or else the line at which it stopped alone
abbrev pub summary_answer : List Outcome → Option RunStop → Answer
summary_answer outcomes None = record { written = summary_text outcomes; status = 0 }
summary_answer outcomes (Some stop) = record { written = stop_text stop.line stop.fault; status = stop_status stop.fault }

-- the summary of a run
abbrev pub summed : {P : Parts} {W : Ways} → Run P W → Answer
summed r = summary_answer r.world.outcomes r.stop

-- the script with this number is played
unfoldable pub generated_answer : ℕ → Answer
generated_answer number = summed (whole_run (generated number))

-- ---- make

-- the bytes that the lines describe, or the first fault
abbrev pub made_answer : Result (List ℕ) MakeFault → Answer
made_answer (Ok bytes) = record { written = bytes; status = 0 }
made_answer (Err (make_faults.BadLine line)) = refusal_answer (BadLine line)
made_answer (Err make_faults.TooManyLines) = refusal_answer TooManyLines
made_answer (Err make_faults.NoMemory) = memory_answer

-- ---- check control

-- a payload, where its line spells one and no more lines follow it
abbrev pub payload_unless : ℕ → Option (List ℕ) → Result (List ℕ) Refusal
payload_unless more None = Err (BadLine 1)
payload_unless more (Some payload) = if nat_lt 0 more then Err (BadLine 2) else Ok payload

-- the payload in hexadecimal on the one line of a text; else the first line that is missing, bad or too many
abbrev pub payload_in : List (List ℕ) → Result (List ℕ) Refusal
payload_in [] = Err (BadLine 1)
payload_in (line ∷ lines) = payload_unless (length lines) (result_ok (hex_of line))

-- the payload that a text tells
abbrev pub payload_of : List ℕ → Result (List ℕ) Refusal
payload_of text = if nat_lt most_lines (length (lines_of text)) then Err TooManyLines else payload_in (lines_of text)

-- the line of a payload: the control message that it is, or with status 1 its first fault
abbrev pub checked : Result Control ControlFault → Answer
checked (Ok control) = record { written = codes "control " ++ control_text control ++ codes "\n"; status = 0 }
checked (Err fault) = record { written = codes "fault control " ++ fault_text fault ++ codes "\n"; status = 1 }

-- the answer of a payload under a manifest, unless there is none
abbrev pub check_answer : List ℕ → Result (List ℕ) Refusal → Answer
check_answer manifest (Ok payload) = checked (message_of manifest payload)
check_answer manifest (Err refusal) = refusal_answer refusal

-- ---- check journal

-- the word for a law
abbrev pub law_word : Law → List ℕ
law_word laws.Prefix = codes "prefix"
law_word laws.Closed = codes "closed"
law_word laws.Watch = codes "watch"
law_word laws.Ordinary = codes "ordinary"
law_word laws.Stopped = codes "stopped"
law_word laws.Moment = codes "moment"

-- the number that a line of a journal has in its text: in form 2 a line stands before the journal's first
abbrev pub text_line : Journal → ℕ → ℕ
text_line (journals.Plain lines) n = n
text_line (journals.Stamped lines) n = n + 1

-- a journal that is lawful, or with status 1 its first line that breaks a law, with the first law that it breaks
abbrev pub verdict_answer : Journal → Verdict → Answer
verdict_answer journal verdicts.Lawful = record { written = codes "lawful\n"; status = 0 }
verdict_answer journal (verdicts.Broken line law) = record { written = codes "fault journal " ++ decimal (text_line journal line) ++ codes " " ++ law_word law ++ codes "\n"; status = 1 }

-- the verdict on a journal
abbrev pub judged : Journal → Answer
judged journal = verdict_answer journal (verdict (entries journal))

-- a journal that is read is judged; the first bad line is told, and more than 1,000,000 lines
abbrev pub journal_answer : Result Journal JournalFault → Answer
journal_answer (Ok journal) = judged journal
journal_answer (Err (journal_faults.BadLine line)) = refusal_answer (BadLine line)
journal_answer (Err journal_faults.TooManyLines) = refusal_answer TooManyLines
journal_answer (Err journal_faults.NoMemory) = memory_answer

-- ---- audit

-- the word for the law at which a part is stuck; none is for no law, and a part that is stuck breaks one
abbrev pub broken_word : Option Law → List ℕ
broken_word None = []
broken_word (Some law) = law_word law

-- the line that tells at which line of its own a part is stuck, and the first law that this line breaks
abbrev pub stuck_text : StuckAt → List ℕ
stuck_text stuck = codes "fault audit " ++ unique_text stuck.of ++ codes " " ++ decimal stuck.number ++ codes " " ++ broken_word stuck.law ++ codes "\n"

-- a line of a journal with its line feed
unfoldable pub ended_line : JournalLine → List ℕ
ended_line line = line_text line ++ codes "\n"

-- the lines of journals, one after the other
abbrev pub lines_text : List JournalLine → List ℕ
lines_text lines = flat_map ended_line lines

-- parts that fit together: told so, or with `--merge` by the lines of their merge; else with status 1 the part that is stuck
abbrev pub audited_answer : Bool → Result (List JournalLine) StuckAt → Answer
audited_answer false (Ok lines) = record { written = codes "lawful\n"; status = 0 }
audited_answer true (Ok lines) = record { written = lines_text lines; status = 0 }
audited_answer merge (Err stuck) = record { written = stuck_text stuck; status = 1 }

-- parts that are read are audited; else it is told that the lines are too many, which is the first bad one, or that the parts are too many
abbrev pub parts_answer : Bool → Result (List Part) PartsFault → Answer
parts_answer merge (Ok parts) = audited_answer merge (outcome parts)
parts_answer merge (Err (parts_faults.BadLine line)) = refusal_answer (BadLine line)
parts_answer merge (Err parts_faults.TooManyLines) = refusal_answer TooManyLines
parts_answer merge (Err parts_faults.TooManyParts) = refusal_answer TooManyParts
parts_answer merge (Err parts_faults.NoMemory) = memory_answer

-- ---- show

-- the lines of all bytes: the last one tells what is left, or with status 1 the fault of the stream
abbrev pub capture_answer : List ℕ → Answer
capture_answer bytes = record { written = front_lines bytes ++ last_line bytes; status = if has_fault bytes then 1 else 0 }

-- the lines of the whole frames that end within the limit or with the byte that passes it
abbrev pub long_answer : List ℕ → Answer
long_answer bytes = record { written = front_lines (take (most_bytes + 1) bytes) ++ codes "fault limit bytes\n"; status = 6 }

-- a connection of at most 67,108,864 bytes is told whole
abbrev pub show_answer : List ℕ → Answer
show_answer bytes = if nat_lt most_bytes (length bytes) then long_answer bytes else capture_answer bytes

-- ---- all commands

-- the answer of a task to an input within the limit
abbrev pub text_answer : Task → List ℕ → Answer
text_answer (Replay form) text = script_answer form (script_of text)
text_answer Make text = made_answer (stream_made text)
text_answer (CheckControl manifest) text = check_answer manifest (payload_of text)
text_answer CheckJournal text = journal_answer (journal_told text)
text_answer (Audit merge) text = parts_answer merge (parts_of text)

-- an input of more than 67,108,864 bytes is refused
abbrev pub task_answer : Task → List ℕ → Answer
task_answer task text = if nat_lt most_bytes (length text) then refusal_answer TooManyBytes else text_answer task text

-- the answer of a command to its input; other words are no command
abbrev pub answer_of : Option Command → List ℕ → Answer
answer_of None text = record { written = codes "fault words\n"; status = 2 }
answer_of (Some Show) text = show_answer text
answer_of (Some (Whole task)) text = task_answer task text
answer_of (Some (Generate number)) text = generated_answer number

-- the answer to words and an input
abbrev pub answer : List (List ℕ) → List ℕ → Answer
answer words text = answer_of (command_of words) text

-- neither the source nor the sink failed, and memory was there
abbrev pub IsDone : ℕ → Type 0
IsDone status = (status ≡ 3 → ⊥) × (status ≡ 4 → ⊥) × (status ≡ 9 → ⊥)
