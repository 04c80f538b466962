-- What is so of each event that a line tells is so of each event of a script that a text tells.
use Rattle.std.proofs.Common.{◌≡◌, ℕ, ◌+◌, Bool, true, false, cond, List, [], ◌∷◌, length, refl}
use Rattle.std.specs.List.{AllByRecursion}
use Rattle.std.specs.Prelude.{Option, None, Some, Result, Ok, Err, nat_lt}
use Rattle.artery_lines.specs.Lines.{lines_of}
use Rattle.artery_script.specs.declared.event.Event.{Event}
use Rattle.artery_script.specs.declared.script.ScriptLine.{ScriptLine}
use Rattle.artery_script.specs.declared.script.ScriptFault.{ScriptFault}
use Rattle.artery_script.specs.declared.script.ScriptFault.TheVariants as script_faults
use Rattle.artery_script.specs.Reading.{event_of}
use Rattle.artery_script.specs.Scripts.{is_passed_over, at_line, items_from, most_lines, script_line, script_of}
use Rattle.artery_script.specs.Texts.{event_text}
use Rattle.artery_script.specs.Valid.{IsEvent}

abbrev pub Spelled : Type 0
Spelled = (text : List ℕ) (e : Event) → event_of text ≡ Some e → IsEvent e × (text ≡ event_text e)

-- this is so of each event of a script
abbrev pub Each : (Event → Type 0) → List ScriptLine → Type 0
Each Q script = AllByRecursion (λ (l : ScriptLine). Q l.event) script

-- and of what was read as one, if it is one
abbrev pub EachIfRead : (Event → Type 0) → Result (List ScriptLine) ScriptFault → Type 0
EachIfRead Q (Ok script) = Each Q script
EachIfRead Q (Err fault) = Unit {0}

abbrev OfLines : (Event → Type 0) → Type 0
OfLines Q = (text : List ℕ) (e : Event) → event_of text ≡ Some e → Q e

line_each : (Q : Event → Type 0) → OfLines Q → (n : ℕ) (text : List ℕ) (told : Option Event) → event_of text ≡ told → (others : Result (List ScriptLine) ScriptFault) → EachIfRead Q others
    → EachIfRead Q (at_line n (script_line n text) others)
line_each Q law n text None e others h = rw e tt
line_each Q law n text (Some event) e (Ok others) h = rw e (law text event e, h)
line_each Q law n text (Some event) e (Err fault) h = rw e tt

each_by : (Q : Event → Type 0) → OfLines Q → (n : ℕ) (line : List ℕ) (others : Result (List ScriptLine) ScriptFault) → EachIfRead Q others → (b : Bool) → EachIfRead Q (cond b others (at_line n (script_line n line) others))
each_by Q law n line others h true = h
each_by Q law n line others h false = line_each Q law n line (event_of line) refl others h

lines_each : (Q : Event → Type 0) → OfLines Q → (n : ℕ) (lines : List (List ℕ)) → EachIfRead Q (items_from script_line n lines)
lines_each Q law n [] = tt
lines_each Q law n (line ∷ lines) = each_by Q law n line (items_from script_line (n + 1) lines) (lines_each Q law (n + 1) lines) (is_passed_over line)

pub read_each : (Q : Event → Type 0) → OfLines Q → (text : List ℕ) → EachIfRead Q (script_of text)
read_each Q law text = by (nat_lt most_lines (length (lines_of text)))
  where
    by : (b : Bool) → EachIfRead Q (cond b (Err script_faults.TooManyLines) (items_from script_line 1 (lines_of text)))
    by true = tt
    by false = lines_each Q law 1 (lines_of text)

-- each event that was read is one that a line can tell
pub read_told : Spelled → (text : List ℕ) → EachIfRead IsEvent (script_of text)
read_told law text = read_each IsEvent (λ t e h. (law t e h).0) text
