-- What playing a script writes, and where it ends.
use Rattle.std.specs.Prelude.{◌≡◌, ◌⊎◌, ℕ, List, ◌++◌, Option, None, Some, option_map, All, Result, Ok, Err}
use Rattle.std.specs.Io.KnownBytes.{Appends, Keeps}
use Rattle.artery_base.specs.Words.{IsPrefix}
use Rattle.artery_io.specs.Written.{TakesFront}
use Rattle.artery_script.specs.declared.event.Event.{Event}
use Rattle.artery_script.specs.declared.script.ScriptLine.{ScriptLine}
use Rattle.artery_machine.specs.declared.world.Outcome.{Outcome}
use Rattle.artery_machine.specs.declared.world.WorldFault.{WorldFault}
use Rattle.artery_machine.specs.Parts.{kept}
use Rattle.artery_machine.specs.Ways.{Ways, kept_ways}
use Rattle.artery_machine.specs.Connections.{Connection}
use Rattle.artery_machine.specs.World.{applies}
use Rattle.artery_machine.specs.Playing.{Run, Stop as RunStop, fault_of, run}
use Rattle.artery_world.specs.Running.{IsFitEvent, Running, running}
use Rattle.artery_journal.specs.declared.line.Line.{Line}
use Rattle.artery_replay.specs.declared.form.Form.{Form}
use Rattle.artery_replay.specs.declared.tally.Tally.{Tally}
use Rattle.artery_replay.specs.Tally.{journal_in, tally_of, tally_text}
use Rattle.artery_replay.specs.Texts.{outcomes_text, stop_text}
use Rattle.artery_replay.specs.Replay.{counts_text}
use Rattle.artery_cli.specs.Answers.{run_answer, whole_run}
use Rattle.artery_cli.specs.Leaving.{IsPlayedPart}
use Rattle.artery_cli.specs.declared.stop.Stop.{Stop}
use Rattle.artery_cli.specs.declared.stop.Stop.TheVariants as stops

-- the run of a script on a network of what is kept
abbrev pub kept_run : List ScriptLine → Run kept kept_ways
kept_run script = run {P = kept} {W = kept_ways} script

-- each event of a script is fit for a network
abbrev pub AreFit : List ScriptLine → Type 0
AreFit script = All (λ (l : ScriptLine). IsFitEvent l.event) script

-- where a run stopped, from the number of the line and the fault
abbrev pub stop_at : ℕ × WorldFault → RunStop
stop_at s = record { line = s.0; fault = s.1 }

-- where a run stopped, if it did
abbrev pub stop_of : Option (ℕ × WorldFault) → Option RunStop
stop_of s = option_map stop_at s

-- the answer of an event with this fault, or none
abbrev pub answered : Option WorldFault → Result (Unit {0}) WorldFault
answered None = Ok tt
answered (Some fault) = Err fault

-- an event came to a network: this is why it did not happen, or not to its end, if so; and what came of it was written
pub record PlaysOne (form : Form) (event : Event) (fault : Option WorldFault) (old new : Running) (held held' : Option (List ℕ)) : Type 0 where
  pub is_fault : fault ≡ fault_of event old.world
  pub network : new ≡ running (applies event old.world)
  pub written : Appends held held' (outcomes_text form (applies event old.world).outcomes)

-- an event at which playing stopped: memory ran out before anything was written, or the sink took a front of what came of it
abbrev pub StopsOne : Stop → Form → Event → Running → Option (List ℕ) → Option (List ℕ) → Type 0
StopsOne stops.Read form event old held held' = ⊥
StopsOne stops.Write form event old held held' = TakesFront held held' (outcomes_text form (applies event old.world).outcomes)
StopsOne stops.NoMemory form event old held held' = Keeps held held'

-- a script was played to its end, or to the event at which its run stops: what came of it was written, and the network is where it led to
pub record PlaysAll (form : Form) (script : List ScriptLine) (stop : Option (ℕ × WorldFault)) (new : Running) (held held' : Option (List ℕ)) : Type 0 where
  pub is_stop : stop_of stop ≡ (kept_run script).stop
  pub network : new ≡ running (kept_run script).world
  pub written : Appends held held' (outcomes_text form (kept_run script).world.outcomes)

-- the texts of the first outcomes of a script were written
pub record PlaysPart (form : Form) (script : List ScriptLine) (held held' : Option (List ℕ)) : Type 0 where
  pub outcomes : List Outcome
  pub first : IsPrefix outcomes (kept_run script).world.outcomes
  pub written : Appends held held' (outcomes_text form outcomes)

-- the sink took a front of the texts of the first outcomes of a script
pub record CutsPart (form : Form) (script : List ScriptLine) (held held' : Option (List ℕ)) : Type 0 where
  pub outcomes : List Outcome
  pub first : IsPrefix outcomes (kept_run script).world.outcomes
  pub taken : TakesFront held held' (outcomes_text form outcomes)

-- a script that was not played to its end
abbrev pub StopsAll : Stop → Form → List ScriptLine → Option (List ℕ) → Option (List ℕ) → Type 0
StopsAll stops.Read form script held held' = ⊥
StopsAll stops.Write form script held held' = CutsPart form script held held'
StopsAll stops.NoMemory form script held held' = PlaysPart form script held held'

-- what stands behind the outcomes of a run that led to these connections and stopped here, if it did
abbrev pub ended_text : {W : Ways} → List (Connection W) → Option RunStop → List ℕ
ended_text connections None = counts_text connections
ended_text connections (Some stop) = stop_text stop.line stop.fault

-- a part of what is told of a script was written
pub record TellsPart (form : Form) (script : List ScriptLine) (held held' : Option (List ℕ)) : Type 0 where
  pub part : List ℕ
  pub is_part : IsPlayedPart form script part
  pub written : Appends held held' part

-- the sink took a front of what is told of a script, or of a part of it
pub record CutsTold (form : Form) (script : List ScriptLine) (held held' : Option (List ℕ)) : Type 0 where
  pub told : List ℕ
  pub is_told : (told ≡ (run_answer form (whole_run script)).written) ⊎ IsPlayedPart form script told
  pub taken : TakesFront held held' told

-- a script of which not all was told
abbrev pub StopsTold : Stop → Form → List ScriptLine → Option (List ℕ) → Option (List ℕ) → Type 0
StopsTold stops.Read form script held held' = ⊥
StopsTold stops.Write form script held held' = CutsTold form script held held'
StopsTold stops.NoMemory form script held held' = TellsPart form script held held'

-- ---- counting

-- an event came to a network, and the lines that came of it were counted
pub record CountsOne (event : Event) (fault : Option WorldFault) (old new : Running) (tally tally' : Tally) : Type 0 where
  pub is_fault : fault ≡ fault_of event old.world
  pub network : new ≡ running (applies event old.world)
  pub counted : (before : List Line) → tally ≡ tally_of before → tally' ≡ tally_of (before ++ journal_in (applies event old.world).outcomes)

-- a script was played to its end, or to the event at which its run stops, and the lines of its journal were counted
pub record CountsAll (script : List ScriptLine) (stop : Option (ℕ × WorldFault)) (tally : Tally) : Type 0 where
  pub is_stop : stop_of stop ≡ (kept_run script).stop
  pub counted : tally ≡ tally_of (journal_in (kept_run script).world.outcomes)

-- what is told of a run with this summary that stopped here, if it did
abbrev pub summed_text : Tally → Option RunStop → List ℕ
summed_text tally None = tally_text tally
summed_text tally (Some stop) = stop_text stop.line stop.fault
