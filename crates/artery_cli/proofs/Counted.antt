-- The lines of a run that are counted event by event.
use Rattle.std.proofs.Common.{◌≡◌, ℕ, List, [], ◌∷◌, ◌++◌, refl, sym, ◌∙◌, ap, subst}
use Rattle.std.specs.Prelude.{Option, None, Some, Result}
use Rattle.artery_script.specs.declared.event.Event.{Event}
use Rattle.artery_script.specs.declared.script.ScriptLine.{ScriptLine}
use Rattle.artery_journal.specs.declared.line.Line.{Line}
use Rattle.artery_machine.specs.declared.world.Outcome.{Outcome}
use Rattle.artery_machine.specs.declared.world.Outcome.TheVariants as outcomes
use Rattle.artery_machine.specs.declared.world.WorldFault.{WorldFault}
use Rattle.artery_machine.specs.declared.world.WorldFault.TheVariants as faults
use Rattle.artery_machine.specs.Parts.{kept}
use Rattle.artery_machine.specs.Ways.{kept_ways}
use Rattle.artery_machine.specs.World.{nothing, applies}
use Rattle.artery_machine.specs.Playing.{Run, Stop as RunStop}
use Rattle.artery_laws.specs.Network.{IsSameRun}
use Rattle.artery_world.specs.Running.{Running, running, Comes}
use Rattle.artery_replay.specs.declared.tally.Tally.{Tally}
use Rattle.artery_replay.specs.Tally.{journal_in, tally_of}
use Rattle.artery_cli.specs.Answers.{answer_with, summary_answer, summed, whole_run}
use Rattle.artery_replay.specs.Replay.{run_status}
use Rattle.artery_cli.specs.Playing.{kept_run, answered, stop_of, summed_text, CountsOne, CountsAll}
use Rattle.artery_cli.proofs.PlayingLemmas.{GoesOn, CameTo, came, told_alone, comes_first, comes_next, outcomes_next, run_ended, run_stopped}

-- an event came, and its lines were counted
pub one_counted : (answer : Result (Unit {0}) WorldFault) (fault : Option WorldFault) (event : Event) (old new : Running) (before after : List Outcome) (tally tally' : Tally)
    → answer ≡ answered fault → (fault ≡ Some faults.NoMemory → ⊥) → Comes answer event old new before after → before ≡ []
    → ((journal : List Line) → tally ≡ tally_of journal → tally' ≡ tally_of (journal ++ journal_in after)) → CountsOne event fault old new tally tally'
one_counted answer fault event old new before after tally tally' e n h b t =
    let c = came answer fault event old new before after e n h in
    record {
      is_fault = c.is_fault;
      network = c.network;
      counted = subst (λ (o : List Outcome). (journal : List Line) → tally ≡ tally_of journal → tally' ≡ tally_of (journal ++ journal_in o)) (told_alone fault event old new before after b c) t;
    }

lines_append : (xs ys : List Outcome) → journal_in (xs ++ ys) ≡ journal_in xs ++ journal_in ys
lines_append [] ys = refl
lines_append (outcomes.Line moment line ∷ xs) ys = ap (λ (ls : List Line). line ∷ ls) (lines_append xs ys)
lines_append (outcomes.Wrote uid dial bytes ∷ xs) ys = lines_append xs ys

-- so far a script was played, and the lines were counted
pub record CountedSoFar (all rest : List ScriptLine) (now : Running) (tally : Tally) : Type 0 where
  pub came : CameTo all rest now
  pub counted : tally ≡ tally_of (journal_in came.w.outcomes)

pub counts_first : (all : List ScriptLine) (now : Running) (tally : Tally) → now ≡ running nothing → tally ≡ tally_of [] → CountedSoFar all all now tally
counts_first all now tally h t = record { came = comes_first all now h; counted = t }

next_counted : GoesOn → (all rest : List ScriptLine) (event : Event) (fault : Option WorldFault) (now now' : Running) (tally tally' : Tally) → (p : CountedSoFar all rest now tally) → CountsOne event fault now now' tally tally'
    → tally' ≡ tally_of (journal_in (applies event p.came.w).outcomes)
next_counted law all rest event fault now now' tally tally' p h =
    h.counted (journal_in p.came.w.outcomes) p.counted
    ∙ ap tally_of (sym (lines_append p.came.w.outcomes (applies event now.world).outcomes))
    ∙ ap (λ (o : List Outcome). tally_of (journal_in o)) (sym (outcomes_next law all rest event now p.came))

pub counts_next : GoesOn → (all rest more : List ScriptLine) (l : ScriptLine) (now now' : Running) (tally tally' : Tally) → CountedSoFar all rest now tally → rest ≡ l ∷ more → CountsOne l.event None now now' tally tally'
    → CountedSoFar all more now' tally'
counts_next law all rest more l now now' tally tally' p r h = record {
  came = comes_next law all rest more l now now' p.came r h.is_fault h.network;
  counted = next_counted law all rest l.event None now now' tally tally' p h;
}

pub counts_end : (all rest : List ScriptLine) (now : Running) (tally : Tally) → CountedSoFar all rest now tally → rest ≡ [] → CountsAll all None tally
counts_end all rest now tally p r =
    let e = run_ended all rest now p.came r in
    record {
      is_stop = ap (λ (x : Run kept kept_ways). x.stop) e;
      counted = p.counted ∙ ap (λ (x : Run kept kept_ways). tally_of (journal_in x.world.outcomes)) e;
    }

pub counts_stop : GoesOn → (all rest more : List ScriptLine) (l : ScriptLine) (now now' : Running) (tally tally' : Tally) (fault : WorldFault) → CountedSoFar all rest now tally → rest ≡ l ∷ more
    → CountsOne l.event (Some fault) now now' tally tally' → CountsAll all (Some (l.line, fault)) tally'
counts_stop law all rest more l now now' tally tally' fault p r h =
    let e = run_stopped law all rest more l now fault p.came r h.is_fault in
    record {
      is_stop = ap (λ (x : Run kept kept_ways). x.stop) e;
      counted = next_counted law all rest l.event (Some fault) now now' tally tally' p h ∙ ap (λ (x : Run kept kept_ways). tally_of (journal_in x.world.outcomes)) e;
    }

summary_is : (outcomes : List Outcome) (stop : Option RunStop) → answer_with (summed_text (tally_of (journal_in outcomes)) stop) (run_status stop) ≡ summary_answer outcomes stop
summary_is outcomes None = refl
summary_is outcomes (Some stop) = refl

-- the summary of the run over whole histories
pub summed_so : ((script : List ScriptLine) → IsSameRun (kept_run script) (whole_run script)) → (script : List ScriptLine) (stop : Option (ℕ × WorldFault)) (tally : Tally) (text : List ℕ) (status : ℕ)
    → CountsAll script stop tally → text ≡ summed_text tally (stop_of stop) → status ≡ run_status (stop_of stop) → answer_with text status ≡ summed (whole_run script)
summed_so law script stop tally text status h t s =
    ap (λ (x : List ℕ). answer_with x status) t
    ∙ ap (λ (n : ℕ). answer_with (summed_text tally (stop_of stop)) n) s
    ∙ ap (λ (x : Option RunStop). answer_with (summed_text tally x) (run_status x)) h.is_stop
    ∙ ap (λ (x : Tally). answer_with (summed_text x (kept_run script).stop) (run_status (kept_run script).stop)) h.counted
    ∙ summary_is (kept_run script).world.outcomes (kept_run script).stop
    ∙ ap (λ (o : List Outcome). summary_answer o (kept_run script).stop) (law script).outcomes
    ∙ ap (summary_answer (whole_run script).world.outcomes) (law script).stop
