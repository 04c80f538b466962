-- What the command `gen` promises, as each command promises it.
use Rattle.std.proofs.Common.{◌≡◌, ℕ, List, refl, subst}
use Rattle.std.specs.Prelude.{Option, None, Some, Result, Ok, Err, IfOk, IfErr, IfSome, IsErrOf}
use Rattle.artery_script.specs.declared.script.ScriptLine.{ScriptLine}
use Rattle.artery_generator.specs.Scripts.{script_of as generated}
use Rattle.artery_cli.specs.Answers.{Answers, answer_of, generated_answer, summed, whole_run}
use Rattle.artery_cli.specs.Leaving.{WritingStops, Leaves}
use Rattle.artery_cli.specs.declared.command.Command.TheVariants.{Generate}
use Rattle.artery_cli.specs.declared.stop.Stop.{Stop}
use Rattle.artery_cli.specs.declared.stop.Stop.TheVariants as stops
use Rattle.artery_cli.proofs.Stopping.{writing_stops}

-- the summary of the run of a script is the answer to its number
pub generated_so : (number : ℕ) (script : List ScriptLine) → script ≡ generated number → summed (whole_run script) ≡ generated_answer number
unfolding generated_answer
generated_so number script h = subst (λ (s : List ScriptLine). summed (whole_run script) ≡ summed (whole_run s)) h refl

-- it answers so whatever the source holds
pub generate_answers : (left : Option (List ℕ)) (number : ℕ) (r : Result ℕ Stop) (old new : Option (List ℕ)) → IfOk r (λ status. Answers (generated_answer number) old new status)
    → IfOk r (λ status. IfSome left (λ text. Answers (answer_of (Some (Generate number)) text) old new status))
generate_answers left number (Err stop) old new h = tt
generate_answers None number (Ok status) old new h = tt
generate_answers (Some text) number (Ok status) old new h = h

-- and stops so
pub generate_stops : (left : Option (List ℕ)) (number : ℕ) (r : Result ℕ Stop) (old new : Option (List ℕ)) → IfErr r (λ stop. WritingStops stop (generated_answer number).written old new)
    → IfErr r (λ stop. IfSome left (λ text. Leaves stop (Some (Generate number)) text old new))
generate_stops left number (Ok status) old new h = tt
generate_stops None number (Err stop) old new h = tt
generate_stops (Some text) number (Err stop) old new h = writing_stops stop (Some (Generate number)) text old new refl h

-- the source did not fail
pub generate_reads_nothing : (number : ℕ) (r : Result ℕ Stop) (old new : Option (List ℕ)) → IfErr r (λ stop. WritingStops stop (generated_answer number).written old new) → IsErrOf r stops.Read → ⊥
generate_reads_nothing number r old new h e = subst (λ (x : Result ℕ Stop). IfErr x (λ stop. WritingStops stop (generated_answer number).written old new)) e h
