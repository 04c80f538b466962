-- How a call ends that is to give one answer.
use Rattle.std.specs.Prelude.{ℕ, ◌≤◌, List, Option, Result, IfOk, IfErr, IsErrOf}
use Rattle.artery_io.specs.Faults.{Rose}
use Rattle.artery_cli.specs.Answers.{Answer, Answers, IsDone}
use Rattle.artery_cli.specs.Leaving.{WritingStops}
use Rattle.artery_cli.specs.declared.stop.Stop.{Stop}
use Rattle.artery_cli.specs.declared.stop.Stop.TheVariants as stops

-- it gives the answer, whose status tells of no source or sink that failed and no want of memory; or the sink took a front of it, or
-- memory ran out before; the sink's count of faults never falls, and rose where the sink failed
pub record AnswersOrStops (a : Answer) (result : Result ℕ Stop) (held held' : Option (List ℕ)) (faults faults' : ℕ) : Type 0 where
  pub answers : IfOk result (λ status. Answers a held held' status)
  pub left : IfErr result (λ stop. WritingStops stop a.written held held')
  pub plain : IfOk result IsDone
  pub later : faults ≤ faults'
  pub write : IsErrOf result stops.Write → Rose faults faults'
