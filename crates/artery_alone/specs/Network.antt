-- The journal of a network.
use Rattle.std.specs.Prelude.{List, [], ◌∷◌, Some}
use Rattle.artery_script.specs.declared.script.ScriptLine.{ScriptLine}
use Rattle.artery_judge.specs.Lines.{Entry}
use Rattle.artery_machine.specs.declared.world.Outcome.{Outcome}
use Rattle.artery_machine.specs.declared.world.Outcome.TheVariants as outcomes
use Rattle.artery_machine.specs.Parts.{Parts}
use Rattle.artery_machine.specs.Ways.{Ways}
use Rattle.artery_machine.specs.Playing.{run}

-- The lines among what came of a network, in order, each with its moment.
abbrev pub journal_of : List Outcome → List Entry
journal_of [] = []
journal_of (outcomes.Line moment line ∷ rest) = (Some moment, line) ∷ journal_of rest
journal_of (outcomes.Wrote uid dial bytes ∷ rest) = journal_of rest

-- The journal that a script leads to.
abbrev pub journal : (P : Parts) (W : Ways) → List ScriptLine → List Entry
journal P W script = journal_of (run {P = P} {W = W} script).world.outcomes
