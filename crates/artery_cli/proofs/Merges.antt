-- The lines of a merge, one after the other.
use Rattle.std.proofs.Common.{◌≡◌, ℕ, List, [], ◌++◌, sym, ap, ◌∙◌}
use Rattle.std.proofs.lemmas.List.Folds.{flat_map-map}
use Rattle.std.specs.Prelude.{map, flat_map}
use Rattle.artery_journal.specs.declared.line.Line.{Line}
use Rattle.artery_cli.specs.Answers.{ended_line, lines_text}

-- what is written of lines that are borrowed is what is written of the lines
pub text_of_merge : {R : Type 0} (refs : List R) (now : R → Line) (merge : List Line) (before text : List ℕ) → map now refs ≡ merge → text ≡ before ++ flat_map (λ r. ended_line (now r)) refs → before ≡ [] → text ≡ lines_text merge
text_of_merge refs now merge before text is written none =
    written ∙ ap (λ b. b ++ flat_map (λ r. ended_line (now r)) refs) none ∙ sym (flat_map-map ended_line now refs) ∙ ap lines_text is
