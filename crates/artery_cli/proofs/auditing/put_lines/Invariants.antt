use Rattle.std.proofs.Common.{◌≡◌, ◌++◌, drop}
use Rattle.std.specs.Prelude.{flat_map}
use Rattle.artery_cli.specs.Answers.{ended_line}
use Rattle.artery_cli.proofs.auditing.put_lines.Given as goal

abbrev pub invariant-loop-line : goal.invariant-loop-line
invariant-loop-line l = record {
  so_far : l.text ++ flat_map (λ line. ended_line line.now) (drop l.line-index l.lines) ≡ l.fn.text ++ flat_map (λ line. ended_line line.now) l.lines;
}
