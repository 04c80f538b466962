-- Scripts whose events a line can tell.
use Rattle.std.specs.Prelude.{List}
use Rattle.std.specs.List.{AllByRecursion}
use Rattle.artery_script.specs.declared.script.ScriptLine.{ScriptLine}
use Rattle.artery_script.specs.Valid.{IsEvent}

-- Each event of a script is one that a line can tell, as each of a script that was read is: its texts are texts and short, its numbers are in their ranges.
abbrev pub AreTold : List ScriptLine → Type 0
AreTold script = AllByRecursion (λ (l : ScriptLine). IsEvent l.event) script
