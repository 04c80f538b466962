use Rattle.std.proofs.Common.{refl, subst, rules}
use Rattle.std.specs.Prelude.{Err}
use Rattle.artery_base.specs.Words.{Gives}
use Rattle.artery_script.specs.Scripts.{script_memory, script_of}
use Rattle.artery_script.specs.declared.script.ScriptFault.{ScriptFault}
use Rattle.artery_script.specs.declared.script.ScriptFault.TheVariants as script_faults
use Rattle.artery_cli.specs.declared.refusal.Refusal.TheVariants as refusals
use Rattle.artery_cli.proofs.Results.{if_err}
use Rattle.artery_cli.proofs.Stopping.{refused_script}
use Rattle.artery_cli.proofs.replaying.replay_text.Goals as goal

pub returns-in-Err-TooManyLines-clause-left : goal.returns-in-Err-TooManyLines-clause-left
returns-in-Err-TooManyLines-clause-left g c =
    let P : ScriptFault → Type 0 = λ fault. Gives script_memory (Err fault) (script_of c.args.text.now) in
    if_err c.refuse.result _ _ (λ stop w. refused_script c.args.form c.args.text.now stop refusals.TooManyLines script_faults.TooManyLines _ _ c.requires (subst P c.in-Err-TooManyLines.field-0-is c.in-Err-TooManyLines.ensures.exact) refl w) c.refuse.ensures.left

pub returns-in-Err-BadLine-clause-left : goal.returns-in-Err-BadLine-clause-left
returns-in-Err-BadLine-clause-left g c =
    let P : ScriptFault → Type 0 = λ fault. Gives script_memory (Err fault) (script_of c.args.text.now) in
    let bad = subst P c.in-Err-BadLine.field-0-is c.in-Err-BadLine.ensures.exact in
    if_err c.refuse-in-Err-BadLine.result _ _ (λ stop w. refused_script c.args.form c.args.text.now stop (refusals.BadLine _) (script_faults.BadLine c.in-Err-BadLine.line) _ _ c.requires bad (search rules) w) c.refuse-in-Err-BadLine.ensures.left
