use Rattle.std.proofs.Common.{arith, ap, subst}
use Rattle.std.specs.Prelude.{[], Err, Some, IfSome}
use Rattle.artery_cli.specs.declared.stop.Stop.{Stop}
use Rattle.artery_cli.specs.Leaving.{Leaves}
use Rattle.artery_cli.specs.Command.{command_of, reads_input}
use Rattle.artery_cli.proofs.Gathering.{rose_later}
use Rattle.artery_cli.proofs.Lawful.{words_told}
use Rattle.artery_cli.proofs.Stopping.{told_read, told_part, cut_read, cut_part, does_read}
use Rattle.artery_cli.proofs.top.run.Goals as goal

pub returns-in-Err-Read-clause-write : goal.returns-in-Err-Read-clause-write
returns-in-Err-Read-clause-write g c = λ is. rose_later _ _ _ c.in-Err-Read.ensures.later (c.finish.ensures.write is)

pub returns-in-Err-NoMemory-clause-write : goal.returns-in-Err-NoMemory-clause-write
returns-in-Err-NoMemory-clause-write g c = λ is. rose_later _ _ _ c.in-Err-NoMemory.ensures.later (c.finish-in-Err-NoMemory.ensures.write is)

pub returns-in-Err-Read-clause-told : goal.returns-in-Err-Read-clause-told
returns-in-Err-Read-clause-told g c = λ is. told_read (g.S.Source.left c.args.input.now) (g.S.Source.left c.command.new.input) (g.K.Sink.held c.args.output.now) (g.K.Sink.held c.command.new.output) (g.K.Sink.held c.finish.new.output) (command_of c.args.words.now) (c.in-Err-Read.ensures.seen (ap Err c.in-Err-Read.field-0-is)) (c.finish.ensures.told (λ four. (let bad : ⊥ = omega (arith, is, four) in bad))).1

pub returns-in-Err-Read-clause-taken : goal.returns-in-Err-Read-clause-taken
returns-in-Err-Read-clause-taken g c = λ is. cut_read (g.S.Source.left c.args.input.now) (g.S.Source.left c.command.new.input) (g.K.Sink.held c.args.output.now) (g.K.Sink.held c.command.new.output) (g.K.Sink.held c.finish.new.output) (command_of c.args.words.now) (does_read (reads_input (command_of c.args.words.now)) c.in-Err-Read.ensures.untouched (ap Err c.in-Err-Read.field-0-is)) (c.in-Err-Read.ensures.seen (ap Err c.in-Err-Read.field-0-is)) c.finish.ensures.taken

pub returns-in-Err-NoMemory-clause-memory : goal.returns-in-Err-NoMemory-clause-memory
returns-in-Err-NoMemory-clause-memory g c = λ is.
    let P : Stop → Type 0 = λ stop. IfSome (g.S.Source.left c.args.input.now) (λ text. Leaves stop (command_of c.args.words.now) text (g.K.Sink.held c.args.output.now) (g.K.Sink.held c.command.new.output)) in
    told_part (g.S.Source.left c.args.input.now) (g.K.Sink.held c.args.output.now) (g.K.Sink.held c.command.new.output) (g.K.Sink.held c.finish-in-Err-NoMemory.new.output) (command_of c.args.words.now) (subst P c.in-Err-NoMemory.field-0-is c.in-Err-NoMemory.ensures.left) (c.finish-in-Err-NoMemory.ensures.told (λ four. (let bad : ⊥ = omega (arith, is, four) in bad))).1

pub returns-in-Err-NoMemory-clause-taken : goal.returns-in-Err-NoMemory-clause-taken
returns-in-Err-NoMemory-clause-taken g c = λ is.
    let P : Stop → Type 0 = λ stop. IfSome (g.S.Source.left c.args.input.now) (λ text. Leaves stop (command_of c.args.words.now) text (g.K.Sink.held c.args.output.now) (g.K.Sink.held c.command.new.output)) in
    cut_part (g.S.Source.left c.args.input.now) (g.K.Sink.held c.args.output.now) (g.K.Sink.held c.command.new.output) (g.K.Sink.held c.finish-in-Err-NoMemory.new.output) (command_of c.args.words.now) (subst P c.in-Err-NoMemory.field-0-is c.in-Err-NoMemory.ensures.left) c.finish-in-Err-NoMemory.ensures.taken

pub returns-in-Err-NoMemory-clause-memory_alone : goal.returns-in-Err-NoMemory-clause-memory_alone
returns-in-Err-NoMemory-clause-memory_alone g c = λ alone is.
    let P : Stop → Type 0 = λ stop. Leaves stop (command_of c.args.words.now) [] (g.K.Sink.held c.args.output.now) (g.K.Sink.held c.command.new.output) in
    told_part (Some []) (g.K.Sink.held c.args.output.now) (g.K.Sink.held c.command.new.output) (g.K.Sink.held c.finish-in-Err-NoMemory.new.output) (command_of c.args.words.now) (subst P c.in-Err-NoMemory.field-0-is (c.in-Err-NoMemory.ensures.left_alone alone)) (c.finish-in-Err-NoMemory.ensures.told (λ four. (let bad : ⊥ = omega (arith, is, four) in bad))).1

pub returns-in-Err-NoMemory-clause-taken_alone : goal.returns-in-Err-NoMemory-clause-taken_alone
returns-in-Err-NoMemory-clause-taken_alone g c = λ alone is.
    let P : Stop → Type 0 = λ stop. Leaves stop (command_of c.args.words.now) [] (g.K.Sink.held c.args.output.now) (g.K.Sink.held c.command.new.output) in
    cut_part (Some []) (g.K.Sink.held c.args.output.now) (g.K.Sink.held c.command.new.output) (g.K.Sink.held c.finish-in-Err-NoMemory.new.output) (command_of c.args.words.now) (subst P c.in-Err-NoMemory.field-0-is (c.in-Err-NoMemory.ensures.left_alone alone)) c.finish-in-Err-NoMemory.ensures.taken

pub returns-in-Ok-clause-lawful : goal.returns-in-Ok-clause-lawful
returns-in-Ok-clause-lawful g c = λ done. words_told c.runs_keep_laws.ensures (g.S.Source.left c.args.input.now) (command_of c.args.words.now) (g.K.Sink.held c.args.output.now) (g.K.Sink.held c.command.new.output) c.in-Ok.status c.in-Ok.ensures.answers
