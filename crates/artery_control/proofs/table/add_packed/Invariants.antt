use Rattle.std.proofs.Common.{◌≡◌, length, map}
use Rattle.artery_wire.specs.Reading.{numbers_of}
use Rattle.artery_control.specs.declared.fault.ControlFault.TheVariants as faults
use Rattle.artery_control.specs.Outcome.{each_of, appended}
use Rattle.artery_control.specs.Message.{low32, is_value}
use Rattle.artery_control.proofs.Gathers.{numbers_from}
use Rattle.artery_control.proofs.table.add_packed.Given as goal

abbrev pub decreases-loop-number : goal.decreases-loop-number
decreases-loop-number l = length l.numbers

abbrev pub invariant-loop-number : goal.invariant-loop-number
invariant-loop-number l = numbers_from l.path l.values l.numbers ≡ appended l.fn.values (each_of is_value (faults.Range l.path) (map low32 (numbers_of l.packed).0))
