use Rattle.std.proofs.Common.{◌≡◌, length}
use Rattle.std.specs.List.{flat_map}
use Rattle.artery_control.specs.declared.fault.ControlFault.TheVariants as faults
use Rattle.artery_control.specs.Outcome.{each_of}
use Rattle.artery_control.specs.Picking.{fields_in}
use Rattle.artery_control.specs.Message.{is_value, repeated_in}
use Rattle.artery_control.proofs.Gathers.{values_from}
use Rattle.artery_control.proofs.table.table_values.Given as goal

abbrev pub decreases-loop-field : goal.decreases-loop-field
decreases-loop-field l = length l.fields

abbrev pub invariant-loop-field : goal.invariant-loop-field
invariant-loop-field l = values_from l.path l.number l.values l.fields ≡ each_of is_value (faults.Range l.path) (flat_map (repeated_in l.number) (fields_in l.bytes))
