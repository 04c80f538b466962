use Rattle.std.proofs.Common.{◌≡◌, length}
use Rattle.std.specs.List.{filter_map}
use Rattle.artery_control.specs.declared.fault.ControlFault.TheVariants as faults
use Rattle.artery_control.specs.Outcome.{each_of}
use Rattle.artery_control.specs.Picking.{fields_in, bytes_in}
use Rattle.artery_control.specs.Parts.{is_key}
use Rattle.artery_control.proofs.Gathers.{keys_from}
use Rattle.artery_control.proofs.table.table_keys.Given as goal

abbrev pub decreases-loop-field : goal.decreases-loop-field
decreases-loop-field l = length l.fields

abbrev pub invariant-loop-field : goal.invariant-loop-field
invariant-loop-field l = keys_from l.path l.number l.keys l.fields ≡ each_of is_key (faults.BadText l.path) (filter_map (bytes_in l.number) (fields_in l.bytes))
