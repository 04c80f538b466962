-- The faults of a record: what is wrong, and the place of the field in which it is.
use Rattle.std.specs.Prelude.{ℕ}
use Rattle.artery_wire.specs.declared.fault.FaultKind.{FaultKind}
use Rattle.artery_wire.specs.declared.fault.FaultKind.TheVariants as kinds
use Rattle.artery_wire.specs.declared.fault.WireFault.{WireFault}
use Rattle.artery_wire.specs.declared.fault.WireFault.TheVariants as faults

-- a fault of this kind at this place
abbrev pub fault_at : FaultKind → ℕ → WireFault
fault_at kinds.Varint place = faults.Varint place
fault_at kinds.WireType place = faults.WireType place
fault_at kinds.Truncated place = faults.Truncated place
fault_at kinds.FieldNumber place = faults.FieldNumber place
