-- Faults of incarnations, as faults of the line.
use Rattle.std.proofs.Common.{◌≡◌, Bool, true, false, Result, Err, ap}
use Rattle.std.specs.Result.{result_ok}
use Rattle.artery_base.specs.Words.{Unless, Gives}
use Rattle.artery_base.specs.declared.address.UniqueAddress.{UniqueAddress}
use Rattle.artery_text.specs.declared.fault.AddressFault.{AddressFault}
use Rattle.artery_text.specs.Reading.{address_memory}
use Rattle.artery_lines.specs.Lines.{Tells, line_fault}

told_part : {X E : Type 0} (b : Bool) (e : E) (read : Result X E) → Unless b (read ≡ Err e) → Tells (Err (line_fault b)) (result_ok read)
told_part true e read h = tt
told_part false e read h = ap result_ok h

-- what is no incarnation tells none
pub tells_unique : (e : AddressFault) (read : Result UniqueAddress AddressFault) → Gives address_memory (Err e) read → Tells (Err (line_fault (address_memory e))) (result_ok read)
tells_unique e read h = told_part (address_memory e) e read h
