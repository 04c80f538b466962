-- A fault of a payload that is told.
use Rattle.std.proofs.Common.{◌≡◌, false}
use Rattle.std.specs.Prelude.{Result, Err}
use Rattle.artery_cli.specs.Checking.{control_memory}
use Rattle.artery_control.specs.declared.control.Control.{Control}
use Rattle.artery_control.specs.declared.fault.ControlFault.{ControlFault}
use Rattle.artery_control.specs.declared.fault.ControlFault.TheVariants as faults
use Rattle.artery_base.specs.Words.{Unless}
use Rattle.artery_control.specs.Outcome.{is_memory}

-- a fault other than want of memory is the first one
pub first_fault : (fault : ControlFault) (read : Result Control ControlFault) → control_memory fault ≡ false → Unless (is_memory fault) (read ≡ Err fault) → read ≡ Err fault
first_fault faults.UnknownManifest read named h = h
first_fault (faults.Wire path fault) read named h = h
first_fault (faults.Missing path) read named h = h
first_fault (faults.BadText path) read named h = h
first_fault (faults.Range path) read named h = h
first_fault (faults.Unequal keys values) read named h = h
first_fault faults.NoMemory read named h = absurd cc
