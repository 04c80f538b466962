-- What reading a payload answers.
use Rattle.std.specs.Prelude.{◌≡◌, ℕ, Bool, true, false, List, Result, Ok, Err}
use Rattle.artery_cli.specs.declared.checking.PayloadFault.{PayloadFault}
use Rattle.artery_cli.specs.declared.checking.PayloadFault.TheVariants.{Refused, NoMemory}
use Rattle.artery_cli.specs.declared.refusal.Refusal.{Refusal}
use Rattle.artery_control.specs.declared.fault.ControlFault.{ControlFault}
use Rattle.artery_control.specs.declared.fault.ControlFault.TheVariants as control_faults

-- the payload that is told, or why there is none, unless memory ran out
abbrev pub ReadsPayload : Result (List ℕ) PayloadFault → Result (List ℕ) Refusal → Type 0
ReadsPayload (Ok payload) told = told ≡ Ok payload
ReadsPayload (Err (Refused refusal)) told = told ≡ Err refusal
ReadsPayload (Err NoMemory) told = Unit {0}

-- whether a fault says that memory ran out
abbrev pub control_memory : ControlFault → Bool
control_memory control_faults.UnknownManifest = false
control_memory (control_faults.Wire path fault) = false
control_memory (control_faults.Missing path) = false
control_memory (control_faults.BadText path) = false
control_memory (control_faults.Range path) = false
control_memory (control_faults.Unequal keys values) = false
control_memory control_faults.NoMemory = true
