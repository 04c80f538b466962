-- What is read is valid.
use Rattle.std.proofs.Common.{ℕ, List, Result, Ok, Err}
use Rattle.std.specs.Prelude.{IfOk}
use Rattle.artery_base.specs.Words.{Gives}
use Rattle.artery_control.specs.declared.control.Control.{Control}
use Rattle.artery_control.specs.declared.fault.ControlFault.{ControlFault}
use Rattle.artery_control.specs.Outcome.{is_memory}
use Rattle.artery_control.specs.Message.{message_of}
use Rattle.artery_control.specs.Valid.{IsValid}
use Rattle.artery_control.specs.Belonging.{ReadIsValid}

pub valid_result : ReadIsValid → (result : Result Control ControlFault) (manifest bytes : List ℕ) → Gives is_memory result (message_of manifest bytes) → IfOk result IsValid
valid_result valid (Ok control) manifest bytes read = valid control manifest bytes read
valid_result valid (Err fault) manifest bytes read = tt
