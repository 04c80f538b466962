use Rattle.std.proofs.Common.{◌≡◌, ℕ, List, refl, ◌⊎◌, inl, inr, Result, Ok, Err}
use Rattle.artery_header.specs.declared.fault.HeaderFault.{HeaderFault}
use Rattle.artery_header.specs.FirstFault.{IsFirstFault}
use Rattle.artery_header.specs.Envelope.{EnvelopeOf, IsLaidOut, read_of}
use Rattle.artery_header.proofs.Layouts.{laid_out_read, read_laid_out}
use Rattle.artery_header.proofs.Faults.{fault_first, first_read}
use Rattle.artery_header.proofs.laws.one_reading.Goals as goal

pub returns-clause-envelope : goal.returns-clause-envelope
returns-clause-envelope c = λ bytes e. (laid_out_read bytes e, read_laid_out bytes e)

pub returns-clause-fault : goal.returns-clause-fault
returns-clause-fault c = λ bytes fault. (first_read bytes fault, fault_first bytes fault)

either : (bytes : List ℕ) (r : Result EnvelopeOf HeaderFault) → read_of bytes ≡ r → ((e : EnvelopeOf) × IsLaidOut bytes e) ⊎ ((fault : HeaderFault) × IsFirstFault bytes fault)
either bytes (Ok e) w = inl (e, read_laid_out bytes e w)
either bytes (Err x) w = inr (x, fault_first bytes x w)

pub returns-clause-either : goal.returns-clause-either
returns-clause-either c = λ bytes. either bytes (read_of bytes) refl
