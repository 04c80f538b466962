use Rattle.std.proofs.Common.{ℕ, List, Result, Ok, Err, ◌≡◌, ap, subst}
use Rattle.std.specs.Prelude.{IfOk, IfErr}
use Rattle.artery_base.specs.Words.{Shows}
use Rattle.artery_header.specs.declared.envelope.Envelope.{Envelope}
use Rattle.artery_header.specs.declared.fault.HeaderFault.{HeaderFault}
use Rattle.artery_header.specs.Envelope.{EnvelopeOf, IsLaidOut, HasTexts, envelope_of, read_of}
use Rattle.artery_header.specs.FirstFault.{IsFirstFault}
use Rattle.artery_header.proofs.Layouts.{laid_out_read, read_laid_out, laid_out_texts}
use Rattle.artery_header.proofs.Faults.{fault_first, first_read}
use Rattle.artery_header.proofs.read.read_envelope.Goals as goal

found : (bytes : List ℕ) (r : Result Envelope HeaderFault) → Shows envelope_of r (read_of bytes) → IfOk r (λ e. IsLaidOut bytes (envelope_of e))
found bytes (Ok e) h = read_laid_out bytes (envelope_of e) h
found bytes (Err fault) h = tt

pub returns-clause-found : goal.returns-clause-found
returns-clause-found c = found c.args.bytes.now c.read_exactly.result c.read_exactly.ensures

pub returns-clause-only : goal.returns-clause-only
returns-clause-only c = λ e h.
    let P : Result EnvelopeOf HeaderFault → Type 0 = Shows envelope_of c.read_exactly.result in
    subst P (laid_out_read c.args.bytes.now e h) c.read_exactly.ensures

texts : (bytes : List ℕ) (r : Result Envelope HeaderFault) → Shows envelope_of r (read_of bytes) → IfOk r (λ e. HasTexts (envelope_of e))
texts bytes (Ok e) h = laid_out_texts bytes (envelope_of e) (read_laid_out bytes (envelope_of e) h)
texts bytes (Err fault) h = tt

pub returns-clause-texts : goal.returns-clause-texts
returns-clause-texts c = texts c.args.bytes.now c.read_exactly.result c.read_exactly.ensures

fault_found : (bytes : List ℕ) (r : Result Envelope HeaderFault) → Shows envelope_of r (read_of bytes) → IfErr r (IsFirstFault bytes)
fault_found bytes (Ok e) h = tt
fault_found bytes (Err fault) h = fault_first bytes fault h

pub returns-clause-fault : goal.returns-clause-fault
returns-clause-fault c = fault_found c.args.bytes.now c.read_exactly.result c.read_exactly.ensures

refused : (bytes : List ℕ) (r : Result Envelope HeaderFault) → Shows envelope_of r (read_of bytes) → (fault : HeaderFault) → read_of bytes ≡ Err fault → r ≡ Err fault
refused bytes (Ok e) h fault f = absurd cc
refused bytes (Err x) h fault f = let same : x ≡ fault = cc in ap (λ (y : HeaderFault). Err y) same

pub returns-clause-refused : goal.returns-clause-refused
returns-clause-refused c = λ fault f. refused c.args.bytes.now c.read_exactly.result c.read_exactly.ensures fault (first_read c.args.bytes.now fault f)
