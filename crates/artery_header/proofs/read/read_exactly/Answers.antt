use Rattle.std.proofs.Common.{◌≡◌, drop, take, length, ◌-◌, ap, sym, subst, ◌∙◌, arith, Result}
use Rattle.std.proofs.lemmas.List.{take_rest}
use Rattle.artery_base.specs.Words.{Shows}
use Rattle.artery_header.specs.declared.fault.HeaderFault.{HeaderFault}
use Rattle.artery_header.specs.Envelope.{EnvelopeOf, envelope_of, body_of, read_of}
use Rattle.artery_header.proofs.Layouts.{read_on}
use Rattle.artery_header.proofs.read.read_exactly.Goals as goal

pub returns : goal.returns
returns c =
    let bytes = c.args.bytes.now in
    let on : read_of bytes ≡ body_of bytes (drop 28 bytes) = read_on bytes (omega arith) (omega arith) (omega arith) in
    let e : body_of bytes (take (length bytes - 28) (drop 28 bytes)) ≡ read_of bytes = ap (body_of bytes) (take_rest bytes 28) ∙ sym on in
    let P : Result EnvelopeOf HeaderFault → Type 0 = Shows envelope_of c.body_of.result in
    subst P e c.body_of.ensures
