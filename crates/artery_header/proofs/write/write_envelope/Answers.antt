use Rattle.std.proofs.Common.{◌≡◌, None}
use Rattle.artery_header.specs.Envelope.{envelope_of, refusal}
use Rattle.artery_header.proofs.Written.{read_back}
use Rattle.artery_header.proofs.write.write_envelope.Goals as goal

pub returns-clause-read : goal.returns-clause-read
returns-clause-read c =
    let e = envelope_of c.args.envelope.now in
    let fine : refusal e ≡ None = cc in
    read_back c.args.out.now c.append_envelope.new.out e c.in_ok-append_envelope.ensures.ok c.in_ok-append_envelope.ensures.fits c.requires fine
