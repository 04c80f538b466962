use Rattle.std.proofs.Common.{subst, ◌∙◌}
use Rattle.artery_header.specs.Envelope.{EnvelopeOf, envelope_of}
use Rattle.artery_tables.specs.Story.{entry_of}
use Rattle.artery_codec.specs.Meaning.{meaning}
use Rattle.artery_codec.specs.Writing.{Writes, held_indices}
use Rattle.artery_codec.proofs.Meanings.{written_stands, written_means}
use Rattle.artery_codec.proofs.encoding.encode.Goals as goal

pub returns-clause-history : goal.returns-clause-history
returns-clause-history c = λ r s a b.
    let P : EnvelopeOf → Type 0 = λ e. Writes c.write_envelope.result c.args.out.now c.write_envelope.new.out e in
    let known = c.write_envelope.ensures in
    subst P (c.envelope_held.ensures.envelope ∙ written_stands (meaning c.args.message.now) c.args.refs.now c.args.manifests.now r s a b)
    (record { refused = known.refused; memory = known.memory; ok = known.ok; err = known.err })

pub returns-clause-round_trip : goal.returns-clause-round_trip
returns-clause-round_trip c = λ r s a b.
    let known = c.envelope_held.ensures in
    written_means (record { read = c.written_is_read.ensures.read }) (held_indices c.args.refs.now) (held_indices c.args.manifests.now) (entry_of r) (entry_of s)
    (meaning c.args.message.now) (envelope_of c.envelope_held.result) known.envelope known.numbers known.texts c.write_envelope.result c.write_envelope.ensures.refused a b
