use Rattle.std.proofs.Common.{ℕ, ◌+◌, ap, ◌∙◌}
use Rattle.byteorder.specs.Endian.{little_bytes}
use Rattle.artery_header.specs.Envelope.{envelope_of, name_of, spelled_len, tag_of}
use Rattle.artery_header.proofs.Canonical.{tag_cells}
use Rattle.artery_header.proofs.write.tags_of.Goals as goal

pub returns-clause-bytes : goal.returns-clause-bytes
returns-clause-bytes c =
    let e = c.args.envelope.now in
    let sender = c.spelled_len-recipient_at.ensures.value in
    let recipient = c.spelled_len.ensures.value in
    let at_recipient = ap (λ (n : ℕ). tag_of (28 + n) (name_of e.recipient)) sender in
    let at_manifest = ap (λ (n : ℕ). tag_of ((28 + n) + c.spelled_len.result) (name_of e.manifest)) sender
    ∙ ap (λ (n : ℕ). tag_of ((28 + spelled_len (name_of e.sender)) + n) (name_of e.manifest)) recipient in
    tag_cells (envelope_of e) c.to_le_bytes-sender.result c.to_le_bytes-recipient.result c.to_le_bytes-manifest.result
    (c.to_le_bytes-sender.ensures ∙ ap (little_bytes 4) c.tag_of.ensures.tag)
    (c.to_le_bytes-recipient.ensures ∙ ap (little_bytes 4) (c.tag_of-2.ensures.tag ∙ at_recipient))
    (c.to_le_bytes-manifest.ensures ∙ ap (little_bytes 4) (c.tag_of-3.ensures.tag ∙ at_manifest))
