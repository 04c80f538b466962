-- What a frame says by the state and the tables is what it says on the connections of a node that have these.
use Rattle.std.proofs.Common.{◌≡◌, ℕ, List, Option, Result, Ok, Err, refl, sym, ap, subst, ◌∙◌}
use Rattle.artery_frame.specs.declared.stream.Stream.{Stream}
use Rattle.artery_handshake.specs.declared.in_conn.InState.{InState}
use Rattle.artery_header.specs.declared.fault.HeaderFault.{HeaderFault}
use Rattle.artery_header.specs.Envelope.{EnvelopeOf, read_of}
use Rattle.artery_journal.specs.declared.rule.Rule.{Rule}
use Rattle.artery_tables.specs.InTables.{Kept}
use Rattle.artery_machine.specs.Parts.{kept}
use Rattle.artery_machine.specs.Node.{Node, Inbound, OfKinds}
use Rattle.artery_machine.specs.Verdict.{Content, read_said, content_in, tables_for}
use Rattle.artery_verdict.specs.declared.content.Content.{Content as Told}
use Rattle.artery_verdict.specs.declared.content.NotSaid.{NotSaid}
use Rattle.artery_verdict.specs.Heard.{IsSaid, read_heard, frame_heard}

-- of what is read of a frame
read_same : (stream : Option Stream) (n : Node kept) (i : Inbound kept) (read : Result EnvelopeOf HeaderFault)
    → read_heard i.state stream (tables_for i.state n) read ≡ read_said stream n i read
read_same stream n i (Ok envelope) = refl
read_same stream n i (Err fault) = refl

-- of a frame
frame_same : (stream : Option Stream) (n : Node kept) (i : Inbound kept) (state : InState) (tables : OfKinds Kept) (frame : List ℕ)
    → i.state ≡ state → tables_for i.state n ≡ tables → frame_heard state stream tables frame ≡ content_in stream n i frame
frame_same stream n i state tables frame s t =
    sym (ap (λ x. frame_heard x stream tables frame) s)
    ∙ (sym (ap (λ x. frame_heard i.state stream x frame) t) ∙ read_same stream n i (read_of frame))

-- so what is told is what the machine says
pub said_in : (stream : Option Stream) (n : Node kept) (i : Inbound kept) (state : InState) (tables : OfKinds Kept) (frame : List ℕ) (result : Result Told NotSaid)
    → i.state ≡ state → tables_for i.state n ≡ tables → IsSaid result (frame_heard state stream tables frame) → IsSaid result (content_in stream n i frame)
said_in stream n i state tables frame result s t said =
    let P : Result Content Rule → Type 0 = IsSaid result in
    subst P (frame_same stream n i state tables frame s t) said
