-- What was written on a connection, by kind: ordinary messages, tables, acknowledgements of tables, answers; and what a connection carries.
use Rattle.std.proofs.Common.{◌≡◌, ℕ, List, [], ◌∷◌, ◌++◌, append_assoc, refl, sym, ◌∙◌, ap}
use Rattle.std.specs.Prelude.{Option, None, Some}
use Rattle.artery_base.specs.declared.address.UniqueAddress.{UniqueAddress}
use Rattle.artery_control.specs.declared.control.Control.{Control}
use Rattle.artery_control.specs.declared.control.Control.TheVariants as controls
use Rattle.artery_frame.specs.declared.stream.Stream.{Stream}
use Rattle.artery_header.specs.Envelope.{EnvelopeOf}
use Rattle.artery_journal.specs.declared.words.Kind.{Kind}
use Rattle.artery_journal.specs.declared.words.Kind.TheVariants.{Refs, Manifests}
use Rattle.artery_machine.specs.Deeds.{Writing, Begins, Controls, Sends}
use Rattle.artery_machine.specs.Ways.{Wrote}
use Rattle.artery_machine.specs.Hearing.{table_number}

-- A table that is announced: of which kind, its number, its names and their places.
pub record Tabling : Type 0 where
  pub kind : Kind
  pub number : ℕ
  pub keys : List (List ℕ)
  pub values : List ℕ

-- A table that is acknowledged.
pub record Acking : Type 0 where
  pub kind : Kind
  pub number : ℕ

-- An answer to the handshake request of the incarnation with this UID, on its connection with this dial number.
pub record Answering : Type 0 where
  pub uid : ℕ
  pub dial : ℕ

-- ---- one message

abbrev pub tables_of : Control → List Tabling
tables_of (controls.RefsTable from origin_uid version keys values sequence) =
    record { kind = Refs; number = table_number version sequence; keys = keys; values = values } ∷ []
tables_of (controls.ManifestsTable from origin_uid version keys values sequence) =
    record { kind = Manifests; number = table_number version sequence; keys = keys; values = values } ∷ []
tables_of _ = []

abbrev pub acks_of : Control → List Acking
acks_of (controls.RefsAck from version sequence) = record { kind = Refs; number = table_number version sequence } ∷ []
acks_of (controls.ManifestsAck from version sequence) = record { kind = Manifests; number = table_number version sequence } ∷ []
acks_of _ = []

abbrev pub answers_by : Option ℕ → Option ℕ → List Answering
answers_by (Some uid) (Some dial) = record { uid = uid; dial = dial } ∷ []
answers_by (Some uid) None = []
answers_by None its_nonce = []

abbrev pub answers_of : Control → List Answering
answers_of (controls.HandshakeRsp from for_uid its_nonce) = answers_by for_uid its_nonce
answers_of _ = []

-- Who says in a handshake that it speaks.
abbrev pub speakers_of : Control → List UniqueAddress
speakers_of (controls.HandshakeReq from to its_nonce) = from ∷ []
speakers_of (controls.HandshakeRsp from for_uid its_nonce) = from ∷ []
speakers_of _ = []

abbrev pub speakers_said : Writing → List UniqueAddress
speakers_said (Begins stream) = []
speakers_said (Controls control) = speakers_of control
speakers_said (Sends envelope) = []

abbrev pub sends_said : Writing → List EnvelopeOf
sends_said (Begins stream) = []
sends_said (Controls control) = []
sends_said (Sends envelope) = envelope ∷ []

abbrev pub tables_said : Writing → List Tabling
tables_said (Begins stream) = []
tables_said (Controls control) = tables_of control
tables_said (Sends envelope) = []

abbrev pub acks_said : Writing → List Acking
acks_said (Begins stream) = []
acks_said (Controls control) = acks_of control
acks_said (Sends envelope) = []

abbrev pub answers_said : Writing → List Answering
answers_said (Begins stream) = []
answers_said (Controls control) = answers_of control
answers_said (Sends envelope) = []

abbrev pub stream_said : Writing → Option Stream
stream_said (Begins stream) = Some stream
stream_said (Controls control) = None
stream_said (Sends envelope) = None

-- ---- all that was written, in order

abbrev pub all_said : {X : Type 0} → (Writing → List X) → List Wrote → List X
all_said says [] = []
all_said says (w ∷ ws) = says w.writing ++ all_said says ws

pub said_append : {X : Type 0} (says : Writing → List X) (xs ys : List Wrote) → all_said says (xs ++ ys) ≡ all_said says xs ++ all_said says ys
said_append says [] ys = refl
said_append says (x ∷ xs) ys = ap (λ l. says x.writing ++ l) (said_append says xs ys) ∙ sym (append_assoc (says x.writing) (all_said says xs) (all_said says ys))

-- What a connection carries, by what was written first.
abbrev pub carried : List Wrote → Option Stream
carried [] = None
carried (w ∷ ws) = stream_said w.writing
