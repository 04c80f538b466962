-- The one outcome of a frame: what it must be to come so far, and what ends it there.
use Rattle.std.specs.Prelude.{◌≡◌, true, false, ◌||◌, ◌&&◌, not, is_some, ℕ, List, ◌∷◌, Option, Ok, Err}
use Rattle.artery_codec.specs.declared.message.DropRule.{DropRule}
use Rattle.artery_codec.specs.Meaning.{Meaning}
use Rattle.artery_frame.specs.declared.stream.Stream.{Stream}
use Rattle.artery_header.specs.declared.fault.HeaderFault.{HeaderFault}
use Rattle.artery_header.specs.Envelope.{EnvelopeOf, read_of}
use Rattle.artery_journal.specs.declared.line.Line.TheVariants as lines
use Rattle.artery_journal.specs.declared.rule.Rule.{Rule}
use Rattle.artery_journal.specs.declared.rule.Rule.TheVariants as rules
use Rattle.artery_machine.specs.Deeds.{Deed, Tells}
use Rattle.artery_machine.specs.Parts.{Parts}
use Rattle.artery_machine.specs.Node.{Node, Inbound, speaker_in}
use Rattle.artery_machine.specs.Doing.{listed, Doing}
use Rattle.artery_machine.specs.Verdict.{Content, Verdict, Dropped, OfClosed, Says, header_rule, codec_rule, is_uid_of, meant, tables_for, belongs, content_of, is_handshake, is_from, is_shut}

module _ {P : Parts} (stream : Option Stream) (n : Node P) (i : Inbound P) (frame : List ℕ) where
  -- A frame is this envelope, and its UID is the origin's, where one is known.
  pub record IsEnvelope (e : EnvelopeOf) : Type 0 where
    pub read : read_of frame ≡ Ok e
    pub uid : is_uid_of i.state e.uid ≡ true

  -- A frame is such an envelope, and means this message by the tables of its connection.
  pub record IsMessage (e : EnvelopeOf) (m : Meaning) : Type 0 where
    pub envelope : IsEnvelope e
    pub meaning : meant P (tables_for i.state n) e ≡ Ok m

  -- A frame means such a message, which belongs on the stream.
  pub record IsInPlace (e : EnvelopeOf) (m : Meaning) : Type 0 where
    pub message : IsMessage e m
    pub place : belongs stream m ≡ true

  -- A frame means such a message, and has this content.
  pub record HasContent (e : EnvelopeOf) (m : Meaning) (c : Content) : Type 0 where
    pub message : IsInPlace e m
    pub content : content_of e m ≡ Ok c

  -- A frame has such a content, and somebody is known to speak, or it is a handshake.
  pub record HasSpeaker (e : EnvelopeOf) (m : Meaning) (c : Content) : Type 0 where
    pub content : HasContent e m c
    pub speaker : (is_some (speaker_in i.state) || is_handshake c) ≡ true

  -- A frame has such a content, and is from the one that it says.
  pub record IsSaid (e : EnvelopeOf) (m : Meaning) (c : Content) : Type 0 where
    pub content : HasSpeaker e m c
    pub from : is_from e.uid i.state c ≡ true

  -- The outcomes of a frame: at the first of these that it is not, the rule for that drops it; where it is all of them, it is dropped for its closed origin, or says its content.
  pub data IsOutcome : Verdict → Type 0 where
    NoEnvelope : (fault : HeaderFault) → read_of frame ≡ Err fault → IsOutcome (Dropped (header_rule fault))
    OtherUid : (e : EnvelopeOf) → read_of frame ≡ Ok e → is_uid_of i.state e.uid ≡ false → IsOutcome (Dropped rules.Uid)
    NoMeaning : (e : EnvelopeOf) (rule : DropRule) → IsEnvelope e → meant P (tables_for i.state n) e ≡ Err rule → IsOutcome (Dropped (codec_rule rule))
    OutOfPlace : (e : EnvelopeOf) (m : Meaning) → IsMessage e m → belongs stream m ≡ false → IsOutcome (Dropped rules.Stream)
    NoContent : (e : EnvelopeOf) (m : Meaning) (rule : Rule) → IsInPlace e m → content_of e m ≡ Err rule → IsOutcome (Dropped rule)
    NoSpeaker : (e : EnvelopeOf) (m : Meaning) (c : Content) → HasContent e m c → (is_some (speaker_in i.state) || is_handshake c) ≡ false → IsOutcome (Dropped rules.NoHandshake)
    NotFrom : (e : EnvelopeOf) (m : Meaning) (c : Content) → HasSpeaker e m c → is_from e.uid i.state c ≡ false → IsOutcome (Dropped rules.From)
    Shut : (e : EnvelopeOf) (m : Meaning) (c : Content) → IsSaid e m c → (is_shut n (speaker_in i.state) && not (is_handshake c)) ≡ true → IsOutcome (OfClosed c)
    Said : (e : EnvelopeOf) (m : Meaning) (c : Content) → IsSaid e m c → (is_shut n (speaker_in i.state) && not (is_handshake c)) ≡ false → IsOutcome (Says c)

-- A line tells first that a frame on the inbound connection with this number is dropped by the rule.
pub record TellsDropped {P : Parts} (n : Node P) (number : ℕ) (rule : Rule) (after : Doing P listed) : Type 0 where
  pub behind : List Deed
  pub deeds : after.deeds ≡ Tells (lines.Dropped n.me number rule) ∷ behind
