-- The UID of what an envelope means.
use Rattle.std.proofs.Common.{◌≡◌, ℕ, List, Result, Ok, Err, refl, subst, IfOk}
use Rattle.artery_base.specs.Words.{◌>>=◌}
use Rattle.artery_header.specs.declared.envelope.Which.TheVariants.{Sender, Recipient, Manifest}
use Rattle.artery_header.specs.Envelope.{EnvelopeOf}
use Rattle.artery_codec.specs.declared.message.DropRule.{DropRule}
use Rattle.artery_codec.specs.declared.message.Message.{Message}
use Rattle.artery_codec.specs.Meaning.{Meaning, Entries, meaning, name_meaning, envelope_meaning}

-- the message of an envelope with these names
abbrev named : EnvelopeOf → List ℕ → List ℕ → List ℕ → Meaning
named c sender recipient manifest = record {
  uid = c.uid;
  serializer = c.serializer;
  sender = sender;
  recipient = recipient;
  manifest = manifest;
  payload = c.payload;
}

-- it has the envelope's UID
by_names : (c : EnvelopeOf) (sender recipient manifest : Result (List ℕ) DropRule)
    → IfOk (sender >>= (λ s. recipient >>= (λ r. manifest >>= (λ m. Ok (named c s r m))))) (λ m. m.uid ≡ c.uid)
by_names c (Ok s) (Ok r) (Ok m) = refl
by_names c (Ok s) (Ok r) (Err e) = tt
by_names c (Ok s) (Err e) manifest = tt
by_names c (Err e) recipient manifest = tt

-- what an envelope means has the envelope's UID
of_meaning : (refs manifests : Entries) (c : EnvelopeOf) → IfOk (envelope_meaning refs manifests c) (λ m. m.uid ≡ c.uid)
unfolding envelope_meaning
of_meaning refs manifests c =
    by_names c (name_meaning refs Sender c.refs_version c.sender) (name_meaning refs Recipient c.refs_version c.recipient) (name_meaning manifests Manifest c.manifests_version c.manifest)

-- a message that an envelope means has the envelope's UID
pub uid_stays : (refs manifests : Entries) (c : EnvelopeOf) (m : Message) → envelope_meaning refs manifests c ≡ Ok (meaning m) → m.uid ≡ c.uid
uid_stays refs manifests c m means =
    let P : Result Meaning DropRule → Type 0 = λ r. IfOk r (λ x. x.uid ≡ c.uid) in
    subst P means (of_meaning refs manifests c)
