-- What frames and envelopes mean.
use Rattle.std.proofs.Common.{◌≡◌, ℕ, List, [], ◌∷◌, Option, None, Some, Result, Ok, Err, refl, sym, ap, subst, ◌∙◌, IfSome, OnOk}
use Rattle.artery_header.specs.declared.envelope.Which.{Which}
use Rattle.artery_header.specs.declared.envelope.Which.TheVariants.{Sender, Recipient, Manifest}
use Rattle.artery_header.specs.declared.fault.HeaderFault.{HeaderFault}
use Rattle.artery_header.specs.declared.fault.EncodeFault.{EncodeFault}
use Rattle.artery_header.specs.Envelope.{NameOf, Literal, Index, EnvelopeOf, IsEnvelope, HasTexts, canonical, refusal, read_of}
use Rattle.artery_codec.specs.declared.message.DropRule.{DropRule}
use Rattle.artery_tables.specs.Story.{entry_of}
use Rattle.artery_tables.specs.OutTable.{Held, State as Pairs, Stands as HeldStands}
use Rattle.artery_tables.specs.InTables.{Kept, State, Stands, entry_kept}
use Rattle.artery_base.specs.Words.{Shows}
use Rattle.artery_codec.specs.declared.message.Message.{Message}
use Rattle.artery_codec.specs.Meaning.{Meaning, meaning, meaning_kept, meaning_of, Entries, ruled, name_meaning, envelope_meaning, read_meaning, frame_meaning}
use Rattle.artery_codec.specs.Writing.{Indices, indexed, written_name, written, held_indices, paired_indices, envelope_held, envelope_paired, NamesItsEntries}

-- Tables hold the same.
pub record AreSame (old new : Entries) : Type 0 where
  pub entry : (version index : ℕ) → old version index ≡ new version index

name_same : (old new : Entries) → AreSame old new → (which : Which) (version : ℕ) (n : NameOf) → name_meaning old which version n ≡ name_meaning new which version n
name_same old new h which version (Literal text) = refl
name_same old new h which version (Index i) = ap (ruled which) (h.entry version i)

-- tables that hold the same give an envelope the same meaning
pub envelope_same : (refs refs' manifests manifests' : Entries) → AreSame refs refs' → AreSame manifests manifests' → (c : EnvelopeOf)
    → envelope_meaning refs manifests c ≡ envelope_meaning refs' manifests' c
unfolding envelope_meaning
envelope_same refs refs' manifests manifests' r m c =
    rw (name_same refs refs' r Sender c.refs_version c.sender, name_same refs refs' r Recipient c.refs_version c.recipient, name_same manifests manifests' m Manifest c.manifests_version c.manifest) refl

-- and so to a frame
pub frame_same : (refs refs' manifests manifests' : Entries) → AreSame refs refs' → AreSame manifests manifests' → (frame : List ℕ)
    → frame_meaning refs manifests frame ≡ frame_meaning refs' manifests' frame
frame_same refs refs' manifests manifests' r m frame = by (read_of frame)
  where
    by : (read : Result EnvelopeOf HeaderFault) → read_meaning refs manifests read ≡ read_meaning refs' manifests' read
    by (Ok c) = envelope_same refs refs' manifests manifests' r m c
    by (Err fault) = refl

indexed_back : (table : Indices) (entries : Entries) → NamesItsEntries table entries → (which : Which) (name : List ℕ) (index : Option ℕ) → table.index_of name ≡ index
    → name_meaning entries which table.version (indexed name index) ≡ Ok name
indexed_back table entries h which name None e = refl
indexed_back table entries h which name (Some i) e = ap (ruled which) (h name i e)

-- a name that was written means itself
name_back : (table : Indices) (entries : Entries) → NamesItsEntries table entries → (which : Which) (name : List ℕ)
    → name_meaning entries which table.version (written_name table name) ≡ Ok name
name_back table entries h which [] = refl
name_back table entries h which (byte ∷ bytes) = indexed_back table entries h which (byte ∷ bytes) (table.index_of (byte ∷ bytes)) refl

-- the envelope that a message is written as means the message
pub written_back : (refs manifests : Indices) (refs' manifests' : Entries) → NamesItsEntries refs refs' → NamesItsEntries manifests manifests' → (m : Meaning)
    → envelope_meaning refs' manifests' (written refs manifests m) ≡ Ok m
unfolding envelope_meaning
written_back refs manifests refs' manifests' r s m =
    rw (name_back refs refs' r Sender m.sender, name_back refs refs' r Recipient m.recipient, name_back manifests manifests' s Manifest m.manifest) refl

-- What is kept of tables gives the entries of the story that it stands for.
pub record EntriesStand : Type 0 where
  pub entry : (version index : ℕ) (k : Kept) (s : State) → Stands k s → entry_kept k version index ≡ entry_of s.story version index

-- so it gives a frame the meaning that the stories give it
pub meaning_stands : EntriesStand → (frame : List ℕ) (k l : Kept) (r s : State) → Stands k r → Stands l s → meaning_kept frame k l ≡ meaning_of frame r.story s.story
meaning_stands law frame k l r s a b =
    frame_same (entry_kept k) (entry_of r.story) (entry_kept l) (entry_of s.story)
    (record { entry = λ version index. law.entry version index k r a })
    (record { entry = λ version index. law.entry version index l s b })
    frame

pub shows_stands : EntriesStand → (frame : List ℕ) (k l : Kept) (r s : State) → Stands k r → Stands l s → (result : Result Message DropRule)
    → Shows meaning result (meaning_kept frame k l) → Shows meaning result (meaning_of frame r.story s.story)
shows_stands law frame k l r s a b result h =
    let P : Result Meaning DropRule → Type 0 = Shows meaning result in
    subst P (meaning_stands law frame k l r s a b) h

-- and to an envelope
pub envelope_stands : EntriesStand → (c : EnvelopeOf) (k l : Kept) (r s : State) → Stands k r → Stands l s
    → envelope_meaning (entry_kept k) (entry_kept l) c ≡ envelope_meaning (entry_of r.story) (entry_of s.story) c
envelope_stands law c k l r s a b =
    envelope_same (entry_kept k) (entry_of r.story) (entry_kept l) (entry_of s.story)
    (record { entry = λ version index. law.entry version index k r a })
    (record { entry = λ version index. law.entry version index l s b })
    c

pub shows_envelope : EntriesStand → (c : EnvelopeOf) (k l : Kept) (r s : State) → Stands k r → Stands l s → (result : Result Message DropRule)
    → Shows meaning result (envelope_meaning (entry_kept k) (entry_kept l) c) → Shows meaning result (envelope_meaning (entry_of r.story) (entry_of s.story) c)
shows_envelope law c k l r s a b result h =
    let P : Result Meaning DropRule → Type 0 = Shows meaning result in
    subst P (envelope_stands law c k l r s a b) h

name_stands : (held : Held) (s : Pairs) → HeldStands held s → (name : List ℕ) → written_name (held_indices held) name ≡ written_name (paired_indices s) name
name_stands held s h [] = refl
name_stands held s h (byte ∷ bytes) = ap (indexed (byte ∷ bytes)) (h.indices (byte ∷ bytes))

-- a held table gives a message the envelope that its pairs give it
pub written_stands : (m : Meaning) (k l : Held) (r s : Pairs) → HeldStands k r → HeldStands l s → envelope_held m k l ≡ envelope_paired m r s
written_stands m k l r s a b =
    rw (a.number, b.number, name_stands k r a m.sender, name_stands k r a m.recipient, name_stands l s b m.manifest) refl

-- Canonical bytes are read as their envelope.
pub record ReadsBack : Type 0 where
  pub read : (c : EnvelopeOf) → IsEnvelope c → HasTexts c → refusal c ≡ None → read_of (canonical c) ≡ Ok c

-- so they mean what it means
pub canonical_means : ReadsBack → (refs manifests : Entries) (c : EnvelopeOf) → IsEnvelope c → HasTexts c → refusal c ≡ None
    → frame_meaning refs manifests (canonical c) ≡ envelope_meaning refs manifests c
canonical_means law refs manifests c e t n = ap (read_meaning refs manifests) (law.read c e t n)

not_refused : {T : Type 0} (o : Option EncodeFault) (r : Result T EncodeFault) (x : T) → IfSome o (λ fault. r ≡ Err fault) → r ≡ Ok x → o ≡ None
not_refused None r x h e = refl
not_refused (Some fault) r x h e = absurd (cc)

-- what was written is the message wherever its indices name the table's own entries
pub written_means : {T : Type 0} → ReadsBack → (refs manifests : Indices) (refs' manifests' : Entries) (m : Meaning) (c : EnvelopeOf)
    → c ≡ written refs manifests m → IsEnvelope c → HasTexts c → (r : Result T EncodeFault) → IfSome (refusal c) (λ fault. r ≡ Err fault)
    → NamesItsEntries refs refs' → NamesItsEntries manifests manifests' → OnOk r (frame_meaning refs' manifests' (canonical (written refs manifests m)) ≡ Ok m)
written_means law refs manifests refs' manifests' m c e f t (Err fault) h own_refs own_manifests = tt
written_means law refs manifests refs' manifests' m c e f t (Ok x) h own_refs own_manifests =
    ap (λ (w : EnvelopeOf). frame_meaning refs' manifests' (canonical w)) (sym e)
    ∙ canonical_means law refs' manifests' c f t (not_refused (refusal c) (Ok x) x h refl)
    ∙ ap (envelope_meaning refs' manifests') e
    ∙ written_back refs manifests refs' manifests' own_refs own_manifests m
