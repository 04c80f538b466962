-- The function that gives a frame's meaning and the relations of a frame with a message and with a rule are the same.
use Rattle.std.proofs.Common.{◌≡◌, ℕ, ◌≤◌, ◌↔◌, List, length, Option, None, Some, Result, Ok, Err, refl, sym, ap, subst, ◌∙◌, inl, inr}
use Rattle.std.specs.Prelude.{slice_get}
use Rattle.std.specs.Option.{option_map}
use Rattle.std.proofs.lemmas.Option.{slice_get_past, slice_get_cases}
use Rattle.artery_base.specs.Words.{Shows, ◌>>=◌}
use Rattle.artery_header.specs.declared.envelope.Which.{Which}
use Rattle.artery_header.specs.declared.envelope.Which.TheVariants.{Sender, Recipient, Manifest}
use Rattle.artery_header.specs.declared.fault.HeaderFault.{HeaderFault}
use Rattle.artery_header.specs.Envelope.{NameOf, Literal, Index, EnvelopeOf, IsLaidOut, read_of}
use Rattle.artery_header.specs.FirstFault.{IsFirstFault}
use Rattle.artery_tables.specs.declared.table.TableFault.{TableFault}
use Rattle.artery_tables.specs.declared.table.TableFault.TheVariants.{UnknownVersion, UnknownIndex}
use Rattle.artery_tables.specs.Story.{Story, IsStory, IsKnown, version_of, number_of, numbered, names_in, name_or_fault, entry_in, entry_of}
use Rattle.artery_codec.specs.declared.message.DropRule.{DropRule}
use Rattle.artery_codec.specs.declared.message.Message.{Message}
use Rattle.artery_codec.specs.declared.message.DropRule.TheVariants.{Header, Table}
use Rattle.artery_codec.specs.Meaning.{Meaning, meaning, ruled, name_meaning, envelope_meaning, read_meaning, meaning_of}
use Rattle.artery_codec.specs.Outcome.{HasVersion, table_names, Means, MeansNothing, IsMeaning, IsFirstLost, IsFirstRule}

-- What is found for a version is the known number that has it.
pub record FindsNumbers : Type 0 where
  pub found : (story : Story) (version number : ℕ) → number_of story version ≡ Some number → IsKnown story number × (version_of number ≡ version)
  pub known : (story : Story) (number : ℕ) → IsStory story → IsKnown story number → number_of story (version_of number) ≡ Some number

-- What is read of bytes is what they are laid out as, or their first fault.
pub record ReadsExactly : Type 0 where
  pub envelope : (bytes : List ℕ) (e : EnvelopeOf) → IsLaidOut bytes e ↔ (read_of bytes ≡ Ok e)
  pub fault : (bytes : List ℕ) (fault : HeaderFault) → IsFirstFault bytes fault ↔ (read_of bytes ≡ Err fault)

-- the names of the table with a number that was found, if one was
abbrev names_at : Story → Option ℕ → Option (List (List ℕ))
names_at story found = option_map (λ number. names_in (numbered story number)) found

named_ok : (version i : ℕ) (o : Option (List ℕ)) (name : List ℕ) → name_or_fault version i o ≡ Ok name → o ≡ Some name
named_ok version i None name e = absurd (cc)
named_ok version i (Some x) name e = cc

entry_ok : (story : Story) (version i : ℕ) (o : Option ℕ) (name : List ℕ) → entry_in version i (names_at story o) ≡ Ok name
    → (number : ℕ) × (o ≡ Some number) × (slice_get (table_names story number) i ≡ Some name)
entry_ok story version i None name e = absurd (cc)
entry_ok story version i (Some number) name e = (number, refl, named_ok version i (slice_get (table_names story number) i) name e)

-- an entry is that of the known table with the version
entry_means : FindsNumbers → (story : Story) (version i : ℕ) (name : List ℕ) → entry_of story version i ≡ Ok name → Means story version (Index i) name
entry_means law story version i name e =
    let x = entry_ok story version i (number_of story version) name e in
    let k = law.found story version x.0 x.1 in
    (x.0, record { known = k.0; version = k.1 }, x.2)

number_is : FindsNumbers → (story : Story) → IsStory story → (number version : ℕ) → HasVersion story number version → number_of story version ≡ Some number
number_is law story s number version h =
    let P : ℕ → Type 0 = λ v. number_of story v ≡ Some number in
    subst P h.version (law.known story number s h.known)

means_entry : FindsNumbers → (story : Story) → IsStory story → (version i : ℕ) (name : List ℕ) → Means story version (Index i) name → entry_of story version i ≡ Ok name
means_entry law story s version i name h =
    ap (λ (o : Option ℕ). entry_in version i (names_at story o)) (number_is law story s h.0 version h.1) ∙ ap (name_or_fault version i) h.2

past : (names : List (List ℕ)) (i : ℕ) → slice_get names i ≡ None → length names ≤ i
past names i e = elim ((slice_get_cases names i).1) [ inl h ↦ absurd (cc (e, h.2)) | inr h ↦ h.0 ]

nothing_at : (story : Story) (version i number : ℕ) → HasVersion story number version → (fault : TableFault) (o : Option (List ℕ))
    → slice_get (table_names story number) i ≡ o → name_or_fault version i o ≡ Err fault → MeansNothing story version (Index i) fault
nothing_at story version i number h fault None e x =
    let same : UnknownIndex version i ≡ fault = cc in
    let P : TableFault → Type 0 = MeansNothing story version (Index i) in
    subst P same (refl, refl, (number, h, past (table_names story number) i e))
nothing_at story version i number h fault (Some name) e x = absurd (cc)

nothing_by : FindsNumbers → (story : Story) → IsStory story → (version i : ℕ) (found : Option ℕ) → number_of story version ≡ found → (fault : TableFault)
    → entry_in version i (names_at story found) ≡ Err fault → MeansNothing story version (Index i) fault
nothing_by law story s version i None e fault x =
    let same : UnknownVersion version ≡ fault = cc in
    let P : TableFault → Type 0 = MeansNothing story version (Index i) in
    subst P same (refl, λ number h. let k = number_is law story s number version h in cc)
nothing_by law story s version i (Some number) e fault x =
    let k = law.found story version number e in
    nothing_at story version i number (record { known = k.0; version = k.1 }) fault (slice_get (table_names story number) i) refl x

-- a fault of an entry is why the name means nothing
entry_nothing : FindsNumbers → (story : Story) → IsStory story → (version i : ℕ) (fault : TableFault) → entry_of story version i ≡ Err fault → MeansNothing story version (Index i) fault
entry_nothing law story s version i fault x = nothing_by law story s version i (number_of story version) refl fault x

none_found : FindsNumbers → (story : Story) (version : ℕ) (found : Option ℕ) → number_of story version ≡ found → ((number : ℕ) → ¬ HasVersion story number version) → found ≡ None
none_found law story version None e none = refl
none_found law story version (Some number) e none = let k = law.found story version number e in absurd (none number (record { known = k.0; version = k.1 }))

nothing_entry : FindsNumbers → (story : Story) → IsStory story → (version i : ℕ) (fault : TableFault) → MeansNothing story version (Index i) fault → entry_of story version i ≡ Err fault
nothing_entry law story s version i (UnknownVersion v) h =
    let none = none_found law story version (number_of story version) refl h.1 in
    ap (λ (o : Option ℕ). entry_in version i (names_at story o)) none ∙ ap (λ (w : ℕ). Err (UnknownVersion w)) (sym h.0)
nothing_entry law story s version i (UnknownIndex v at) h =
    ap (λ (o : Option ℕ). entry_in version i (names_at story o)) (number_is law story s h.2.0 version h.2.1)
    ∙ ap (name_or_fault version i) (slice_get_past (table_names story h.2.0) i h.2.2)
    ∙ ap (λ (w : ℕ). Err (UnknownIndex w i)) (sym h.0)
    ∙ ap (λ (w : ℕ). Err (UnknownIndex v w)) (sym h.1)

ruled_ok : (which : Which) (r : Result (List ℕ) TableFault) (name : List ℕ) → ruled which r ≡ Ok name → r ≡ Ok name
ruled_ok which (Ok text) name e = cc
ruled_ok which (Err fault) name e = absurd (cc)

ruled_err : (which : Which) (r : Result (List ℕ) TableFault) (rule : DropRule) → ruled which r ≡ Err rule → (fault : TableFault) × (Table which fault ≡ rule) × (r ≡ Err fault)
ruled_err which (Ok text) rule e = absurd (cc)
ruled_err which (Err fault) rule e = (fault, cc, refl)

-- what a name means, as an answer and as a relation
name_means : FindsNumbers → (story : Story) (which : Which) (version : ℕ) (n : NameOf) (name : List ℕ) → name_meaning (entry_of story) which version n ≡ Ok name → Means story version n name
name_means law story which version (Literal text) name e = cc
name_means law story which version (Index i) name e = entry_means law story version i name (ruled_ok which (entry_of story version i) name e)

means_name : FindsNumbers → (story : Story) → IsStory story → (which : Which) (version : ℕ) (n : NameOf) (name : List ℕ) → Means story version n name → name_meaning (entry_of story) which version n ≡ Ok name
means_name law story s which version (Literal text) name h = ap (λ (w : List ℕ). Ok w) h
means_name law story s which version (Index i) name h = ap (ruled which) (means_entry law story s version i name h)

name_nothing : FindsNumbers → (story : Story) → IsStory story → (which : Which) (version : ℕ) (n : NameOf) (rule : DropRule) → name_meaning (entry_of story) which version n ≡ Err rule
    → (fault : TableFault) × (Table which fault ≡ rule) × MeansNothing story version n fault
name_nothing law story s which version (Literal text) rule e = absurd (cc)
name_nothing law story s which version (Index i) rule e =
    let x = ruled_err which (entry_of story version i) rule e in
    (x.0, x.1, entry_nothing law story s version i x.0 x.2)

nothing_name : FindsNumbers → (story : Story) → IsStory story → (which : Which) (version : ℕ) (n : NameOf) (fault : TableFault) → MeansNothing story version n fault
    → name_meaning (entry_of story) which version n ≡ Err (Table which fault)
nothing_name law story s which version (Literal text) fault h = absurd h
nothing_name law story s which version (Index i) fault h = ap (ruled which) (nothing_entry law story s version i fault h)

-- three answers in turn
abbrev in_turn : (List ℕ → List ℕ → List ℕ → Meaning) → Result (List ℕ) DropRule → Result (List ℕ) DropRule → Result (List ℕ) DropRule → Result Meaning DropRule
in_turn f a b d = a >>= λ x. b >>= λ y. d >>= λ z. Ok (f x y z)

pub record AllGive (f : List ℕ → List ℕ → List ℕ → Meaning) (a b d : Result (List ℕ) DropRule) (m : Meaning) : Type 0 where
  pub x : List ℕ
  pub y : List ℕ
  pub z : List ℕ
  pub first : a ≡ Ok x
  pub second : b ≡ Ok y
  pub third : d ≡ Ok z
  pub same : f x y z ≡ m

all_give : (f : List ℕ → List ℕ → List ℕ → Meaning) (a b d : Result (List ℕ) DropRule) (m : Meaning) → in_turn f a b d ≡ Ok m → AllGive f a b d m
all_give f (Err rule) b d m e = absurd (cc)
all_give f (Ok x) (Err rule) d m e = absurd (cc)
all_give f (Ok x) (Ok y) (Err rule) m e = absurd (cc)
all_give f (Ok x) (Ok y) (Ok z) m e = record { x = x; y = y; z = z; first = refl; second = refl; third = refl; same = cc }

pub data FirstFails (a b d : Result (List ℕ) DropRule) (rule : DropRule) : Type 0 where
  AtFirst : a ≡ Err rule → FirstFails a b d rule
  AtSecond : (x : List ℕ) → a ≡ Ok x → b ≡ Err rule → FirstFails a b d rule
  AtThird : (x y : List ℕ) → a ≡ Ok x → b ≡ Ok y → d ≡ Err rule → FirstFails a b d rule

first_fails : (f : List ℕ → List ℕ → List ℕ → Meaning) (a b d : Result (List ℕ) DropRule) (rule : DropRule) → in_turn f a b d ≡ Err rule → FirstFails a b d rule
first_fails f (Err fault) b d rule e = AtFirst (cc)
first_fails f (Ok x) (Err fault) d rule e = AtSecond x refl (cc)
first_fails f (Ok x) (Ok y) (Err fault) rule e = AtThird x y refl refl (cc)
first_fails f (Ok x) (Ok y) (Ok z) rule e = absurd (cc)

-- the message of an envelope with these names
abbrev named_so : EnvelopeOf → List ℕ → List ℕ → List ℕ → Meaning
named_so c sender recipient manifest = record {
  uid = c.uid;
  serializer = c.serializer;
  sender = sender;
  recipient = recipient;
  manifest = manifest;
  payload = c.payload;
}

abbrev sender_of : Story → EnvelopeOf → Result (List ℕ) DropRule
sender_of refs c = name_meaning (entry_of refs) Sender c.refs_version c.sender

abbrev recipient_of : Story → EnvelopeOf → Result (List ℕ) DropRule
recipient_of refs c = name_meaning (entry_of refs) Recipient c.refs_version c.recipient

abbrev manifest_of : Story → EnvelopeOf → Result (List ℕ) DropRule
manifest_of manifests c = name_meaning (entry_of manifests) Manifest c.manifests_version c.manifest

by_turns : (refs manifests : Story) (c : EnvelopeOf) → envelope_meaning (entry_of refs) (entry_of manifests) c ≡ in_turn (named_so c) (sender_of refs c) (recipient_of refs c) (manifest_of manifests c)
unfolding envelope_meaning
by_turns refs manifests c = refl

frame_of : (refs manifests : Story) (frame : List ℕ) (c : EnvelopeOf) → ReadsExactly → IsLaidOut frame c → meaning_of frame refs manifests ≡ envelope_meaning (entry_of refs) (entry_of manifests) c
frame_of refs manifests frame c reads laid_out = ap (read_meaning (entry_of refs) (entry_of manifests)) ((reads.envelope frame c).0 laid_out)

-- what a frame means is its meaning
is_meaning : FindsNumbers → (refs manifests : Story) (frame : List ℕ) → ReadsExactly → (m : Meaning) (read : Result EnvelopeOf HeaderFault) → read_of frame ≡ read
    → read_meaning (entry_of refs) (entry_of manifests) read ≡ Ok m → IsMeaning refs manifests frame m
is_meaning law refs manifests frame reads m (Err fault) e x = absurd (cc)
is_meaning law refs manifests frame reads m (Ok c) e x =
    let all = all_give (named_so c) (sender_of refs c) (recipient_of refs c) (manifest_of manifests c) m (sym (by_turns refs manifests c) ∙ x) in
    let P : Meaning → Type 0 = IsMeaning refs manifests frame in
    subst P all.same (record {
      envelope = c;
      laid_out = (reads.envelope frame c).1 e;
      uid = refl;
      serializer = refl;
      sender = name_means law refs Sender c.refs_version c.sender all.x all.first;
      recipient = name_means law refs Recipient c.refs_version c.recipient all.y all.second;
      manifest = name_means law manifests Manifest c.manifests_version c.manifest all.z all.third;
      payload = refl;
    })

meaning_is : FindsNumbers → (refs manifests : Story) → IsStory refs → IsStory manifests → (frame : List ℕ) → ReadsExactly → (m : Meaning)
    → IsMeaning refs manifests frame m → meaning_of frame refs manifests ≡ Ok m
meaning_is law refs manifests r s frame reads m h =
    let c = h.envelope in
    let sender : sender_of refs c ≡ Ok m.sender = means_name law refs r Sender c.refs_version c.sender m.sender h.sender in
    let recipient : recipient_of refs c ≡ Ok m.recipient = means_name law refs r Recipient c.refs_version c.recipient m.recipient h.recipient in
    let manifest : manifest_of manifests c ≡ Ok m.manifest = means_name law manifests s Manifest c.manifests_version c.manifest m.manifest h.manifest in
    let turns : in_turn (named_so c) (sender_of refs c) (recipient_of refs c) (manifest_of manifests c) ≡ Ok (named_so c m.sender m.recipient m.manifest) = rw (sender, recipient, manifest) refl in
    let same : named_so c m.sender m.recipient m.manifest ≡ m = rw (h.uid, h.serializer, h.payload) refl in
    frame_of refs manifests frame c reads h.laid_out ∙ by_turns refs manifests c ∙ turns ∙ ap (λ (w : Meaning). Ok w) same

is_first_lost : FindsNumbers → (refs manifests : Story) → IsStory refs → IsStory manifests → (frame : List ℕ) (c : EnvelopeOf) → IsLaidOut frame c → (rule : DropRule)
    → FirstFails (sender_of refs c) (recipient_of refs c) (manifest_of manifests c) rule → IsFirstRule refs manifests frame rule
is_first_lost law refs manifests r s frame c l rule (AtFirst a) =
    let x = name_nothing law refs r Sender c.refs_version c.sender rule a in
    let P : DropRule → Type 0 = IsFirstRule refs manifests frame in
    subst P x.1 (c, l, x.2)
is_first_lost law refs manifests r s frame c l rule (AtSecond sender a b) =
    let x = name_nothing law refs r Recipient c.refs_version c.recipient rule b in
    let P : DropRule → Type 0 = IsFirstRule refs manifests frame in
    subst P x.1 (c, l, ((sender, name_means law refs Sender c.refs_version c.sender sender a), x.2))
is_first_lost law refs manifests r s frame c l rule (AtThird sender recipient a b d) =
    let x = name_nothing law manifests s Manifest c.manifests_version c.manifest rule d in
    let P : DropRule → Type 0 = IsFirstRule refs manifests frame in
    subst P x.1 (
      c,
      l,
      (
        (sender, name_means law refs Sender c.refs_version c.sender sender a),
        (recipient, name_means law refs Recipient c.refs_version c.recipient recipient b),
        x.2,
      ),
    )

is_first_rule : FindsNumbers → (refs manifests : Story) → IsStory refs → IsStory manifests → (frame : List ℕ) → ReadsExactly → (rule : DropRule) (read : Result EnvelopeOf HeaderFault) → read_of frame ≡ read
    → read_meaning (entry_of refs) (entry_of manifests) read ≡ Err rule → IsFirstRule refs manifests frame rule
is_first_rule law refs manifests r s frame reads rule (Err fault) e x =
    let same : Header fault ≡ rule = cc in
    let P : DropRule → Type 0 = IsFirstRule refs manifests frame in
    subst P same ((reads.fault frame fault).1 e)
is_first_rule law refs manifests r s frame reads rule (Ok c) e x =
    is_first_lost law refs manifests r s frame c ((reads.envelope frame c).1 e) rule
    (first_fails (named_so c) (sender_of refs c) (recipient_of refs c) (manifest_of manifests c) rule (sym (by_turns refs manifests c) ∙ x))

lost_is : FindsNumbers → (refs manifests : Story) → IsStory refs → IsStory manifests → (c : EnvelopeOf) (which : Which) (fault : TableFault) → IsFirstLost refs manifests c which fault
    → in_turn (named_so c) (sender_of refs c) (recipient_of refs c) (manifest_of manifests c) ≡ Err (Table which fault)
lost_is law refs manifests r s c Sender fault h =
    let a : sender_of refs c ≡ Err (Table Sender fault) = nothing_name law refs r Sender c.refs_version c.sender fault h in
    rw a refl
lost_is law refs manifests r s c Recipient fault h =
    let a : sender_of refs c ≡ Ok h.0.0 = means_name law refs r Sender c.refs_version c.sender h.0.0 h.0.1 in
    let b : recipient_of refs c ≡ Err (Table Recipient fault) = nothing_name law refs r Recipient c.refs_version c.recipient fault h.1 in
    rw (a, b) refl
lost_is law refs manifests r s c Manifest fault h =
    let a : sender_of refs c ≡ Ok h.0.0 = means_name law refs r Sender c.refs_version c.sender h.0.0 h.0.1 in
    let b : recipient_of refs c ≡ Ok h.1.0 = means_name law refs r Recipient c.refs_version c.recipient h.1.0 h.1.1 in
    let d : manifest_of manifests c ≡ Err (Table Manifest fault) = nothing_name law manifests s Manifest c.manifests_version c.manifest fault h.2 in
    rw (a, b, d) refl

rule_is : FindsNumbers → (refs manifests : Story) → IsStory refs → IsStory manifests → (frame : List ℕ) → ReadsExactly → (rule : DropRule)
    → IsFirstRule refs manifests frame rule → meaning_of frame refs manifests ≡ Err rule
rule_is law refs manifests r s frame reads (Header fault) h = ap (read_meaning (entry_of refs) (entry_of manifests)) ((reads.fault frame fault).0 h)
rule_is law refs manifests r s frame reads (Table which fault) h =
    frame_of refs manifests frame h.0 reads h.1 ∙ by_turns refs manifests h.0 ∙ lost_is law refs manifests r s h.0 which fault h.2

-- a frame means the one message that is its meaning
pub one_message : ReadsExactly → FindsNumbers → (refs manifests : Story) (frame : List ℕ) (m : Meaning) → IsStory refs → IsStory manifests
    → IsMeaning refs manifests frame m ↔ (meaning_of frame refs manifests ≡ Ok m)
one_message reads law refs manifests frame m s t = (
  λ h. meaning_is law refs manifests s t frame reads m h,
  λ h. is_meaning law refs manifests frame reads m (read_of frame) refl h,
)

-- or the one rule that is its meaning is the first that drops it
pub one_rule : ReadsExactly → FindsNumbers → (refs manifests : Story) (frame : List ℕ) (rule : DropRule) → IsStory refs → IsStory manifests
    → IsFirstRule refs manifests frame rule ↔ (meaning_of frame refs manifests ≡ Err rule)
one_rule reads law refs manifests frame rule s t = (
  λ h. rule_is law refs manifests s t frame reads rule h,
  λ h. is_first_rule law refs manifests s t frame reads rule (read_of frame) refl h,
)

-- what is the meaning is what a result shows
pub message_shown : (P : Type 0) (meant : Result Meaning DropRule) (m : Meaning) (r : Result Message DropRule) → Shows meaning r meant → P ↔ (meant ≡ Ok m) → P ↔ Shows meaning r (Ok m)
message_shown P meant m (Ok x) e h = (λ p. sym (h.0 p) ∙ e, λ q. h.1 (e ∙ sym q))
message_shown P meant m (Err rule) e h = (λ p. absurd (let x = h.0 p in cc), λ q. absurd (cc))

pub rule_shown : (P : Type 0) (meant : Result Meaning DropRule) (rule : DropRule) (r : Result Message DropRule) → Shows meaning r meant → P ↔ (meant ≡ Err rule) → P ↔ (r ≡ Err rule)
rule_shown P meant rule (Ok x) e h = (λ p. absurd (let y = h.0 p in cc), λ q. absurd (cc))
rule_shown P meant rule (Err first) e h = (
  λ p. let y = h.0 p in cc,
  λ q. h.1 (let same : first ≡ rule = cc in e ∙ ap (λ (w : DropRule). Err w) same),
)
