-- A name that was written by a table means the name that was told, where the number of the table fits.
use Rattle.std.proofs.Common.{◌≡◌, ℕ, zero, suc, ◌+◌, ◌≤◌, ◌<◌, Bool, List, [], ◌∷◌, length, refl, sym, ◌∙◌, ap, subst, arith}
use Rattle.std.specs.Prelude.{Option, None, Some, Result, Ok, Err, slice_get}
use Rattle.std.specs.Option.{option_map}
use Rattle.artery_base.specs.declared.address.Address.{Address}
use Rattle.artery_base.specs.declared.address.UniqueAddress.{UniqueAddress}
use Rattle.artery_base.specs.Words.{◌>>=◌}
use Rattle.artery_header.specs.declared.envelope.Which.{Which}
use Rattle.artery_header.specs.declared.envelope.Which.TheVariants.{Sender, Recipient, Manifest}
use Rattle.artery_header.specs.Envelope.{NameOf, Literal, Index, EnvelopeOf}
use Rattle.artery_journal.specs.declared.line.Line.{Line}
use Rattle.artery_journal.specs.declared.words.Kind.{Kind}
use Rattle.artery_journal.specs.declared.words.Kind.TheVariants.{Refs, Manifests}
use Rattle.artery_tables.specs.declared.table.Table.{Table}
use Rattle.artery_tables.specs.declared.table.TableFault.{TableFault}
use Rattle.artery_tables.specs.Story.{Story, IsStory, version_of, table_of, numbered, number_of, names_in, name_or_fault, entry_in, entry_of}
use Rattle.artery_codec.specs.Meaning.{Meaning, ruled, name_meaning, envelope_meaning}
use Rattle.artery_machine.specs.Parts.{whole}
use Rattle.artery_machine.specs.Node.{Node, of_kind}
use Rattle.artery_machine.specs.Hearing.{tell_of}
use Rattle.artery_machine.specs.Ticking.{numbers_from}
use Rattle.artery_names.specs.Versions.{Fits}
use Rattle.artery_names.proofs.Lists.{not_some, each_get, First, Second}
use Rattle.artery_names.proofs.Numbers.{number_is}
use Rattle.artery_names.proofs.Said.{Tabling}
use Rattle.artery_names.proofs.Talks.{Told, adopted_by, name_by}
use Rattle.artery_names.proofs.Facts.{Conn, tables_on, Announced, IsNamed, IsWritten, IsAnnounced, IsFramed, story_of, NodeFacts}

pub ok_same : {X E : Type 0} {x y : X} (r : Result X E) → r ≡ Ok x → r ≡ Ok y → x ≡ y
ok_same r h k = cc

pub not_ok : {X E P : Type 0} {x : X} {e : E} → Err e ≡ Ok x → P
not_ok h = cc

pub place_within : {X : Type 0} (xs : List X) (i : ℕ) (x : X) → slice_get xs i ≡ Some x → i < length xs
place_within [] i x h = not_some h
place_within (y ∷ xs) zero x h = omega arith
place_within (y ∷ xs) (suc i) x h = (let k : i < length xs = place_within xs i x h in omega arith)

-- The table with a number that was announced is that of the story.
pub framed_get : (s : Story) (number : ℕ) (kind : Kind) (keys : List (List ℕ)) (values : List ℕ) → IsFramed s (record { kind = kind; number = number; keys = keys; values = values }) → (number ≤ length s.tables) × (numbered s number ≡ Some (table_of number keys))
framed_get s number kind keys values h =
    let e : number ≡ suc h.before = (let k : number ≡ h.before + 1 = h.number in omega arith) in (
      (let k : h.before < length s.tables = place_within s.tables h.before keys h.names in omega arith),
      ap (numbered s) e ∙ ap (option_map (table_of (suc h.before))) h.names ∙ ap (λ (n : ℕ). Some (table_of n keys)) (sym e),
    )

-- an index that means something means the entry of the table with the number that was meant
index_is : (s : Story) (number i : ℕ) (keys : List (List ℕ)) (name told : List ℕ) → IsStory s → number ≤ length s.tables → Fits (length s.tables) number → numbered s number ≡ Some (table_of number keys) → slice_get keys i ≡ Some told
    → entry_of s (version_of number) i ≡ Ok name → name ≡ told
index_is s number i keys name told st le fits at key h = by (number_of s (version_of number)) refl h
  where
    found : (t : ℕ) → t ≡ number → name_or_fault (version_of number) i (slice_get (names_in (numbered s t)) i) ≡ Ok name → name ≡ told
    found t e g = ok_same (name_or_fault (version_of number) i (slice_get (names_in (numbered s t)) i)) g
        (ap (λ (o : Option (List ℕ)). name_or_fault (version_of number) i o) (ap (λ (n : ℕ). slice_get (names_in (numbered s n)) i) e ∙ ap (λ (o : Option Table). slice_get (names_in o) i) at ∙ key))

    by : (x : Option ℕ) → number_of s (version_of number) ≡ x → entry_in (version_of number) i (option_map (λ (n : ℕ). names_in (numbered s n)) x) ≡ Ok name → name ≡ told
    by None e g = not_ok g
    by (Some t) e g = found t (number_is s number t st le fits e) g

module _ (nobody : UniqueAddress) (u : ℕ) (given : ℕ → ℕ) (away : Address → Bool) (n : Node whole) (cs : List Conn) (ls : List Line) (h : NodeFacts nobody u given away n cs ls) where
  -- a table that this node announced stands in its story
  pub announced_framed : (a : UniqueAddress) (kind : Kind) (number : ℕ) (keys : List (List ℕ)) → name_by nobody a.uid ls ≡ a → Announced cs u a.uid kind number keys → IsFramed (story_of kind a n) (record { kind = kind; number = number; keys = keys; values = numbers_from 0 (length keys) })
  announced_framed a kind number keys name y =
      let t : Tabling = record { kind = kind; number = number; keys = keys; values = numbers_from 0 (length keys) } in
      let f = each_get _ (tables_on y.conn) y.said.place t (h.framed y.place y.conn y.is y.near) y.said.is in
      subst (λ (v : UniqueAddress). IsFramed (story_of kind v n) t) (ap (λ (x : ℕ). name_by nobody x ls) y.far ∙ name) f

  -- the number that was adopted last is that of a table of the story
  pub adopted_within : (a : UniqueAddress) (kind : Kind) → name_by nobody a.uid ls ≡ a → IsAnnounced nobody cs a n.me kind (of_kind kind (adopted_by a n.me ls)) → of_kind kind (adopted_by a n.me ls) ≤ length (story_of kind a n).tables
  adopted_within a kind name (First e) = omega arith
  adopted_within a kind name (Second k) = (let last : ℕ = of_kind kind (adopted_by a n.me ls) in
      (framed_get (story_of kind a n) last kind k.0 (numbers_from 0 (length k.0)) (announced_framed a kind last k.0 name (subst (λ (x : ℕ). Announced cs x a.uid kind last k.0) h.uid k.1))).0)

-- ---- a message

pub then_ok : {A B E : Type 0} (r : Result A E) (f : A → Result B E) (y : B) → (r >>= f) ≡ Ok y → (x : A) × (r ≡ Ok x) × (f x ≡ Ok y)
then_ok (Ok x) f y h = (x, refl, h)
then_ok (Err e) f y h = not_ok h

ruled_ok : (which : Which) (r : Result (List ℕ) TableFault) (name : List ℕ) → ruled which r ≡ Ok name → r ≡ Ok name
ruled_ok which (Ok x) name h = ap Ok (ok_same (ruled which (Ok x)) refl h)
ruled_ok which (Err e) name h = not_ok h

-- What is needed of the number by which a name was written.
pub record Reads (cs : List Conn) (near far : ℕ) (kind : Kind) (number : ℕ) (s : Story) : Type 0 where
  pub story : IsStory s
  pub within : number ≤ length s.tables
  pub fits : Fits (length s.tables) number
  pub framed : (keys : List (List ℕ)) → Announced cs far near kind number keys → IsFramed s (record { kind = kind; number = number; keys = keys; values = numbers_from 0 (length keys) })

name_told : (cs : List Conn) (near far : ℕ) (kind : Kind) (number : ℕ) (s : Story) (which : Which) (version : ℕ) (e : NameOf) (name told : List ℕ) → Reads cs near far kind number s → version ≡ version_of number → IsNamed cs near far kind number e told
    → name_meaning (entry_of s) which version e ≡ Ok name → name ≡ told
name_told cs near far kind number s which version (Literal text) name told r v w h = sym (ok_same (name_meaning (entry_of s) which version (Literal text)) refl h) ∙ w
name_told cs near far kind number s which version (Index i) name told r v w h =
    let f = framed_get s number kind w.keys (numbers_from 0 (length w.keys)) (r.framed w.keys w.table) in
    index_is s number i w.keys name told r.story f.0 r.fits f.1 w.entry (sym (ap (λ (x : ℕ). entry_of s x i) v) ∙ ruled_ok which (entry_of s version i) name h)

pub message_told : (cs : List Conn) (near far : ℕ) (refs manifests : Story) (e : EnvelopeOf) (t : Told) (m : Meaning) → Reads cs near far Refs t.numbers.refs refs → Reads cs near far Manifests t.numbers.manifests manifests → IsWritten cs near far e t
    → envelope_meaning (entry_of refs) (entry_of manifests) e ≡ Ok m → tell_of m ≡ t.message
unfolding envelope_meaning
message_told cs near far refs manifests e t m r q w h =
    let s = then_ok (name_meaning (entry_of refs) Sender e.refs_version e.sender) _ m h in
    let c = then_ok (name_meaning (entry_of refs) Recipient e.refs_version e.recipient) _ m s.2 in
    let k = then_ok (name_meaning (entry_of manifests) Manifest e.manifests_version e.manifest) _ m c.2 in
    let es : s.0 ≡ t.message.sender = name_told cs near far Refs t.numbers.refs refs Sender e.refs_version e.sender s.0 t.message.sender r w.refs_version w.sender s.1 in
    let ec : c.0 ≡ t.message.recipient = name_told cs near far Refs t.numbers.refs refs Recipient e.refs_version e.recipient c.0 t.message.recipient r w.refs_version w.recipient c.1 in
    let ek : k.0 ≡ t.message.manifest = name_told cs near far Manifests t.numbers.manifests manifests Manifest e.manifests_version e.manifest k.0 t.message.manifest q w.manifests_version w.manifest k.1 in
    let made : record { uid = e.uid; serializer = e.serializer; sender = s.0; recipient = c.0; manifest = k.0; payload = e.payload } ≡ m = ok_same (Ok (record { uid = e.uid; serializer = e.serializer; sender = s.0; recipient = c.0; manifest = k.0; payload = e.payload })) refl k.2 in
    sym (ap tell_of made)
    ∙ ap (λ x. record { sender = x; recipient = c.0; serializer = e.serializer; manifest = k.0; payload = e.payload }) es
    ∙ ap (λ x. record { sender = t.message.sender; recipient = x; serializer = e.serializer; manifest = k.0; payload = e.payload }) ec
    ∙ ap (λ x. record { sender = t.message.sender; recipient = t.message.recipient; serializer = e.serializer; manifest = x; payload = e.payload }) ek
    ∙ ap (λ x. record { sender = t.message.sender; recipient = t.message.recipient; serializer = x; manifest = t.message.manifest; payload = e.payload }) w.serializer
    ∙ ap (λ x. record { sender = t.message.sender; recipient = t.message.recipient; serializer = t.message.serializer; manifest = t.message.manifest; payload = x }) w.payload
