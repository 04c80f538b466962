-- Connections go on: what is true of them stays true.
use Rattle.std.proofs.Common.{◌≡◌, ℕ, zero, suc, ◌≤◌, Bool, true, false, ◌&&◌, List, [], ◌∷◌, ◌++◌, length, take, refl, sym, ◌∙◌, ap, subst, arith}
use Rattle.std.specs.Prelude.{Some, ◌==◌, slice_get, slice_set}
use Rattle.artery_base.specs.Words.{IsPrefix}
use Rattle.artery_frame.specs.declared.stream.Stream.{Stream}
use Rattle.artery_header.specs.Envelope.{NameOf, Literal, Index, EnvelopeOf}
use Rattle.artery_journal.specs.declared.words.Kind.{Kind}
use Rattle.artery_journal.specs.declared.words.Kind.TheVariants.{Refs, Manifests}
use Rattle.artery_machine.specs.Deeds.{Writing}
use Rattle.artery_machine.specs.Ways.{Wrote}
use Rattle.artery_machine.specs.Connections.{is_dialed, is_inward}
use Rattle.artery_names.proofs.Lists.{some_same, not_some, get_prefix, eq_true, eq_not, Put, There, Elsewhere, get_set, set_here, set_away, prefix_self, prefix_trans}
use Rattle.artery_names.proofs.Said.{all_said, said_append, sends_said, tables_said, answers_said, carried}
use Rattle.artery_names.proofs.Talks.{Told}
use Rattle.artery_names.proofs.Facts.{Conn, Has, Announced, Answered, Made, IsNamed, IsWritten, AreWritten, sends_on, tables_on, acks_on, answers_on, speakers_on, sent_in}

-- ---- one connection

pub record Grown (c d : Conn) : Type 0 where
  pub dialer : d.dialer ≡ c.dialer
  pub dial : d.dial ≡ c.dial
  pub far : d.far ≡ c.far
  pub number : d.number ≡ c.number
  pub near : d.near_open ≡ true → c.near_open ≡ true
  pub more : IsPrefix c.way.all d.way.all

-- no ordinary message, table, acknowledgement of one or answer was written
pub record Still (c d : Conn) : Type 0 where
  pub grown : Grown c d
  pub sends : sends_on d ≡ sends_on c
  pub tables : tables_on d ≡ tables_on c
  pub acks : acks_on d ≡ acks_on c
  pub answers : answers_on d ≡ answers_on c
  pub speakers : speakers_on d ≡ speakers_on c

pub grown_self : (c : Conn) → Grown c c
grown_self c = record { dialer = refl; dial = refl; far = refl; number = refl; near = λ h. h; more = prefix_self c.way.all }

pub grown_trans : (a b c : Conn) → Grown a b → Grown b c → Grown a c
grown_trans a b c f g = record {
  dialer = g.dialer ∙ f.dialer;
  dial = g.dial ∙ f.dial;
  far = g.far ∙ f.far;
  number = g.number ∙ f.number;
  near = λ h. f.near (g.near h);
  more = prefix_trans _ _ _ f.more g.more;
}

pub still_self : (c : Conn) → Still c c
still_self c = record { grown = grown_self c; sends = refl; tables = refl; acks = refl; answers = refl; speakers = refl }

pub still_trans : (a b c : Conn) → Still a b → Still b c → Still a c
still_trans a b c f g = record { grown = grown_trans a b c f.grown g.grown; sends = g.sends ∙ f.sends; tables = g.tables ∙ f.tables; acks = g.acks ∙ f.acks; answers = g.answers ∙ f.answers; speakers = g.speakers ∙ f.speakers }

-- Only the node with this UID writes on its own connections.
pub record Stepped (u : ℕ) (c d : Conn) : Type 0 where
  pub grown : Grown c d
  pub others : (c.dialer ≡ u → ⊥) → d.way.all ≡ c.way.all

pub stepped_self : (u : ℕ) (c : Conn) → Stepped u c c
stepped_self u c = record { grown = grown_self c; others = λ n. refl }

pub stepped_trans : (u : ℕ) (a b c : Conn) → Stepped u a b → Stepped u b c → Stepped u a c
stepped_trans u a b c f g = record { grown = grown_trans a b c f.grown g.grown; others = λ n. g.others (λ e. n (sym f.grown.dialer ∙ e)) ∙ f.others n }

pub dialed_same : (u x : ℕ) (c d : Conn) → Grown c d → is_dialed u x d ≡ is_dialed u x c
dialed_same u x c d g = ap (λ (n : ℕ). (n == u) && (d.dial == x)) g.dialer ∙ ap (λ (n : ℕ). (c.dialer == u) && (n == x)) g.dial

pub inward_same : (u x : ℕ) (c d : Conn) → Grown c d → is_inward u x d ≡ is_inward u x c
inward_same u x c d g = ap (λ (n : ℕ). (n == u) && (d.number == x)) g.far ∙ ap (λ (n : ℕ). (c.far == u) && (n == x)) g.number

pub prefix_said : {X : Type 0} (says : Writing → List X) (xs ys : List Wrote) → IsPrefix xs ys → IsPrefix (all_said says xs) (all_said says ys)
prefix_said says xs ys p = (all_said says p.0, sym (said_append says xs p.0) ∙ ap (all_said says) p.1)

pub has_prefix : {X : Type 0} (x : X) (xs ys : List X) → IsPrefix xs ys → Has x xs → Has x ys
has_prefix x xs ys p h = record { place = h.place; is = get_prefix xs ys h.place x p h.is }

pub carried_more : (xs ys : List Wrote) (s : Stream) → IsPrefix xs ys → carried xs ≡ Some s → carried ys ≡ Some s
carried_more [] ys s p h = not_some h
carried_more (x ∷ xs) ys s p h = subst (λ (zs : List Wrote). carried zs ≡ Some s) p.1 h

take_front : {X : Type 0} (xs ys : List X) (n : ℕ) → n ≤ length xs → take n (xs ++ ys) ≡ take n xs
take_front [] ys zero h = refl
take_front (x ∷ xs) ys zero h = refl
take_front [] ys (suc n) h = (let f : ⊥ = omega arith in absurd f)
take_front (x ∷ xs) ys (suc n) h = ap (λ l. x ∷ l) (take_front xs ys n (omega arith))

take_prefix : {X : Type 0} (xs ys : List X) (n : ℕ) → IsPrefix xs ys → n ≤ length xs → take n ys ≡ take n xs
take_prefix xs ys n p h = sym (ap (take n) p.1) ∙ take_front xs p.0 n h

pub sent_same : (g : ℕ) (c d : Conn) → Grown c d → g ≤ length c.way.all → sent_in g d ≡ sent_in g c
sent_same g c d f h = ap (λ (ws : List Wrote). length (all_said sends_said ws)) (take_prefix c.way.all d.way.all g f.more h)

pub length_prefix : {X : Type 0} (xs ys : List X) → IsPrefix xs ys → length xs ≤ length ys
length_prefix [] ys p = omega arith
length_prefix {X} (x ∷ xs) [] p = absurd (cons_not (p.1))
  where
    cons_not : {zs : List X} → x ∷ zs ≡ [] → ⊥
    cons_not e = cc
length_prefix {X} (x ∷ xs) (y ∷ ys) p = (let k : length xs ≤ length ys = length_prefix xs ys (p.0, tail p.1) in omega arith)
  where
    tail : {vs ws : List X} → x ∷ vs ≡ y ∷ ws → vs ≡ ws
    tail e = cc

-- ---- all connections, place by place

pub record Back (R : Conn → Conn → Type 0) (cs : List Conn) (i : ℕ) (d : Conn) : Type 0 where
  pub was : Conn
  pub is : slice_get cs i ≡ Some was
  pub so : R was d

pub record Forth (R : Conn → Conn → Type 0) (ds : List Conn) (i : ℕ) (c : Conn) : Type 0 where
  pub next : Conn
  pub is : slice_get ds i ≡ Some next
  pub so : R c next

pub record Along (R : Conn → Conn → Type 0) (cs ds : List Conn) : Type 0 where
  pub back : (i : ℕ) (d : Conn) → slice_get ds i ≡ Some d → Back R cs i d
  pub forth : (i : ℕ) (c : Conn) → slice_get cs i ≡ Some c → Forth R ds i c

pub along_self : (R : Conn → Conn → Type 0) → ((c : Conn) → R c c) → (cs : List Conn) → Along R cs cs
along_self R f cs = record { back = λ i d e. record { was = d; is = e; so = f d }; forth = λ i c e. record { next = c; is = e; so = f c } }

pub along_trans : (R : Conn → Conn → Type 0) → ((a b c : Conn) → R a b → R b c → R a c) → (xs ys zs : List Conn) → Along R xs ys → Along R ys zs → Along R xs zs
along_trans R t xs ys zs f g = record {
  back = λ i d e. (let b = g.back i d e in let a = f.back i b.was b.is in record { was = a.was; is = a.is; so = t a.was b.was d a.so b.so });
  forth = λ i c e. (let a = f.forth i c e in let b = g.forth i a.next a.is in record { next = b.next; is = b.is; so = t c a.next b.next a.so b.so });
}

pub along_wider : (R S : Conn → Conn → Type 0) → ((c d : Conn) → R c d → S c d) → (cs ds : List Conn) → Along R cs ds → Along S cs ds
along_wider R S w cs ds f = record {
  back = λ i d e. (let b = f.back i d e in record { was = b.was; is = b.is; so = w b.was d b.so });
  forth = λ i c e. (let b = f.forth i c e in record { next = b.next; is = b.is; so = w c b.next b.so });
}

same_place : (cs : List Conn) {i j : ℕ} {x y : Conn} → i ≡ j → slice_get cs i ≡ Some x → slice_get cs j ≡ Some y → x ≡ y
same_place cs e h k = some_same (sym h ∙ ap (λ (n : ℕ). slice_get cs n) e ∙ k)

-- one connection is put in the place of another
pub along_set : (R : Conn → Conn → Type 0) → ((c : Conn) → R c c) → (cs : List Conn) (i : ℕ) (c d : Conn) → slice_get cs i ≡ Some c → R c d → Along R cs (slice_set cs i d)
along_set R f cs i c d e r = record {
  back = λ j x h. back_by j x (get_set cs i j d x h);
  forth = λ j x h. forth_by j x h (i == j) refl;
}
  where
    back_by : (j : ℕ) (x : Conn) → Put cs i j d x → Back R cs j x
    back_by j x (There k is) = record { was = c; is = sym (ap (λ (n : ℕ). slice_get cs n) k) ∙ e; so = subst (R c) (sym is) r }
    back_by j x (Elsewhere q k) = record { was = x; is = k; so = f x }

    forth_by : (j : ℕ) (x : Conn) → slice_get cs j ≡ Some x → (b : Bool) → (i == j) ≡ b → Forth R (slice_set cs i d) j x
    forth_by j x h true t =
        let k : i ≡ j = eq_true i j t in
        let same : c ≡ x = same_place cs k e h in
        record { next = d; is = ap (λ (n : ℕ). slice_get (slice_set cs i d) n) (sym k) ∙ set_here cs i c d e; so = subst (λ (y : Conn). R y d) same r }
    forth_by j x h false t = record { next = x; is = set_away cs i j d (λ k. eq_not i j t k) ∙ h; so = f x }

-- ---- what stays true

pub announced_grows : (cs ds : List Conn) → Along Grown cs ds → (by to : ℕ) (kind : Kind) (number : ℕ) (keys : List (List ℕ)) → Announced cs by to kind number keys → Announced ds by to kind number keys
announced_grows cs ds l by to kind number keys h =
    let f = l.forth h.place h.conn h.is in
    record {
      place = h.place;
      conn = f.next;
      is = f.is;
      near = f.so.dialer ∙ h.near;
      far = f.so.far ∙ h.far;
      said = has_prefix _ _ _ (prefix_said tables_said h.conn.way.all f.next.way.all f.so.more) h.said;
    }

pub answered_grows : (cs ds : List Conn) → Along Grown cs ds → (by uid dial : ℕ) → Answered cs by uid dial → Answered ds by uid dial
answered_grows cs ds l by uid dial h =
    let f = l.forth h.place h.conn h.is in
    record {
      place = h.place;
      conn = f.next;
      is = f.is;
      near = f.so.dialer ∙ h.near;
      said = has_prefix _ _ _ (prefix_said answers_said h.conn.way.all f.next.way.all f.so.more) h.said;
    }

pub made_grows : (cs ds : List Conn) → Along Grown cs ds → (u dial : ℕ) → Made cs u dial → Made ds u dial
made_grows cs ds l u dial h =
    let f = l.forth h.place h.conn h.is in
    record { place = h.place; conn = f.next; is = f.is; dialed = dialed_same u dial h.conn f.next f.so ∙ h.dialed }

named_grows : (cs ds : List Conn) → Along Grown cs ds → (near far : ℕ) (kind : Kind) (number : ℕ) (e : NameOf) (name : List ℕ) → IsNamed cs near far kind number e name → IsNamed ds near far kind number e name
named_grows cs ds l near far kind number (Literal text) name h = h
named_grows cs ds l near far kind number (Index i) name h = record { keys = h.keys; table = announced_grows cs ds l far near kind number h.keys h.table; entry = h.entry }

pub written_grows : (cs ds : List Conn) → Along Grown cs ds → (near far : ℕ) (e : EnvelopeOf) (t : Told) → IsWritten cs near far e t → IsWritten ds near far e t
written_grows cs ds l near far e t h = record {
  refs_version = h.refs_version;
  manifests_version = h.manifests_version;
  sender = named_grows cs ds l near far Refs t.numbers.refs e.sender t.message.sender h.sender;
  recipient = named_grows cs ds l near far Refs t.numbers.refs e.recipient t.message.recipient h.recipient;
  manifest = named_grows cs ds l near far Manifests t.numbers.manifests e.manifest t.message.manifest h.manifest;
  serializer = h.serializer;
  payload = h.payload;
}

pub all_written_grow : (cs ds : List Conn) → Along Grown cs ds → (near far : ℕ) (es : List EnvelopeOf) (ts : List Told) → AreWritten cs near far es ts → AreWritten ds near far es ts
all_written_grow cs ds l near far [] ts h = tt
all_written_grow cs ds l near far (e ∷ es) [] h = h
all_written_grow cs ds l near far (e ∷ es) (t ∷ ts) h = (written_grows cs ds l near far e t h.0, all_written_grow cs ds l near far es ts h.1)

-- more were told
pub all_written_more : (cs : List Conn) (near far : ℕ) (es : List EnvelopeOf) (ts us : List Told) → AreWritten cs near far es ts → AreWritten cs near far es (ts ++ us)
all_written_more cs near far [] ts us h = tt
all_written_more cs near far (e ∷ es) [] us h = absurd h
all_written_more cs near far (e ∷ es) (t ∷ ts) us h = (h.0, all_written_more cs near far es ts us h.1)

-- one more was told and written
pub all_written_push : (cs : List Conn) (near far : ℕ) (es : List EnvelopeOf) (ts : List Told) (e : EnvelopeOf) (t : Told) → length es ≡ length ts → AreWritten cs near far es ts → IsWritten cs near far e t → AreWritten cs near far (es ++ e ∷ []) (ts ++ t ∷ [])
all_written_push cs near far [] [] e t s h k = (k, tt)
all_written_push cs near far [] (u ∷ ts) e t s h k = (let f : ⊥ = omega arith in absurd f)
all_written_push cs near far (d ∷ es) [] e t s h k = absurd h
all_written_push cs near far (d ∷ es) (u ∷ ts) e t s h k = (h.0, all_written_push cs near far es ts e t (let q : suc (length es) ≡ suc (length ts) = s in omega arith) h.1 k)
