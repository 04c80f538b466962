-- A name is written by a table that is held as itself, or as its place in the table that was announced.
use Rattle.std.proofs.Common.{◌≡◌, ℕ, suc, ◌+◌, Bool, true, false, cond, List, [], ◌∷◌, length, refl, sym, ◌∙◌, ap, subst, arith}
use Rattle.std.specs.Prelude.{Option, None, Some, nat_eq, slice_get}
use Rattle.std.specs.List.{zip}
use Rattle.std.specs.Option.{option_or}
use Rattle.std.proofs.lemmas.Bool.Decides.{nat_tests}
use Rattle.artery_base.specs.declared.message.Tell.{Tell}
use Rattle.artery_journal.specs.declared.words.Kind.{Kind}
use Rattle.artery_journal.specs.declared.words.Kind.TheVariants.{Refs, Manifests}
use Rattle.artery_tables.specs.Names.{same_name}
use Rattle.artery_tables.specs.Story.{version_of}
use Rattle.artery_tables.specs.OutTable.{State as Adopted, last_value}
use Rattle.artery_codec.specs.Writing.{paired_indices, indexed, written_name, written}
use Rattle.artery_machine.specs.Node.{OfKinds, of_kind}
use Rattle.artery_machine.specs.Sending.{meaning_of}
use Rattle.artery_machine.specs.Ticking.{numbers_from}
use Rattle.artery_names.proofs.Lists.{and_left, and_right, some_same, not_some}
use Rattle.artery_names.proofs.Facts.{Conn, Entry, IsNamed, IsWritten, IsHeld, Holds}

nat_is : (x y : ℕ) → nat_eq x y ≡ true → x ≡ y
nat_is x y h = grind (arith, nat_tests)

name_is : (x y : List ℕ) → same_name x y ≡ true → x ≡ y
name_is [] [] h = refl
name_is [] (b ∷ y) h = absurd cc
name_is (a ∷ x) [] h = absurd cc
name_is (a ∷ x) (b ∷ y) h = ap (λ (c : ℕ). c ∷ x) (nat_is a b (and_left (nat_eq a b) _ h)) ∙ ap (λ l. b ∷ l) (name_is x y (and_right (nat_eq a b) _ h))

-- the place of a name among keys that are numbered from a number on
pub record Placed (keys : List (List ℕ)) (first i : ℕ) (name : List ℕ) : Type 0 where
  pub place : ℕ
  pub is : i ≡ first + place
  pub key : slice_get keys place ≡ Some name

value_placed : (keys : List (List ℕ)) (first i : ℕ) (name : List ℕ) → last_value name (zip keys (numbers_from first (length keys))) ≡ Some i → Placed keys first i name
value_placed [] first i name h = not_some h
value_placed (k ∷ keys) first i name h = by (last_value name (zip keys (numbers_from (first + 1) (length keys)))) h (λ e. value_placed keys (first + 1) i name e)
  where
    at_it : (b : Bool) → same_name name k ≡ b → cond b (Some first) None ≡ Some i → Placed (k ∷ keys) first i name
    at_it true e g = record { place = 0; is = (let s : first ≡ i = some_same g in omega arith); key = ap Some (sym (name_is name k e)) }
    at_it false e g = not_some g

    by : (x : Option ℕ) → option_or x (cond (same_name name k) (Some first) None) ≡ Some i → (x ≡ Some i → Placed keys (first + 1) i name) → Placed (k ∷ keys) first i name
    by None g rest = at_it (same_name name k) refl g
    by (Some x) g rest = (let r : Placed keys (first + 1) i name = rest g in
        record { place = suc r.place; is = (let e : i ≡ first + 1 + r.place = r.is in omega arith); key = r.key })

module _ (cs : List Conn) (by to : ℕ) (kind : Kind) where
  pairs_named : (number : ℕ) (pairs : List (List ℕ × ℕ)) (i : ℕ) (name : List ℕ) → IsHeld cs by to kind number pairs → last_value name pairs ≡ Some i → Entry cs by to kind number i name
  pairs_named number [] i name h e = not_some e
  pairs_named number (p ∷ ps) i name h e =
      let r : Placed h.0 0 i name = value_placed h.0 0 i name (ap (last_value name) (sym h.2) ∙ e) in
      record { keys = h.0; table = h.1; entry = ap (slice_get h.0) (let q : i ≡ r.place = (let t : i ≡ 0 + r.place = r.is in omega arith) in q) ∙ r.key }

  pub name_written : (number : ℕ) (s : Adopted) (name : List ℕ) → Holds cs by to kind number s → IsNamed cs to by kind number (written_name (paired_indices s) name) name
  name_written number s [] h = refl
  name_written number s (c ∷ name) h = at_index (last_value (c ∷ name) s.pairs) refl
    where
      at_index : (x : Option ℕ) → last_value (c ∷ name) s.pairs ≡ x → IsNamed cs to by kind number (indexed (c ∷ name) x) (c ∷ name)
      at_index None e = refl
      at_index (Some i) e = subst (λ (z : ℕ). Entry cs by to kind z i (c ∷ name)) h.number (pairs_named s.number s.pairs i (c ∷ name) h.held e)

-- a message that is told by the tables that are held
pub told_written : (cs : List Conn) (far me : ℕ) (adopted : OfKinds ℕ) (tables : OfKinds Adopted) (message : Tell) → ((kind : Kind) → Holds cs far me kind (of_kind kind adopted) (of_kind kind tables))
    → IsWritten cs me far (written (paired_indices tables.refs) (paired_indices tables.manifests) (meaning_of me message)) (record { message = message; numbers = adopted })
told_written cs far me adopted tables message h = record {
  refs_version = ap version_of (h Refs).number;
  manifests_version = ap version_of (h Manifests).number;
  sender = name_written cs far me Refs adopted.refs tables.refs message.sender (h Refs);
  recipient = name_written cs far me Refs adopted.refs tables.refs message.recipient (h Refs);
  manifest = name_written cs far me Manifests adopted.manifests tables.manifests message.manifest (h Manifests);
  serializer = refl;
  payload = refl;
}
