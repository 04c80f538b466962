-- A front in two parts, and what it is to be at an address.
use Rattle.std.proofs.Common.{◌≡◌, ℕ, Bool, true, false, nat_eq, List, [], ◌∷◌, ◌++◌, length, take, drop, refl, ap, sym, ◌∙◌, subst, true≢false}
use Rattle.std.specs.Prelude.{Option, Some, None, ◌&&◌, if◌then◌else◌, IsTrue}
use Rattle.std.specs.Cmp.Lexicographic.{pointwise}
use Rattle.std.proofs.lemmas.Bool.Decides.{Decides-eqb}
use Rattle.artery_base.specs.declared.address.Address.{Address}
use Rattle.artery_text.specs.Spelling.{address_text}
use Rattle.artery_watch.specs.Place.{after, is_found_path, is_at, IsAt}

-- what stands behind a second front, if there was a first one
abbrev pub behind : List ℕ → Option (List ℕ) → Option (List ℕ)
behind q None = None
behind q (Some rest) = after q rest

pub chain : (p q t : List ℕ) → after (p ++ q) t ≡ behind q (after p t)
chain [] q t = refl
chain (b ∷ p) q [] = refl
chain (b ∷ p) q (c ∷ t) =
    elim (nat_eq b c) as (λ s. (if s && pointwise nat_eq (p ++ q) (take (length (p ++ q)) t) then Some (drop (length (p ++ q)) t) else None) ≡ behind q (if s && pointwise nat_eq p (take (length p) t) then Some (drop (length p) t) else None)) [
      | true ↦ chain p q t
      | false ↦ refl
    ]

pub some_after : (p q t rest : List ℕ) → after p t ≡ Some rest → after (p ++ q) t ≡ after q rest
some_after p q t rest e = chain p q t ∙ ap (behind q) e

pub none_after : (p q t : List ℕ) → after p t ≡ None → after (p ++ q) t ≡ None
none_after p q t e = chain p q t ∙ ap (behind q) e

-- a text begins with a front exactly where it is the front and a rest
pub after_front : (p rest : List ℕ) → after p (p ++ rest) ≡ Some rest
after_front [] rest = refl
after_front (b ∷ p) rest = subst (λ s. (if s && pointwise nat_eq p (take (length p) (p ++ rest)) then Some (drop (length p) (p ++ rest)) else None) ≡ Some rest) (sym ((Decides-eqb b b).1 refl)) (after_front p rest)

none_some : {A : Type 0} {X : Type 0} (x : X) → None ≡ Some x → A
none_some x e = absurd (true≢false (ap (λ (o : Option _). elim o [ None ↦ true | Some y ↦ false ]) e))

pub front_of : (p t rest : List ℕ) → after p t ≡ Some rest → t ≡ p ++ rest
front_of [] t rest e = ap (λ (o : Option (List ℕ)). elim o [ None ↦ t | Some y ↦ y ]) e
front_of (b ∷ p) [] rest e = none_some rest e
front_of (b ∷ p) (c ∷ t) rest e = by (nat_eq b c) refl e (front_of p t rest)
  where
    by : (s : Bool) → nat_eq b c ≡ s → (if s && pointwise nat_eq p (take (length p) t) then Some (drop (length p) t) else None) ≡ Some rest → (after p t ≡ Some rest → t ≡ p ++ rest) → c ∷ t ≡ b ∷ (p ++ rest)
    by true same h more = ap (λ x. x ∷ t) (sym ((Decides-eqb b c).0 same)) ∙ ap (λ ys. b ∷ ys) (more h)
    by false same h more = none_some rest h

path_at : (a : Address) (t : List ℕ) (o : Option (List ℕ)) → after (address_text a) t ≡ o → IsTrue (is_found_path o) → IsAt a t
path_at a t None e h = absurd (true≢false (sym h))
path_at a t (Some rest) e h = record { path = rest; whole = front_of (address_text a) t rest e; good = h }

pub at_exact : (r : Bool) (a : Address) (t : List ℕ) → r ≡ is_at a t → (IsTrue r → IsAt a t) × (IsAt a t → IsTrue r)
at_exact r a t e = (
  (λ h. path_at a t (after (address_text a) t) refl (subst IsTrue e h)),
  (λ at. subst IsTrue (sym (e ∙ ap (λ text. is_at a text) at.whole ∙ ap is_found_path (after_front (address_text a) at.path))) at.good),
)
