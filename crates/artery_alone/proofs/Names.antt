-- Addresses and incarnations that are the same by their test are one.
use Rattle.std.proofs.Common.{◌≡◌, ℕ, Bool, true, false, List, [], ◌∷◌, refl, ap, sym, ◌∙◌, true≢false, arith}
use Rattle.std.proofs.lemmas.Bool.Decides.{nat_tests}
use Rattle.std.specs.Prelude.{◌&&◌, ◌==◌, nat_eq}
use Rattle.std.specs.Cmp.Lexicographic.{pointwise}
use Rattle.artery_base.specs.declared.address.Address.{Address}
use Rattle.artery_base.specs.declared.address.UniqueAddress.{UniqueAddress}
use Rattle.artery_judge.specs.Lines.{same}
use Rattle.artery_machine.specs.Node.{same_address}

pub and_left : (b c : Bool) → (b && c) ≡ true → b ≡ true
and_left true c h = refl
and_left false c h = h

pub and_right : (b c : Bool) → (b && c) ≡ true → c ≡ true
and_right true c h = h
and_right false c h = absurd (true≢false (sym h))

pub number_is : (n k : ℕ) → (n == k) ≡ true → n ≡ k
number_is n k h = grind (arith, nat_tests)

pub number_self : (n : ℕ) → (n == n) ≡ true
number_self n = grind (arith, nat_tests)

text_is : (xs ys : List ℕ) → pointwise nat_eq xs ys ≡ true → xs ≡ ys
text_is [] [] h = refl
text_is [] (y ∷ ys) h = absurd (true≢false (sym h))
text_is (x ∷ xs) [] h = absurd (true≢false (sym h))
text_is (x ∷ xs) (y ∷ ys) h = λ i. number_is x y (and_left (x == y) (pointwise nat_eq xs ys) h) i ∷ text_is xs ys (and_right (x == y) (pointwise nat_eq xs ys) h) i

text_self : (xs : List ℕ) → pointwise nat_eq xs xs ≡ true
text_self [] = refl
text_self (x ∷ xs) = ap (λ b. b && pointwise nat_eq xs xs) (number_self x) ∙ text_self xs

pub address_is : (a b : Address) → same_address a b ≡ true → a ≡ b
address_is a b h =
    let s = and_right (pointwise nat_eq a.protocol b.protocol) _ h in
    let t = and_right (pointwise nat_eq a.system b.system) _ s in
    λ i. record {
      protocol = text_is a.protocol b.protocol (and_left (pointwise nat_eq a.protocol b.protocol) _ h) i;
      system = text_is a.system b.system (and_left (pointwise nat_eq a.system b.system) _ s) i;
      host = text_is a.host b.host (and_left (pointwise nat_eq a.host b.host) _ t) i;
      port = number_is a.port b.port (and_right (pointwise nat_eq a.host b.host) _ t) i;
    }

pub address_self : (a : Address) → same_address a a ≡ true
address_self a = rw (text_self a.protocol, text_self a.system, text_self a.host, number_self a.port) refl

pub unique_test : (a b : UniqueAddress) → same a b ≡ (same_address a.address b.address && (a.uid == b.uid))
unique_test a b = refl

pub unique_self : (a : UniqueAddress) → same a a ≡ true
unique_self a = unique_test a a ∙ rw (address_self a.address, number_self a.uid) refl

pub unique_is : (a b : UniqueAddress) → same a b ≡ true → a ≡ b
unique_is a b h = λ i. record {
  address = address_is a.address b.address (and_left (same_address a.address b.address) (a.uid == b.uid) (sym (unique_test a b) ∙ h)) i;
  uid = number_is a.uid b.uid (and_right (same_address a.address b.address) (a.uid == b.uid) (sym (unique_test a b) ∙ h)) i;
}
