-- The tests by which the tables are read, and the equality of their keys.
use Rattle.std.proofs.Common.{◌≡◌, ℕ, Bool, true, false, ◌&&◌, ◌==◌, List, [], ◌∷◌, ◌++◌, ◌||◌, length, drop, refl, ap, sym, ◌∙◌, arith}
use Rattle.std.proofs.lemmas.Bool.Decides.{nat_tests}
use Rattle.std.specs.Prelude.{map, Option, Some, None, if◌then◌else◌}
use Rattle.std.specs.List.{list_any}
use Rattle.std.specs.Map.{lookup, set_value}
use Rattle.std.specs.Cmp.{IsEquivalence}
use Rattle.std.specs.Cmp.Rules.{comparing}
use Rattle.indexmap.specs.IndexMap.{insert_entry}
use Rattle.indexmap.specs.IndexSet.{insert_key}
use Rattle.artery_base.specs.declared.address.UniqueAddress.{UniqueAddress}
use Rattle.artery_judge.specs.contracts.keys.PairPartialEq.TheImpl as pair_eq
use Rattle.artery_judge.specs.contracts.keys.LinkPartialEq.TheImpl as link_eq
use Rattle.artery_judge.specs.contracts.keys.WatchPartialEq.TheImpl as watch_eq
use Rattle.artery_judge.specs.contracts.keys.IncarnationPartialEq.TheImpl as incarnation_eq
use Rattle.artery_judge.specs.contracts.keys.PairEq.TheImpl.Laws.{laws-law as pair_laws}
use Rattle.artery_judge.specs.contracts.keys.LinkEq.TheImpl.Laws.{laws-law as link_laws}
use Rattle.artery_judge.specs.contracts.keys.WatchEq.TheImpl.Laws.{laws-law as watch_laws}
use Rattle.artery_judge.specs.contracts.keys.IncarnationEq.TheImpl.Laws.{laws-law as incarnation_laws}
use Rattle.artery_base.specs.contracts.address.UniqueAddressEq.TheImpl.Laws.{laws-law}
use Rattle.artery_judge.specs.declared.keys.Pair.{Pair}
use Rattle.artery_judge.specs.declared.keys.Link.{Link}
use Rattle.artery_judge.specs.declared.keys.Watch.{Watch}
use Rattle.artery_judge.specs.declared.keys.Incarnation.{Incarnation}
use Rattle.artery_judge.specs.Lines.{Rest, same, is_way, with_rest}
use Rattle.artery_base.specs.declared.message.Tell.{Tell}
use Rattle.artery_judge.specs.declared.nodes.Node.{Node}
use Rattle.artery_judge.specs.Laws.{is_dial, is_watch}
use Rattle.artery_judge.specs.Kept.{past_tell, past_tells, noted}
use Rattle.artery_judge.specs.Views.{is_pair, is_link, is_watch_key, is_node, sent_at, told_at, has_pair, has_watch, node_at}
use Rattle.artery_judge.proofs.Tables.{Fits, pushed_there, pushed_new, changed_there, changed_nowhere, noted_there, noted_new, added}

abbrev eq_pair : Pair → Pair → Bool
eq_pair = (pair_eq.ghosts).eq

-- two names of one incarnation are the same as every other alike
pub same_alike : (a b : UniqueAddress) → same a b ≡ true → same a ≡ same b
same_alike a b h = λ i x. laws-law.congr a b x h i

-- an incarnation that is the same as x is for all others as x is
pub same_others : (a x y : UniqueAddress) → same x y ≡ true → same a y ≡ same a x
same_others a x y h = laws-law.symm a y ∙ sym (laws-law.congr x y a h) ∙ laws-law.symm x a

both : (b c : Bool) → (b && c) ≡ true → (b ≡ true) × (c ≡ true)
both true c h = (refl, h)
both false c h = cc

pub fits_pair : (x : Pair) (a b : UniqueAddress) → Fits (eq_pair x) (is_pair a b) (is_way a b (x.of.now, x.other.now))
fits_pair x a b = record {
  hit = λ h. let s = both (same a x.of.now) (same b x.other.now) h in
      λ i k. same_alike a x.of.now s.0 i k.of.now && same_alike b x.other.now s.1 i k.other.now;
  miss = λ k h. let s = both (same x.of.now k.of.now) (same x.other.now k.other.now) h in
      λ i. same_others a x.of.now k.of.now s.0 i && same_others b x.other.now k.other.now s.1 i;
}

pub sent_there : (x : Pair) (es new : List (Pair × List Rest)) (v w : List Rest) (r : Rest) → lookup (eq_pair x) es ≡ Some v → new ≡ set_value (eq_pair x) es w → w ≡ v ++ r ∷ [] → (a b : UniqueAddress) → sent_at a b new ≡ with_rest (sent_at a b es) (if is_way a b (x.of.now, x.other.now) then r ∷ [] else [])
sent_there x es new v w r there is longer a b = pushed_there (eq_pair x) (is_pair a b) _ (fits_pair x a b) es new v w r there is longer

pub sent_new : (x : Pair) (es new : List (Pair × List Rest)) (w : List Rest) (r : Rest) → lookup (eq_pair x) es ≡ None → new ≡ insert_entry eq_pair es x w → w ≡ r ∷ [] → (a b : UniqueAddress) → sent_at a b new ≡ with_rest (sent_at a b es) (if is_way a b (x.of.now, x.other.now) then r ∷ [] else [])
sent_new x es new w r gone is one a b = pushed_new eq_pair x (is_pair a b) _ (fits_pair x a b) (pair_laws.refl x) es new w r gone is one

turned : (b c : Bool) → (b && c) ≡ (c && b)
turned true true = refl
turned true false = refl
turned false true = refl
turned false false = refl

-- the first gone, where a test holds
popped : (c d : Bool) (rest : Rest) (q new : List Rest) → c ≡ d → new ≡ (if c then drop 1 q else q) → new ≡ drop (length (if d then rest ∷ [] else [])) q
popped c true rest q new is h = rw is at h
popped c false rest q new is h = rw is at h

pub sent_popped : (x : Pair) (es new : List (Pair × List Rest)) (v w : List Rest) → lookup (eq_pair x) es ≡ Some v → new ≡ set_value (eq_pair x) es w → w ≡ drop 1 v → (a b : UniqueAddress) (rest : Rest) → sent_at a b new ≡ drop (length (if same b x.other.now && same a x.of.now then rest ∷ [] else [])) (sent_at a b es)
sent_popped x es new v w there is less a b rest =
    popped (is_way a b (x.of.now, x.other.now)) _ rest (sent_at a b es) _ (turned (same a x.of.now) (same b x.other.now)) (changed_there (drop 1) (eq_pair x) (is_pair a b) _ (fits_pair x a b) es new v w there is less)

pub sent_unpopped : (x : Pair) (es : List (Pair × List Rest)) → lookup (eq_pair x) es ≡ None → (a b : UniqueAddress) (rest : Rest) → sent_at a b es ≡ drop (length (if same b x.other.now && same a x.of.now then rest ∷ [] else [])) (sent_at a b es)
sent_unpopped x es gone a b rest =
    popped (is_way a b (x.of.now, x.other.now)) _ rest (sent_at a b es) _ (turned (same a x.of.now) (same b x.other.now)) (changed_nowhere (drop 1) refl (eq_pair x) (is_pair a b) _ (fits_pair x a b) es gone)

pub pair_added : (x : Pair) (ks new : List Pair) → new ≡ insert_key eq_pair ks x → (a b : UniqueAddress) → has_pair a b new ≡ (is_way a b (x.of.now, x.other.now) || has_pair a b ks)
pair_added x ks new is a b = added eq_pair x (is_pair a b) _ (fits_pair x a b) (pair_laws.refl x) ks new is

abbrev eq_link : Link → Link → Bool
eq_link = (link_eq.ghosts).eq

nat_alike : (d n m : ℕ) → (n == m) ≡ true → (d == m) ≡ (d == n)
nat_alike d n m h = grind (arith, nat_tests)

three : (p q r : Bool) → ((p && q) && r) ≡ (p && (q && r))
three true q r = refl
three false q r = refl

link_tests : (x k : Link) → is_link x.of.now x.other.now x.dial k ≡ eq_link x k
link_tests x k = three (same x.of.now k.of.now) (same x.other.now k.other.now) (x.dial == k.dial)

pub fits_link : (x : Link) (a b : UniqueAddress) (d : ℕ) → Fits (eq_link x) (is_link a b d) (is_dial a b d ((x.of.now, x.other.now), x.dial))
fits_link x a b d = record {
  hit = λ h. let s = both (same a x.of.now && same b x.other.now) (d == x.dial) h in
      let p = both (same a x.of.now) (same b x.other.now) s.0 in
      let e : d ≡ x.dial = grind (arith, nat_tests) in
      let there : (k : Link) → is_link a b d k ≡ is_link x.of.now x.other.now x.dial k = λ k i. (same_alike a x.of.now p.0 i k.of.now && same_alike b x.other.now p.1 i k.other.now) && (e i == k.dial) in
      λ i k. (there k ∙ link_tests x k) i;
  miss = λ k h. let s = both (same x.of.now k.of.now && same x.other.now k.other.now) (x.dial == k.dial) (link_tests x k ∙ h) in
      let p = both (same x.of.now k.of.now) (same x.other.now k.other.now) s.0 in
      λ i. (same_others a x.of.now k.of.now p.0 i && same_others b x.other.now k.other.now p.1 i) && nat_alike d x.dial k.dial s.1 i;
}

pub told_there : (x : Link) (es new : List (Link × List Tell)) (v w : List Tell) (r : Tell) → lookup (eq_link x) es ≡ Some v → new ≡ set_value (eq_link x) es w → w ≡ v ++ r ∷ [] → (a b : UniqueAddress) (d : ℕ) → told_at a b d new ≡ with_rest (told_at a b d es) (if is_dial a b d ((x.of.now, x.other.now), x.dial) then r ∷ [] else [])
told_there x es new v w r there is longer a b d = pushed_there (eq_link x) (is_link a b d) _ (fits_link x a b d) es new v w r there is longer

pub told_new : (x : Link) (es new : List (Link × List Tell)) (w : List Tell) (r : Tell) → lookup (eq_link x) es ≡ None → new ≡ insert_entry eq_link es x w → w ≡ r ∷ [] → (a b : UniqueAddress) (d : ℕ) → told_at a b d new ≡ with_rest (told_at a b d es) (if is_dial a b d ((x.of.now, x.other.now), x.dial) then r ∷ [] else [])
told_new x es new w r gone is one a b d = pushed_new eq_link x (is_link a b d) _ (fits_link x a b d) (link_laws.refl x) es new w r gone is one

-- those past it gone, where a test holds
skipped : (c d e : Bool) (m : Tell) (q new : List Tell) → c ≡ d → new ≡ (if c && e then past_tell m q else q) → new ≡ past_tells (if d && e then m ∷ [] else []) q
skipped c true true m q new is h = rw is at h
skipped c true false m q new is h = rw is at h
skipped c false e m q new is h = rw is at h

pub told_skipped : (x : Link) (m : Tell) (es new : List (Link × List Tell)) (v w : List Tell) → lookup (eq_link x) es ≡ Some v → new ≡ set_value (eq_link x) es w → w ≡ past_tell m v → (a b : UniqueAddress) (d : ℕ) → told_at a b d new ≡ past_tells (if (same b x.other.now && same a x.of.now) && (d == x.dial) then m ∷ [] else []) (told_at a b d es)
told_skipped x m es new v w there is less a b d =
    skipped (is_way a b (x.of.now, x.other.now)) _ (d == x.dial) m (told_at a b d es) _ (turned (same a x.of.now) (same b x.other.now)) (changed_there (past_tell m) (eq_link x) (is_link a b d) _ (fits_link x a b d) es new v w there is less)

pub told_unskipped : (x : Link) (m : Tell) (es : List (Link × List Tell)) → lookup (eq_link x) es ≡ None → (a b : UniqueAddress) (d : ℕ) → told_at a b d es ≡ past_tells (if (same b x.other.now && same a x.of.now) && (d == x.dial) then m ∷ [] else []) (told_at a b d es)
told_unskipped x m es gone a b d =
    skipped (is_way a b (x.of.now, x.other.now)) _ (d == x.dial) m (told_at a b d es) _ (turned (same a x.of.now) (same b x.other.now)) (changed_nowhere (past_tell m) refl (eq_link x) (is_link a b d) _ (fits_link x a b d) es gone)

abbrev eq_watch : Watch → Watch → Bool
eq_watch = (watch_eq.ghosts).eq

pub fits_watch : (x : Watch) (a : UniqueAddress) (id : ℕ) → Fits (eq_watch x) (is_watch_key a id) (is_watch a id (x.of.now, x.id))
fits_watch x a id = record {
  hit = λ h. let s = both (same a x.of.now) (id == x.id) h in
      let e : id ≡ x.id = grind (arith, nat_tests) in
      λ i k. same_alike a x.of.now s.0 i k.of.now && (e i == k.id);
  miss = λ k h. let s = both (same x.of.now k.of.now) (x.id == k.id) h in
      λ i. same_others a x.of.now k.of.now s.0 i && nat_alike id x.id k.id s.1 i;
}

pub watch_added : (x : Watch) (ks new : List Watch) → new ≡ insert_key eq_watch ks x → (a : UniqueAddress) (id : ℕ) → has_watch a id new ≡ (is_watch a id (x.of.now, x.id) || has_watch a id ks)
watch_added x ks new is a id = added eq_watch x (is_watch_key a id) _ (fits_watch x a id) (watch_laws.refl x) ks new is

abbrev eq_incarnation : Incarnation → Incarnation → Bool
eq_incarnation = (incarnation_eq.ghosts).eq

pub fits_node : (x : Incarnation) (a : UniqueAddress) → Fits (eq_incarnation x) (is_node a) (same a x.of.now)
fits_node x a = record {
  hit = λ h i k. same_alike a x.of.now h i k.of.now;
  miss = λ k h. same_others a x.of.now k.of.now h;
}

pub node_there : (x : Incarnation) (es new : List (Incarnation × Node)) (v w : Node) (s : Bool) (m : ℕ) → lookup (eq_incarnation x) es ≡ Some v → new ≡ set_value (eq_incarnation x) es w → w ≡ noted s m (Some v) → (a : UniqueAddress) → node_at a new ≡ (if same a x.of.now then Some (noted s m (node_at a es)) else node_at a es)
node_there x es new v w s m there is one a = noted_there (eq_incarnation x) (is_node a) _ (fits_node x a) es new v w s m there is one

pub node_new : (x : Incarnation) (es new : List (Incarnation × Node)) (s : Bool) (m : ℕ) → lookup (eq_incarnation x) es ≡ None → new ≡ insert_entry eq_incarnation es x (noted s m None) → (a : UniqueAddress) → node_at a new ≡ (if same a x.of.now then Some (noted s m (node_at a es)) else node_at a es)
node_new x es new s m gone is a = noted_new eq_incarnation x (is_node a) _ (fits_node x a) (incarnation_laws.refl x) es new s m gone is

-- what is kept of an incarnation stays, where a line more changes nothing
pub node_unchanged : (u : UniqueAddress) (es : List (Incarnation × Node)) (node : Node) (s : Bool) (m : ℕ) → node_at u es ≡ Some node → noted s m (Some node) ≡ node → (a : UniqueAddress) → node_at a es ≡ (if same a u then Some (noted s m (node_at a es)) else node_at a es)
node_unchanged u es node s m there none a = by (same a u) refl
  where
    by : (c : Bool) → same a u ≡ c → node_at a es ≡ (if c then Some (noted s m (node_at a es)) else node_at a es)
    by true h =
        let at : node_at a es ≡ Some node = (λ i. lookup (λ k. same_alike a u h i k.of.now) es) ∙ there in
        at ∙ ap (λ n. Some n) (sym none) ∙ ap (λ o. Some (noted s m o)) (sym at)
    by false h = refl

pub any_map : {X Y : Type 0} (test : Y → Bool) (f : X → Y) (xs : List X) → list_any test (map f xs) ≡ list_any (λ x. test (f x)) xs
any_map test f [] = refl
any_map test f (x ∷ xs) = ap (λ b. test (f x) || b) (any_map test f xs)
