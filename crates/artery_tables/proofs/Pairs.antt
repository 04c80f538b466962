-- The index of each key is the last value beside it.
use Rattle.std.proofs.Common.{◌≡◌, ℕ, zero, suc, ◌+◌, ◌<◌, Bool, true, false, cond, List, [], ◌∷◌, length, get_or, drop, arith, refl, sym, ◌∙◌, ap, subst, true≢false}
use Rattle.std.specs.Prelude.{Option, Some, None, if◌then◌else◌}
use Rattle.std.specs.Option.{option_or}
use Rattle.std.specs.Map.{lookup}
use Rattle.std.specs.List.{zip}
use Rattle.std.specs.Cmp.Lexicographic.{bytes_decides}
use Rattle.indexmap.specs.IndexMap.{insert_entry, insert_all}
use Rattle.artery_tables.specs.declared.out_table.Adopted.{Adopted}
use Rattle.artery_tables.specs.declared.out_table.Adopted.TheVariants.{Adopted as IsAdopted, Same, Older}
use Rattle.artery_tables.specs.Names.{same_name}
use Rattle.artery_tables.specs.OutTable.{Held, State, Stands, adopting, indices_of, held_after, held_adopted, index_in, last_value, table_after, adopted}

drop_at : {X : Type 0} (xs : List X) (i : ℕ) (x : X) → i < length xs → x ≡ get_or xs i x → drop i xs ≡ x ∷ drop (suc i) xs
drop_at [] i x h e = (let f : ⊥ = omega arith in absurd f)
drop_at (y ∷ ys) zero x h e = ap (λ z. z ∷ ys) (sym e)
drop_at (y ∷ ys) (suc i) x h e = drop_at ys i x (omega arith) e

same_value : (values : List ℕ) (i : ℕ) → i < length values → get_or values i 0 ≡ get_or values i (get_or values i 0)
same_value [] i h = (let f : ⊥ = omega arith in absurd f)
same_value (x ∷ xs) zero h = refl
same_value (x ∷ xs) (suc i) h = same_value xs i (omega arith)

same_key : (name k e : List ℕ) → same_name k e ≡ true → same_name name e ≡ same_name name k
same_key name k e h = ap (same_name name) (sym ((bytes_decides k e).0 h))

both_same : (name k e : List ℕ) → same_name name e ≡ true → same_name name k ≡ true → same_name k e ≡ true
both_same name k e a b = (bytes_decides k e).1 (sym ((bytes_decides name k).0 b) ∙ (bytes_decides name e).0 a)

module _ (name : List ℕ) where
  over : (b : Bool) (v w : ℕ) (r : Option ℕ) → cond b (Some v) r ≡ cond b (Some v) (cond b (Some w) r)
  over true v w r = refl
  over false v w r = refl

  apart : (a b : Bool) (v w : ℕ) (r : Option ℕ) → (a ≡ true → b ≡ true → ⊥) → cond a (Some w) (cond b (Some v) r) ≡ cond b (Some v) (cond a (Some w) r)
  apart true true v w r h = absurd (h refl refl)
  apart true false v w r h = refl
  apart false true v w r h = refl
  apart false false v w r h = refl

  lookup_inserted : (es : List (List ℕ × ℕ)) (k : List ℕ) (v : ℕ) → lookup (same_name name) (insert_entry same_name es k v) ≡ cond (same_name name k) (Some v) (lookup (same_name name) es)
  lookup_inserted [] k v = refl
  lookup_inserted (e ∷ es) k v = by (same_name k e.0) refl (lookup_inserted es k v)
    where
      by : (b : Bool) → same_name k e.0 ≡ b → lookup (same_name name) (insert_entry same_name es k v) ≡ cond (same_name name k) (Some v) (lookup (same_name name) es)
          → lookup (same_name name) (cond b ((e.0, v) ∷ es) (e ∷ insert_entry same_name es k v)) ≡ cond (same_name name k) (Some v) (lookup (same_name name) (e ∷ es))
      by true h rest =
          let is : same_name name e.0 ≡ same_name name k = same_key name k e.0 h in
          ap (λ (b : Bool). cond b (Some v) (lookup (same_name name) es)) is
          ∙ over (same_name name k) v e.1 (lookup (same_name name) es)
          ∙ ap (λ (b : Bool). cond (same_name name k) (Some v) (cond b (Some e.1) (lookup (same_name name) es))) (sym is)
      by false h rest =
          ap (λ (o : Option ℕ). cond (same_name name e.0) (Some e.1) o) rest
          ∙ apart (same_name name e.0) (same_name name k) v e.1 (lookup (same_name name) es) (λ a b. true≢false (sym (both_same name k e.0 a b) ∙ h))

  or_assoc : (o : Option ℕ) (b : Bool) (v : ℕ) (r : Option ℕ) → option_or o (cond b (Some v) r) ≡ option_or (option_or o (cond b (Some v) None)) r
  or_assoc None true v r = refl
  or_assoc None false v r = refl
  or_assoc (Some x) b v r = refl

  lookup_all : (ps es : List (List ℕ × ℕ)) → lookup (same_name name) (insert_all same_name es ps) ≡ option_or (last_value name ps) (lookup (same_name name) es)
  lookup_all [] es = refl
  lookup_all (p ∷ ps) es =
      lookup_all ps (insert_entry same_name es p.0 p.1)
      ∙ ap (option_or (last_value name ps)) (lookup_inserted es p.0 p.1)
      ∙ or_assoc (last_value name ps) (same_name name p.0) p.1 (lookup (same_name name) es)

or_none : (o : Option ℕ) → option_or o None ≡ o
or_none None = refl
or_none (Some x) = refl

after_stands : (answer : Adopted) (number : ℕ) (keys : List (List ℕ)) (values : List ℕ) (held : Held) (s : State) → Stands held s
    → Stands (held_after answer number keys values held) (table_after answer number keys values s)
after_stands IsAdopted number keys values held s h = record { number = refl; indices = λ name. lookup_all name (zip keys values) [] ∙ or_none (last_value name (zip keys values)) }
after_stands Same number keys values held s h = h
after_stands Older number keys values held s h = h

pub adopted_alike : (number : ℕ) (keys : List (List ℕ)) (values : List ℕ) (held : Held) (s : State) → Stands held s → Stands (held_adopted number keys values held) (adopted number keys values s)
adopted_alike number keys values held s h =
    subst (λ (a : Adopted). Stands (held_after a number keys values held) (adopted number keys values s)) (sym (ap (adopting number) h.number)) (after_stands (adopting number s.number) number keys values held s h)

-- the same for what a call answered and left
pub adopting_alike : (number : ℕ) (keys : List (List ℕ)) (values : List ℕ) (old new : Held) (answer : Adopted) (s : State) → Stands old s
    → answer ≡ adopting number old.number → new ≡ held_adopted number keys values old → (answer ≡ adopting number s.number) × Stands new (adopted number keys values s)
adopting_alike number keys values old new answer s h is left = (is ∙ ap (adopting number) h.number, rw left (adopted_alike number keys values old s h))

-- a loop's step: the key at an index, with the value there
pub one_more : (es new : List (List ℕ × ℕ)) (keys : List (List ℕ)) (values : List ℕ) (at : ℕ) (item key : List ℕ) (all : List (List ℕ × ℕ))
    → at < length keys → at < length values → item ≡ get_or keys at item → key ≡ item → new ≡ insert_entry same_name es key (get_or values at 0)
    → insert_all same_name es (zip (drop at keys) (drop at values)) ≡ all
    → insert_all same_name new (zip (drop (at + 1) keys) (drop (at + 1) values)) ≡ all
one_more es new keys values at item key all k v found copied is h =
    let next : at + 1 ≡ suc at = omega arith in
    let value = get_or values at 0 in
    ap (λ (n : ℕ). insert_all same_name new (zip (drop n keys) (drop n values))) next
    ∙ ap (λ (l : List (List ℕ × ℕ)). insert_all same_name l (zip (drop (suc at) keys) (drop (suc at) values))) (is ∙ ap (λ (x : List ℕ). insert_entry same_name es x value) copied)
    ∙ sym (ap (λ (l : List (List ℕ)). insert_all same_name es (zip l (value ∷ drop (suc at) values))) (drop_at keys at item k found))
    ∙ sym (ap (λ (l : List ℕ). insert_all same_name es (zip (drop at keys) l)) (drop_at values at value v (same_value values at v)))
    ∙ h
