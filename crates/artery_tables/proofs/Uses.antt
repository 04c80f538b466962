-- The counts that are kept, and the names counted that they stand for.
use Rattle.std.proofs.Common.{◌≡◌, ℕ, zero, suc, ◌+◌, ◌≤◌, ◌<◌, Bool, true, false, cond, List, [], ◌∷◌, ◌++◌, length, refl, sym, ◌∙◌, ap, subst, arith, true≢false, length-append}
use Rattle.std.specs.Prelude.{map, not, ◌||◌, min, Option, Some, None, is_some}
use Rattle.std.specs.List.{filter, list_any}
use Rattle.std.specs.Map.{lookup, set_value}
use Rattle.std.specs.Cmp.Lexicographic.{bytes_decides}
use Rattle.std.proofs.lemmas.List.{length-map, map-append}
use Rattle.indexmap.specs.IndexMap.{insert_entry}
use Rattle.artery_tables.specs.Names.{same_name}
use Rattle.artery_tables.specs.TopTable.{distinct, frequency, frequencies}
use Rattle.artery_tables.specs.InTables.{bumped}

same_is : (a b : List ℕ) → same_name a b ≡ true → a ≡ b
same_is a b h = (bytes_decides a b).0 h

same_self : (a : List ℕ) → same_name a a ≡ true
same_self a = (bytes_decides a a).1 refl

-- names that are not the same stay so in the other order
other_order : (a b : List ℕ) → same_name a b ≡ false → same_name b a ≡ false
other_order a b h = by (same_name b a) refl
  where
    by : (t : Bool) → same_name b a ≡ t → t ≡ false
    by true e = absurd (true≢false (sym (same_self a) ∙ ap (same_name a) (sym (same_is b a e)) ∙ h))
    by false e = refl

-- ---- distinct names

without : List ℕ → List (List ℕ) → List (List ℕ)
without name names = filter (λ other. not (same_name name other)) names

abbrev IsDistinct : List (List ℕ) → Type 0
IsDistinct [] = Unit {0}
IsDistinct (name ∷ names) = (list_any (same_name name) names ≡ false) × IsDistinct names

or_false : (a b : Bool) → a || b ≡ false → (a ≡ false) × (b ≡ false)
or_false true b h = absurd (true≢false h)
or_false false b h = (refl, h)

module _ (test : List ℕ → Bool) where
  any_kept : (p : List ℕ → Bool) (names : List (List ℕ)) → list_any p names ≡ false → list_any p (filter test names) ≡ false
  any_kept p [] h = refl
  any_kept p (name ∷ names) h = by (test name) (any_kept p names (or_false (p name) (list_any p names) h).1)
    where
      by : (b : Bool) → list_any p (filter test names) ≡ false → list_any p (cond b (name ∷ filter test names) (filter test names)) ≡ false
      by true rest = ap (λ (a : Bool). a || list_any p (filter test names)) (or_false (p name) (list_any p names) h).0 ∙ rest
      by false rest = rest

  distinct_kept : (names : List (List ℕ)) → IsDistinct names → IsDistinct (filter test names)
  distinct_kept [] h = tt
  distinct_kept (name ∷ names) h = by (test name) (distinct_kept names h.1)
    where
      by : (b : Bool) → IsDistinct (filter test names) → IsDistinct (cond b (name ∷ filter test names) (filter test names))
      by true rest = (any_kept (same_name name) names h.0, rest)
      by false rest = rest

none_left : (name : List ℕ) (names : List (List ℕ)) → list_any (same_name name) (filter (λ other. not (same_name name other)) names) ≡ false
none_left name [] = refl
none_left name (other ∷ names) = by (same_name name other) refl (none_left name names)
  where
    by : (b : Bool) → same_name name other ≡ b → list_any (same_name name) (filter (λ o. not (same_name name o)) names) ≡ false
        → list_any (same_name name) (cond (not b) (other ∷ filter (λ o. not (same_name name o)) names) (filter (λ o. not (same_name name o)) names)) ≡ false
    by true e rest = rest
    by false e rest = ap (λ (a : Bool). a || list_any (same_name name) (filter (λ o. not (same_name name o)) names)) e ∙ rest

pub distinct_is : (uses : List (List ℕ)) → IsDistinct (distinct uses)
distinct_is [] = tt
distinct_is (name ∷ names) = (none_left name (distinct names), distinct_kept (λ other. not (same_name name other)) (distinct names) (distinct_is names))

-- another name is kept
any_other : (name x : List ℕ) (names : List (List ℕ)) → same_name x name ≡ false → list_any (same_name x) (filter (λ other. not (same_name name other)) names) ≡ list_any (same_name x) names
any_other name x [] h = refl
any_other name x (other ∷ names) h = by (same_name name other) refl (any_other name x names h)
  where
    by : (b : Bool) → same_name name other ≡ b → list_any (same_name x) (filter (λ o. not (same_name name o)) names) ≡ list_any (same_name x) names
        → list_any (same_name x) (cond (not b) (other ∷ filter (λ o. not (same_name name o)) names) (filter (λ o. not (same_name name o)) names)) ≡ list_any (same_name x) (other ∷ names)
    by true e rest = rest ∙ sym (ap (λ (a : Bool). a || list_any (same_name x) names) (ap (same_name x) (sym (same_is name other e)) ∙ h))
    by false e rest = ap (λ (a : Bool). same_name x other || a) rest

-- a name is among the distinct ones where it is among all
pub any_distinct : (x : List ℕ) (uses : List (List ℕ)) → list_any (same_name x) (distinct uses) ≡ list_any (same_name x) uses
any_distinct x [] = refl
any_distinct x (name ∷ names) = by (same_name x name) refl (any_distinct x names)
  where
    by : (b : Bool) → same_name x name ≡ b → list_any (same_name x) (distinct names) ≡ list_any (same_name x) names → b || list_any (same_name x) (filter (λ o. not (same_name name o)) (distinct names)) ≡ b || list_any (same_name x) names
    by true e rest = refl
    by false e rest = any_other name x (distinct names) e ∙ rest

filter_append : {X : Type 0} (p : X → Bool) (xs ys : List X) → filter p (xs ++ ys) ≡ filter p xs ++ filter p ys
filter_append p [] ys = refl
filter_append p (x ∷ xs) ys = by (p x) (filter_append p xs ys)
  where
    by : (b : Bool) → filter p (xs ++ ys) ≡ filter p xs ++ filter p ys → cond b (x ∷ filter p (xs ++ ys)) (filter p (xs ++ ys)) ≡ cond b (x ∷ filter p xs) (filter p xs) ++ filter p ys
    by true e = ap (λ l. x ∷ l) e
    by false e = e

-- the distinct names after one more
pub distinct_more : (uses : List (List ℕ)) (x : List ℕ) → distinct (uses ++ x ∷ []) ≡ cond (list_any (same_name x) uses) (distinct uses) (distinct uses ++ x ∷ [])
distinct_more [] x = refl
distinct_more (name ∷ names) x =
    ap (λ l. name ∷ filter (λ o. not (same_name name o)) l) (distinct_more names x) ∙ by (same_name x name) refl (list_any (same_name x) names)
  where
    w : List (List ℕ)
    w = filter (λ o. not (same_name name o)) (distinct names)

    last : same_name name x ≡ true → filter (λ o. not (same_name name o)) (distinct names ++ x ∷ []) ≡ w
    last e = filter_append (λ o. not (same_name name o)) (distinct names) (x ∷ []) ∙ ap (λ (b : Bool). w ++ cond (not b) (x ∷ []) []) e ∙ nil w
      where
        nil : (l : List (List ℕ)) → l ++ [] ≡ l
        nil [] = refl
        nil (y ∷ ys) = ap (λ l. y ∷ l) (nil ys)

    more : same_name name x ≡ false → filter (λ o. not (same_name name o)) (distinct names ++ x ∷ []) ≡ w ++ x ∷ []
    more e = filter_append (λ o. not (same_name name o)) (distinct names) (x ∷ []) ∙ ap (λ (b : Bool). w ++ cond (not b) (x ∷ []) []) e

    by : (b : Bool) → same_name x name ≡ b → (c : Bool)
        → name ∷ filter (λ o. not (same_name name o)) (cond c (distinct names) (distinct names ++ x ∷ [])) ≡ cond (b || c) (name ∷ w) (name ∷ w ++ x ∷ [])
    by true e true = refl
    by true e false = ap (λ l. name ∷ l) (last (ap (same_name name) (same_is x name e) ∙ same_self name))
    by false e true = refl
    by false e false = ap (λ l. name ∷ l) (more (other_order x name e))

-- ---- frequencies

frequency_more : (uses : List (List ℕ)) (x name : List ℕ) → frequency (uses ++ x ∷ []) name ≡ cond (same_name name x) (min 4294967295 (frequency uses name + 1)) (frequency uses name)
frequency_more uses x name =
    ap (λ l. min 4294967295 (length l)) (filter_append (same_name name) uses (x ∷ [])) ∙ by (same_name name x)
  where
    f : List (List ℕ)
    f = filter (same_name name) uses

    by : (b : Bool) → min 4294967295 (length (f ++ cond b (x ∷ []) [])) ≡ cond b (min 4294967295 (min 4294967295 (length f) + 1)) (min 4294967295 (length f))
    by true = (let n : length (f ++ x ∷ []) ≡ length f + 1 = length-append f (x ∷ []) in capped (length (f ++ x ∷ [])) (length f) n)
      where
        capped : (a b : ℕ) → a ≡ b + 1 → min 4294967295 a ≡ min 4294967295 (min 4294967295 b + 1)
        capped a b e = grind (arith)
    by false = (let n : length (f ++ []) ≡ length f = length-append f [] ∙ plus (length f) in ap (min 4294967295) n)
      where
        plus : (n : ℕ) → n + 0 ≡ n
        plus n = omega arith

none_frequent : (x : List ℕ) (uses : List (List ℕ)) → list_any (same_name x) uses ≡ false → length (filter (same_name x) uses) ≡ 0
none_frequent x [] h = refl
none_frequent x (name ∷ names) h =
    let o = or_false (same_name x name) (list_any (same_name x) names) h in
    ap (λ (b : Bool). length (cond b (name ∷ filter (same_name x) names) (filter (same_name x) names))) o.0 ∙ none_frequent x names o.1

-- each name with what it is read as
abbrev paired : (List ℕ → ℕ) → List (List ℕ) → List (List ℕ × ℕ)
paired g names = map (λ name. (name, g name)) names

-- two readings of names that agree but at one
module _ (g h : List ℕ → ℕ) (x : List ℕ) (agree : (name : List ℕ) → same_name x name ≡ false → h name ≡ g name) where
  map_others : (names : List (List ℕ)) → list_any (same_name x) names ≡ false → paired h names ≡ paired g names
  map_others [] e = refl
  map_others (name ∷ names) e =
      let o = or_false (same_name x name) (list_any (same_name x) names) e in
      ap (λ (n : ℕ). (name, n) ∷ paired h names) (agree name o.0) ∙ ap (λ l. (name, g name) ∷ l) (map_others names o.1)

  set_map : (names : List (List ℕ)) → IsDistinct names → set_value (same_name x) (paired g names) (h x) ≡ paired h names
  set_map [] d = refl
  set_map (name ∷ names) d = by (same_name x name) refl (set_map names d.1)
    where
      rest_same : same_name x name ≡ true → paired h names ≡ paired g names
      rest_same e = map_others names (ap (λ (n : List ℕ). list_any (same_name n) names) (same_is x name e) ∙ d.0)

      by : (b : Bool) → same_name x name ≡ b → set_value (same_name x) (paired g names) (h x) ≡ paired h names
          → cond b ((name, h x) ∷ paired g names) ((name, g name) ∷ set_value (same_name x) (paired g names) (h x)) ≡ (name, h name) ∷ paired h names
      by true e rest = ap (λ (n : List ℕ). (name, h n) ∷ paired g names) (same_is x name e) ∙ ap (λ l. (name, h name) ∷ l) (sym (rest_same e))
      by false e rest = ap (λ (n : ℕ). (name, n) ∷ set_value (same_name x) (paired g names) (h x)) (sym (agree name e)) ∙ ap (λ l. (name, h name) ∷ l) rest

lookup_map : (x : List ℕ) (g : List ℕ → ℕ) (names : List (List ℕ)) → lookup (same_name x) (paired g names) ≡ cond (list_any (same_name x) names) (Some (g x)) None
lookup_map x g [] = refl
lookup_map x g (name ∷ names) = by (same_name x name) refl (lookup_map x g names)
  where
    by : (b : Bool) → same_name x name ≡ b → lookup (same_name x) (paired g names) ≡ cond (list_any (same_name x) names) (Some (g x)) None
        → cond b (Some (g name)) (lookup (same_name x) (paired g names)) ≡ cond (b || list_any (same_name x) names) (Some (g x)) None
    by true e rest = ap (λ n. Some (g n)) (sym (same_is x name e))
    by false e rest = rest

-- the count of a name is its frequency, where it is among those counted
pub count_is : (x : List ℕ) (uses : List (List ℕ)) → lookup (same_name x) (frequencies uses) ≡ cond (list_any (same_name x) uses) (Some (frequency uses x)) None
count_is x uses = lookup_map x (frequency uses) (distinct uses) ∙ ap (λ (b : Bool). cond b (Some (frequency uses x)) None) (any_distinct x uses)

-- one more use bumps the count
pub bumped_is : (x : List ℕ) (uses : List (List ℕ)) → bumped x (lookup (same_name x) (frequencies uses)) (frequencies uses) ≡ frequencies (uses ++ x ∷ [])
bumped_is x uses = ap (λ (o : Option ℕ). bumped x o (frequencies uses)) (count_is x uses) ∙ by (list_any (same_name x) uses) refl
  where
    g : List ℕ → ℕ
    g = frequency uses

    h : List ℕ → ℕ
    h = frequency (uses ++ x ∷ [])

    agree : (name : List ℕ) → same_name x name ≡ false → h name ≡ g name
    agree name e = frequency_more uses x name ∙ ap (λ (b : Bool). cond b (min 4294967295 (g name + 1)) (g name)) (other_order x name e)

    own : h x ≡ min 4294967295 (g x + 1)
    own = frequency_more uses x x ∙ ap (λ (b : Bool). cond b (min 4294967295 (g x + 1)) (g x)) (same_self x)

    by : (b : Bool) → list_any (same_name x) uses ≡ b → bumped x (cond b (Some (g x)) None) (frequencies uses) ≡ frequencies (uses ++ x ∷ [])
    by true e =
        ap (set_value (same_name x) (frequencies uses)) (sym own)
        ∙ set_map g h x agree (distinct uses) (distinct_is uses)
        ∙ sym (ap (paired h) (distinct_more uses x ∙ ap (λ (b : Bool). cond b (distinct uses) (distinct uses ++ x ∷ [])) e))
    by false e =
        let zero_is : length (filter (same_name x) uses) ≡ 0 = none_frequent x uses e in
        let first : h x ≡ 1 = own ∙ ap (λ (n : ℕ). min 4294967295 (min 4294967295 n + 1)) zero_is in
        ap (λ (n : ℕ). frequencies uses ++ (x, n) ∷ []) (sym first)
        ∙ ap (λ l. l ++ (x, h x) ∷ []) (sym (map_others g h x agree (distinct uses) (any_distinct x uses ∙ e)))
        ∙ sym (map-append (λ name. (name, h name)) (distinct uses) (x ∷ []))
        ∙ sym (ap (paired h) (distinct_more uses x ∙ ap (λ (b : Bool). cond b (distinct uses) (distinct uses ++ x ∷ [])) e))

-- a name that is not counted yet is inserted as the last
pub inserted_last : (name : List ℕ) (es : List (List ℕ × ℕ)) (v : ℕ) → lookup (same_name name) es ≡ None → insert_entry same_name es name v ≡ es ++ (name, v) ∷ []
inserted_last name [] v h = refl
inserted_last name (e ∷ es) v h = by (same_name name e.0) h (inserted_last name es v)
  where
    none_some : {P : Type 0} {x : ℕ} → Some x ≡ None → P
    none_some q = cc

    by : (b : Bool) → cond b (Some e.1) (lookup (same_name name) es) ≡ None → (lookup (same_name name) es ≡ None → insert_entry same_name es name v ≡ es ++ (name, v) ∷ []) → cond b ((e.0, v) ∷ es) (e ∷ insert_entry same_name es name v) ≡ e ∷ es ++ (name, v) ∷ []
    by true here rest = none_some here
    by false there rest = ap (λ l. e ∷ l) (rest there)
