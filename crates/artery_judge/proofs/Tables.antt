-- What a change of one entry is to a look-up by another test.
use Rattle.std.proofs.Common.{◌≡◌, ℕ, Bool, true, false, ◌||◌, List, [], ◌∷◌, ◌++◌, refl, ap, sym, ◌∙◌, subst, true≢false}
use Rattle.std.specs.Prelude.{Option, Some, None, unwrap_or, if◌then◌else◌}
use Rattle.std.specs.List.{list_any}
use Rattle.std.specs.Map.{lookup, set_value}
use Rattle.indexmap.specs.IndexMap.{insert_entry}
use Rattle.indexmap.specs.IndexSet.{insert_key}
use Rattle.artery_judge.specs.declared.nodes.Node.{Node}
use Rattle.artery_judge.specs.Lines.{with_rest}
use Rattle.artery_judge.specs.Kept.{noted}
use Rattle.artery_judge.specs.Views.{queue_at}

-- a test q finds the key of a test t exactly where c holds
pub record Fits {K : Type 0} (t q : K → Bool) (c : Bool) : Type 0 where
  pub hit : c ≡ true → q ≡ t
  pub miss : (k : K) → t k ≡ true → q k ≡ c

module _ {K X : Type 0} where
  set_hit : (t : K → Bool) (es : List (K × X)) (v w : X) → lookup t es ≡ Some v → lookup t (set_value t es w) ≡ Some w
  set_hit t [] v w h = cc
  set_hit t (e ∷ es) v w h = by (t e.0) refl (set_hit t es v w) h
    where
      by : (b : Bool) → t e.0 ≡ b → (lookup t es ≡ Some v → lookup t (set_value t es w) ≡ Some w) → (if b then Some e.1 else lookup t es) ≡ Some v → lookup t (if b then (e.0, w) ∷ es else e ∷ set_value t es w) ≡ Some w
      by true is rest found = rw is refl
      by false is rest found = rw is (rest found)

  set_miss : (t q : K → Bool) → ((k : K) → t k ≡ true → q k ≡ false) → (es : List (K × X)) (w : X) → lookup q (set_value t es w) ≡ lookup q es
  set_miss t q apart [] w = refl
  set_miss t q apart (e ∷ es) w = by (t e.0) refl (set_miss t q apart es w)
    where
      by : (b : Bool) → t e.0 ≡ b → lookup q (set_value t es w) ≡ lookup q es → lookup q (if b then (e.0, w) ∷ es else e ∷ set_value t es w) ≡ (if q e.0 then Some e.1 else lookup q es)
      by true is rest = rw (apart e.0 is) refl
      by false is rest = ap (λ (r : Option _). if q e.0 then Some e.1 else r) rest

  pub set_one : (t q : K → Bool) (c : Bool) → Fits t q c → (es : List (K × X)) (v w : X) → lookup t es ≡ Some v → lookup q (set_value t es w) ≡ (if c then Some w else lookup q es)
  set_one t q true f es v w h = subst (λ (p : K → Bool). lookup p (set_value t es w) ≡ Some w) (sym (f.hit refl)) (set_hit t es v w h)
  set_one t q false f es v w h = set_miss t q f.miss es w

  insert_hit : (eq : K → K → Bool) (key : K) → eq key key ≡ true → (es : List (K × X)) (w : X) → lookup (eq key) es ≡ None → lookup (eq key) (insert_entry eq es key w) ≡ Some w
  insert_hit eq key same [] w h = rw same refl
  insert_hit eq key same (e ∷ es) w h = by (eq key e.0) refl (insert_hit eq key same es w) h
    where
      by : (b : Bool) → eq key e.0 ≡ b → (lookup (eq key) es ≡ None → lookup (eq key) (insert_entry eq es key w) ≡ Some w) → (if b then Some e.1 else lookup (eq key) es) ≡ None → lookup (eq key) (if b then (e.0, w) ∷ es else e ∷ insert_entry eq es key w) ≡ Some w
      by true is rest found = cc
      by false is rest found = rw is (rest found)

  insert_miss : (eq : K → K → Bool) (key : K) (q : K → Bool) → ((k : K) → eq key k ≡ true → q k ≡ false) → q key ≡ false → (es : List (K × X)) (w : X) → lookup q (insert_entry eq es key w) ≡ lookup q es
  insert_miss eq key q apart at [] w = rw at refl
  insert_miss eq key q apart at (e ∷ es) w = by (eq key e.0) refl (insert_miss eq key q apart at es w)
    where
      by : (b : Bool) → eq key e.0 ≡ b → lookup q (insert_entry eq es key w) ≡ lookup q es → lookup q (if b then (e.0, w) ∷ es else e ∷ insert_entry eq es key w) ≡ (if q e.0 then Some e.1 else lookup q es)
      by true is rest = rw (apart e.0 is) refl
      by false is rest = ap (λ (r : Option _). if q e.0 then Some e.1 else r) rest

  pub insert_one : (eq : K → K → Bool) (key : K) (q : K → Bool) (c : Bool) → Fits (eq key) q c → eq key key ≡ true → (es : List (K × X)) (w : X) → lookup (eq key) es ≡ None → lookup q (insert_entry eq es key w) ≡ (if c then Some w else lookup q es)
  insert_one eq key q true f same es w h = subst (λ (p : K → Bool). lookup p (insert_entry eq es key w) ≡ Some w) (sym (f.hit refl)) (insert_hit eq key same es w h)
  insert_one eq key q false f same es w h = insert_miss eq key q f.miss (f.miss key same) es w

  -- the test finds what the key's own test finds
  found_too : (t q : K → Bool) → q ≡ t → (es : List (K × X)) (o : Option X) → lookup t es ≡ o → lookup q es ≡ o
  found_too t q is es o h = subst (λ (p : K → Bool). lookup p es ≡ o) (sym is) h

abbrev more : {X : Type 0} → Bool → X → List X
more c r = if c then r ∷ [] else []

or_false : (b : Bool) → b ≡ (b || false)
or_false true = refl
or_false false = refl

turned : (b c : Bool) → (b || c) ≡ (c || b)
turned true true = refl
turned true false = refl
turned false true = refl
turned false false = refl

or_true : (b : Bool) → (b || true) ≡ true
or_true true = refl
or_true false = refl

module _ {K X : Type 0} where
  pub pushed_there : (t q : K → Bool) (c : Bool) → Fits t q c → (es new : List (K × List X)) (v w : List X) (r : X) → lookup t es ≡ Some v → new ≡ set_value t es w → w ≡ v ++ r ∷ [] → queue_at q new ≡ with_rest (queue_at q es) (more c r)
  pushed_there t q c f es new v w r there is longer = rw (is, longer) (by c f)
    where
      by : (c : Bool) → Fits t q c → queue_at q (set_value t es (v ++ r ∷ [])) ≡ with_rest (queue_at q es) (more c r)
      by true f = rw (set_one t q true f es v (v ++ r ∷ []) there, found_too t q (f.hit refl) es (Some v) there) refl
      by false f = rw (set_one t q false f es v (v ++ r ∷ []) there) refl

  pub pushed_new : (eq : K → K → Bool) (key : K) (q : K → Bool) (c : Bool) → Fits (eq key) q c → eq key key ≡ true → (es new : List (K × List X)) (w : List X) (r : X) → lookup (eq key) es ≡ None → new ≡ insert_entry eq es key w → w ≡ r ∷ [] → queue_at q new ≡ with_rest (queue_at q es) (more c r)
  pushed_new eq key q c f own es new w r gone is one = rw (is, one) (by c f)
    where
      by : (c : Bool) → Fits (eq key) q c → queue_at q (insert_entry eq es key (r ∷ [])) ≡ with_rest (queue_at q es) (more c r)
      by true f = rw (insert_one eq key q true f own es (r ∷ []) gone, found_too (eq key) q (f.hit refl) es None gone) refl
      by false f = rw (insert_one eq key q false f own es (r ∷ []) gone) refl

  pub changed_there : (f : List X → List X) (t q : K → Bool) (c : Bool) → Fits t q c → (es new : List (K × List X)) (v w : List X) → lookup t es ≡ Some v → new ≡ set_value t es w → w ≡ f v → queue_at q new ≡ (if c then f (queue_at q es) else queue_at q es)
  changed_there f t q c fits es new v w there is changed = rw (is, changed) (by c fits)
    where
      by : (c : Bool) → Fits t q c → queue_at q (set_value t es (f v)) ≡ (if c then f (queue_at q es) else queue_at q es)
      by true g = rw (set_one t q true g es v (f v) there, found_too t q (g.hit refl) es (Some v) there) refl
      by false g = rw (set_one t q false g es v (f v) there) refl

  pub changed_nowhere : (f : List X → List X) → f [] ≡ [] → (t q : K → Bool) (c : Bool) → Fits t q c → (es : List (K × List X)) → lookup t es ≡ None → queue_at q es ≡ (if c then f (queue_at q es) else queue_at q es)
  changed_nowhere f none t q true g es gone = rw (found_too t q (g.hit refl) es None gone) (sym none)
  changed_nowhere f none t q false g es gone = refl

module _ {K : Type 0} where
  pub noted_there : (t q : K → Bool) (c : Bool) → Fits t q c → (es new : List (K × Node)) (v w : Node) (s : Bool) (m : ℕ) → lookup t es ≡ Some v → new ≡ set_value t es w → w ≡ noted s m (Some v) → lookup q new ≡ (if c then Some (noted s m (lookup q es)) else lookup q es)
  noted_there t q c f es new v w s m there is one = rw (is, one) (by c f)
    where
      by : (c : Bool) → Fits t q c → lookup q (set_value t es (noted s m (Some v))) ≡ (if c then Some (noted s m (lookup q es)) else lookup q es)
      by true f = rw (found_too t q (f.hit refl) es (Some v) there) (set_one t q true f es v (noted s m (Some v)) there)
      by false f = set_one t q false f es v (noted s m (Some v)) there

  pub noted_new : (eq : K → K → Bool) (key : K) (q : K → Bool) (c : Bool) → Fits (eq key) q c → eq key key ≡ true → (es new : List (K × Node)) (s : Bool) (m : ℕ) → lookup (eq key) es ≡ None → new ≡ insert_entry eq es key (noted s m None) → lookup q new ≡ (if c then Some (noted s m (lookup q es)) else lookup q es)
  noted_new eq key q c f own es new s m gone is = rw is (by c f)
    where
      by : (c : Bool) → Fits (eq key) q c → lookup q (insert_entry eq es key (noted s m None)) ≡ (if c then Some (noted s m (lookup q es)) else lookup q es)
      by true f = rw (found_too (eq key) q (f.hit refl) es None gone) (insert_one eq key q true f own es (noted s m None) gone)
      by false f = insert_one eq key q false f own es (noted s m None) gone

  any_miss : (t q : K → Bool) → ((k : K) → t k ≡ true → q k ≡ true) → (ks : List K) → list_any t ks ≡ true → list_any q ks ≡ true
  any_miss t q same [] h = absurd (true≢false (sym h))
  any_miss t q same (k ∷ ks) h = by (t k) refl (any_miss t q same ks) h
    where
      by : (b : Bool) → t k ≡ b → (list_any t ks ≡ true → list_any q ks ≡ true) → (b || list_any t ks) ≡ true → (q k || list_any q ks) ≡ true
      by true is rest there = rw (same k is) refl
      by false is rest there = rw (rest there) (or_true (q k))

  any_last : (q : K → Bool) (ks : List K) (k : K) (c : Bool) → q k ≡ c → list_any q (ks ++ k ∷ []) ≡ (list_any q ks || c)
  any_last q [] k c is = sym (or_false (q k)) ∙ is
  any_last q (x ∷ xs) k c is = by (q x) (any_last q xs k c is)
    where
      by : (b : Bool) → list_any q (xs ++ k ∷ []) ≡ (list_any q xs || c) → (b || list_any q (xs ++ k ∷ [])) ≡ ((b || list_any q xs) || c)
      by true rest = refl
      by false rest = rest

  pub added : (eq : K → K → Bool) (key : K) (q : K → Bool) (c : Bool) → Fits (eq key) q c → eq key key ≡ true → (ks new : List K) → new ≡ insert_key eq ks key → list_any q new ≡ (c || list_any q ks)
  added eq key q c f own ks new is = rw is (by (list_any (eq key) ks) refl) ∙ turned (list_any q ks) c
    where
      there : (c : Bool) → Fits (eq key) q c → list_any (eq key) ks ≡ true → list_any q ks ≡ (list_any q ks || c)
      there true f h = rw (any_miss (eq key) q f.miss ks h) refl
      there false f h = or_false (list_any q ks)

      by : (b : Bool) → list_any (eq key) ks ≡ b → list_any q (if b then ks else ks ++ key ∷ []) ≡ (list_any q ks || c)
      by true h = there c f h
      by false h = any_last q ks key c (f.miss key own)
