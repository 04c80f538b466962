-- Watches that stand, by their ids, and what the lines of a node tell of them.
use Rattle.std.proofs.Common.{◌≡◌, ℕ, zero, suc, ◌+◌, ◌<◌, ◌≤◌, Bool, true, false, cond, List, [], ◌∷◌, ◌++◌, map, refl, ap, sym, ◌∙◌, subst, true≢false, arith}
use Rattle.std.proofs.lemmas.Bool.Decides.{nat_tests}
use Rattle.std.specs.Prelude.{◌&&◌, ◌||◌, ◌==◌, not, filter, Option, Some, None}
use Rattle.std.specs.Map.{lookup, remove_entry}
use Rattle.artery_base.specs.declared.address.Address.{Address}
use Rattle.artery_base.specs.declared.address.UniqueAddress.{UniqueAddress}
use Rattle.artery_journal.specs.declared.line.Line.{Line}
use Rattle.artery_journal.specs.declared.line.Line.TheVariants as lines
use Rattle.artery_judge.specs.Lines.{Entry, says_watched, says_unwatched, is_said}
use Rattle.artery_judge.specs.Laws.{is_watch, has_watched, has_ended, watches_again, ends_nothing}
use Rattle.artery_watch.specs.declared.pair.Pair.{Pair}
use Rattle.artery_watch.specs.Keys.{same_pair}
use Rattle.artery_watch.specs.Watcher.{watches_one_at, ids_at}
use Rattle.artery_alone.proofs.Names.{number_is, number_self, unique_self}

-- ---- how often an id is there

abbrev pub one : Bool → ℕ
one true = 1
one false = 0

abbrev pub count_ids : ℕ → List ℕ → ℕ
count_ids id [] = 0
count_ids id (x ∷ xs) = one (x == id) + count_ids id xs

abbrev pub count : ℕ → List (Pair × ℕ) → ℕ
count id [] = 0
count id (w ∷ ws) = one (w.1 == id) + count id ws

pub count_more : (id : ℕ) (p : Pair) (x : ℕ) (ws : List (Pair × ℕ)) → count id (ws ++ (p, x) ∷ []) ≡ count id ws + one (x == id)
count_more id p x [] = let e : one (x == id) + 0 ≡ 0 + one (x == id) = omega arith in e
count_more id p x (w ∷ ws) =
    let e : one (w.1 == id) + (count id ws + one (x == id)) ≡ (one (w.1 == id) + count id ws) + one (x == id) = omega arith in
    ap (λ n. one (w.1 == id) + n) (count_more id p x ws) ∙ e

some_is : (x y : ℕ) → Some x ≡ Some y → x ≡ y
some_is x y e = ap (λ (o : Option ℕ). elim o [ None ↦ x | Some z ↦ z ]) e

pub count_less : (id : ℕ) (p : Pair) (x : ℕ) (ws : List (Pair × ℕ)) → lookup (same_pair p) ws ≡ Some x → count id ws ≡ one (x == id) + count id (remove_entry (same_pair p) ws)
count_less id p x [] h = absurd cc
count_less id p x (w ∷ ws) h = by (same_pair p w.0) h (count_less id p x ws)
  where
    by : (b : Bool) → cond b (Some w.1) (lookup (same_pair p) ws) ≡ Some x → (lookup (same_pair p) ws ≡ Some x → count id ws ≡ one (x == id) + count id (remove_entry (same_pair p) ws))
        → one (w.1 == id) + count id ws ≡ one (x == id) + count id (cond b ws (w ∷ remove_entry (same_pair p) ws))
    by true e rest = ap (λ n. one (n == id) + count id ws) (some_is w.1 x e)
    by false e rest =
        let t : one (w.1 == id) + (one (x == id) + count id (remove_entry (same_pair p) ws)) ≡ one (x == id) + (one (w.1 == id) + count id (remove_entry (same_pair p) ws)) = omega arith in
        ap (λ n. one (w.1 == id) + n) (rest e) ∙ t

pub count_apart : (id : ℕ) (a : Address) (ws : List (Pair × ℕ)) → count id ws ≡ count_ids id (ids_at a ws) + count id (filter (λ w. not (watches_one_at a w)) ws)
count_apart id a [] = refl
count_apart id a (w ∷ ws) = by (watches_one_at a w) (count_apart id a ws)
  where
    by : (b : Bool) → count id ws ≡ count_ids id (ids_at a ws) + count id (filter (λ w. not (watches_one_at a w)) ws)
        → one (w.1 == id) + count id ws ≡ count_ids id (map (λ watch. watch.1) (cond b (w ∷ filter (watches_one_at a) ws) (filter (watches_one_at a) ws))) + count id (cond (not b) (w ∷ filter (λ w. not (watches_one_at a w)) ws) (filter (λ w. not (watches_one_at a w)) ws))
    by true rest =
        let t : one (w.1 == id) + (count_ids id (ids_at a ws) + count id (filter (λ w. not (watches_one_at a w)) ws)) ≡ (one (w.1 == id) + count_ids id (ids_at a ws)) + count id (filter (λ w. not (watches_one_at a w)) ws) = omega arith in
        ap (λ n. one (w.1 == id) + n) rest ∙ t
    by false rest =
        let t : one (w.1 == id) + (count_ids id (ids_at a ws) + count id (filter (λ w. not (watches_one_at a w)) ws)) ≡ count_ids id (ids_at a ws) + (one (w.1 == id) + count id (filter (λ w. not (watches_one_at a w)) ws)) = omega arith in
        ap (λ n. one (w.1 == id) + n) rest ∙ t

-- ---- what the lines tell

-- So many ids were given; each watch that stands has its own, was told, and not its end; an id that was not given was not told.
pub record Stand (me : UniqueAddress) (given : ℕ) (stands : ℕ → ℕ) (ls : List Entry) : Type 0 where
  pub once : (id : ℕ) → stands id ≤ 1
  pub told : (id : ℕ) → 1 ≤ stands id → has_watched me id ls ≡ true
  pub goes_on : (id : ℕ) → 1 ≤ stands id → has_ended me id ls ≡ false
  pub fresh : (id : ℕ) → given < id → has_watched me id ls ≡ false
  pub unended : (id : ℕ) → given < id → has_ended me id ls ≡ false

is_less : (n : ℕ) → n < n + 1
is_less n = omega arith

at_watch : (me : UniqueAddress) (x id : ℕ) → is_watch me id (me, x) ≡ (id == x)
at_watch me x id = ap (λ b. b && (id == x)) (unique_self me)

other_way : (x y : ℕ) → (x == y) ≡ (y == x)
other_way x y = grind (arith, nat_tests)

not_itself : (x y : ℕ) → x < y → (y == x) ≡ false
not_itself x y h = grind (arith, nat_tests)

module _ {me : UniqueAddress} {given : ℕ} {stands : ℕ → ℕ} {ls : List Entry} where
  -- An id that was not given stands for no watch.
  unused : Stand me given stands ls → (id : ℕ) → given < id → stands id ≡ 0
  unused s id h = by (stands id) refl
    where
      by : (n : ℕ) → stands id ≡ n → n ≡ 0
      by zero e = refl
      by (suc n) e = absurd (true≢false (sym (s.told id (let t : 1 ≤ suc n = omega arith in subst (λ k. 1 ≤ k) (sym e) t)) ∙ s.fresh id h))

  -- The next id is given, and a line tells so.
  pub one_more : (m : ℕ) (watcher watchee : List ℕ) → Stand me given stands ls → Stand me (given + 1) (λ id. stands id + one (given + 1 == id)) ((Some m, lines.Watched me (given + 1) watcher watchee) ∷ ls)
  one_more m watcher watchee s = record {
    once = λ id. once_by id (given + 1 == id) refl;
    told = λ id h. ap (λ b. b || has_watched me id ls) (at_watch me (given + 1) id ∙ other_way id (given + 1)) ∙ told_by id (given + 1 == id) refl h;
    goes_on = λ id h. goes_by id (given + 1 == id) refl h;
    fresh = λ id h. ap (λ b. b || has_watched me id ls) (at_watch me (given + 1) id ∙ not_itself (given + 1) id h) ∙ s.fresh id (omega (arith, h));
    unended = λ id h. s.unended id (omega (arith, h));
  }
    where
      once_by : (id : ℕ) (b : Bool) → (given + 1 == id) ≡ b → stands id + one b ≤ 1
      once_by id true e =
          let n : stands id ≡ 0 = unused s id (subst (λ k. given < k) (number_is (given + 1) id e) (is_less given)) in omega (arith, n)
      once_by id false e = let n : stands id ≤ 1 = s.once id in omega (arith, n)

      told_by : (id : ℕ) (b : Bool) → (given + 1 == id) ≡ b → 1 ≤ stands id + one b → (b || has_watched me id ls) ≡ true
      told_by id true e h = refl
      told_by id false e h = s.told id (omega (arith, h))

      goes_by : (id : ℕ) (b : Bool) → (given + 1 == id) ≡ b → 1 ≤ stands id + one b → has_ended me id ls ≡ false
      goes_by id true e h = s.unended id (subst (λ k. given < k) (number_is (given + 1) id e) (is_less given))
      goes_by id false e h = s.goes_on id (omega (arith, h))

  pub new_is_lawful : Stand me given stands ls → (watches_again ls (Some (me, given + 1)) || false) ≡ false
  new_is_lawful s = ap (λ b. b || false) (s.fresh (given + 1) (is_less given))

  -- A watch that stands has ended, and a line tells so.
  pub one_less : (m : ℕ) (x : ℕ) (rest : ℕ → ℕ) (line : Line) → says_watched line ≡ None → says_unwatched line ≡ Some (me, x) → ((id : ℕ) → stands id ≡ one (x == id) + rest id) → Stand me given stands ls → Stand me given rest ((Some m, line) ∷ ls)
  one_less m x rest line none says less s = record {
    once = λ id. let n : stands id ≤ 1 = s.once id in let e : stands id ≡ one (x == id) + rest id = less id in omega (arith, n, e);
    told = λ id h. ap (λ o. is_said (is_watch me id) o || has_watched me id ls) none ∙ s.told id (let e : stands id ≡ one (x == id) + rest id = less id in omega (arith, h, e));
    goes_on = λ id h. ended_is id ∙ goes_by id (x == id) (less id) h;
    fresh = λ id h. ap (λ o. is_said (is_watch me id) o || has_watched me id ls) none ∙ s.fresh id h;
    unended = λ id h. ended_is id ∙ unended_by id (x == id) refl h;
  }
    where
      ended_is : (id : ℕ) → has_ended me id ((Some m, line) ∷ ls) ≡ ((x == id) || has_ended me id ls)
      ended_is id = ap (λ o. is_said (is_watch me id) o || has_ended me id ls) says ∙ ap (λ b. b || has_ended me id ls) (at_watch me x id ∙ other_way id x)

      goes_by : (id : ℕ) (b : Bool) → stands id ≡ one b + rest id → 1 ≤ rest id → (b || has_ended me id ls) ≡ false
      goes_by id true e h = absurd (let n : stands id ≤ 1 = s.once id in omega (arith, n, e, h))
      goes_by id false e h = s.goes_on id (omega (arith, e, h))

      unended_by : (id : ℕ) (b : Bool) → (x == id) ≡ b → given < id → (b || has_ended me id ls) ≡ false
      unended_by id true t h = absurd (let n : stands id ≡ 0 = unused s id h in let e : stands id ≡ one (x == id) + rest id = less id in let k : stands id ≡ 1 + rest id = e ∙ ap (λ b. one b + rest id) t in omega (arith, n, k))
      unended_by id false t h = s.unended id h

  pub end_is_lawful : (x : ℕ) (rest : ℕ → ℕ) → ((id : ℕ) → stands id ≡ one (x == id) + rest id) → Stand me given stands ls → ends_nothing ls (Some (me, x)) ≡ false
  end_is_lawful x rest less s =
      let e : stands x ≡ 1 + rest x = less x ∙ ap (λ b. one b + rest x) (number_self x) in
      let h : 1 ≤ stands x = omega (arith, e) in
      rw (s.told x h, s.goes_on x h) refl
