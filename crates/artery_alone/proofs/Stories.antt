-- What holds of a node by itself after each input, and what follows of the lines in the order told.
use Rattle.std.proofs.Common.{zero, suc, ◌+◌, ◌-◌, length, map, cond, ◌≡◌, ◌≤◌, ℕ, Bool, true, false, List, [], ◌∷◌, ◌++◌, refl, ap, sym, ◌∙◌, subst, arith}
use Rattle.std.proofs.lemmas.Bool.Decides.{nat_tests}
use Rattle.artery_journal.specs.declared.line.Line.{Line}
use Rattle.artery_machine.specs.Ticking.{numbers_from}
use Rattle.std.specs.Prelude.{nat_lt, ◌&&◌, ◌||◌, Option, Some, None}
use Rattle.std.specs.List.{list_any}
use Rattle.artery_base.specs.declared.address.UniqueAddress.{UniqueAddress}
use Rattle.artery_journal.specs.declared.line.Line.TheVariants as lines
use Rattle.artery_judge.specs.Lines.{Way, Rest, rest_if, says_took, Entry, same, is_way, of, says_closed, deals, says_watched, says_unwatched, is_stopped, is_said}
use Rattle.artery_judge.specs.Laws.{taken_from, has_later, is_above, breaks_closed, watches_again, ends_nothing, is_watch}
use Rattle.artery_machine.specs.declared.input.Input.{Input}
use Rattle.artery_machine.specs.Deeds.{Deed, Dials, Writes, Hangs, Tells}
use Rattle.artery_machine.specs.Parts.{Parts}
use Rattle.artery_machine.specs.Node.{Node}
use Rattle.artery_machine.specs.Doing.{listed, Doing}
use Rattle.artery_machine.specs.Reacting.{reacts, step}
use Rattle.artery_laws.proofs.Over.{SinkOver}
use Rattle.artery_laws.proofs.OverTicking.{reacts_over}
use Rattle.artery_laws.proofs.Same.{same as same_parts, node_same}
use Rattle.artery_alone.specs.Alone.{AreNumbered, numbers_taken, moment_then, AreInOrder, moment_law, lines_of, Alone, begun, given, given_all, story, Law, close_law, watch_law, stopped_law, Keeps}
use Rattle.artery_alone.proofs.Names.{unique_self}
use Rattle.artery_alone.proofs.Journals.{noted, noting, Unbroken}
use Rattle.artery_alone.proofs.Taking.{Counting, down, took_numbers}
use Rattle.artery_alone.proofs.Facts.{Good}
use Rattle.artery_alone.proofs.Keeping.{reacts_keeps}

-- ---- lines in the order told

-- Lines before others, the last told first.
abbrev pub onto : List Entry → List Entry → List Entry
onto [] ls = ls
onto (e ∷ es) ls = onto es (e ∷ ls)

pub onto_both : (xs ys ls : List Entry) → onto (xs ++ ys) ls ≡ onto ys (onto xs ls)
onto_both [] ys ls = refl
onto_both (x ∷ xs) ys ls = onto_both xs ys (x ∷ ls)

or_assoc : (a b c : Bool) → ((a || b) || c) ≡ (a || (b || c))
or_assoc true b c = refl
or_assoc false b c = refl

or_comm : (a b : Bool) → (a || b) ≡ (b || a)
or_comm true true = refl
or_comm true false = refl
or_comm false true = refl
or_comm false false = refl

or_false : (a : Bool) → (a || false) ≡ a
or_false true = refl
or_false false = refl

any_onto : (test : Entry → Bool) (xs ls : List Entry) → list_any test (onto xs ls) ≡ (list_any test xs || list_any test ls)
any_onto test [] ls = refl
any_onto test (x ∷ xs) ls =
    any_onto test xs (x ∷ ls)
    ∙ sym (or_assoc (list_any test xs) (test x) (list_any test ls))
    ∙ ap (λ b. b || list_any test ls) (or_comm (list_any test xs) (test x))

any_turned : (test : Entry → Bool) (xs : List Entry) → list_any test (onto xs []) ≡ list_any test xs
any_turned test xs = any_onto test xs [] ∙ or_false (list_any test xs)

unbroken_before : (law : Law) (after ls : List Entry) → Unbroken law (onto after ls) → Unbroken law ls
unbroken_before law [] ls h = h
unbroken_before law (e ∷ after) ls h = (unbroken_before law after (e ∷ ls) h).1

-- A law that does not ask in which order the lines before were told.
pub record Turns (law : Law) : Type 0 where
  pub turned : (ls : List Entry) (e : Entry) → law (onto ls []) e ≡ law ls e

pub keeps_told : (law : Law) → Turns law → (ls : List Entry) → Unbroken law (onto ls []) → Keeps law ls
keeps_told law t ls h before after e is =
    sym (t.turned before e)
    ∙ (unbroken_before law after (e ∷ onto before []) (subst (Unbroken law) (ap (λ x. onto x []) is ∙ onto_both before (e ∷ after) []) h)).0

pub close_turns : Turns close_law
close_turns = record { turned = λ ls e. by ls (deals e.1) }
  where
    by : (ls : List Entry) (o : Option (UniqueAddress × UniqueAddress)) → breaks_closed (onto ls []) o ≡ breaks_closed ls o
    by ls None = refl
    by ls (Some (a, b)) = any_turned (λ e. is_said (is_way a b) (says_closed e.1)) ls

pub watch_turns : Turns watch_law
watch_turns = record { turned = λ ls e. ap (λ b. b || ends_nothing (onto ls []) (says_unwatched e.1)) (again ls (says_watched e.1)) ∙ ap (λ b. watches_again ls (says_watched e.1) || b) (nothing ls (says_unwatched e.1)) }
  where
    again : (ls : List Entry) (o : Option (UniqueAddress × ℕ)) → watches_again (onto ls []) o ≡ watches_again ls o
    again ls None = refl
    again ls (Some (a, id)) = any_turned (λ e. is_said (is_watch a id) (says_watched e.1)) ls

    nothing : (ls : List Entry) (o : Option (UniqueAddress × ℕ)) → ends_nothing (onto ls []) o ≡ ends_nothing ls o
    nothing ls None = refl
    nothing ls (Some (a, id)) =
        rw (any_turned (λ e. is_said (is_watch a id) (says_watched e.1)) ls, any_turned (λ e. is_said (is_watch a id) (says_unwatched e.1)) ls) refl

pub stopped_turns : Turns stopped_law
stopped_turns = record { turned = λ ls e. rw (any_turned (λ x. same (of e.1) (of x.1) && is_stopped x.1) ls, any_turned (λ x. same (of e.1) (of x.1)) ls) refl }

pub moment_turns : Turns moment_law
moment_turns = record { turned = λ ls e. by ls e.0 e.1 }
  where
    by : (ls : List Entry) (o : Option ℕ) (line : Line) → moment_law (onto ls []) (o, line) ≡ moment_law ls (o, line)
    by ls None line = refl
    by ls (Some m) line = any_turned (λ e. same (of line) (of e.1) && is_above m e.0) ls

-- ---- a step with its lines

-- The lines of deeds before others.
abbrev pub noted_all : ℕ → List Entry → List Deed → List Entry
noted_all m ls [] = ls
noted_all m ls (deed ∷ deeds) = noted_all m (noted m deed ls) deeds

noted_last : (m : ℕ) (ls : List Entry) (deeds : List Deed) (deed : Deed) → noted m deed (noted_all m ls deeds) ≡ noted_all m ls (deeds ++ deed ∷ [])
noted_last m ls [] deed = refl
noted_last m ls (x ∷ deeds) deed = noted_last m (noted m x ls) deeds deed

noted_told : (m : ℕ) (ls : List Entry) (deeds : List Deed) → noted_all m ls deeds ≡ onto (lines_of m deeds) ls
noted_told m ls [] = refl
noted_told m ls (Dials dial address ∷ deeds) = noted_told m ls deeds
noted_told m ls (Writes dial writing ∷ deeds) = noted_told m ls deeds
noted_told m ls (Hangs conn ∷ deeds) = noted_told m ls deeds
noted_told m ls (Tells line ∷ deeds) = noted_told m ((Some m, line) ∷ ls) deeds

abbrev noted_behind : (m : ℕ) → List Entry → SinkOver listed (noting m)
noted_behind m ls = record { to = λ deeds. noted_all m ls deeds; told = λ deed deeds. noted_last m ls deeds deed }

step_noted : {P : Parts} (m : ℕ) (input : Input) (n : Node P) (ls : List Entry) → reacts {P = P} {E = noting m} input (record { node = n; deeds = ls }) ≡ record { node = (step input n).node; deeds = noted_all m ls (step input n).deeds }
step_noted {P} m input n ls =
    ap (λ (x : Node P). reacts {P = P} {E = noting m} input (record { node = x; deeds = ls })) (sym (node_same P n))
    ∙ (reacts_over (same_parts P) (noted_behind m ls) input).on (record { node = n; deeds = [] })
    ∙ ap (λ (x : Node P). record { node = x; deeds = noted_all m ls (step input n).deeds }) (node_same P (step input n).node)

-- ---- a node by itself

-- What holds of a node by itself and its lines.
abbrev pub Holds : {P : Parts} → Counting P → UniqueAddress → Alone P → Type 0
Holds {P} tally me a = Good {P = P} {m = a.node.moment} tally me (record { node = a.node; deeds = onto a.lines [] })

and_false : (b : Bool) → (b && false) ≡ false
and_false true = refl
and_false false = refl

module _ {P : Parts} {tally : Counting P} {me : UniqueAddress} where
  begun_holds : Holds tally me (begun {P = P} me)
  begun_holds = record {
    mine = refl;
    moment = refl;
    alive = λ a uid h. absurd cc;
    shut = λ v h. refl;
    stand = record { once = λ id. omega arith; told = λ id h. absurd (omega (arith, h)); goes_on = λ id h. absurd (omega (arith, h)); fresh = λ id h. refl; unended = λ id h. refl };
    sound = record { running = λ a. ap (λ b. b || false) (and_false (same a me)); close = (refl, tt); watch = (refl, tt); stopped = (refl, tt) };
    own = (unique_self me, tt);
    took = record { sane = tally.sane_none; keys = tally.keys_none; known = tt; numbered = λ b. ap down (sym (tally.last_none b)) };
  }

  -- The moment of a node behind an input.
  pub moment_is : (input : Input) (a : Alone P) → Holds tally me a → (step input a.node).node.moment ≡ moment_then input a.node.moment
  moment_is input a h =
      ap (λ (d : Doing P (noting (moment_then input a.node.moment))). d.node.moment) (sym (step_noted (moment_then input a.node.moment) input a.node (onto a.lines [])))
      ∙ (reacts_keeps input a.node (onto a.lines []) h).moment

  pub given_holds : (input : Input) (a : Alone P) → Holds tally me a → Holds tally me (given input a)
  given_holds input a h =
      let n : Node P = (step input a.node).node in
      let ls : List Entry = onto a.lines [] in
      let g : Good {P = P} {m = moment_then input a.node.moment} tally me (record { node = n; deeds = noted_all (moment_then input a.node.moment) ls (step input a.node).deeds }) =
      subst (Good {P = P} {m = moment_then input a.node.moment} tally me) (step_noted (moment_then input a.node.moment) input a.node ls) (reacts_keeps input a.node ls h) in
      let k : Good {P = P} {m = n.moment} tally me (record { node = n; deeds = noted_all n.moment ls (step input a.node).deeds }) =
      subst (λ x. Good {P = P} {m = x} tally me (record { node = n; deeds = noted_all x ls (step input a.node).deeds })) (sym g.moment) g in
      subst (λ (x : List Entry). Good {P = P} {m = n.moment} tally me (record { node = n; deeds = x })) (noted_told n.moment ls (step input a.node).deeds ∙ sym (onto_both a.lines (lines_of n.moment (step input a.node).deeds) [])) k

  all_holds : (inputs : List Input) (a : Alone P) → Holds tally me a → Holds tally me (given_all inputs a)
  all_holds [] a h = h
  all_holds (input ∷ inputs) a h = all_holds inputs (given input a) (given_holds input a h)

pub holds : (P : Parts) (tally : Counting P) (me : UniqueAddress) (inputs : List Input) → Holds {P = P} tally me (given_all inputs (begun me))
holds P tally me inputs = all_holds inputs (begun me) begun_holds

pub keeps_watch : (P : Parts) (tally : Counting P) (me : UniqueAddress) (inputs : List Input) → Keeps watch_law (story P me inputs)
keeps_watch P tally me inputs = keeps_told watch_law watch_turns (story P me inputs) (holds P tally me inputs).sound.watch

pub keeps_close : (P : Parts) (tally : Counting P) (me : UniqueAddress) (inputs : List Input) → Keeps close_law (story P me inputs)
keeps_close P tally me inputs = keeps_told close_law close_turns (story P me inputs) (holds P tally me inputs).sound.close

pub keeps_stopped : (P : Parts) (tally : Counting P) (me : UniqueAddress) (inputs : List Input) → Keeps stopped_law (story P me inputs)
keeps_stopped P tally me inputs = keeps_told stopped_law stopped_turns (story P me inputs) (holds P tally me inputs).sound.stopped

-- ---- moments

-- Lines whose moments do not fall, none of them above m.
pub record Timely (m : ℕ) (ls : List Entry) : Type 0 where
  pub past : (a : UniqueAddress) → has_later a m ls ≡ false
  pub moment : Unbroken moment_law ls

not_above : (m : ℕ) → nat_lt m m ≡ false
not_above m = grind (arith, nat_tests)

not_later : (m k n : ℕ) → m ≤ k → nat_lt m n ≡ false → nat_lt k n ≡ false
not_later m k n h e = grind (arith, nat_tests)

later_less : (a : UniqueAddress) (m k : ℕ) → m ≤ k → (ls : List Entry) → has_later a m ls ≡ false → has_later a k ls ≡ false
later_less a m k h [] e = refl
later_less a m k h ((None, line) ∷ ls) e = by (same a (of line)) e (later_less a m k h ls)
  where
    by : (b : Bool) → ((b && false) || has_later a m ls) ≡ false → (has_later a m ls ≡ false → has_later a k ls ≡ false) → ((b && false) || has_later a k ls) ≡ false
    by true e rest = rest e
    by false e rest = rest e
later_less a m k h ((Some n, line) ∷ ls) e = by (same a (of line)) (nat_lt m n) refl e (later_less a m k h ls)
  where
    by : (b c : Bool) → nat_lt m n ≡ c → ((b && c) || has_later a m ls) ≡ false → (has_later a m ls ≡ false → has_later a k ls ≡ false) → ((b && nat_lt k n) || has_later a k ls) ≡ false
    by false c t e rest = rest e
    by true true t e rest = absurd cc
    by true false t e rest = ap (λ x. x || has_later a k ls) (not_later m k n h t) ∙ rest e

timely_later : (m k : ℕ) → m ≤ k → (ls : List Entry) → Timely m ls → Timely k ls
timely_later m k h ls t = record { past = λ a. later_less a m k h ls (t.past a); moment = t.moment }

timely_line : (m : ℕ) (line : Line) (ls : List Entry) → Timely m ls → Timely m ((Some m, line) ∷ ls)
timely_line m line ls t = record {
  past = λ a. ap (λ b. (same a (of line) && b) || has_later a m ls) (not_above m) ∙ ap (λ b. b || has_later a m ls) (and_false (same a (of line))) ∙ t.past a;
  moment = (t.past (of line), t.moment);
}

timely_all : (m : ℕ) (deeds : List Deed) (ls : List Entry) → Timely m ls → Timely m (noted_all m ls deeds)
timely_all m [] ls t = t
timely_all m (Dials dial address ∷ deeds) ls t = timely_all m deeds ls t
timely_all m (Writes dial writing ∷ deeds) ls t = timely_all m deeds ls t
timely_all m (Hangs conn ∷ deeds) ls t = timely_all m deeds ls t
timely_all m (Tells line ∷ deeds) ls t = timely_all m deeds ((Some m, line) ∷ ls) (timely_line m line ls t)

module _ {P : Parts} {tally : Counting P} {me : UniqueAddress} where
  given_timely : (input : Input) (a : Alone P) → Holds tally me a → a.node.moment ≤ moment_then input a.node.moment → Timely a.node.moment (onto a.lines []) → Timely (given input a).node.moment (onto (given input a).lines [])
  given_timely input a h le t =
      let n : Node P = (step input a.node).node in
      let ls : List Entry = onto a.lines [] in
      let e : n.moment ≡ moment_then input a.node.moment = moment_is input a h in
      let u : Timely n.moment (noted_all n.moment ls (step input a.node).deeds) = timely_all n.moment (step input a.node).deeds ls (timely_later a.node.moment n.moment (subst (λ x. a.node.moment ≤ x) (sym e) le) ls t) in
      subst (Timely n.moment) (noted_told n.moment ls (step input a.node).deeds ∙ sym (onto_both a.lines (lines_of n.moment (step input a.node).deeds) [])) u

  all_timely : (inputs : List Input) (a : Alone P) → Holds tally me a → AreInOrder a.node.moment inputs → Timely a.node.moment (onto a.lines []) → Timely (given_all inputs a).node.moment (onto (given_all inputs a).lines [])
  all_timely [] a h o t = t
  all_timely (input ∷ inputs) a h o t = all_timely inputs (given input a) (given_holds input a h) (subst (λ x. AreInOrder x inputs) (sym (moment_is input a h)) o.1) (given_timely input a h o.0 t)

begun_timely : (me : UniqueAddress) → Timely 0 ((Some 0, lines.Started me) ∷ [])
begun_timely me = record { past = λ a. ap (λ b. b || false) (and_false (same a me)); moment = (refl, tt) }

pub story_timely : (P : Parts) (tally : Counting P) (me : UniqueAddress) (inputs : List Input) → AreInOrder 0 inputs → Timely (given_all inputs (begun {P = P} me)).node.moment (onto (story P me inputs) [])
story_timely P tally me inputs o = all_timely {tally = tally} inputs (begun {P = P} me) begun_holds o (begun_timely me)

pub keeps_moment : (P : Parts) (tally : Counting P) (me : UniqueAddress) (inputs : List Input) → AreInOrder 0 inputs → Keeps moment_law (story P me inputs)
keeps_moment P tally me inputs o = keeps_told moment_law moment_turns (story P me inputs) (all_timely {tally = tally} inputs (begun {P = P} me) begun_holds o (begun_timely me)).moment

-- ---- numbers

-- Numbers before others, the last first.
abbrev turned_onto : List ℕ → List ℕ → List ℕ
turned_onto [] ys = ys
turned_onto (x ∷ xs) ys = turned_onto xs (x ∷ ys)

numbers_onto : (me b : UniqueAddress) (xs ls : List Entry) → took_numbers me b (onto xs ls) ≡ turned_onto (took_numbers me b xs) (took_numbers me b ls)
numbers_onto me b [] ls = refl
numbers_onto me b (x ∷ xs) ls = numbers_onto me b xs (x ∷ ls) ∙ by (rest_if (is_way me b) (says_took x.1)) (one_at_most (says_took x.1))
  where
    one_at_most : (o : Option (Way × Rest)) → length (rest_if (is_way me b) o) ≤ 1
    one_at_most None = omega arith
    one_at_most (Some said) = at (is_way me b said.0)
      where
        at : (c : Bool) → length (cond c (said.1 ∷ []) []) ≤ 1
        at true = omega arith
        at false = omega arith

    by : (rs : List Rest) → length rs ≤ 1 → turned_onto (took_numbers me b xs) (map (λ (r : Rest). r.0) (rs ++ taken_from b me ls)) ≡ turned_onto (map (λ (r : Rest). r.0) (rs ++ taken_from b me xs)) (took_numbers me b ls)
    by [] h = refl
    by (r ∷ []) h = refl
    by (r ∷ s ∷ rs) h = absurd (omega (arith, h))

-- What is before numbers down to 1 goes on from them.
record GoesDown (ys : List ℕ) : Type 0 where
  pub first : ℕ
  pub is : ys ≡ down first

down_tail : (y : ℕ) (ys : List ℕ) (n : ℕ) → y ∷ ys ≡ down n → (y ≡ n) × (ys ≡ down (n - 1))
down_tail y ys zero h = absurd cc
down_tail y ys (suc n) h =
    let e : suc n - 1 ≡ n = omega arith in
    (ap (λ (l : List ℕ). elim l [ [] ↦ y | (x ∷ xs) ↦ x ]) h, ap (λ (l : List ℕ). elim l [ [] ↦ ys | (x ∷ xs) ↦ xs ]) h ∙ ap down (sym e))

goes_down : (xs ys : List ℕ) (n : ℕ) → turned_onto xs ys ≡ down n → GoesDown ys
goes_down [] ys n h = record { first = n; is = h }
goes_down (x ∷ xs) ys n h = let g : GoesDown (x ∷ ys) = goes_down xs (x ∷ ys) n h in record { first = g.first - 1; is = (down_tail x ys g.first g.is).1 }

down_length : (n : ℕ) → length (down n) ≡ n
down_length zero = refl
down_length (suc n) = ap suc (down_length n)

goes_up : (xs : List ℕ) (a n : ℕ) → turned_onto xs (down a) ≡ down n → xs ≡ numbers_from (a + 1) (length xs)
goes_up [] a n h = refl
goes_up (x ∷ xs) a n h =
    let g : GoesDown (x ∷ down a) = goes_down xs (x ∷ down a) n h in
    let t = down_tail x (down a) g.first g.is in
    let l : a ≡ g.first - 1 = sym (down_length a) ∙ ap length t.1 ∙ down_length (g.first - 1) in
    let p : 1 ≤ g.first = positive g.first g.is in
    let e : x ≡ a + 1 = omega (arith, t.0, l, p) in
    let s : suc a ≡ a + 1 = omega arith in
    let f : x ∷ down a ≡ down (a + 1) = ap (λ y. y ∷ down a) (e ∙ sym s) ∙ ap down s in
    ap (λ y. y ∷ xs) e ∙ ap (λ ys. (a + 1) ∷ ys) (goes_up xs (a + 1) n (ap (turned_onto xs) (sym f) ∙ h))
  where
    positive : (k : ℕ) → x ∷ down a ≡ down k → 1 ≤ k
    positive zero h = absurd cc
    positive (suc k) h = omega arith

pub takes_in_order : (P : Parts) (tally : Counting P) (me : UniqueAddress) (inputs : List Input) (other : UniqueAddress) → AreNumbered (numbers_taken me other (story P me inputs))
takes_in_order P tally me inputs other =
    goes_up (numbers_taken me other (story P me inputs)) 0 (P.last_taken other (given_all inputs (begun {P = P} me)).node.taken)
    (sym (numbers_onto me other (story P me inputs) []) ∙ (holds P tally me inputs).took.numbered other)
