-- Stories that go on, and those that end with a stop.
use Rattle.std.proofs.Common.{◌≡◌, ◌≤◌, ℕ, Bool, true, false, cond, List, [], ◌∷◌, ◌++◌, refl, ap, sym, ◌∙◌, subst, append-nil}
use Rattle.std.specs.Prelude.{◌||◌, Some}
use Rattle.artery_base.specs.declared.address.UniqueAddress.{UniqueAddress}
use Rattle.artery_journal.specs.declared.line.Line.TheVariants as lines
use Rattle.artery_judge.specs.Lines.{Entry, same, of}
use Rattle.artery_machine.specs.declared.input.Input.{Input}
use Rattle.artery_machine.specs.Parts.{Parts}
use Rattle.artery_machine.specs.Node.{Node}
use Rattle.artery_machine.specs.Reacting.{step}
use Rattle.artery_alone.specs.Alone.{lines_of, Alone, begun, given, given_all, story, moment_then, AreInOrder, Law, close_law, watch_law, stopped_law, moment_law, Keeps}
use Rattle.artery_alone.proofs.Names.{unique_is}
use Rattle.artery_alone.proofs.Journals.{Unbroken, AllOf}
use Rattle.artery_alone.proofs.Taking.{Counting}
use Rattle.artery_alone.proofs.Own.{of_one}
use Rattle.artery_alone.proofs.Stories.{onto, onto_both, Turns, keeps_told, close_turns, watch_turns, stopped_turns, moment_turns, Holds, holds, given_holds, moment_is, story_timely}

-- ---- lines of one

all_onto : (a : UniqueAddress) (xs ls : List Entry) → AllOf a (onto xs ls) → AllOf a xs × AllOf a ls
all_onto a [] ls h = (tt, h)
all_onto a (x ∷ xs) ls h = let r = all_onto a xs (x ∷ ls) h in ((r.1.0, r.0), r.1.1)

pub all_before : (a : UniqueAddress) (xs ys : List Entry) → AllOf a (xs ++ ys) → AllOf a xs
all_before a [] ys h = tt
all_before a (x ∷ xs) ys h = (h.0, all_before a xs ys h.1)

all_behind : (a : UniqueAddress) (xs ys : List Entry) → AllOf a (xs ++ ys) → AllOf a ys
all_behind a [] ys h = h
all_behind a (x ∷ xs) ys h = all_behind a xs ys h.1

pub own_all : (a : UniqueAddress) (ls : List Entry) → AllOf a ls → of_one a ls ≡ ls
own_all a [] h = refl
own_all a (e ∷ ls) h = ap (λ b. cond b (e ∷ of_one a ls) (of_one a ls)) h.0 ∙ ap (λ x. e ∷ x) (own_all a ls h.1)

pub others_none : (a b : UniqueAddress) (ls : List Entry) → same b a ≡ false → AllOf a ls → of_one b ls ≡ []
others_none a b [] n h = refl
others_none a b (e ∷ ls) n h =
    ap (λ (x : UniqueAddress). cond (same b x) (e ∷ of_one b ls) (of_one b ls)) (sym (unique_is a (of e.1) h.0))
    ∙ ap (λ c. cond c (e ∷ of_one b ls) (of_one b ls)) n
    ∙ others_none a b ls n h.1

-- ---- stories that go on

abbrev pub moment_after : List Input → ℕ → ℕ
moment_after [] now = now
moment_after (input ∷ inputs) now = moment_after inputs (moment_then input now)

order_more : (now : ℕ) (inputs : List Input) (input : Input) → AreInOrder now inputs → moment_after inputs now ≤ moment_then input (moment_after inputs now) → AreInOrder now (inputs ++ input ∷ [])
order_more now [] input o h = (h, tt)
order_more now (i ∷ inputs) input o h = (o.0, order_more (moment_then i now) inputs input o.1 h)

-- A node that started, once these inputs came to it.
abbrev pub node_after : (P : Parts) → UniqueAddress → List Input → Node P
node_after P a inputs = (given_all inputs (begun {P = P} a)).node

module _ {P : Parts} where
  given_more : (inputs : List Input) (input : Input) (a : Alone P) → given_all (inputs ++ input ∷ []) a ≡ given input (given_all inputs a)
  given_more [] input a = refl
  given_more (i ∷ inputs) input a = given_more inputs input (given i a)

  -- What one input more makes of a node and its lines.
  abbrev pub lines_then : Input → Node P → List Entry
  lines_then input n = lines_of (step input n).node.moment (step input n).deeds

  pub node_more : (a : UniqueAddress) (inputs : List Input) (input : Input) → node_after P a (inputs ++ input ∷ []) ≡ (step input (node_after P a inputs)).node
  node_more a inputs input = ap (λ (x : Alone P). x.node) (given_more inputs input (begun a))

pub story_more : (P : Parts) (a : UniqueAddress) (inputs : List Input) (input : Input) → story P a (inputs ++ input ∷ []) ≡ story P a inputs ++ lines_then {P = P} input (node_after P a inputs)
story_more P a inputs input = ap (λ (x : Alone P). x.lines) (given_more inputs input (begun a))

module _ {P : Parts} where
  moment_all : (tally : Counting P) (me : UniqueAddress) (inputs : List Input) (a : Alone P) → Holds tally me a → (given_all inputs a).node.moment ≡ moment_after inputs a.node.moment
  moment_all tally me [] a h = refl
  moment_all tally me (i ∷ inputs) a h = moment_all tally me inputs (given i a) (given_holds i a h) ∙ ap (moment_after inputs) (moment_is i a h)

  pub order_then : (tally : Counting P) (a : UniqueAddress) (inputs : List Input) (input : Input) → AreInOrder 0 inputs → (node_after P a inputs).moment ≤ moment_then input (node_after P a inputs).moment → AreInOrder 0 (inputs ++ input ∷ [])
  order_then tally a inputs input o h =
      order_more 0 inputs input o (subst (λ x. x ≤ moment_then input x) (moment_all tally a inputs (begun a) (holds P tally a [])) h)

  pub lines_own : (tally : Counting P) (a : UniqueAddress) (inputs : List Input) (input : Input) → AllOf a (lines_then input (node_after P a inputs))
  lines_own tally a inputs input =
      let h : Holds tally a (given_all (inputs ++ input ∷ []) (begun a)) = holds P tally a (inputs ++ input ∷ []) in
      let all : AllOf a (story P a (inputs ++ input ∷ [])) = (all_onto a (story P a (inputs ++ input ∷ [])) [] h.own).0 in
      all_behind a (story P a inputs) (lines_then input (node_after P a inputs)) (subst (AllOf a) (story_more P a inputs input) all)

  pub mine_then : (tally : Counting P) (a : UniqueAddress) (inputs : List Input) → (node_after P a inputs).me ≡ a
  mine_then tally a inputs = (holds P tally a inputs).mine

-- ---- the end

-- The line of the end at a moment, where there is one.
abbrev pub ending : Bool → ℕ → UniqueAddress → List Entry
ending true m a = (Some m, lines.Stopped a) ∷ []
ending false m a = []

-- A story, with the line of its end where it ended.
abbrev pub full : (P : Parts) → UniqueAddress → List Input → Bool → List Entry
full P a inputs over = story P a inputs ++ ending over (node_after P a inputs).moment a

with_last : (law : Law) → Turns law → (ls : List Entry) (e : Entry) → Unbroken law (onto ls []) → law (onto ls []) e ≡ false → Keeps law (ls ++ e ∷ [])
with_last law t ls e h l = keeps_told law t (ls ++ e ∷ []) (subst (Unbroken law) (sym (onto_both ls (e ∷ []) [])) (l, h))

full_keeps : (P : Parts) (law : Law) → Turns law → (a : UniqueAddress) (inputs : List Input) (over : Bool) → Unbroken law (onto (story P a inputs) []) → law (onto (story P a inputs) []) (Some (node_after P a inputs).moment, lines.Stopped a) ≡ false → Keeps law (full P a inputs over)
full_keeps P law t a inputs true h l = with_last law t (story P a inputs) (Some (node_after P a inputs).moment, lines.Stopped a) h l
full_keeps P law t a inputs false h l = subst (Keeps law) (sym (append-nil (story P a inputs))) (keeps_told law t (story P a inputs) h)

pub full_close : (P : Parts) (tally : Counting P) (a : UniqueAddress) (inputs : List Input) (over : Bool) → Keeps close_law (full P a inputs over)
full_close P tally a inputs over = full_keeps P close_law close_turns a inputs over (holds P tally a inputs).sound.close refl

pub full_watch : (P : Parts) (tally : Counting P) (a : UniqueAddress) (inputs : List Input) (over : Bool) → Keeps watch_law (full P a inputs over)
full_watch P tally a inputs over = full_keeps P watch_law watch_turns a inputs over (holds P tally a inputs).sound.watch refl

pub full_stopped : (P : Parts) (tally : Counting P) (a : UniqueAddress) (inputs : List Input) (over : Bool) → Keeps stopped_law (full P a inputs over)
full_stopped P tally a inputs over = full_keeps P stopped_law stopped_turns a inputs over (holds P tally a inputs).sound.stopped (ap (λ b. b || false) ((holds P tally a inputs).sound.running a))

pub full_moment : (P : Parts) (tally : Counting P) (a : UniqueAddress) (inputs : List Input) (over : Bool) → AreInOrder 0 inputs → Keeps moment_law (full P a inputs over)
full_moment P tally a inputs over o =
    let t = story_timely P tally a inputs o in
    full_keeps P moment_law moment_turns a inputs over t.moment (t.past a)
