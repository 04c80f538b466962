-- The numbers of messages that one incarnation took from another, in the journal of a network.
use Rattle.std.proofs.Common.{◌≡◌, ℕ, Bool, true, false, ◌&&◌, cond, List, [], ◌∷◌, ◌++◌, refl, sym, ◌∙◌, ap, subst, append-nil}
use Rattle.artery_base.specs.declared.address.UniqueAddress.{UniqueAddress}
use Rattle.artery_journal.specs.declared.line.Line.{Line}
use Rattle.artery_journal.specs.declared.line.Line.TheVariants as lines
use Rattle.artery_judge.specs.Lines.{Entry, Rest, same, is_way, of, says_took, rest_if}
use Rattle.artery_judge.specs.Laws.{taken_from}
use Rattle.artery_script.specs.declared.script.ScriptLine.{ScriptLine}
use Rattle.artery_machine.specs.Parts.{Parts}
use Rattle.artery_machine.specs.Ways.{Ways}
use Rattle.artery_alone.specs.Alone.{story}
use Rattle.artery_alone.specs.Network.{journal}
use Rattle.artery_alone.proofs.Own.{of_one}
use Rattle.artery_alone.proofs.Taking.{Counting}
use Rattle.artery_alone.proofs.Stories.{takes_in_order}
use Rattle.artery_alone.proofs.Ending.{ending, node_after}
use Rattle.artery_alone.proofs.Networks.{Fine, run_right}
use Rattle.artery_flight.proofs.Lists.{flat_append}
use Rattle.artery_prefix.proofs.Orders.{AreFrom, from_numbers, from_front}

abbrev none : List Rest
none = []

-- what one took is told by it
own_took : (me other : UniqueAddress) (line : Line) → same me (of line) ≡ false → rest_if (is_way me other) (says_took line) ≡ none
own_took me other (lines.Took a b n message) h = ap (λ (c : Bool). cond (c && same other b) ((n, message) ∷ []) none) h
own_took me other (lines.Started a) h = refl
own_took me other (lines.Stopped a) h = refl
own_took me other (lines.Learnt a b) h = refl
own_took me other (lines.Closed a b cause) h = refl
own_took me other (lines.Sent a b n message) h = refl
own_took me other (lines.Again a b n) h = refl
own_took me other (lines.Gap a b n) h = refl
own_took me other (lines.Told a b dial message) h = refl
own_took me other (lines.Got a b n message) h = refl
own_took me other (lines.Dropped a conn rule) h = refl
own_took me other (lines.Stray a b n) h = refl
own_took me other (lines.Barred a b) h = refl
own_took me other (lines.Notice a b) h = refl
own_took me other (lines.Watched a id watcher watchee) h = refl
own_took me other (lines.Unwatched a id) h = refl
own_took me other (lines.Terminated a id) h = refl
own_took me other (lines.Refused a reason) h = refl
own_took me other (lines.Spawned a path) h = refl
own_took me other (lines.Ended a path) h = refl
own_took me other (lines.Advertised a b kind version count) h = refl
own_took me other (lines.Adopted a b kind version) h = refl
own_took me other (lines.Skipped a sender k seen at) h = refl
own_took me other (lines.Idle a b) h = refl

taken_of_one : (me other : UniqueAddress) (ls : List Entry) → taken_from other me (of_one me ls) ≡ taken_from other me ls
taken_of_one me other [] = refl
taken_of_one me other (e ∷ ls) = by (same me (of e.1)) refl (taken_of_one me other ls)
  where
    by : (b : Bool) → same me (of e.1) ≡ b → taken_from other me (of_one me ls) ≡ taken_from other me ls → taken_from other me (cond b (e ∷ of_one me ls) (of_one me ls)) ≡ rest_if (is_way me other) (says_took e.1) ++ taken_from other me ls
    by true h r = ap (λ rs. rest_if (is_way me other) (says_took e.1) ++ rs) r
    by false h r = r ∙ ap (λ rs. rs ++ taken_from other me ls) (sym (own_took me other e.1 h))

pub taken_both : (a b : UniqueAddress) (xs ys : List Entry) → taken_from a b (xs ++ ys) ≡ taken_from a b xs ++ taken_from a b ys
taken_both a b xs ys = flat_append (λ (e : Entry). rest_if (is_way b a) (says_took e.1)) xs ys

none_at_end : (over : Bool) (m : ℕ) (me other : UniqueAddress) → taken_from other me (ending over m me) ≡ none
none_at_end true m me other = refl
none_at_end false m me other = refl

pub taken_in_order : (P : Parts) (W : Ways) → Counting P → (script : List ScriptLine) (me other : UniqueAddress) → AreFrom 1 (taken_from other me (journal P W script))
taken_in_order P W tally script me other =
    let f : Fine P me (journal P W script) = (run_right P W tally script).fine me in
    let js : List Entry = journal P W script in
    let all : AreFrom 1 (taken_from other me (story P me f.inputs)) = from_numbers 1 (taken_from other me (story P me f.inputs)) (takes_in_order P tally me f.inputs other) in
    let same_taken : taken_from other me (story P me f.inputs) ≡ taken_from other me (of_one me js) ++ taken_from other me f.rest =
    sym (append-nil (taken_from other me (story P me f.inputs)))
    ∙ ap (λ rs. taken_from other me (story P me f.inputs) ++ rs) (sym (none_at_end f.over (node_after P me f.inputs).moment me other))
    ∙ sym (taken_both other me (story P me f.inputs) (ending f.over (node_after P me f.inputs).moment me))
    ∙ ap (taken_from other me) (sym f.is) ∙ taken_both other me (of_one me js) f.rest in
    subst (λ rs. AreFrom 1 rs) (taken_of_one me other js) (from_front 1 (taken_from other me (of_one me js)) (taken_from other me f.rest) (subst (λ rs. AreFrom 1 rs) same_taken all))
