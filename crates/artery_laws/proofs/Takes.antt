-- The expected message is taken, and acknowledged or owed.
use Rattle.std.proofs.Common.{true≢false, ◌≡◌, ◌<◌, ℕ, ◌+◌, Bool, true, false, cond, List, [], ◌∷◌, ◌++◌, length, refl, ap, sym, ◌∙◌, subst, arith, append_assoc, append-nil, length-append}
use Rattle.std.specs.Prelude.{nat_le, Option, Some, None, IsSome, unwrap_or}
use Rattle.std.specs.List.{find, list_any}
use Rattle.std.specs.Map.{lookup, set_value}
use Rattle.std.proofs.lemmas.Bool.Decides.{nat_tests}
use Rattle.artery_base.specs.declared.address.UniqueAddress.{UniqueAddress}
use Rattle.artery_base.specs.declared.message.SysMsg.{SysMsg}
use Rattle.artery_control.specs.declared.control.Control.TheVariants as controls
use Rattle.artery_delivery.specs.Inbound as inb
use Rattle.artery_delivery.specs.Limits.{never_expected}
use Rattle.artery_delivery.specs.declared.inbound.Take.TheVariants.{Taken, Again, Gap}
use Rattle.artery_frame.specs.declared.stream.Stream.{Stream}
use Rattle.artery_journal.specs.declared.line.Line.TheVariants as lines
use Rattle.artery_machine.specs.Lists.{or_else, change_first}
use Rattle.artery_machine.specs.Deeds.{Deed, Writes, Tells, Controls as ControlsWritten}
use Rattle.artery_machine.specs.Parts.{Parts, whole}
use Rattle.artery_machine.specs.Node.{Node, Inbound, Origin, is_origin, new_origin}
use Rattle.artery_machine.specs.Verdict.{Controls}
use Rattle.artery_machine.specs.Closing.{control_dial}
use Rattle.artery_machine.specs.Making.{uses}
use Rattle.artery_machine.specs.Doing.{listed, Doing, Rule, becomes, tells_of, writes_on, origin_becomes}
use Rattle.artery_machine.specs.Hearing.{owes_ack, with_taken, acknowledges, acknowledges_on, numbered_as, by_speaker, spoken, heard_as, hears_on}
use Rattle.artery_machine.specs.Watching.{acts}
use Rattle.artery_laws.specs.Taking.{at_work, IsExpected, IsWrittenOrOwed, IsTaken}
use Rattle.artery_laws.proofs.Over.{SinkOver, IsOver}
use Rattle.artery_laws.proofs.OverTelling.{acts_over}
use Rattle.artery_laws.proofs.Same.{same, node_same}
use Rattle.artery_laws.proofs.Leaving.{left, Left, uses_leaves, acts_leave}

-- ---- deeds behind others

abbrev behind : List Deed → SinkOver listed listed
behind before = record { to = λ deeds. before ++ deeds; told = λ deed deeds. append_assoc before deeds (deed ∷ []) }

-- What a rule does comes behind what was done before.
does_behind : {P : Parts} (r : Rule P listed) → ((before : List Deed) → IsOver (same P) (behind before) r r) → (d : Doing P listed)
    → (r d).deeds ≡ d.deeds ++ (r (record { node = d.node; deeds = [] })).deeds
does_behind {P} r o d =
    ap (λ (e : Doing P listed). (r e).deeds) (sym (ap (λ (m : Node P). record { node = m; deeds = d.deeds ++ [] }) (node_same P d.node) ∙ ap (λ (x : List Deed). record { node = d.node; deeds = x }) (append-nil d.deeds)))
    ∙ ap (λ (e : Doing P listed). e.deeds) ((o d.deeds).on (record { node = d.node; deeds = [] }))

-- ---- what is taken

is_the_next : (n l : ℕ) → n ≡ l + 1 → n < never_expected → inb.is_expected n (l + 1) ≡ true
is_the_next n l e b = grind (arith, nat_tests)

is_not_again : (n l : ℕ) → n ≡ l + 1 → nat_le n l ≡ false
is_not_again n l e = grind (arith, nat_tests)

pub takes_next : (v : UniqueAddress) (n : ℕ) (all : List (UniqueAddress × List SysMsg)) → n ≡ length (inb.messages_from v all) + 1 → n < never_expected → inb.answer_to_take v n all ≡ Taken
takes_next v n all e b =
    ap (λ x. cond x (Again (length (inb.messages_from v all))) (cond (inb.is_expected n (length (inb.messages_from v all) + 1)) Taken (Gap (length (inb.messages_from v all))))) (is_not_again n (length (inb.messages_from v all)) e)
    ∙ ap (λ x. cond x Taken (Gap (length (inb.messages_from v all)))) (is_the_next n (length (inb.messages_from v all)) e b)

set_found : (test : UniqueAddress → Bool) (all : List (UniqueAddress × List SysMsg)) (ms : List SysMsg) → IsSome (lookup test all) → lookup test (set_value test all ms) ≡ Some ms
set_found test [] ms h = absurd (true≢false (sym h))
set_found test (e ∷ es) ms h = by (test e.0) refl h (set_found test es ms)
  where
    by : (b : Bool) → test e.0 ≡ b → IsSome (cond b (Some e.1) (lookup test es)) → (IsSome (lookup test es) → lookup test (set_value test es ms) ≡ Some ms)
        → lookup test (cond b ((e.0, ms) ∷ es) (e ∷ set_value test es ms)) ≡ Some ms
    by true t i rest = ap (λ b. cond b (Some ms) (lookup test es)) t
    by false t i rest = ap (λ b. cond b (Some e.1) (lookup test (set_value test es ms))) t ∙ rest i

pub taken_last : (v : UniqueAddress) (n : ℕ) (m : SysMsg) (all : List (UniqueAddress × List SysMsg)) → IsSome (inb.taken_of v all) → n ≡ length (inb.messages_from v all) + 1 → n < never_expected
    → inb.messages_from v (inb.taken v n m all) ≡ inb.messages_from v all ++ m ∷ []
taken_last v n m all i e b =
    ap (λ x. inb.messages_from v (cond x (set_value (inb.same_origin v) all (inb.messages_from v all ++ m ∷ [])) all)) (is_the_next n (length (inb.messages_from v all)) e b)
    ∙ ap (λ (x : Option (List SysMsg)). unwrap_or x []) (set_found (inb.same_origin v) all (inb.messages_from v all ++ m ∷ []) i)

-- ---- what is owed

owed_there : (v : UniqueAddress) (other : Origin whole) (os : List (Origin whole)) → list_any (is_origin v) os ≡ true
    → (or_else other (find (is_origin v) (change_first (is_origin v) (owes_ack true) os))).owes ≡ true
owed_there v other [] h = absurd cc
owed_there v other (o ∷ os) h = by (is_origin v o) refl (owed_there v other os)
  where
    by : (b : Bool) → is_origin v o ≡ b → (list_any (is_origin v) os ≡ true → (or_else other (find (is_origin v) (change_first (is_origin v) (owes_ack true) os))).owes ≡ true)
        → (or_else other (find (is_origin v) (cond b (owes_ack true o ∷ os) (o ∷ change_first (is_origin v) (owes_ack true) os)))).owes ≡ true
    by true t rest = ap (λ b. (or_else other (cond b (Some (owes_ack true o)) (find (is_origin v) os))).owes) t
    by false t rest =
        ap (λ b. (or_else other (cond b (Some o) (find (is_origin v) (change_first (is_origin v) (owes_ack true) os)))).owes) t
        ∙ rest (sym (any_rest t) ∙ h)
      where
        any_rest : is_origin v o ≡ false → list_any (is_origin v) (o ∷ os) ≡ list_any (is_origin v) os
        any_rest e = rw e refl

-- ---- the message

module _ (stream : Option Stream) (n : Node whole) (i : Inbound whole) (frame : List ℕ) (v : UniqueAddress) (number : ℕ) (message : SysMsg) (h : IsExpected stream n i frame v number message) where
  abbrev used : Doing whole listed
  used = uses v.address (at_work n)

  used_same : left used.node ≡ left n
  used_same = (uses_leaves v.address).on (at_work n)

  -- the message is taken and told
  abbrev told : Doing whole listed
  told = tells_of (λ me. lines.Took me v number message) (becomes (with_taken v number message) used)

  -- it is acknowledged or owed
  abbrev answered : Doing whole listed
  answered = acknowledges v controls.Ack told

  heard : hears_on stream (Some i) frame (at_work n) ≡ acts v message answered
  heard =
      ap (λ x. heard_as i x (at_work n)) h.says
      ∙ ap (λ x. by_speaker x (λ w. spoken i w (Controls (controls.Numbered number message h.reply_to))) (at_work n)) h.speaker
      ∙ ap (λ x. numbered_as v number message x used) (ap (λ (l : Left whole). inb.answer_to_take v number l.taken) used_same ∙ takes_next v number n.taken h.next h.limit)

  told_taken : inb.messages_from v told.node.taken ≡ inb.messages_from v n.taken ++ message ∷ []
  told_taken = ap (λ (l : Left whole). inb.messages_from v (inb.taken v number message l.taken)) used_same ∙ taken_last v number message n.taken h.opened h.next h.limit

  told_number : length (inb.messages_from v told.node.taken) ≡ number
  told_number =
      let e : length (inb.messages_from v n.taken ++ message ∷ []) ≡ length (inb.messages_from v n.taken) + 1 = length-append (inb.messages_from v n.taken) (message ∷ []) in
      ap length told_taken ∙ e ∙ sym h.next

  answered_taken : (x : Option ℕ) → (acknowledges_on v controls.Ack x told).node.taken ≡ told.node.taken
  answered_taken None = refl
  answered_taken (Some dial) = written_taken (control_dial v told.node)
    where
      written_taken : (y : Option ℕ) → (writes_on y (ControlsWritten (controls.Ack (length (inb.messages_from v told.node.taken)) told.node.me)) (origin_becomes v (owes_ack false) told)).node.taken ≡ told.node.taken
      written_taken None = refl
      written_taken (Some z) = refl

  is_taken : inb.messages_from v (acts v message answered).node.taken ≡ inb.messages_from v n.taken ++ message ∷ []
  is_taken =
      ap (λ (l : Left whole). inb.messages_from v l.taken) ((acts_leave v message).on answered)
      ∙ ap (λ t. inb.messages_from v t) (answered_taken (control_dial v told.node))
      ∙ told_taken

  -- what the message does comes behind
  abbrev more : Doing whole listed → List Deed
  more d = (acts {P = whole} {E = listed} v message (record { node = d.node; deeds = [] })).deeds

  acts_behind : (d : Doing whole listed) → (acts v message d).deeds ≡ d.deeds ++ more d
  acts_behind d = does_behind (acts v message) (λ before. acts_over (same whole) (behind before) v message) d

  is_told : (x : Option ℕ) → control_dial v used.node ≡ x → IsWrittenOrOwed x n v number message (acts v message (acknowledges_on v controls.Ack x told))
  is_told None e = record {
    before = used.deeds;
    behind = more (acknowledges_on v controls.Ack None told);
    deeds = acts_behind (acknowledges_on v controls.Ack None told)
        ∙ append_assoc used.deeds (Tells (lines.Took used.node.me v number message) ∷ []) (more (acknowledges_on v controls.Ack None told))
        ∙ ap (λ (l : Left whole). used.deeds ++ Tells (lines.Took l.me v number message) ∷ more (acknowledges_on v controls.Ack None told)) used_same;
    owes = ap (λ (l : Left whole). (or_else (new_origin (acts v message (acknowledges_on v controls.Ack None told)).node.moment v) (find (is_origin v) l.origins)).owes) ((acts_leave v message).on (acknowledges_on v controls.Ack None told))
        ∙ owed_there v _ used.node.origins (ap (λ (l : Left whole). list_any (is_origin v) l.origins) used_same ∙ h.origin);
  }
  is_told (Some dial) e = record {
    before = used.deeds;
    behind = more after;
    deeds = acts_behind after
        ∙ ap (λ ds. ds ++ more after) written
        ∙ append_assoc (used.deeds ++ line) ack (more after) ∙ append_assoc used.deeds line (ack ++ more after)
        ∙ ap (λ (l : Left whole). used.deeds ++ Tells (lines.Took l.me v number message) ∷ Writes dial (ControlsWritten (controls.Ack (length (inb.messages_from v told.node.taken)) l.me)) ∷ more after) used_same
        ∙ ap (λ k. used.deeds ++ Tells (lines.Took n.me v number message) ∷ Writes dial (ControlsWritten (controls.Ack k n.me)) ∷ more after) told_number;
  }
    where
      after : Doing whole listed
      after = acknowledges_on v controls.Ack (Some dial) told

      line : List Deed
      line = Tells (lines.Took used.node.me v number message) ∷ []

      ack : List Deed
      ack = Writes dial (ControlsWritten (controls.Ack (length (inb.messages_from v told.node.taken)) used.node.me)) ∷ []

      written : after.deeds ≡ (used.deeds ++ line) ++ ack
      written = ap (λ y. (writes_on y (ControlsWritten (controls.Ack (length (inb.messages_from v told.node.taken)) told.node.me)) (origin_becomes v (owes_ack false) told)).deeds) e

  pub takes : IsTaken n v number message (hears_on stream (Some i) frame (at_work n))
  takes = subst (IsTaken n v number message) (sym heard) (record { taken = is_taken; told = is_told (control_dial v used.node) refl })
