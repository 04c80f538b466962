-- What the lines of a network say of messages that were sent and taken, and of names.
use Rattle.std.proofs.Common.{◌≡◌, ℕ, zero, suc, ◌+◌, Bool, true, false, cond, List, [], ◌∷◌, ◌++◌, length, refl, sym, ◌∙◌, ap, subst, arith, append-nil}
use Rattle.std.specs.Prelude.{Option, None, Some, ◌==◌, slice_get}
use Rattle.artery_base.specs.Words.{IsPrefix}
use Rattle.artery_base.specs.declared.address.UniqueAddress.{UniqueAddress}
use Rattle.artery_base.specs.declared.message.SysMsg.{SysMsg}
use Rattle.artery_control.specs.declared.control.Control.{Control}
use Rattle.artery_control.specs.declared.control.Control.TheVariants as controls
use Rattle.artery_journal.specs.declared.line.Line.{Line}
use Rattle.artery_journal.specs.declared.line.Line.TheVariants as lines
use Rattle.artery_judge.specs.Lines.{Entry, Way, Rest, is_way, says_sent, says_took, rest_if}
use Rattle.artery_judge.specs.Laws.{sent_to}
use Rattle.artery_machine.specs.declared.world.Outcome.{Outcome}
use Rattle.artery_machine.specs.declared.world.Outcome.TheVariants as outcomes
use Rattle.artery_machine.specs.Deeds.{Writing, Begins, Controls, Sends}
pub use Rattle.artery_flight.specs.Numbers.{lines_in}
use Rattle.artery_flight.proofs.Lists.{flat_append, get_front, some_same, not_some}

-- ---- lines

pub lines_append : (xs ys : List Outcome) → lines_in (xs ++ ys) ≡ lines_in xs ++ lines_in ys
lines_append [] ys = refl
lines_append (outcomes.Line moment line ∷ xs) ys = ap (λ ls. (Some moment, line) ∷ ls) (lines_append xs ys)
lines_append (outcomes.Wrote uid dial bytes ∷ xs) ys = lines_append xs ys

-- Who starts by a line.
abbrev pub starts_by : Line → Option UniqueAddress
starts_by (lines.Started a) = Some a
starts_by line = None

-- A line that says nothing of messages sent or taken, nor of a start.
abbrev pub IsPlainLine : Line → Type 0
IsPlainLine line = (says_sent line ≡ None) × (says_took line ≡ None) × (starts_by line ≡ None)

abbrev pub IsPlain : Outcome → Type 0
IsPlain (outcomes.Line moment line) = IsPlainLine line
IsPlain (outcomes.Wrote uid dial bytes) = Unit {0}

-- ---- messages that were sent

-- What an incarnation told that it sent to another.
abbrev pub sent_in : UniqueAddress → UniqueAddress → List Outcome → List Rest
sent_in a b os = sent_to a b (lines_in os)

sent_both : (a b : UniqueAddress) (xs ys : List Outcome) → sent_in a b (xs ++ ys) ≡ sent_in a b xs ++ sent_in a b ys
sent_both a b xs ys = ap (sent_to a b) (lines_append xs ys) ∙ flat_append (λ (e : Entry). rest_if (is_way a b) (says_sent e.1)) (lines_in xs) (lines_in ys)

pub sent_plain : (a b : UniqueAddress) (os : List Outcome) (o : Outcome) → IsPlain o → sent_in a b (os ++ o ∷ []) ≡ sent_in a b os
sent_plain a b os o p = sent_both a b os (o ∷ []) ∙ ap (λ rs. sent_in a b os ++ rs) (one o p) ∙ append-nil (sent_in a b os)
  where
    none : List Rest
    none = []

    one : (x : Outcome) → IsPlain x → sent_in a b (x ∷ []) ≡ none
    one (outcomes.Line moment line) q = ap (λ (s : Option (Way × Rest)). rest_if (is_way a b) s ++ none) q.0
    one (outcomes.Wrote uid dial bytes) q = refl

-- a line that tells nothing as sent
pub sent_silent : (a b : UniqueAddress) (os : List Outcome) (moment : ℕ) (line : Line) → says_sent line ≡ None → sent_in a b (os ++ outcomes.Line moment line ∷ []) ≡ sent_in a b os
sent_silent a b os moment line p = sent_both a b os (outcomes.Line moment line ∷ []) ∙ ap (λ (s : Option (Way × Rest)). sent_in a b os ++ (rest_if (is_way a b) s ++ [])) p ∙ append-nil (sent_in a b os)

pub sent_line : (a b : UniqueAddress) (os : List Outcome) (moment : ℕ) (x y : UniqueAddress) (n : ℕ) (m : SysMsg) → sent_in a b (os ++ outcomes.Line moment (lines.Sent x y n m) ∷ []) ≡ sent_in a b os ++ cond (is_way a b (x, y)) ((n, m) ∷ []) []
sent_line a b os moment x y n m =
    sent_both a b os (outcomes.Line moment (lines.Sent x y n m) ∷ [])
    ∙ ap (λ rs. sent_in a b os ++ rs) (append-nil (cond (is_way a b (x, y)) ((n, m) ∷ []) []))

pub sent_prefix : (a b : UniqueAddress) (xs ys : List Outcome) → IsPrefix xs ys → IsPrefix (sent_in a b xs) (sent_in a b ys)
sent_prefix a b xs ys p = (sent_in a b p.0, sym (sent_both a b xs p.0) ∙ ap (sent_in a b) p.1)

-- Something is among a list.
pub record IsAmong {X : Type 0} (x : X) (xs : List X) : Type 0 where
  pub place : ℕ
  pub here : slice_get xs place ≡ Some x

pub among_more : {X : Type 0} (x : X) (xs ys : List X) → IsPrefix xs ys → IsAmong x xs → IsAmong x ys
among_more x xs ys p a = record { place = a.place; here = get_front xs ys a.place x p a.here }

-- Messages with their numbers, from one on.
abbrev pub numbered : ℕ → List SysMsg → List Rest
numbered n [] = []
numbered n (m ∷ ms) = (n, m) ∷ numbered (n + 1) ms

pub numbered_push : (n : ℕ) (ms : List SysMsg) (m : SysMsg) → numbered n (ms ++ m ∷ []) ≡ numbered n ms ++ (n + length ms, m) ∷ []
numbered_push n [] m = ap (λ (k : ℕ). (k, m) ∷ []) (let e : n ≡ n + 0 = omega arith in e)
numbered_push n (x ∷ ms) m = ap (λ rs. (n, x) ∷ rs) (numbered_push (n + 1) ms m ∙ ap (λ (k : ℕ). numbered (n + 1) ms ++ (k, m) ∷ []) (let e : n + 1 + length ms ≡ n + suc (length ms) = omega arith in e))

pub numbered_get : (n : ℕ) (ms : List SysMsg) (i : ℕ) (m : SysMsg) → slice_get ms i ≡ Some m → slice_get (numbered n ms) i ≡ Some (n + i, m)
numbered_get n [] i m h = not_some h
numbered_get n (x ∷ ms) zero m h = ap (λ (y : SysMsg). Some (n, y)) (some_same h) ∙ ap (λ (k : ℕ). Some (k, m)) (let e : n ≡ n + 0 = omega arith in e)
numbered_get n (x ∷ ms) (suc i) m h = numbered_get (n + 1) ms i m h ∙ ap (λ (k : ℕ). Some (k, m)) (let e : n + 1 + i ≡ n + suc i = omega arith in e)

-- ---- names

-- The first that started with a UID.
abbrev pub name_by : ℕ → Option UniqueAddress → Option UniqueAddress → Option UniqueAddress
name_by u None rest = rest
name_by u (Some v) rest = cond (v.uid == u) (Some v) rest

abbrev pub name_in : ℕ → List Outcome → Option UniqueAddress
name_in u [] = None
name_in u (outcomes.Line moment line ∷ os) = name_by u (starts_by line) (name_in u os)
name_in u (outcomes.Wrote uid dial bytes ∷ os) = name_in u os

-- An incarnation is the one that started with its UID.
abbrev pub IsNamed : UniqueAddress → List Outcome → Type 0
IsNamed v os = name_in v.uid os ≡ Some v

named_on : (u : ℕ) (xs ys : List Outcome) (v : UniqueAddress) → name_in u xs ≡ Some v → name_in u (xs ++ ys) ≡ Some v
named_on u [] ys v h = not_some h
named_on u (outcomes.Wrote uid dial bytes ∷ xs) ys v h = named_on u xs ys v h
named_on u (outcomes.Line moment line ∷ xs) ys v h = by (starts_by line) h (λ k. named_on u xs ys v k)
  where
    at_test : (b : Bool) (x : UniqueAddress) → cond b (Some x) (name_in u xs) ≡ Some v → (name_in u xs ≡ Some v → name_in u (xs ++ ys) ≡ Some v) → cond b (Some x) (name_in u (xs ++ ys)) ≡ Some v
    at_test true x k rest = k
    at_test false x k rest = rest k

    by : (s : Option UniqueAddress) → name_by u s (name_in u xs) ≡ Some v → (name_in u xs ≡ Some v → name_in u (xs ++ ys) ≡ Some v) → name_by u s (name_in u (xs ++ ys)) ≡ Some v
    by None k rest = rest k
    by (Some x) k rest = at_test (x.uid == u) x k rest

pub named_more : (v : UniqueAddress) (xs ys : List Outcome) → IsPrefix xs ys → IsNamed v xs → IsNamed v ys
named_more v xs ys p h = subst (λ os. name_in v.uid os ≡ Some v) p.1 (named_on v.uid xs p.0 v h)

-- two of that name are one
pub named_same : (v x : UniqueAddress) (os : List Outcome) → IsNamed v os → IsNamed x os → v.uid ≡ x.uid → v ≡ x
named_same v x os h k e = some_same (sym h ∙ ap (λ (u : ℕ). name_in u os) e ∙ k)

-- what came last names one that had no name
pub name_push : (u : ℕ) (os : List Outcome) (o : Outcome) → name_in u os ≡ None → name_in u (os ++ o ∷ []) ≡ name_in u (o ∷ [])
name_push u [] o h = refl
name_push u (outcomes.Wrote uid dial bytes ∷ os) o h = name_push u os o h
name_push u (outcomes.Line moment line ∷ os) o h = by (starts_by line) h (λ k. name_push u os o k)
  where
    at_test : (b : Bool) (x : UniqueAddress) → cond b (Some x) (name_in u os) ≡ None → (name_in u os ≡ None → name_in u (os ++ o ∷ []) ≡ name_in u (o ∷ [])) → cond b (Some x) (name_in u (os ++ o ∷ [])) ≡ name_in u (o ∷ [])
    at_test true x k rest = not_some (sym k)
    at_test false x k rest = rest k

    by : (s : Option UniqueAddress) → name_by u s (name_in u os) ≡ None → (name_in u os ≡ None → name_in u (os ++ o ∷ []) ≡ name_in u (o ∷ [])) → name_by u s (name_in u (os ++ o ∷ [])) ≡ name_in u (o ∷ [])
    by None k rest = rest k
    by (Some x) k rest = at_test (x.uid == u) x k rest

pub plain_unnamed : (u : ℕ) (os : List Outcome) (o : Outcome) → IsPlain o → name_in u os ≡ None → name_in u (os ++ o ∷ []) ≡ None
plain_unnamed u os o p h = name_push u os o h ∙ one o p
  where
    none : Option UniqueAddress
    none = None

    one : (x : Outcome) → IsPlain x → name_in u (x ∷ []) ≡ none
    one (outcomes.Line moment line) q = ap (λ (s : Option UniqueAddress). name_by u s none) q.2
    one (outcomes.Wrote uid dial bytes) q = refl

-- ---- messages that were taken

-- What a line says was taken was sent before.
abbrev pub TookIt : List Entry → Option (Way × Rest) → Type 0
TookIt before None = Unit {0}
TookIt before (Some said) = IsAmong said.1 (sent_to said.0.1 said.0.0 before)

-- Each message that was taken was sent before.
abbrev pub TookSent : List Entry → Type 0
TookSent ls = (before after : List Entry) (e : Entry) → ls ≡ before ++ e ∷ after → TookIt before (says_took e.1)

-- a line more
pub record Split (ls : List Entry) (x : Entry) (before after : List Entry) (e : Entry) : Type 0 where
  pub last : Bool
  pub is : cond last ((ls ≡ before) × (x ≡ e)) ((rest : List Entry) × (ls ≡ before ++ e ∷ rest))

cons_head : {x y : Entry} {xs ys : List Entry} → x ∷ xs ≡ y ∷ ys → x ≡ y
cons_head h = cc

cons_tail : {x y : Entry} {xs ys : List Entry} → x ∷ xs ≡ y ∷ ys → xs ≡ ys
cons_tail h = cc

not_nil : {P : Type 0} {y : Entry} {ys : List Entry} → [] ≡ y ∷ ys → P
not_nil h = cc

split : (ls : List Entry) (x : Entry) (before after : List Entry) (e : Entry) → ls ++ x ∷ [] ≡ before ++ e ∷ after → Split ls x before after e
split [] x [] after e h = record { last = true; is = (refl, cons_head h) }
split [] x (b ∷ before) after e h = none before (cons_tail h)
  where
    none : (bs : List Entry) → [] ≡ bs ++ e ∷ after → Split [] x (b ∷ before) after e
    none [] k = not_nil k
    none (c ∷ bs) k = not_nil k
split (l ∷ ls) x [] after e h = record { last = false; is = (ls, ap (λ (y : Entry). y ∷ ls) (cons_head h)) }
split (l ∷ ls) x (b ∷ before) after e h = by (split ls x before after e (cons_tail h))
  where
    by : Split ls x before after e → Split (l ∷ ls) x (b ∷ before) after e
    by s = at_last s.last s.is
      where
        at_last : (last : Bool) → cond last ((ls ≡ before) × (x ≡ e)) ((rest : List Entry) × (ls ≡ before ++ e ∷ rest)) → Split (l ∷ ls) x (b ∷ before) after e
        at_last true k = record { last = true; is = (ap (λ ys. l ∷ ys) k.0 ∙ ap (λ (y : Entry). y ∷ before) (cons_head h), k.1) }
        at_last false k = record { last = false; is = (k.0, ap (λ ys. l ∷ ys) k.1 ∙ ap (λ (y : Entry). y ∷ before ++ e ∷ k.0) (cons_head h)) }

took_push : (ls : List Entry) (x : Entry) → TookIt ls (says_took x.1) → TookSent ls → TookSent (ls ++ x ∷ [])
took_push ls x t h before after e k = by (split ls x before after e k)
  where
    by : Split ls x before after e → TookIt before (says_took e.1)
    by s = at_last s.last s.is
      where
        at_last : (last : Bool) → cond last ((ls ≡ before) × (x ≡ e)) ((rest : List Entry) × (ls ≡ before ++ e ∷ rest)) → TookIt before (says_took e.1)
        at_last true q = subst (λ (y : Entry). TookIt before (says_took y.1)) q.1 (subst (λ ys. TookIt ys (says_took x.1)) q.0 t)
        at_last false q = h before q.0 e q.1

pub took_none : TookSent []
took_none before after e h = none before h
  where
    none : (bs : List Entry) → [] ≡ bs ++ e ∷ after → TookIt before (says_took e.1)
    none [] k = not_nil k
    none (b ∷ bs) k = not_nil k

pub took_line : (os : List Outcome) (moment : ℕ) (line : Line) → TookIt (lines_in os) (says_took line) → TookSent (lines_in os) → TookSent (lines_in (os ++ outcomes.Line moment line ∷ []))
took_line os moment line t h = subst TookSent (sym (lines_append os (outcomes.Line moment line ∷ []))) (took_push (lines_in os) (Some moment, line) t h)

pub took_plain : (os : List Outcome) (o : Outcome) → IsPlain o → TookSent (lines_in os) → TookSent (lines_in (os ++ o ∷ []))
took_plain os (outcomes.Line moment line) p h = took_line os moment line (subst (TookIt (lines_in os)) (sym p.1) tt) h
took_plain os (outcomes.Wrote uid dial bytes) p h = subst TookSent (sym (lines_append os (outcomes.Wrote uid dial bytes ∷ []) ∙ append-nil (lines_in os))) h

-- ---- what is written says what was told

abbrev pub IsOwnControl : List Outcome → ℕ → Control → Type 0
IsOwnControl os far (controls.HandshakeRsp from for_uid its_nonce) = IsNamed from os
IsOwnControl os far (controls.Numbered n m from) = (t : UniqueAddress) × (t.uid ≡ far) × IsNamed t os × IsAmong (n, m) (sent_in from t os)
IsOwnControl os far _ = Unit {0}

-- An answer on a connection that reaches an incarnation bears a name, and a numbered message there was sent to that incarnation.
abbrev pub IsOwn : List Outcome → ℕ → Writing → Type 0
IsOwn os far (Begins stream) = Unit {0}
IsOwn os far (Controls control) = IsOwnControl os far control
IsOwn os far (Sends envelope) = Unit {0}

own_control : (xs ys : List Outcome) (far : ℕ) (control : Control) → IsPrefix xs ys → IsOwnControl xs far control → IsOwnControl ys far control
own_control xs ys far (controls.HandshakeRsp from for_uid its_nonce) p h = named_more from xs ys p h
own_control xs ys far (controls.Numbered n m from) p h = (h.0, h.1, named_more h.0 xs ys p h.2, among_more (n, m) (sent_in from h.0 xs) (sent_in from h.0 ys) (sent_prefix from h.0 xs ys p) h.3)
own_control xs ys far (controls.HandshakeReq from to its_nonce) p h = tt
own_control xs ys far (controls.Quarantined from to) p h = tt
own_control xs ys far (controls.Terminating from) p h = tt
own_control xs ys far (controls.TerminatingAck from) p h = tt
own_control xs ys far (controls.RefsTable from origin_uid version keys values sequence) p h = tt
own_control xs ys far (controls.RefsAck from version sequence) p h = tt
own_control xs ys far (controls.ManifestsTable from origin_uid version keys values sequence) p h = tt
own_control xs ys far (controls.ManifestsAck from version sequence) p h = tt
own_control xs ys far (controls.Ack n from) p h = tt
own_control xs ys far (controls.Nack n from) p h = tt
own_control xs ys far controls.Heartbeat p h = tt
own_control xs ys far (controls.HeartbeatRsp uid) p h = tt

pub own_more : (xs ys : List Outcome) (far : ℕ) (x : Writing) → IsPrefix xs ys → IsOwn xs far x → IsOwn ys far x
own_more xs ys far (Begins stream) p h = tt
own_more xs ys far (Controls control) p h = own_control xs ys far control p h
own_more xs ys far (Sends envelope) p h = tt
