-- The ordinary law of the journal of a network.
use Rattle.std.proofs.Common.{◌≡◌, ℕ, Bool, true, false, ◌&&◌, ◌||◌, cond, List, [], ◌∷◌, ◌++◌, refl, sym, ◌∙◌, ap, subst, append_assoc, append-nil, rules}
use Rattle.std.specs.Prelude.{Option, Some, None, not}
use Rattle.std.specs.Cmp.Rules.{comparing}
use Rattle.artery_base.specs.declared.address.UniqueAddress.{UniqueAddress}
use Rattle.artery_base.specs.declared.message.Tell.{Tell}
use Rattle.artery_journal.specs.declared.line.Line.{Line}
use Rattle.artery_judge.specs.Lines.{Entry, Way, says_told, says_got, rest_if}
use Rattle.artery_judge.specs.Laws.{same_tell, is_subsequence, is_dial, is_nonce, told_to, got_from, breaks_ordinary}
use Rattle.artery_script.specs.declared.script.ScriptLine.{ScriptLine}
use Rattle.artery_machine.specs.declared.world.Outcome.{Outcome}
use Rattle.artery_machine.specs.declared.world.Outcome.TheVariants as outcomes
use Rattle.artery_machine.specs.Parts.{whole}
use Rattle.artery_machine.specs.Ways.{whole_ways}
use Rattle.artery_machine.specs.Playing.{run}
use Rattle.artery_alone.specs.Alone.{Keeps}
use Rattle.artery_alone.specs.Network.{journal_of, journal}
use Rattle.artery_flight.specs.Answers.{AreReadBack}
use Rattle.artery_flight.proofs.Meetings.{all_read}
use Rattle.artery_names.specs.Ordinary.{ordinary_law}
use Rattle.artery_names.proofs.Lists.{Within, First, Second}
use Rattle.artery_names.proofs.Talks.{Told, adopted_by, told_by, told_more, got_by, got_more, messages, newest}
use Rattle.artery_names.proofs.Facts.{KeepsOrdinary, IsLawful}
use Rattle.artery_names.proofs.Worlds.{Names}
use Rattle.artery_names.proofs.Playing.{run_both}

-- ---- the newest line first

-- These lines, the newest first, before others.
abbrev back : List Entry → List Line → List Line
back [] seen = seen
back (e ∷ es) seen = back es (e.1 ∷ seen)

newest_is : (os : List Outcome) (seen : List Line) → newest os seen ≡ back (journal_of os) seen
newest_is [] seen = refl
newest_is (outcomes.Line moment line ∷ os) seen = newest_is os (line ∷ seen)
newest_is (outcomes.Wrote uid dial bytes ∷ os) seen = newest_is os seen

back_both : (xs ys : List Entry) (seen : List Line) → back (xs ++ ys) seen ≡ back ys (back xs seen)
back_both [] ys seen = refl
back_both (x ∷ xs) ys seen = back_both xs ys (x.1 ∷ seen)

lawful_before : (es : List Entry) (ls : List Line) → IsLawful (back es ls) → IsLawful ls
lawful_before [] ls h = h
lawful_before (e ∷ es) ls h = (lawful_before es (e.1 ∷ ls) h).1

-- ---- what was got and told

got_rest : (a b : UniqueAddress) (d : ℕ) (x : Option ((Way × Option ℕ) × Tell)) (got : List Tell) → got_more a b d x got ≡ got ++ rest_if (is_nonce b a d) x
got_rest a b d None got = sym (append-nil got)
got_rest a b d (Some (key, message)) got = by (is_nonce b a d key)
  where
    by : (c : Bool) → cond c (got ++ message ∷ []) got ≡ got ++ cond c (message ∷ []) []
    by true = refl
    by false = sym (append-nil got)

got_back : (a b : UniqueAddress) (d : ℕ) (es : List Entry) (ls : List Line) → got_by a b d (back es ls) ≡ got_by a b d ls ++ got_from a b d es
got_back a b d [] ls = sym (append-nil (got_by a b d ls))
got_back a b d (e ∷ es) ls =
    got_back a b d es (e.1 ∷ ls) ∙ ap (λ xs. xs ++ got_from a b d es) (got_rest a b d (says_got e.1) (got_by a b d ls))
    ∙ append_assoc (got_by a b d ls) (rest_if (is_nonce b a d) (says_got e.1)) (got_from a b d es)

messages_both : (xs ys : List Told) → messages (xs ++ ys) ≡ messages xs ++ messages ys
messages_both [] ys = refl
messages_both (x ∷ xs) ys = ap (λ l. x.message ∷ l) (messages_both xs ys)

told_rest : (a b : UniqueAddress) (d : ℕ) (x : Option ((Way × ℕ) × Tell)) (ls : List Line) → messages (told_more a b d x (adopted_by a b ls) (told_by a b d ls)) ≡ messages (told_by a b d ls) ++ rest_if (is_dial a b d) x
told_rest a b d None ls = sym (append-nil (messages (told_by a b d ls)))
told_rest a b d (Some (key, message)) ls = by (is_dial a b d key)
  where
    by : (c : Bool) → messages (cond c (told_by a b d ls ++ record { message = message; numbers = adopted_by a b ls } ∷ []) (told_by a b d ls)) ≡ messages (told_by a b d ls) ++ cond c (message ∷ []) []
    by true = messages_both (told_by a b d ls) (record { message = message; numbers = adopted_by a b ls } ∷ [])
    by false = sym (append-nil (messages (told_by a b d ls)))

told_back : (a b : UniqueAddress) (d : ℕ) (es : List Entry) (ls : List Line) → messages (told_by a b d (back es ls)) ≡ messages (told_by a b d ls) ++ told_to a b d es
told_back a b d [] ls = sym (append-nil (messages (told_by a b d ls)))
told_back a b d (e ∷ es) ls =
    told_back a b d es (e.1 ∷ ls) ∙ ap (λ xs. xs ++ told_to a b d es) (told_rest a b d (says_told e.1) ls)
    ∙ append_assoc (messages (told_by a b d ls)) (rest_if (is_dial a b d) (says_told e.1)) (told_to a b d es)

-- ---- the law

tell_self : (x : Tell) → same_tell x x ≡ true
tell_self x = search (comparing, rules)

within_sub : (xs ys : List Tell) → Within xs ys → is_subsequence xs ys ≡ true
within_sub [] ys h = refl
within_sub (x ∷ xs) [] h = absurd h
within_sub (x ∷ xs) (y ∷ ys) (First k) = ap (λ (b : Bool). (b && is_subsequence xs ys) || is_subsequence (x ∷ xs) ys) (subst (λ (z : Tell). same_tell z x ≡ true) (sym k.0) (tell_self x)) ∙ ap (λ (b : Bool). b || is_subsequence (x ∷ xs) ys) (within_sub xs ys k.1)
within_sub (x ∷ xs) (y ∷ ys) (Second k) = ap (λ (b : Bool). (same_tell y x && is_subsequence xs ys) || b) (within_sub (x ∷ xs) ys k) ∙ or_true (same_tell y x && is_subsequence xs ys)
  where
    or_true : (b : Bool) → (b || true) ≡ true
    or_true true = refl
    or_true false = refl

not_broken : (before : List Entry) (x : Option ((Way × Option ℕ) × Tell)) → KeepsOrdinary (back before []) x → breaks_ordinary before x ≡ false
not_broken before None h = refl
not_broken before (Some ((way, None), message)) h = absurd h
not_broken before (Some (((b, a), Some d), message)) h =
    let gots : got_by a b d (back before []) ≡ got_from a b d before = got_back a b d before [] in
    let tolds : messages (told_by a b d (back before [])) ≡ told_to a b d before = told_back a b d before [] in
    ap not (within_sub (got_from a b d before ++ message ∷ []) (told_to a b d before)
    (subst (λ xs. Within (xs ++ message ∷ []) (told_to a b d before)) gots (subst (λ ys. Within (got_by a b d (back before []) ++ message ∷ []) ys) tolds h)))

keeps_ordinary : (js : List Entry) → IsLawful (back js []) → Keeps ordinary_law js
keeps_ordinary js lawful before after e h =
    let all : IsLawful (back after (e.1 ∷ back before [])) = subst IsLawful (ap (λ (xs : List Entry). back xs []) h ∙ back_both before (e ∷ after) []) lawful in
    not_broken before (says_got e.1) (lawful_before after (e.1 ∷ back before []) all).0

-- one who is nobody
somebody : UniqueAddress
somebody = record { address = record { protocol = []; system = []; host = []; port = 0 }; uid = 0 }

pub network_ordinary : (script : List ScriptLine) → AreReadBack (run {P = whole} {W = whole_ways} script).world.connections → Keeps ordinary_law (journal whole whole_ways script)
network_ordinary script r =
    let n : Names somebody (run {P = whole} {W = whole_ways} script).world = (run_both somebody script).names (all_read (run {P = whole} {W = whole_ways} script).world.connections r) in
    keeps_ordinary (journal whole whole_ways script) (subst IsLawful (newest_is (run {P = whole} {W = whole_ways} script).world.outcomes []) n.lawful)
