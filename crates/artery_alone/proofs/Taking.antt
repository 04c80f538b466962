-- Messages taken, by their numbers: what is known of them and of who sent them, and what the lines of a node tell of them.
use Rattle.std.proofs.Common.{◌≡◌, ℕ, zero, suc, ◌+◌, ◌-◌, ◌≤◌, Bool, true, false, cond, List, [], ◌∷◌, ◌++◌, length, map, refl, ap, sym, ◌∙◌, subst, true≢false, arith}
use Rattle.std.proofs.lemmas.Bool.Decides.{nat_tests}
use Rattle.std.specs.Prelude.{◌&&◌, ◌||◌, ◌==◌, nat_lt, nat_le, is_some, filter, Option, Some, None, unwrap_or}
use Rattle.std.specs.List.{find, list_any}
use Rattle.std.specs.Map.{lookup, set_value}
use Rattle.artery_base.specs.declared.address.UniqueAddress.{UniqueAddress}
use Rattle.artery_base.specs.declared.message.SysMsg.{SysMsg}
use Rattle.artery_base.specs.contracts.address.UniqueAddressEq.TheImpl.Laws.{laws-law}
use Rattle.artery_delivery.specs.Inbound as inb
use Rattle.artery_delivery.specs.Limits.{never_expected}
use Rattle.artery_delivery.specs.declared.inbound.Opened.{Opened}
use Rattle.artery_delivery.specs.declared.inbound.Opened.TheVariants.{Opened as NewlyOpened, Known as KnownBefore, OriginsFull}
use Rattle.artery_delivery.specs.declared.inbound.Take.TheVariants.{Taken, Again, Gap}
use Rattle.artery_handshake.specs.Incoming.{state_after_req}
use Rattle.artery_handshake.specs.declared.in_conn.InState.{InState}
use Rattle.artery_handshake.specs.declared.in_conn.InState.TheVariants.{Raw, Known}
use Rattle.artery_journal.specs.declared.line.Line.{Line}
use Rattle.artery_journal.specs.declared.line.Line.TheVariants as lines
use Rattle.artery_judge.specs.Lines.{Entry, Rest, same, is_way, says_took, rest_if}
use Rattle.artery_judge.specs.Laws.{taken_from}
use Rattle.artery_machine.specs.Lists.{change_first}
use Rattle.artery_machine.specs.Parts.{Parts, kept, whole}
use Rattle.artery_machine.specs.Node.{Inbound, Origin, same_unique, is_number, is_origin, put_inbound, accepted_as, speaker_in, new_origin}
use Rattle.artery_machine.specs.Handshaking.{most_origins, known_as}
use Rattle.artery_alone.proofs.Names.{unique_is, unique_self, number_is}
use Rattle.artery_alone.proofs.Quiet.{whos, speakers}

-- Whether an origin is among these.
abbrev pub is_known : UniqueAddress → List UniqueAddress → Bool
is_known v ws = list_any (λ w. same_unique w v) ws

-- The numbers of the messages that an incarnation took from another, the last first.
abbrev pub took_numbers : UniqueAddress → UniqueAddress → List Entry → List ℕ
took_numbers me b ls = map (λ r. r.0) (taken_from b me ls)

-- So many numbers down to 1.
abbrev pub down : ℕ → List ℕ
down zero = []
down (suc n) = suc n ∷ down n

down_next : (n : ℕ) → (n + 1) ∷ down n ≡ down (n + 1)
down_next n = let e : n + 1 ≡ suc n = omega arith in ap (λ x. x ∷ down n) e ∙ ap down (sym e)

-- What parts say of the messages taken: from whom some may be, and that they are numbered.
pub record Counting (P : Parts) : Type 1 where
  pub keys : P.In → List UniqueAddress
  pub Sane : P.In → Type 0
  pub keys_none : keys P.nothing_taken ≡ []
  pub sane_none : Sane P.nothing_taken
  pub last_none : (v : UniqueAddress) → P.last_taken v P.nothing_taken ≡ 0
  pub opened_keys : (v : UniqueAddress) (i : P.In) → is_known v (keys i) ≡ false → nat_lt (length (keys i)) most_origins ≡ true → keys (P.opened v i) ≡ keys i ++ v ∷ []
  pub opened_last : (v u : UniqueAddress) (i : P.In) → P.last_taken u (P.opened v i) ≡ P.last_taken u i
  pub opened_sane : (v : UniqueAddress) (i : P.In) → Sane i → Sane (P.opened v i)
  pub next : (v : UniqueAddress) (n : ℕ) (i : P.In) → Sane i → P.taking v n i ≡ Taken → n ≡ P.last_taken v i + 1
  pub taken_keys : (v : UniqueAddress) (n : ℕ) (x : SysMsg) (i : P.In) → keys (P.taken v n x i) ≡ keys i
  pub taken_last : (v : UniqueAddress) (n : ℕ) (x : SysMsg) (i : P.In) → is_known v (keys i) ≡ true → P.taking v n i ≡ Taken → Sane i → P.last_taken v (P.taken v n x i) ≡ n
  pub taken_other : (v u : UniqueAddress) (n : ℕ) (x : SysMsg) (i : P.In) → same u v ≡ false → P.last_taken u (P.taken v n x i) ≡ P.last_taken u i
  pub taken_sane : (v : UniqueAddress) (n : ℕ) (x : SysMsg) (i : P.In) → Sane i → Sane (P.taken v n x i)

-- Everyone who speaks is among these.
abbrev pub AllKnown : List UniqueAddress → List (Option UniqueAddress) → Type 0
AllKnown ws [] = Unit {0}
AllKnown ws (None ∷ os) = AllKnown ws os
AllKnown ws (Some v ∷ os) = (is_known v ws ≡ true) × AllKnown ws os

-- Messages may be taken from the origins alone, everyone who speaks is one, and the lines tell the numbers of those that were taken: 1, 2, 3 and so on.
pub record Took {P : Parts} (k : Counting P) (me : UniqueAddress) (i : P.In) (ws : List UniqueAddress) (os : List (Option UniqueAddress)) (ls : List Entry) : Type 0 where
  pub sane : k.Sane i
  pub keys : k.keys i ≡ ws
  pub known : AllKnown ws os
  pub numbered : (b : UniqueAddress) → took_numbers me b ls ≡ down (P.last_taken b i)

-- ---- lists

known_more : (u : UniqueAddress) (ws vs : List UniqueAddress) → is_known u ws ≡ true → is_known u (ws ++ vs) ≡ true
known_more u [] vs h = absurd (true≢false (sym h))
known_more u (w ∷ ws) vs h = by (same_unique w u) h (known_more u ws vs)
  where
    by : (b : Bool) → (b || is_known u ws) ≡ true → (is_known u ws ≡ true → is_known u (ws ++ vs) ≡ true) → (b || is_known u (ws ++ vs)) ≡ true
    by true e rest = refl
    by false e rest = rest e

known_last : (v : UniqueAddress) (ws : List UniqueAddress) → is_known v (ws ++ v ∷ []) ≡ true
known_last v [] = ap (λ b. b || false) (unique_self v)
known_last v (w ∷ ws) = by (same_unique w v) (known_last v ws)
  where
    by : (b : Bool) → is_known v (ws ++ v ∷ []) ≡ true → (b || is_known v (ws ++ v ∷ [])) ≡ true
    by true rest = refl
    by false rest = rest

all_more : (ws vs : List UniqueAddress) (os : List (Option UniqueAddress)) → AllKnown ws os → AllKnown (ws ++ vs) os
all_more ws vs [] h = tt
all_more ws vs (None ∷ os) h = all_more ws vs os h
all_more ws vs (Some v ∷ os) h = (known_more v ws vs h.0, all_more ws vs os h.1)

-- One who speaks, and then the others.
all_cons : (ws : List UniqueAddress) (o : Option UniqueAddress) (os : List (Option UniqueAddress)) → ((v : UniqueAddress) → o ≡ Some v → is_known v ws ≡ true) → AllKnown ws os → AllKnown ws (o ∷ os)
all_cons ws None os h r = r
all_cons ws (Some v) os h r = (h v refl, r)

all_head : (ws : List UniqueAddress) (o : Option UniqueAddress) (os : List (Option UniqueAddress)) → AllKnown ws (o ∷ os) → (v : UniqueAddress) → o ≡ Some v → is_known v ws ≡ true
all_head ws None os h v e = absurd cc
all_head ws (Some u) os h v e = ap (λ (x : UniqueAddress). is_known x ws) (sym (some_who u v e)) ∙ h.0
  where
    some_who : (u v : UniqueAddress) → Some u ≡ Some v → u ≡ v
    some_who u v e = ap (λ (o : Option UniqueAddress). unwrap_or o u) e

all_tail : (ws : List UniqueAddress) (o : Option UniqueAddress) (os : List (Option UniqueAddress)) → AllKnown ws (o ∷ os) → AllKnown ws os
all_tail ws None os h = h
all_tail ws (Some u) os h = h.1

module _ {P : Parts} where
  -- The speaker of an inbound connection that was found is known.
  pub found_known : (ws : List UniqueAddress) (test : Inbound P → Bool) (is : List (Inbound P)) (i : Inbound P) → AllKnown ws (speakers is) → find test is ≡ Some i → (v : UniqueAddress) → speaker_in i.state ≡ Some v → is_known v ws ≡ true
  found_known ws test [] i h f v e = absurd cc
  found_known ws test (j ∷ is) i h f v e = by (test j) f (found_known ws test is i (all_tail ws (speaker_in j.state) (speakers is) h))
    where
      some_is : (x y : Inbound P) → Some x ≡ Some y → x ≡ y
      some_is x y e = ap (λ (o : Option (Inbound P)). unwrap_or o x) e

      by : (b : Bool) → cond b (Some j) (find test is) ≡ Some i → (find test is ≡ Some i → (v : UniqueAddress) → speaker_in i.state ≡ Some v → is_known v ws ≡ true) → is_known v ws ≡ true
      by true g rest = all_head ws (speaker_in j.state) (speakers is) h v (ap (λ (x : Inbound P). speaker_in x.state) (some_is j i g) ∙ e)
      by false g rest = rest g v e

  pub known_as_known : (ws : List UniqueAddress) (k : ℕ) (v : UniqueAddress) (its_nonce : Option ℕ) (is : List (Inbound P)) → is_known v ws ≡ true → AllKnown ws (speakers is) → AllKnown ws (speakers (change_first (is_number k) (known_as v its_nonce) is))
  known_as_known ws k v its_nonce [] e h = tt
  known_as_known ws k v its_nonce (i ∷ is) e h = by (is_number k i) (known_as_known ws k v its_nonce is e (all_tail ws (speaker_in i.state) (speakers is) h))
    where
      who : (s : InState) → ((u : UniqueAddress) → speaker_in s ≡ Some u → is_known u ws ≡ true) → (u : UniqueAddress) → speaker_in (state_after_req v its_nonce s) ≡ Some u → is_known u ws ≡ true
      who Raw g u t = ap (λ (x : UniqueAddress). is_known x ws) (sym (ap (λ (o : Option UniqueAddress). unwrap_or o v) t)) ∙ e
      who (Known w shown) g u t = g u t

      by : (b : Bool) → AllKnown ws (speakers (change_first (is_number k) (known_as v its_nonce) is)) → AllKnown ws (speakers (cond b (known_as v its_nonce i ∷ is) (i ∷ change_first (is_number k) (known_as v its_nonce) is)))
      by true rest = all_cons ws (speaker_in (state_after_req v its_nonce i.state)) (speakers is) (who i.state (all_head ws (speaker_in i.state) (speakers is) h)) (all_tail ws (speaker_in i.state) (speakers is) h)
      by false rest = all_cons ws (speaker_in i.state) (speakers (change_first (is_number k) (known_as v its_nonce) is)) (all_head ws (speaker_in i.state) (speakers is) h) rest

  pub put_known : (ws : List UniqueAddress) (k : ℕ) (is : List (Inbound P)) → AllKnown ws (speakers is) → AllKnown ws (speakers (put_inbound (accepted_as k) is))
  put_known ws k [] h = tt
  put_known ws k (j ∷ is) h = by (j.number == k) (nat_lt k j.number) (put_known ws k is (all_tail ws (speaker_in j.state) (speakers is) h))
    where
      by : (b c : Bool) → AllKnown ws (speakers (put_inbound (accepted_as k) is)) → AllKnown ws (speakers (cond b (accepted_as k ∷ is) (cond c (accepted_as k ∷ j ∷ is) (j ∷ put_inbound (accepted_as k) is))))
      by true c rest = all_tail ws (speaker_in j.state) (speakers is) h
      by false true rest = h
      by false false rest = all_cons ws (speaker_in j.state) (speakers (put_inbound (accepted_as k) is)) (all_head ws (speaker_in j.state) (speakers is) h) rest

  pub filter_known : (ws : List UniqueAddress) (test : Inbound P → Bool) (is : List (Inbound P)) → AllKnown ws (speakers is) → AllKnown ws (speakers (filter test is))
  filter_known ws test [] h = tt
  filter_known ws test (j ∷ is) h = by (test j) (filter_known ws test is (all_tail ws (speaker_in j.state) (speakers is) h))
    where
      by : (b : Bool) → AllKnown ws (speakers (filter test is)) → AllKnown ws (speakers (cond b (j ∷ filter test is) (filter test is)))
      by true rest = all_cons ws (speaker_in j.state) (speakers (filter test is)) (all_head ws (speaker_in j.state) (speakers is) h) rest
      by false rest = rest

  pub has_is_known : (v : UniqueAddress) (os : List (Origin P)) → list_any (is_origin v) os ≡ is_known v (whos os)
  has_is_known v [] = refl
  has_is_known v (o ∷ os) = ap (λ b. same_unique o.who v || b) (has_is_known v os)

  pub whos_length : (os : List (Origin P)) → length os ≡ length (whos os)
  whos_length [] = refl
  whos_length (o ∷ os) = ap suc (whos_length os)

  pub whos_more : (os : List (Origin P)) (now : ℕ) (v : UniqueAddress) → whos (os ++ new_origin now v ∷ []) ≡ whos os ++ v ∷ []
  whos_more [] now v = refl
  whos_more (o ∷ os) now v = ap (λ ws. o.who ∷ ws) (whos_more os now v)

-- ---- lines and messages

module _ {P : Parts} {k : Counting P} {me : UniqueAddress} {i : P.In} {ws : List UniqueAddress} {os : List (Option UniqueAddress)} {ls : List Entry} where
  -- A line more that is of no message taken.
  pub took_line : (m : ℕ) (line : Line) → says_took line ≡ None → Took k me i ws os ls → Took k me i ws os ((Some m, line) ∷ ls)
  took_line m line e t = record { sane = t.sane; keys = t.keys; known = t.known; numbered = λ b. ap (λ o. map (λ (r : Rest). r.0) (rest_if (is_way me b) o ++ taken_from b me ls)) e ∙ t.numbered b }

  pub took_alike : (ks : List Entry) → ((b : UniqueAddress) → taken_from b me ks ≡ taken_from b me ls) → Took k me i ws os ls → Took k me i ws os ks
  took_alike ks e t = record { sane = t.sane; keys = t.keys; known = t.known; numbered = λ b. ap (λ rs. map (λ (r : Rest). r.0) rs) (e b) ∙ t.numbered b }

  -- A message is taken, and a line tells so.
  pub took_more : (m : ℕ) (v : UniqueAddress) (n : ℕ) (x : SysMsg) → is_known v ws ≡ true → P.taking v n i ≡ Taken → Took k me i ws os ls → Took k me (P.taken v n x i) ws os ((Some m, lines.Took me v n x) ∷ ls)
  took_more m v n x w e t = record {
    sane = k.taken_sane v n x i t.sane;
    keys = k.taken_keys v n x i ∙ t.keys;
    known = t.known;
    numbered = λ b. start b ∙ by b (same b v) refl;
  }
    where
      start : (b : UniqueAddress) → took_numbers me b ((Some m, lines.Took me v n x) ∷ ls) ≡ map (λ (r : Rest). r.0) (cond (same b v) ((n, x) ∷ []) [] ++ taken_from b me ls)
      start b = ap (λ c. map (λ (r : Rest). r.0) (cond (c && same b v) ((n, x) ∷ []) [] ++ taken_from b me ls)) (unique_self me)

      number : n ≡ P.last_taken v i + 1
      number = k.next v n i t.sane e

      here : is_known v (k.keys i) ≡ true
      here = ap (is_known v) t.keys ∙ w

      by : (b : UniqueAddress) (c : Bool) → same b v ≡ c → map (λ (r : Rest). r.0) (cond c ((n, x) ∷ []) [] ++ taken_from b me ls) ≡ down (P.last_taken b (P.taken v n x i))
      by b true s =
          let is : b ≡ v = unique_is b v s in
          ap (λ y. n ∷ y) (t.numbered b)
          ∙ ap (λ (u : UniqueAddress). n ∷ down (P.last_taken u i)) is
          ∙ ap (λ y. y ∷ down (P.last_taken v i)) number
          ∙ down_next (P.last_taken v i)
          ∙ ap down (sym number)
          ∙ ap down (sym (k.taken_last v n x i here e t.sane))
          ∙ ap (λ (u : UniqueAddress). down (P.last_taken u (P.taken v n x i))) (sym is)
      by b false s = t.numbered b ∙ ap down (sym (k.taken_other v b n x i s))

  pub took_speakers : (ps : List (Option UniqueAddress)) → AllKnown ws ps → Took k me i ws os ls → Took k me i ws ps ls
  took_speakers ps h t = record { sane = t.sane; keys = t.keys; known = h; numbered = t.numbered }

  -- A new origin.
  pub took_origin : (v : UniqueAddress) → is_known v ws ≡ false → nat_lt (length ws) most_origins ≡ true → Took k me i ws os ls → Took k me (P.opened v i) (ws ++ v ∷ []) os ls
  took_origin v w l t = record {
    sane = k.opened_sane v i t.sane;
    keys = k.opened_keys v i (ap (is_known v) t.keys ∙ w) (ap (λ x. nat_lt (length x) most_origins) t.keys ∙ l) ∙ ap (λ x. x ++ v ∷ []) t.keys;
    known = all_more ws (v ∷ []) os t.known;
    numbered = λ b. t.numbered b ∙ ap down (sym (k.opened_last v b i));
  }

pub last_known : (v : UniqueAddress) (ws : List UniqueAddress) → is_known v (ws ++ v ∷ []) ≡ true
last_known v ws = known_last v ws

-- ---- maps by origin

same_turned : (a b : UniqueAddress) → same a b ≡ same b a
same_turned a b = laws-law.symm a b

module _ {X : Type 0} where
  abbrev keys_of : List (UniqueAddress × X) → List UniqueAddress
  keys_of es = map (λ e. e.0) es

  keys_more : (es : List (UniqueAddress × X)) (v : UniqueAddress) (x : X) → keys_of (es ++ (v, x) ∷ []) ≡ keys_of es ++ v ∷ []
  keys_more [] v x = refl
  keys_more (e ∷ es) v x = ap (λ ks. e.0 ∷ ks) (keys_more es v x)

  keys_length : (es : List (UniqueAddress × X)) → length (keys_of es) ≡ length es
  keys_length [] = refl
  keys_length (e ∷ es) = ap suc (keys_length es)

  keys_set : (test : UniqueAddress → Bool) (es : List (UniqueAddress × X)) (x : X) → keys_of (set_value test es x) ≡ keys_of es
  keys_set test [] x = refl
  keys_set test (e ∷ es) x = by (test e.0) (keys_set test es x)
    where
      by : (b : Bool) → keys_of (set_value test es x) ≡ keys_of es → keys_of (cond b ((e.0, x) ∷ es) (e ∷ set_value test es x)) ≡ keys_of (e ∷ es)
      by true rest = refl
      by false rest = ap (λ ks. e.0 ∷ ks) rest

  -- An origin is known where something is found for it.
  known_found : (v : UniqueAddress) (es : List (UniqueAddress × X)) → is_known v (keys_of es) ≡ is_some (lookup (same v) es)
  known_found v [] = refl
  known_found v (e ∷ es) = ap (λ b. b || is_known v (keys_of es)) (same_turned e.0 v) ∙ by (same v e.0) (known_found v es)
    where
      by : (b : Bool) → is_known v (keys_of es) ≡ is_some (lookup (same v) es) → (b || is_known v (keys_of es)) ≡ is_some (cond b (Some e.1) (lookup (same v) es))
      by true rest = refl
      by false rest = rest

  found_more : (u v : UniqueAddress) (x : X) (es : List (UniqueAddress × X)) → unwrap_or (lookup (same u) (es ++ (v, x) ∷ [])) x ≡ unwrap_or (lookup (same u) es) x
  found_more u v x [] = by (same u v)
    where
      by : (b : Bool) → unwrap_or (cond b (Some x) None) x ≡ x
      by true = refl
      by false = refl
  found_more u v x (e ∷ es) = by (same u e.0) (found_more u v x es)
    where
      by : (b : Bool) → unwrap_or (lookup (same u) (es ++ (v, x) ∷ [])) x ≡ unwrap_or (lookup (same u) es) x → unwrap_or (cond b (Some e.1) (lookup (same u) (es ++ (v, x) ∷ []))) x ≡ unwrap_or (cond b (Some e.1) (lookup (same u) es)) x
      by true rest = refl
      by false rest = rest

  set_here : (v : UniqueAddress) (es : List (UniqueAddress × X)) (x : X) → is_some (lookup (same v) es) ≡ true → lookup (same v) (set_value (same v) es x) ≡ Some x
  set_here v [] x h = absurd (true≢false (sym h))
  set_here v (e ∷ es) x h = by (same v e.0) refl h (set_here v es x)
    where
      by : (b : Bool) → same v e.0 ≡ b → is_some (cond b (Some e.1) (lookup (same v) es)) ≡ true → (is_some (lookup (same v) es) ≡ true → lookup (same v) (set_value (same v) es x) ≡ Some x)
          → lookup (same v) (cond b ((e.0, x) ∷ es) (e ∷ set_value (same v) es x)) ≡ Some x
      by true t i rest = ap (λ b. cond b (Some x) (lookup (same v) es)) t
      by false t i rest = ap (λ b. cond b (Some e.1) (lookup (same v) (set_value (same v) es x))) t ∙ rest i

  set_there : (u v : UniqueAddress) (es : List (UniqueAddress × X)) (x : X) → same u v ≡ false → lookup (same u) (set_value (same v) es x) ≡ lookup (same u) es
  set_there u v [] x h = refl
  set_there u v (e ∷ es) x h = by (same v e.0) refl (set_there u v es x h)
    where
      by : (b : Bool) → same v e.0 ≡ b → lookup (same u) (set_value (same v) es x) ≡ lookup (same u) es → lookup (same u) (cond b ((e.0, x) ∷ es) (e ∷ set_value (same v) es x)) ≡ lookup (same u) (e ∷ es)
      by true t rest =
          let n : same u e.0 ≡ false = ap (same u) (sym (unique_is v e.0 t)) ∙ h in
          ap (λ b. cond b (Some x) (lookup (same u) es)) n ∙ sym (ap (λ b. cond b (Some e.1) (lookup (same u) es)) n)
      by false t rest = ap (λ o. cond (same u e.0) (Some e.1) o) rest

-- ---- whole histories

no_again : (n l : ℕ) → cond (nat_le n l) (Again l) (cond (inb.is_expected n (l + 1)) Taken (Gap l)) ≡ Taken → (inb.is_expected n (l + 1) ≡ true) × (n ≡ l + 1)
no_again n l h = by (nat_le n l) (inb.is_expected n (l + 1)) refl h
  where
    by : (b c : Bool) → inb.is_expected n (l + 1) ≡ c → cond b (Again l) (cond c Taken (Gap l)) ≡ Taken → (inb.is_expected n (l + 1) ≡ true) × (n ≡ l + 1)
    by true c t e = absurd cc
    by false false t e = absurd cc
    by false true t e = (t, number_is n (l + 1) (first (n == l + 1) (nat_lt n never_expected) t))
      where
        first : (b c : Bool) → (b && c) ≡ true → b ≡ true
        first true c h = refl
        first false c h = h

abbrev Lists : Type 0
Lists = List (UniqueAddress × List SysMsg)

lists_last : (u v : UniqueAddress) (es : Lists) (o : Opened) → length (unwrap_or (lookup (same u) (inb.lists_after o v es)) []) ≡ length (unwrap_or (lookup (same u) es) [])
lists_last u v es NewlyOpened = ap length (found_more u v [] es)
lists_last u v es KnownBefore = refl
lists_last u v es OriginsFull = refl

not_full : (n : ℕ) → nat_lt n most_origins ≡ true → nat_le most_origins n ≡ false
not_full n h = grind (arith, nat_tests)

pub whole_counting : Counting whole
whole_counting = record {
  keys = λ es. keys_of es;
  Sane = λ es. Unit {0};
  keys_none = refl;
  sane_none = tt;
  last_none = λ v. refl;
  opened_keys = λ v es w l.
      ap (λ b. keys_of (inb.lists_after (cond b KnownBefore (cond (nat_le most_origins (length es)) OriginsFull NewlyOpened)) v es)) (sym (known_found v es) ∙ w)
      ∙ ap (λ b. keys_of (inb.lists_after (cond b OriginsFull NewlyOpened) v es)) (not_full (length es) (ap (λ x. nat_lt x most_origins) (sym (keys_length es)) ∙ l))
      ∙ keys_more es v [];
  opened_last = λ v u es. lists_last u v es (inb.answer_to_open v es);
  opened_sane = λ v es s. tt;
  next = λ v n es s h. (no_again n (length (inb.messages_from v es)) h).1;
  taken_keys = λ v n x es. set_keys v n x es (inb.is_expected n (length (inb.messages_from v es) + 1));
  taken_last = λ v n x es w h s.
      let a = no_again n (length (inb.messages_from v es)) h in
      ap (λ b. length (unwrap_or (lookup (same v) (cond b (set_value (same v) es (inb.messages_from v es ++ x ∷ [])) es)) [])) a.0
      ∙ ap (λ o. length (unwrap_or o [])) (set_here v es (inb.messages_from v es ++ x ∷ []) (sym (known_found v es) ∙ w))
      ∙ length_last (inb.messages_from v es) x ∙ sym a.1;
  taken_other = λ v u n x es h. other_last v u x es (inb.is_expected n (length (inb.messages_from v es) + 1)) h;
  taken_sane = λ v n x es s. tt;
}
  where
    set_keys : (v : UniqueAddress) (n : ℕ) (x : SysMsg) (es : Lists) (b : Bool) → keys_of (cond b (set_value (same v) es (inb.messages_from v es ++ x ∷ [])) es) ≡ keys_of es
    set_keys v n x es true = keys_set (same v) es (inb.messages_from v es ++ x ∷ [])
    set_keys v n x es false = refl

    length_last : (xs : List SysMsg) (x : SysMsg) → length (xs ++ x ∷ []) ≡ length xs + 1
    length_last [] x = refl
    length_last (y ∷ xs) x = let e : suc (length xs + 1) ≡ suc (length xs) + 1 = omega arith in ap suc (length_last xs x) ∙ e

    other_last : (v u : UniqueAddress) (x : SysMsg) (es : Lists) (b : Bool) → same u v ≡ false → length (unwrap_or (lookup (same u) (cond b (set_value (same v) es (inb.messages_from v es ++ x ∷ [])) es)) []) ≡ length (unwrap_or (lookup (same u) es) [])
    other_last v u x es true h = ap (λ o. length (unwrap_or o [])) (set_there u v es (inb.messages_from v es ++ x ∷ []) h)
    other_last v u x es false h = refl

-- ---- what is kept

abbrev Entries : Type 0
Entries = List (UniqueAddress × ℕ)

either_set : (u v : UniqueAddress) (y : ℕ) (R : Option ℕ → Type 0) (es : Entries) → R (Some y) → R (lookup (same u) es) → R (lookup (same u) (set_value (same v) es y))
either_set u v y R [] new old = old
either_set u v y R (e ∷ es) new old = subst R (sym (out (same v e.0))) (by (same v e.0) (same u e.0) old (either_set u v y R es new))
  where
    by : (b c : Bool) → R (cond c (Some e.1) (lookup (same u) es)) → (R (lookup (same u) es) → R (lookup (same u) (set_value (same v) es y))) → R (cond b (cond c (Some y) (lookup (same u) es)) (cond c (Some e.1) (lookup (same u) (set_value (same v) es y))))
    by true true old rest = new
    by true false old rest = old
    by false true old rest = old
    by false false old rest = rest old

    out : (b : Bool) → lookup (same u) (cond b ((e.0, y) ∷ es) (e ∷ set_value (same v) es y)) ≡ cond b (cond (same u e.0) (Some y) (lookup (same u) es)) (cond (same u e.0) (Some e.1) (lookup (same u) (set_value (same v) es y)))
    out true = refl
    out false = refl

no_again_kept : (n x : ℕ) → cond (nat_lt n x) (Again (x - 1)) (cond (inb.is_expected n x) Taken (Gap (x - 1))) ≡ Taken → (inb.is_expected n x ≡ true) × (n ≡ x)
no_again_kept n x h = by (nat_lt n x) (inb.is_expected n x) refl h
  where
    by : (b c : Bool) → inb.is_expected n x ≡ c → cond b (Again (x - 1)) (cond c Taken (Gap (x - 1))) ≡ Taken → (inb.is_expected n x ≡ true) × (n ≡ x)
    by true c t e = absurd cc
    by false false t e = absurd cc
    by false true t e = (t, number_is n x (first (n == x) (nat_lt n never_expected) t))
      where
        first : (b c : Bool) → (b && c) ≡ true → b ≡ true
        first true c h = refl
        first false c h = h

entries_last : (u v : UniqueAddress) (es : Entries) (o : Opened) → inb.next_of u (inb.entries_after o v es) ≡ inb.next_of u es
entries_last u v es NewlyOpened = found_more u v 1 es
entries_last u v es KnownBefore = refl
entries_last u v es OriginsFull = refl

pub kept_counting : Counting kept
kept_counting = record {
  keys = λ es. keys_of es;
  Sane = λ es. (v : UniqueAddress) → 1 ≤ inb.next_of v es;
  keys_none = refl;
  sane_none = λ v. omega arith;
  last_none = λ v. refl;
  opened_keys = λ v es w l.
      ap (λ b. keys_of (inb.entries_after (cond b KnownBefore (cond (nat_le most_origins (length es)) OriginsFull NewlyOpened)) v es)) (sym (known_found v es) ∙ w)
      ∙ ap (λ b. keys_of (inb.entries_after (cond b OriginsFull NewlyOpened) v es)) (not_full (length es) (ap (λ x. nat_lt x most_origins) (sym (keys_length es)) ∙ l))
      ∙ keys_more es v 1;
  opened_last = λ v u es. ap (λ x. x - 1) (entries_last u v es (inb.opening v es));
  opened_sane = λ v es s u. subst (λ x. 1 ≤ x) (sym (entries_last u v es (inb.opening v es))) (s u);
  next = λ v n es s h. next_is (inb.next_of v es) n (s v) (no_again_kept n (inb.next_of v es) h).1;
  taken_keys = λ v n x es. set_keys v n es (inb.is_expected n (inb.next_of v es));
  taken_last = λ v n x es w h s.
      let a = no_again_kept n (inb.next_of v es) h in
      ap (λ b. unwrap_or (lookup (same v) (cond b (set_value (same v) es (n + 1)) es)) 1 - 1) a.0
      ∙ ap (λ o. unwrap_or o 1 - 1) (set_here v es (n + 1) (sym (known_found v es) ∙ w))
      ∙ back n;
  taken_other = λ v u n x es h. other_last v u n es (inb.is_expected n (inb.next_of v es)) h;
  taken_sane = λ v n x es s u. sane_set u v n es (inb.is_expected n (inb.next_of v es)) (s u);
}
  where
    next_is : (x n : ℕ) → 1 ≤ x → n ≡ x → n ≡ (x - 1) + 1
    next_is x n h e = omega (arith, h, e)

    back : (n : ℕ) → (n + 1) - 1 ≡ n
    back n = omega arith

    set_keys : (v : UniqueAddress) (n : ℕ) (es : Entries) (b : Bool) → keys_of (cond b (set_value (same v) es (n + 1)) es) ≡ keys_of es
    set_keys v n es true = keys_set (same v) es (n + 1)
    set_keys v n es false = refl

    other_last : (v u : UniqueAddress) (n : ℕ) (es : Entries) (b : Bool) → same u v ≡ false → unwrap_or (lookup (same u) (cond b (set_value (same v) es (n + 1)) es)) 1 - 1 ≡ unwrap_or (lookup (same u) es) 1 - 1
    other_last v u n es true h = ap (λ o. unwrap_or o 1 - 1) (set_there u v es (n + 1) h)
    other_last v u n es false h = refl

    sane_set : (u v : UniqueAddress) (n : ℕ) (es : Entries) (b : Bool) → 1 ≤ inb.next_of u es → 1 ≤ unwrap_or (lookup (same u) (cond b (set_value (same v) es (n + 1)) es)) 1
    sane_set u v n es true h = either_set u v (n + 1) (λ o. 1 ≤ unwrap_or o 1) es (more n) h
      where
        more : (n : ℕ) → 1 ≤ n + 1
        more n = omega arith
    sane_set u v n es false h = h
