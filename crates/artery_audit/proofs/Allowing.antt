-- What a law says of a line rests on the lines of its own incarnation and on what others sent or told that one.
use Rattle.std.proofs.Common.{◌≡◌, ℕ, Bool, true, false, not, ◌&&◌, ◌||◌, List, [], ◌∷◌, ◌++◌, refl, ap, sym, subst, ◌∙◌, true≢false}
use Rattle.std.proofs.lemmas.Bool.{and_right}
use Rattle.std.proofs.lemmas.List.{append-nil}
use Rattle.std.specs.Prelude.{Option, Some, None, if◌then◌else◌}
use Rattle.std.specs.List.{list_any}
use Rattle.artery_base.specs.Words.{IsPrefix}
use Rattle.artery_base.specs.declared.message.Tell.{Tell}
use Rattle.artery_base.specs.declared.address.UniqueAddress.{UniqueAddress}
use Rattle.artery_journal.specs.declared.line.Line.{Line}
use Rattle.artery_journal.specs.declared.line.Line.TheVariants.{Learnt, Closed, Sent, Took, Again, Gap, Told, Got, Watched, Unwatched, Terminated}
use Rattle.artery_judge.specs.Lines.{Entry, Rest, same, is_way, of, says_sent, says_took, says_told, says_got, says_closed, deals, says_watched, says_unwatched, is_started, is_stopped, rest_if, rests, is_said}
use Rattle.artery_judge.specs.Laws.{same_rest, same_tell, is_prefix, is_subsequence, sent_to, taken_from, is_dial, is_nonce, told_to, got_from, breaks_prefix, has_closed, breaks_closed, is_watch, has_watched, has_ended, ends_nothing, breaks_watch, breaks_ordinary, breaks_stopped, first_law, plain}
use Rattle.artery_audit.specs.Parts.{lines_by}
use Rattle.artery_audit.specs.Merges.{law_after}
use Rattle.artery_audit.specs.Merging.{receiver_of}
use Rattle.artery_audit.proofs.Lines.{by_other}

-- ---- prefixes and subsequences of more

first_of : (b c : Bool) → (b && c) ≡ true → b ≡ true
first_of true c h = refl
first_of false c h = h

second_of : (b c : Bool) → (b && c) ≡ true → c ≡ true
second_of true c h = h
second_of false c h = absurd (true≢false (sym h))

prefix_of_more : (xs ys zs : List Rest) → is_prefix xs ys ≡ true → is_prefix xs (ys ++ zs) ≡ true
prefix_of_more [] ys zs h = refl
prefix_of_more (x ∷ xs) [] zs h = absurd (true≢false (sym h))
prefix_of_more (x ∷ xs) (y ∷ ys) zs h = rw (first_of (same_rest y x) (is_prefix xs ys) h) (prefix_of_more xs ys zs (second_of (same_rest y x) (is_prefix xs ys) h))

sub_of_more : (xs ys zs : List Tell) → is_subsequence xs ys ≡ true → is_subsequence xs (ys ++ zs) ≡ true
sub_of_more [] ys zs h = refl
sub_of_more (x ∷ xs) [] zs h = absurd (true≢false (sym h))
sub_of_more (x ∷ xs) (y ∷ ys) zs h = by (same_tell y x) (sub_of_more xs ys zs) (sub_of_more (x ∷ xs) ys zs) h
  where
    either : (s t s' t' : Bool) → (s ≡ true → s' ≡ true) → (t ≡ true → t' ≡ true) → (s || t) ≡ true → (s' || t') ≡ true
    either true t true t' f g h = refl
    either true t false t' f g h = absurd (true≢false (sym (f refl)))
    either false t true t' f g h = refl
    either false t false t' f g h = g h

    by : (b : Bool) → (is_subsequence xs ys ≡ true → is_subsequence xs (ys ++ zs) ≡ true) → (is_subsequence (x ∷ xs) ys ≡ true → is_subsequence (x ∷ xs) (ys ++ zs) ≡ true) → ((b && is_subsequence xs ys) || is_subsequence (x ∷ xs) ys) ≡ true → ((b && is_subsequence xs (ys ++ zs)) || is_subsequence (x ∷ xs) (ys ++ zs)) ≡ true
    by true f g h = either (is_subsequence xs ys) (is_subsequence (x ∷ xs) ys) (is_subsequence xs (ys ++ zs)) (is_subsequence (x ∷ xs) (ys ++ zs)) f g h
    by false f g h = g h

-- ---- what only the lines of one incarnation say

rests_own : {K R : Type 0} (says : Line → Option (K × R)) (test : K → Bool) (u : UniqueAddress) → ((l : Line) → same u (of l) ≡ false → rest_if test (says l) ≡ []) → (ls : List Line) → rests says test (plain ls) ≡ rests says test (plain (lines_by u ls))
rests_own says test u other [] = refl
rests_own says test u other (l ∷ ls) = by (same u (of l)) refl (rests_own says test u other ls)
  where
    by : (b : Bool) → same u (of l) ≡ b → rests says test (plain ls) ≡ rests says test (plain (lines_by u ls)) → rest_if test (says l) ++ rests says test (plain ls) ≡ rests says test (plain (if b then l ∷ lines_by u ls else lines_by u ls))
    by true is rest = ap (λ (r : List _). rest_if test (says l) ++ r) rest
    by false is rest = rw (other l is) rest

any_own : (test : Line → Bool) (u : UniqueAddress) → ((l : Line) → same u (of l) ≡ false → test l ≡ false) → (ls : List Line) → list_any (λ (e : Entry). test e.1) (plain ls) ≡ list_any (λ (e : Entry). test e.1) (plain (lines_by u ls))
any_own test u other [] = refl
any_own test u other (l ∷ ls) = by (same u (of l)) refl (any_own test u other ls)
  where
    by : (b : Bool) → same u (of l) ≡ b → list_any (λ (e : Entry). test e.1) (plain ls) ≡ list_any (λ (e : Entry). test e.1) (plain (lines_by u ls)) → (test l || list_any (λ (e : Entry). test e.1) (plain ls)) ≡ list_any (λ (e : Entry). test e.1) (plain (if b then l ∷ lines_by u ls else lines_by u ls))
    by true is rest = ap (λ (r : Bool). test l || r) rest
    by false is rest = rw (other l is) rest

took_own : (a b : UniqueAddress) (l : Line) → same b (of l) ≡ false → rest_if (is_way b a) (says_took l) ≡ []
took_own a b (Took x y n m) h = rw h refl
took_own a b l h = refl

sent_own : (a b : UniqueAddress) (l : Line) → same a (of l) ≡ false → rest_if (is_way a b) (says_sent l) ≡ []
sent_own a b (Sent x y n m) h = rw h refl
sent_own a b l h = refl

got_own : (a b : UniqueAddress) (d : ℕ) (l : Line) → same b (of l) ≡ false → rest_if (is_nonce b a d) (says_got l) ≡ []
got_own a b d (Got x y None m) h = refl
got_own a b d (Got x y (Some n) m) h = rw h refl
got_own a b d l h = refl

told_own : (a b : UniqueAddress) (d : ℕ) (l : Line) → same a (of l) ≡ false → rest_if (is_dial a b d) (says_told l) ≡ []
told_own a b d (Told x y n m) h = rw h refl
told_own a b d l h = refl

closed_own : (a b : UniqueAddress) (l : Line) → same a (of l) ≡ false → is_said (is_way a b) (says_closed l) ≡ false
closed_own a b (Closed x y cause) h = rw h refl
closed_own a b l h = refl

watched_own : (a : UniqueAddress) (id : ℕ) (l : Line) → same a (of l) ≡ false → is_said (is_watch a id) (says_watched l) ≡ false
watched_own a id (Watched x n w e) h = rw h refl
watched_own a id l h = refl

ended_own : (a : UniqueAddress) (id : ℕ) (l : Line) → same a (of l) ≡ false → is_said (is_watch a id) (says_unwatched l) ≡ false
ended_own a id (Unwatched x n) h = rw h refl
ended_own a id (Terminated x n) h = rw h refl
ended_own a id l h = refl

stopped_own : (a : UniqueAddress) (l : Line) → same a (of l) ≡ false → (same a (of l) && is_stopped l) ≡ false
stopped_own a l h = rw h refl

-- ---- two lists that are the same for a line, and one that has more

pub record SameFor (x : Line) (one other : List Line) : Type 0 where
  pub own : lines_by (of x) one ≡ lines_by (of x) other
  pub sent : (u : UniqueAddress) → sent_to u (of x) (plain one) ≡ sent_to u (of x) (plain other)
  pub told : (u : UniqueAddress) (d : ℕ) → told_to u (of x) d (plain one) ≡ told_to u (of x) d (plain other)

pub record MoreFor (x : Line) (one other : List Line) : Type 0 where
  pub own : lines_by (of x) one ≡ lines_by (of x) other
  pub sent : (u : UniqueAddress) → IsPrefix (sent_to u (of x) (plain one)) (sent_to u (of x) (plain other))
  pub told : (u : UniqueAddress) (d : ℕ) → IsPrefix (told_to u (of x) d (plain one)) (told_to u (of x) d (plain other))

-- what the lines of one incarnation say is the same where these are
same_rests : {K R : Type 0} (says : Line → Option (K × R)) (test : K → Bool) (u : UniqueAddress) → ((l : Line) → same u (of l) ≡ false → rest_if test (says l) ≡ []) → (one other : List Line) → lines_by u one ≡ lines_by u other → rests says test (plain one) ≡ rests says test (plain other)
same_rests says test u own one other h = rests_own says test u own one ∙ ap (λ (ls : List Line). rests says test (plain ls)) h ∙ sym (rests_own says test u own other)

same_any : (test : Line → Bool) (u : UniqueAddress) → ((l : Line) → same u (of l) ≡ false → test l ≡ false) → (one other : List Line) → lines_by u one ≡ lines_by u other → list_any (λ (e : Entry). test e.1) (plain one) ≡ list_any (λ (e : Entry). test e.1) (plain other)
same_any test u own one other h = any_own test u own one ∙ ap (λ (ls : List Line). list_any (λ (e : Entry). test e.1) (plain ls)) h ∙ sym (any_own test u own other)

same_closed : (one other : List Line) (a b : UniqueAddress) → lines_by a one ≡ lines_by a other → has_closed a b (plain one) ≡ has_closed a b (plain other)
same_closed one other a b h = same_any (λ l. is_said (is_way a b) (says_closed l)) a (closed_own a b) one other h

closed_same : (one other : List Line) (x : Line) → lines_by (of x) one ≡ lines_by (of x) other → breaks_closed (plain one) (deals x) ≡ breaks_closed (plain other) (deals x)
closed_same one other (Learnt a b) h = same_closed one other a b h
closed_same one other (Closed a b cause) h = same_closed one other a b h
closed_same one other (Sent a b n m) h = same_closed one other a b h
closed_same one other (Took a b n m) h = same_closed one other a b h
closed_same one other (Again a b n) h = same_closed one other a b h
closed_same one other (Gap a b n) h = same_closed one other a b h
closed_same one other (Told a b d m) h = same_closed one other a b h
closed_same one other (Got a b n m) h = same_closed one other a b h
closed_same one other x h = refl

same_began : (one other : List Line) (a : UniqueAddress) (id : ℕ) → lines_by a one ≡ lines_by a other → has_watched a id (plain one) ≡ has_watched a id (plain other)
same_began one other a id h = same_any (λ l. is_said (is_watch a id) (says_watched l)) a (watched_own a id) one other h

same_ended : (one other : List Line) (a : UniqueAddress) (id : ℕ) → lines_by a one ≡ lines_by a other → has_ended a id (plain one) ≡ has_ended a id (plain other)
same_ended one other a id h = same_any (λ l. is_said (is_watch a id) (says_unwatched l)) a (ended_own a id) one other h

ends_same : (one other : List Line) (a : UniqueAddress) (id : ℕ) → lines_by a one ≡ lines_by a other → ends_nothing (plain one) (Some (a, id)) ≡ ends_nothing (plain other) (Some (a, id))
ends_same one other a id h = λ i. not (same_began one other a id h i && not (same_ended one other a id h i))

watch_same : (one other : List Line) (x : Line) → lines_by (of x) one ≡ lines_by (of x) other → breaks_watch (plain one) x ≡ breaks_watch (plain other) x
watch_same one other (Watched a id w e) h = ap (λ (b : Bool). b || false) (same_began one other a id h)
watch_same one other (Unwatched a id) h = ends_same one other a id h
watch_same one other (Terminated a id) h = ends_same one other a id h
watch_same one other x h = refl

stopped_same : (one other : List Line) (x : Line) → lines_by (of x) one ≡ lines_by (of x) other → breaks_stopped (plain one) x ≡ breaks_stopped (plain other) x
stopped_same one other x h =
    let stopped = same_any (λ l. same (of x) (of l) && is_stopped l) (of x) (stopped_own (of x)) one other h in
    let line = same_any (λ l. same (of x) (of l)) (of x) (λ l other. other) one other h in
    λ i. stopped i || (is_started x && line i)

prefix_same : (one other : List Line) (x : Line) → SameFor x one other → breaks_prefix (plain one) (says_took x) ≡ breaks_prefix (plain other) (says_took x)
prefix_same one other (Took b a n m) s =
    let taken = same_rests says_took (is_way b a) b (took_own a b) one other s.own in
    λ i. not (is_prefix (taken i ++ (n, m) ∷ []) (s.sent a i))
prefix_same one other x s = refl

ordinary_same : (one other : List Line) (x : Line) → SameFor x one other → breaks_ordinary (plain one) (says_got x) ≡ breaks_ordinary (plain other) (says_got x)
ordinary_same one other (Got b a None m) s = refl
ordinary_same one other (Got b a (Some d) m) s =
    let got = same_rests says_got (is_nonce b a d) b (got_own a b d) one other s.own in
    λ i. not (is_subsequence (got i ++ m ∷ []) (s.told a d i))
ordinary_same one other x s = refl

-- a line breaks the same law after both
pub law_same : (one other : List Line) (x : Line) → SameFor x one other → law_after one x ≡ law_after other x
law_same one other x s =
    λ i. first_law (prefix_same one other x s i) (closed_same one other x s.own i) (watch_same one other x s.own i) (ordinary_same one other x s i) (stopped_same one other x s.own i) false

not_false : (b : Bool) → not b ≡ false → b ≡ true
not_false true h = refl
not_false false h = absurd (true≢false h)

prefix_more : (one other : List Line) (x : Line) → MoreFor x one other → breaks_prefix (plain one) (says_took x) ≡ false → breaks_prefix (plain other) (says_took x) ≡ false
prefix_more one other (Took b a n m) s h =
    let taken = same_rests says_took (is_way b a) b (took_own a b) one other s.own in
    let more = s.sent a in
    let here = prefix_of_more (taken_from a b (plain one) ++ (n, m) ∷ []) (sent_to a b (plain one)) more.0 (not_false _ h) in
    ap not (subst (λ (l : List Rest). is_prefix (l ++ (n, m) ∷ []) (sent_to a b (plain other)) ≡ true) taken (subst (λ (l : List Rest). is_prefix (taken_from a b (plain one) ++ (n, m) ∷ []) l ≡ true) more.1 here))
prefix_more one other x s h = refl

ordinary_more : (one other : List Line) (x : Line) → MoreFor x one other → breaks_ordinary (plain one) (says_got x) ≡ false → breaks_ordinary (plain other) (says_got x) ≡ false
ordinary_more one other (Got b a None m) s h = h
ordinary_more one other (Got b a (Some d) m) s h =
    let got = same_rests says_got (is_nonce b a d) b (got_own a b d) one other s.own in
    let more = s.told a d in
    let here = sub_of_more (got_from a b d (plain one) ++ m ∷ []) (told_to a b d (plain one)) more.0 (not_false _ h) in
    ap not (subst (λ (l : List Tell). is_subsequence (l ++ m ∷ []) (told_to a b d (plain other)) ≡ true) got (subst (λ (l : List Tell). is_subsequence (got_from a b d (plain one) ++ m ∷ []) l ≡ true) more.1 here))
ordinary_more one other x s h = refl

-- no law is broken where none of the six is
record NoneOf (p c w o s m : Bool) : Type 0 where
  prefix : p ≡ false
  close : c ≡ false
  watch : w ≡ false
  ordinary : o ≡ false
  stopped : s ≡ false
  moment : m ≡ false

none_of : (p c w o s m : Bool) → first_law p c w o s m ≡ None → NoneOf p c w o s m
none_of true c w o s m h = cc
none_of false true w o s m h = cc
none_of false false true o s m h = cc
none_of false false false true s m h = cc
none_of false false false false true m h = cc
none_of false false false false false true h = cc
none_of false false false false false false h = record { prefix = refl; close = refl; watch = refl; ordinary = refl; stopped = refl; moment = refl }

-- no law forbids a line that it allowed because others have written more
pub law_more : (one other : List Line) (x : Line) → MoreFor x one other → law_after one x ≡ None → law_after other x ≡ None
law_more one other x s h =
    let n = none_of (breaks_prefix (plain one) (says_took x)) (breaks_closed (plain one) (deals x)) (breaks_watch (plain one) x) (breaks_ordinary (plain one) (says_got x)) (breaks_stopped (plain one) x) false h in
    let prefix = prefix_more one other x s n.prefix in
    let close = sym (closed_same one other x s.own) ∙ n.close in
    let watch = sym (watch_same one other x s.own) ∙ n.watch in
    let ordinary = ordinary_more one other x s n.ordinary in
    let stopped = sym (stopped_same one other x s.own) ∙ n.stopped in
    λ i. first_law (prefix i) (close i) (watch i) (ordinary i) (stopped i) false

-- ---- when two lists are such

pub same_for : (one other : List Line) (x : Line) → ((u : UniqueAddress) → lines_by u one ≡ lines_by u other) → SameFor x one other
same_for one other x h = record {
  own = h (of x);
  sent = λ u. same_rests says_sent (is_way u (of x)) u (sent_own u (of x)) one other (h u);
  told = λ u d. same_rests says_told (is_dial u (of x) d) u (told_own u (of x) d) one other (h u);
}

rests_append : {K R : Type 0} (says : Line → Option (K × R)) (test : K → Bool) (xs ys : List Line) → rests says test (plain (xs ++ ys)) ≡ rests says test (plain xs) ++ rests says test (plain ys)
rests_append says test [] ys = refl
rests_append says test (x ∷ xs) ys = ap (λ (r : List _). rest_if test (says x) ++ r) (rests_append says test xs ys) ∙ sym (joined (rest_if test (says x)) (rests says test (plain xs)) (rests says test (plain ys)))
  where
    joined : {X : Type 0} (a b c : List X) → (a ++ b) ++ c ≡ a ++ (b ++ c)
    joined [] b c = refl
    joined (z ∷ zs) b c = ap (λ (r : List _). z ∷ r) (joined zs b c)

prefix_rests : {K R : Type 0} (says : Line → Option (K × R)) (test : K → Bool) (u : UniqueAddress) → ((l : Line) → same u (of l) ≡ false → rest_if test (says l) ≡ []) → (one other : List Line) → IsPrefix (lines_by u one) (lines_by u other) → IsPrefix (rests says test (plain one)) (rests says test (plain other))
prefix_rests says test u own one other (more, is) = (
  rests says test (plain more),
  ap (λ (r : List _). r ++ rests says test (plain more)) (rests_own says test u own one)
      ∙ sym (rests_append says test (lines_by u one) more)
      ∙ ap (λ (ls : List Line). rests says test (plain ls)) is
      ∙ sym (rests_own says test u own other),
)

pub more_for : (one other : List Line) (x : Line) → lines_by (of x) one ≡ lines_by (of x) other → ((u : UniqueAddress) → IsPrefix (lines_by u one) (lines_by u other)) → MoreFor x one other
more_for one other x own h = record {
  own = own;
  sent = λ u. prefix_rests says_sent (is_way u (of x)) u (sent_own u (of x)) one other (h u);
  told = λ u d. prefix_rests says_told (is_dial u (of x) d) u (told_own u (of x) d) one other (h u);
}

-- a line of another that sends or tells this one nothing changes nothing for it
sent_not : (u v : UniqueAddress) (l : Line) → is_said (same v) (receiver_of l) ≡ false → rest_if (is_way u v) (says_sent l) ≡ []
sent_not u v (Sent x y n m) h = rw (and_right (same u x) (same v y) h) refl
sent_not u v l h = refl

told_not : (u v : UniqueAddress) (d : ℕ) (l : Line) → is_said (same v) (receiver_of l) ≡ false → rest_if (is_dial u v d) (says_told l) ≡ []
told_not u v d (Told x y n m) h = rw (and_right (same u x) (same v y) h) refl
told_not u v d l h = refl

rests_no_more : {K R : Type 0} (says : Line → Option (K × R)) (test : K → Bool) (before : List Line) (l : Line) → rest_if test (says l) ≡ [] → rests says test (plain (before ++ l ∷ [])) ≡ rests says test (plain before)
rests_no_more says test before l h = rests_append says test before (l ∷ []) ∙ rw h (append-nil (rests says test (plain before)))

pub same_with : (before : List Line) (l x : Line) → same (of x) (of l) ≡ false → is_said (same (of x)) (receiver_of l) ≡ false → SameFor x (before ++ l ∷ []) before
same_with before l x other none = record {
  own = by_other (of x) before l other;
  sent = λ u. rests_no_more says_sent (is_way u (of x)) before l (sent_not u (of x) l none);
  told = λ u d. rests_no_more says_told (is_dial u (of x) d) before l (told_not u (of x) d l none);
}
