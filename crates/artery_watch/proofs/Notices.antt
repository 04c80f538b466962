-- What was written is read, and what is read is what was written.
use Rattle.std.proofs.Common.{◌≡◌, ℕ, ◌+◌, ◌*◌, ◌/◌, ◌%◌, ◌<◌, ◌≤◌, Bool, true, false, List, [], ◌∷◌, ◌++◌, length, take, drop, zero, suc, refl, ap, sym, ◌∙◌, subst, true≢false, arith, length-append, IfOk}
use Rattle.std.specs.Prelude.{Option, Some, None, is_some, Result, Ok, Err, ◌&&◌, nat_lt, slice_index, if◌then◌else◌}
use Rattle.std.specs.Str.{IsAscii}
use Rattle.std.proofs.lemmas.Str.Ascii.{IsAscii-nil}
use Rattle.std.proofs.lemmas.Bool.Decides.{nat_tests}
use Rattle.std.proofs.lemmas.List.{take_at, drop_at, length-take-le, take-append-drop, get_or-append-add}
use Rattle.artery_watch.specs.declared.notice.Notice.{Notice}
use Rattle.artery_watch.specs.declared.notice.NoticeFault.{NoticeFault}
use Rattle.artery_watch.specs.Notice.{is_ascii, text_bytes, notice_bytes, IsNoticeText, IsNotice, text_of, text_at, notice_by, notice_behind, notice_of, Gives}

pub ascii_text : (bs : List ℕ) → is_ascii bs ≡ true → IsAscii bs
ascii_text [] h = IsAscii-nil
ascii_text (b ∷ bs) h = by (nat_lt b 128) refl h (ascii_text bs)
  where
    by : (s : Bool) → nat_lt b 128 ≡ s → (s && is_ascii bs) ≡ true → (is_ascii bs ≡ true → IsAscii bs) → IsAscii (b ∷ bs)
    by true low rest more zero = grind (arith, nat_tests)
    by true low rest more (suc i) = more rest i
    by false low rest more i = absurd (true≢false (sym rest))

-- ---- what was written is read

whole_length : (n : ℕ) → n % 256 + 256 * (n / 256) ≡ n
whole_length n = omega arith

not_short : (n m : ℕ) → nat_lt (n + m) n ≡ false
not_short n m = grind (arith, nat_tests)

pub text_written : (text rest : List ℕ) → is_ascii text ≡ true → text_at (text_bytes text ++ rest) ≡ Some (text, rest)
text_written text rest ascii =
    ap (λ n. text_of n (text ++ rest)) (whole_length (length text))
    ∙ rw (length-append text rest, not_short (length text) (length rest), take_at text rest (length text) refl, drop_at text rest (length text) refl, ascii) refl

pub notice_written : (n : Notice) → IsNotice n → notice_of (notice_bytes n) ≡ Some n
notice_written n good =
    let second : text_at (text_bytes n.watcher) ≡ Some (n.watcher, []) = ap text_at (sym (append_nil (text_bytes n.watcher))) ∙ text_written n.watcher [] good.watcher.ascii in
    ap notice_behind (text_written n.actor (text_bytes n.watcher) good.actor.ascii) ∙ ap (notice_by n.actor) second
  where
    append_nil : (xs : List ℕ) → xs ++ [] ≡ xs
    append_nil [] = refl
    append_nil (x ∷ xs) = ap (λ (ys : List ℕ). x ∷ ys) (append_nil xs)

-- ---- what is read was written

abbrev Bytes : List ℕ → Type 0
Bytes bytes = (k : ℕ) → slice_index bytes k < 256

abbrev IsTextAtFront : List ℕ → List ℕ → List ℕ → Type 0
IsTextAtFront bytes text rest = IsNoticeText text × (bytes ≡ text_bytes text ++ rest)

low_of : (low high : ℕ) → low < 256 → (low + 256 * high) % 256 ≡ low
low_of low high h = omega (arith, h)

high_of : (low high : ℕ) → low < 256 → (low + 256 * high) / 256 ≡ high
high_of low high h = omega (arith, h)

not_less : (n m : ℕ) → nat_lt n m ≡ false → m ≤ n
not_less n m h = grind (arith, nat_tests, h)

some_is : (x y : List ℕ × List ℕ) → Some x ≡ Some y → x ≡ y
some_is x y e = ap (λ (o : Option (List ℕ × List ℕ)). elim o [ None ↦ x | Some z ↦ z ]) e

text_found : (low high : ℕ) (more text rest : List ℕ) → low < 256 → high < 256 → text_of (low + 256 * high) more ≡ Some (text, rest) → IsTextAtFront (low ∷ high ∷ more) text rest
text_found low high more text rest l h e = by (nat_lt (length more) (low + 256 * high)) (is_ascii (take (low + 256 * high) more)) refl refl e
  where
    by : (short ascii : Bool) → nat_lt (length more) (low + 256 * high) ≡ short → is_ascii (take (low + 256 * high) more) ≡ ascii
        → if◌then◌else◌ {A = Option (List ℕ × List ℕ)} short None (if◌then◌else◌ {A = Option (List ℕ × List ℕ)} ascii (Some (take (low + 256 * high) more, drop (low + 256 * high) more)) None) ≡ Some (text, rest) → IsTextAtFront (low ∷ high ∷ more) text rest
    by true ascii s a e = absurd (true≢false (sym (ap is_some e)))
    by false false s a e = absurd (true≢false (sym (ap is_some e)))
    by false true s a e =
        let found : List ℕ × List ℕ = (take (low + 256 * high) more, drop (low + 256 * high) more) in
        let wanted : List ℕ × List ℕ = (text, rest) in
        let pair : found ≡ wanted = some_is found wanted e in
        let len : length (take (low + 256 * high) more) ≡ low + 256 * high = length-take-le (low + 256 * high) more (not_less (length more) (low + 256 * high) s) in
        let P : List ℕ × List ℕ → Type 0 = λ p. IsTextAtFront (low ∷ high ∷ more) p.0 p.1 in
        subst P pair (
          record { ascii = a; short = omega (arith, len, l, h) },
          rw (len, low_of low high l, high_of low high l, take-append-drop (low + 256 * high) more) refl,
        )

text_read : (bytes text rest : List ℕ) → Bytes bytes → text_at bytes ≡ Some (text, rest) → IsTextAtFront bytes text rest
text_read [] text rest b e = absurd (true≢false (sym (ap is_some e)))
text_read (low ∷ []) text rest b e = absurd (true≢false (sym (ap is_some e)))
text_read (low ∷ high ∷ more) text rest b e = text_found low high more text rest (b 0) (b 1) e

bytes_behind : (front rest bytes : List ℕ) → bytes ≡ front ++ rest → Bytes bytes → Bytes rest
bytes_behind front rest bytes e b k = subst (λ n. n < 256) (ap (λ (bs : List ℕ). slice_index bs (length front + k)) e ∙ get_or-append-add front rest k 0) (b (length front + k))

watcher_read : (actor rest : List ℕ) (n : Notice) → Bytes rest → notice_by actor (text_at rest) ≡ Some n → (n.actor ≡ actor) × IsNoticeText n.watcher × (rest ≡ text_bytes n.watcher)
watcher_read actor rest n b e = by (text_at rest) refl e
  where
    append_nil : (xs : List ℕ) → xs ++ [] ≡ xs
    append_nil [] = refl
    append_nil (x ∷ xs) = ap (λ (ys : List ℕ). x ∷ ys) (append_nil xs)

    by : (o : Option (List ℕ × List ℕ)) → text_at rest ≡ o → notice_by actor o ≡ Some n → (n.actor ≡ actor) × IsNoticeText n.watcher × (rest ≡ text_bytes n.watcher)
    by None at e = absurd (true≢false (sym (ap is_some e)))
    by (Some (watcher, x ∷ xs)) at e = absurd (true≢false (sym (ap is_some e)))
    by (Some (watcher, [])) at e =
        let front = text_read rest watcher [] b at in
        let P : Notice → Type 0 = λ n. (n.actor ≡ actor) × IsNoticeText n.watcher × (rest ≡ text_bytes n.watcher) in
        subst P (ap (λ (o : Option Notice). elim o [ None ↦ n | Some z ↦ z ]) e) (refl, front.0, front.1 ∙ append_nil (text_bytes watcher))

pub notice_read : (bytes : List ℕ) (n : Notice) → Bytes bytes → notice_of bytes ≡ Some n → IsNotice n × (bytes ≡ notice_bytes n)
notice_read bytes n b e = by (text_at bytes) refl e
  where
    by : (o : Option (List ℕ × List ℕ)) → text_at bytes ≡ o → notice_behind o ≡ Some n → IsNotice n × (bytes ≡ notice_bytes n)
    by None at e = absurd (true≢false (sym (ap is_some e)))
    by (Some (actor, rest)) at e =
        let front = text_read bytes actor rest b at in
        let next = watcher_read actor rest n (bytes_behind (text_bytes actor) rest bytes front.1 b) e in (
          record { actor = subst IsNoticeText (sym next.0) front.0; watcher = next.1 },
          front.1 ∙ ap (λ (bs : List ℕ). text_bytes actor ++ bs) next.2 ∙ ap (λ (a : List ℕ). text_bytes a ++ text_bytes n.watcher) (sym next.0),
        )

pub read_found : (r : Result Notice NoticeFault) (bytes : List ℕ) → Bytes bytes → Gives r (notice_of bytes) → IfOk r (λ n. IsNotice n × (bytes ≡ notice_bytes n))
read_found (Ok n) bytes b e = notice_read bytes n b e
read_found (Err fault) bytes b e = tt

pub read_only : (r : Result Notice NoticeFault) (bytes : List ℕ) → Gives r (notice_of bytes) → (n : Notice) → IsNotice n → bytes ≡ notice_bytes n → Gives r (Some n)
read_only r bytes g n good e = subst (λ o. Gives r o) (ap notice_of e ∙ notice_written n good) g
