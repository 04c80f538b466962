-- What a verdict tells.
use Rattle.std.proofs.Common.{◌≡◌, ℕ, ◌+◌, List, [], ◌∷◌, ◌++◌, length, refl, ap, sym, subst, ◌∙◌}
use Rattle.std.specs.Prelude.{Option, Some, None}
use Rattle.artery_judge.specs.declared.verdict.Law.{Law}
use Rattle.artery_judge.specs.declared.verdict.Verdict.{Verdict}
use Rattle.artery_judge.specs.declared.verdict.Verdict.TheVariants.{Lawful, Broken}
use Rattle.artery_judge.specs.Lines.{Entry}
use Rattle.artery_judge.specs.Laws.{broken_law, at_line, verdict_after, verdict, NoneBreaks}

nothing_more : (xs : List Entry) → xs ++ [] ≡ xs
nothing_more [] = refl
nothing_more (x ∷ xs) = ap (λ (r : List Entry). x ∷ r) (nothing_more xs)

one_more : (xs ys : List Entry) (x : Entry) → (xs ++ x ∷ []) ++ ys ≡ xs ++ x ∷ ys
one_more [] ys x = refl
one_more (z ∷ zs) ys x = ap (λ (r : List Entry). z ∷ r) (one_more zs ys x)

abbrev head_or : Entry → List Entry → Entry
head_or d [] = d
head_or d (x ∷ xs) = x

abbrev tail_of : List Entry → List Entry
tail_of [] = []
tail_of (x ∷ xs) = xs

no_law : (before : List Entry) (o : Option Law) (v : Verdict) → at_line before o v ≡ Lawful → o ≡ None
no_law before None v h = refl
no_law before (Some law) v h = cc

then_rest : (before : List Entry) (o : Option Law) (v : Verdict) → at_line before o v ≡ Lawful → v ≡ Lawful
then_rest before None v h = h
then_rest before (Some law) v h = cc

-- after what stands before, no line of those breaks a law
abbrev NoneAfter : List Entry → List Entry → Type 0
NoneAfter b lines = (before after : List Entry) (e : Entry) → lines ≡ before ++ e ∷ after → broken_law (b ++ before) e ≡ None

none_after : (b lines : List Entry) → verdict_after b lines ≡ Lawful → NoneAfter b lines
none_after b [] h [] after e is = cc
none_after b [] h (y ∷ ys) after e is = cc
none_after b (x ∷ xs) h [] after e is =
    let same : x ≡ e = ap (head_or x) is in
    rw (nothing_more b) (subst (λ y. broken_law b y ≡ None) same (no_law b (broken_law b x) _ h))
none_after b (x ∷ xs) h (y ∷ ys) after e is =
    let same : x ≡ y = ap (head_or x) is in
    let rest = none_after (b ++ x ∷ []) xs (then_rest b (broken_law b x) _ h) ys after e (ap tail_of is) in
    subst (λ z. broken_law (b ++ z ∷ ys) e ≡ None) same (subst (λ l. broken_law l e ≡ None) (one_more b ys x) rest)

lawful_after : (b lines : List Entry) → NoneAfter b lines → verdict_after b lines ≡ Lawful
lawful_after b [] h = refl
lawful_after b (x ∷ xs) h =
    let here : broken_law b x ≡ None = subst (λ l. broken_law l x ≡ None) (nothing_more b) (h [] xs x refl) in
    let rest = lawful_after (b ++ x ∷ []) xs (λ before after e is. subst (λ l. broken_law l e ≡ None) (sym (one_more b before x)) (h (x ∷ before) after e (ap (λ (r : List Entry). x ∷ r) is))) in
    rw here rest

broken_after : (b lines after : List Entry) (e : Entry) (law : Law) → NoneAfter b lines → broken_law (b ++ lines) e ≡ Some law → verdict_after b (lines ++ e ∷ after) ≡ Broken (length (b ++ lines) + 1) law
broken_after b [] after e law h is =
    let here : broken_law b e ≡ Some law = subst (λ l. broken_law l e ≡ Some law) (nothing_more b) is in
    rw (here, nothing_more b) refl
broken_after b (x ∷ xs) after e law h is =
    let here : broken_law b x ≡ None = subst (λ l. broken_law l x ≡ None) (nothing_more b) (h [] xs x refl) in
    let rest = broken_after (b ++ x ∷ []) xs after e law (λ before last y at. subst (λ l. broken_law l y ≡ None) (sym (one_more b before x)) (h (x ∷ before) last y (ap (λ (r : List Entry). x ∷ r) at)))
    (subst (λ l. broken_law l e ≡ Some law) (sym (one_more b xs x)) is) in
    rw here (rest ∙ ap (λ (l : List Entry). Broken (length l + 1) law) (one_more b xs x))

part_after : (b lines after : List Entry) → verdict_after b (lines ++ after) ≡ Lawful → verdict_after b lines ≡ Lawful
part_after b [] after h = refl
part_after b (x ∷ xs) after h = rw (no_law b (broken_law b x) _ h) (part_after (b ++ x ∷ []) xs after (then_rest b (broken_law b x) _ h))

pub none_breaks : (lines : List Entry) → verdict lines ≡ Lawful → NoneBreaks lines
none_breaks lines h = none_after [] lines h

pub is_lawful : (lines : List Entry) → NoneBreaks lines → verdict lines ≡ Lawful
is_lawful lines h = lawful_after [] lines h

pub is_broken : (before after : List Entry) (e : Entry) (law : Law) → NoneBreaks before → broken_law before e ≡ Some law → verdict (before ++ e ∷ after) ≡ Broken (length before + 1) law
is_broken before after e law h is = broken_after [] before after e law h is

pub begins_lawful : (before after : List Entry) → verdict (before ++ after) ≡ Lawful → verdict before ≡ Lawful
begins_lawful before after h = part_after [] before after h
