-- How a run of writes goes on.
use Rattle.std.proofs.Common.{◌≡◌, ℕ, List, [], ◌++◌, take, drop, Option, None, Some, refl, sym, ◌∙◌, ap, append_assoc, append-nil, subst, length, ◌∷◌, arith}
use Rattle.std.specs.Io.KnownBytes.{Appends, Keeps}
use Rattle.std.proofs.lemmas.List.{take-append-drop}
use Rattle.artery_io.specs.Written.{TakesAllBut, TakesFront}

appends_nothing : (old : Option (List ℕ)) → Appends old old []
appends_nothing None = tt
appends_nothing (Some xs) = sym (append-nil xs)

pub takes_nothing : (old : Option (List ℕ)) (piece : List ℕ) → TakesAllBut piece old old piece
takes_nothing old piece = ([], refl, appends_nothing old)

appends_more : (old mid new : Option (List ℕ)) (xs ys : List ℕ) → Appends old mid xs → Appends mid new ys → Appends old new (xs ++ ys)
appends_more None mid new xs ys h k = tt
appends_more (Some a) None new xs ys h k = absurd h
appends_more (Some a) (Some b) None xs ys h k = absurd k
appends_more (Some a) (Some b) (Some c) xs ys h k = k ∙ ap (λ front. front ++ ys) h ∙ append_assoc a xs ys

pub takes_more : (old mid new : Option (List ℕ)) (rest more piece : List ℕ) (n : ℕ) → TakesAllBut rest old mid piece → Appends mid new (take n rest) → more ≡ drop n rest → TakesAllBut more old new piece
takes_more old mid new rest more piece n t h e = rw e (
  t.0 ++ take n rest,
  append_assoc t.0 (take n rest) (drop n rest) ∙ ap (λ tail. t.0 ++ tail) (take-append-drop n rest) ∙ t.1,
  appends_more old mid new t.0 (take n rest) t.2 h,
)

appends_kept : (old mid new : Option (List ℕ)) (xs : List ℕ) → Appends old mid xs → Keeps mid new → Appends old new xs
appends_kept None mid new xs h k = tt
appends_kept (Some a) None new xs h k = absurd h
appends_kept (Some a) (Some b) None xs h k = absurd k
appends_kept (Some a) (Some b) (Some c) xs h k = k ∙ h

pub front_taken : (old mid new : Option (List ℕ)) (rest piece : List ℕ) → TakesAllBut rest old mid piece → Keeps mid new → TakesFront old new piece
front_taken old mid new rest piece t k = (rest, (t.0, t.1, appends_kept old mid new t.0 t.2 k))

none_left : (rest : List ℕ) → length rest ≡ 0 → rest ≡ []
none_left [] h = refl
none_left (x ∷ xs) h = absurd (omega arith)

pub all_taken : (old new : Option (List ℕ)) (rest piece : List ℕ) → TakesAllBut rest old new piece → length rest ≡ 0 → Appends old new piece
all_taken old new rest piece t e =
    let P : List ℕ → Type 0 = λ xs. Appends old new xs in
    subst P (sym (append-nil t.0) ∙ ap (λ tail. t.0 ++ tail) (sym (none_left rest e)) ∙ t.1) t.2
