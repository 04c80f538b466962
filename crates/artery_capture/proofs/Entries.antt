-- The entries of a table, one after the other.
use Rattle.std.proofs.Common.{◌≡◌, ℕ, ◌+◌, ◌<◌, ◌≤◌, List, [], ◌∷◌, ◌++◌, length, drop, get_or, refl, sym, ap, ◌∙◌, append_assoc, append-nil}
use Rattle.std.proofs.lemmas.List.{drop_more, drop_all}
use Rattle.artery_capture.specs.ControlText.{entry_text, entries_text}

more : (keys : List (List ℕ)) (values : List ℕ) (at : ℕ) (key : List ℕ) → at < length keys → at < length values → key ≡ get_or keys at key
    → entries_text (drop at keys) (drop at values) ≡ entry_text key (get_or values at 0) ++ entries_text (drop (at + 1) keys) (drop (at + 1) values)
more keys values at key k v e =
    ap (λ (ks : List (List ℕ)). entries_text ks (drop at values)) (drop_more keys at key k)
    ∙ ap (λ (vs : List ℕ). entries_text (get_or keys at key ∷ drop (at + 1) keys) vs) (drop_more values at 0 v)
    ∙ ap (λ (x : List ℕ). entry_text x (get_or values at 0) ++ entries_text (drop (at + 1) keys) (drop (at + 1) values)) (sym e)

-- with one more entry written, the others are left
pub entry_on : (keys : List (List ℕ)) (values : List ℕ) (at : ℕ) (key out new total : List ℕ) → at < length keys → at < length values → key ≡ get_or keys at key
    → new ≡ out ++ entry_text key (get_or values at 0) → out ++ entries_text (drop at keys) (drop at values) ≡ total
    → new ++ entries_text (drop (at + 1) keys) (drop (at + 1) values) ≡ total
entry_on keys values at key out new total k v e w so_far =
    ap (λ (o : List ℕ). o ++ entries_text (drop (at + 1) keys) (drop (at + 1) values)) w
    ∙ append_assoc out (entry_text key (get_or values at 0)) (entries_text (drop (at + 1) keys) (drop (at + 1) values))
    ∙ ap (λ (x : List ℕ). out ++ x) (sym (more keys values at key k v e)) ∙ so_far

no_values : (keys : List (List ℕ)) → entries_text keys [] ≡ []
no_values [] = refl
no_values (key ∷ keys) = refl

-- behind the last key, or the last value, nothing is left
pub keys_end : (keys : List (List ℕ)) (values : List ℕ) (at : ℕ) (out total : List ℕ) → length keys ≤ at
    → out ++ entries_text (drop at keys) (drop at values) ≡ total → out ≡ total
keys_end keys values at out total h so_far =
    sym (append-nil out) ∙ ap (λ (ks : List (List ℕ)). out ++ entries_text ks (drop at values)) (sym (drop_all at keys h)) ∙ so_far

pub values_end : (keys : List (List ℕ)) (values : List ℕ) (at : ℕ) (out total : List ℕ) → length values ≤ at
    → out ++ entries_text (drop at keys) (drop at values) ≡ total → out ≡ total
values_end keys values at out total h so_far =
    sym (append-nil out) ∙ ap (λ (x : List ℕ). out ++ x) (sym (no_values (drop at keys)))
    ∙ ap (λ (vs : List ℕ). out ++ entries_text (drop at keys) vs) (sym (drop_all at values h)) ∙ so_far
