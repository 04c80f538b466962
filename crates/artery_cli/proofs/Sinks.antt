-- What a sink holds after one text and then another, or a front of it.
use Rattle.std.proofs.Common.{ℕ, List, [], ◌++◌, refl, sym, ◌∙◌, ap, append-nil, append_assoc}
use Rattle.std.specs.Prelude.{Option, None, Some}
use Rattle.std.specs.Io.KnownBytes.{Appends, Keeps}
use Rattle.artery_io.specs.Written.{TakesFront}
use Rattle.artery_base.specs.Words.{IsPrefix}

pub keeps_same : (held : Option (List ℕ)) → Keeps held held
keeps_same None = tt
keeps_same (Some xs) = refl

pub appends_nothing : (held : Option (List ℕ)) → Appends held held []
appends_nothing None = tt
appends_nothing (Some xs) = sym (append-nil xs)

pub kept_appends : (old new : Option (List ℕ)) → Keeps old new → Appends old new []
kept_appends None new k = tt
kept_appends (Some xs) None k = absurd k
kept_appends (Some xs) (Some ys) k = k ∙ sym (append-nil xs)

pub appends_more : (old mid new : Option (List ℕ)) (xs ys : List ℕ) → Appends old mid xs → Appends mid new ys → Appends old new (xs ++ ys)
appends_more None mid new xs ys h k = tt
appends_more (Some a) None new xs ys h k = absurd h
appends_more (Some a) (Some b) None xs ys h k = absurd k
appends_more (Some a) (Some b) (Some c) xs ys h k = k ∙ ap (λ front. front ++ ys) h ∙ append_assoc a xs ys

pub appends_kept : (old mid new : Option (List ℕ)) (xs : List ℕ) → Appends old mid xs → Keeps mid new → Appends old new xs
appends_kept None mid new xs h k = tt
appends_kept (Some a) None new xs h k = absurd h
appends_kept (Some a) (Some b) None xs h k = absurd k
appends_kept (Some a) (Some b) (Some c) xs h k = k ∙ h

-- all that was written before, and a front of what was written last
pub takes_more : (old mid new : Option (List ℕ)) (front text : List ℕ) → Appends old mid front → TakesFront mid new text → TakesFront old new (front ++ text)
takes_more old mid new front text h t = (t.0, (front ++ t.1.0, append_assoc front t.1.0 t.0 ∙ ap (λ xs. front ++ xs) t.1.1, appends_more old mid new front t.1.0 h t.1.2))

pub takes_all : (old new : Option (List ℕ)) (text : List ℕ) → Appends old new text → TakesFront old new text
takes_all old new text h = ([], (text, append-nil text, h))

-- a front of a list is one of a longer list
pub front_of_front : {X : Type 0} (xs ys zs : List X) → IsPrefix xs ys → IsPrefix ys zs → IsPrefix xs zs
front_of_front xs ys zs h k = (h.0 ++ k.0, sym (append_assoc xs h.0 k.0) ∙ ap (λ front. front ++ k.0) h.1 ∙ k.1)

pub whole_is_front : {X : Type 0} (xs : List X) → IsPrefix xs xs
whole_is_front xs = ([], append-nil xs)
