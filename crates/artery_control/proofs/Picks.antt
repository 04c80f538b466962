-- What the fields of a record say about one number.
use Rattle.std.proofs.Common.{◌≡◌, ℕ, List, [], ◌∷◌, ◌++◌, Option, Some, None, refl, sym, ap, ◌∙◌}
use Rattle.std.specs.Option.{option_or}
use Rattle.std.proofs.lemmas.List.{append-nil}
use Rattle.artery_wire.specs.Record.{FieldOf}
use Rattle.artery_control.specs.Picking.{last_picked}
use Rattle.artery_control.specs.Belonging.{NonePicked, IsLast, MayBeLast}

-- ---- one more field

pub or_assoc : {X : Type 0} (a b c : Option X) → option_or (option_or a b) c ≡ option_or a (option_or b c)
or_assoc None b c = refl
or_assoc (Some x) b c = refl

pub last_more : {X : Type 0} (pick : FieldOf → Option X) (f : FieldOf) (before after : List FieldOf) (last last' whole : Option X)
    → before ≡ f ∷ after → last' ≡ option_or (pick f) last → option_or (last_picked pick before) last ≡ whole → option_or (last_picked pick after) last' ≡ whole
last_more pick f before after last last' whole e l h =
    ap (option_or (last_picked pick after)) l
    ∙ sym (or_assoc (last_picked pick after) (pick f) last)
    ∙ ap (λ (fs : List FieldOf). option_or (last_picked pick fs) last) (sym e)
    ∙ h

pub ruleset last_steps = (or_assoc, last_more)

-- what nothing follows stands alone
pub alone : (payload : List ℕ) → payload ++ [] ≡ payload
alone payload = append-nil payload

-- ---- the last that is picked

pub last_none : {X : Type 0} (pick : FieldOf → Option X) (fs : List FieldOf) → NonePicked pick fs → last_picked pick fs ≡ None
last_none pick [] none = refl
last_none pick (f ∷ fs) none = ap (λ o. option_or o (pick f)) (last_none pick fs none.1) ∙ none.0

pub last_at : {X : Type 0} (pick : FieldOf → Option X) (before : List FieldOf) (f : FieldOf) (after : List FieldOf) (x : X) → pick f ≡ Some x → NonePicked pick after → last_picked pick (before ++ f ∷ after) ≡ Some x
last_at pick [] f after x here none = ap (λ o. option_or o (pick f)) (last_none pick after none) ∙ here
last_at pick (b ∷ bs) f after x here none = ap (λ o. option_or o (pick b)) (last_at pick bs f after x here none)

pub none_then : {X : Type 0} (pick : FieldOf → Option X) (fs gs : List FieldOf) → NonePicked pick fs → NonePicked pick gs → NonePicked pick (fs ++ gs)
none_then pick [] gs a b = b
none_then pick (f ∷ fs) gs a b = (a.0, none_then pick fs gs a.1 b)

or_none : {X : Type 0} (a b : Option X) → option_or a b ≡ None → (a ≡ None) × (b ≡ None)
or_none None b e = (refl, e)
or_none (Some x) b e = absurd cc

none_is : {X : Type 0} (pick : FieldOf → Option X) (fs : List FieldOf) → last_picked pick fs ≡ None → NonePicked pick fs
none_is pick [] e = tt
none_is pick (f ∷ fs) e = let p = or_none (last_picked pick fs) (pick f) e in (p.1, none_is pick fs p.0)

last_step : {X : Type 0} (pick : FieldOf → Option X) (f : FieldOf) (fs : List FieldOf) (x : X) (o : Option X)
    → last_picked pick fs ≡ o → option_or o (pick f) ≡ Some x → (o ≡ Some x → IsLast pick x fs) → IsLast pick x (f ∷ fs)
last_step pick f fs x None e h rec = record { before = []; field = f; after = fs; parts = refl; here = h; none_after = none_is pick fs e }
last_step pick f fs x (Some y) e h rec =
    let l = rec h in
    record { before = f ∷ l.before; field = l.field; after = l.after; parts = ap (λ (t : List FieldOf). f ∷ t) l.parts; here = l.here; none_after = l.none_after }

pub last_is : {X : Type 0} (pick : FieldOf → Option X) (fs : List FieldOf) (x : X) → last_picked pick fs ≡ Some x → IsLast pick x fs
last_is pick [] x e = absurd cc
last_is pick (f ∷ fs) x e = last_step pick f fs x (last_picked pick fs) refl e (λ q. last_is pick fs x q)

pub last_from : {X : Type 0} (pick : FieldOf → Option X) (fs : List FieldOf) (x : X) → IsLast pick x fs → last_picked pick fs ≡ Some x
last_from pick fs x l = ap (last_picked pick) l.parts ∙ last_at pick l.before l.field l.after x l.here l.none_after

pub may_is : {X : Type 0} (pick : FieldOf → Option X) (fs : List FieldOf) (o : Option X) → last_picked pick fs ≡ o → MayBeLast pick o fs
may_is pick fs None e = none_is pick fs e
may_is pick fs (Some x) e = last_is pick fs x e

pub may_from : {X : Type 0} (pick : FieldOf → Option X) (fs : List FieldOf) (o : Option X) → MayBeLast pick o fs → last_picked pick fs ≡ o
may_from pick fs None m = last_none pick fs m
may_from pick fs (Some x) m = last_from pick fs x m
