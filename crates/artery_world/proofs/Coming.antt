-- What comes to a node, and what it then does in its network.
use Rattle.std.proofs.Common.{min, ◌≡◌, ℕ, zero, suc, ◌+◌, ◌-◌, ◌<◌, ◌≤◌, Bool, true, false, cond, List, [], ◌∷◌, length, take, drop, set, get_or, refl, sym, ◌∙◌, ap, arith}
use Rattle.std.specs.Prelude.{Option, None, Some, is_some, is_none, position, find, ◌==◌}
use Rattle.std.proofs.lemmas.Bool.Decides.{nat_tests}
use Rattle.artery_base.specs.declared.message.Request.{Request}
use Rattle.artery_machine.specs.declared.effect.Effect.{Effect}
use Rattle.artery_machine.specs.declared.input.Conn.{Conn}
use Rattle.artery_machine.specs.declared.input.Conn.TheVariants.{Outward, Inward}
use Rattle.artery_machine.specs.declared.input.Input.{Input}
use Rattle.artery_machine.specs.declared.input.Input.TheVariants as inputs
use Rattle.artery_machine.specs.declared.world.WorldLimit.{WorldLimit}
use Rattle.artery_machine.specs.Deeds.{Deed, Dials, Writes, Hangs, Tells, effect_of, effects_of}
use Rattle.artery_machine.specs.Parts.{kept}
use Rattle.artery_machine.specs.Ways.{kept_ways}
use Rattle.artery_machine.specs.Reacting.{step}
use Rattle.artery_machine.specs.World.{World, Live, each, going_on, does, gives, follows, by_found, has_uid, with_node, node_becomes, pieces}
use Rattle.artery_world.specs.Acting.{acts, KeptChange}
use Rattle.artery_world.specs.Running.{IsFitFor}
use Rattle.artery_world.proofs.Places.{place_is_found, no_place, set_is_change}

abbrev Net : Type 0
Net = World kept kept_ways

-- A deed and the same with its bytes.
act_is_deed : (uid moment : ℕ) (deed : Deed) (w : Net) → acts uid moment (effect_of uid deed) w ≡ does uid moment deed w
act_is_deed uid moment (Dials dial address) w = refl
act_is_deed uid moment (Writes dial writing) w = refl
act_is_deed uid moment (Hangs (Outward dial)) w = refl
act_is_deed uid moment (Hangs (Inward number)) w = refl
act_is_deed uid moment (Tells line) w = refl

on_as : (f g : KeptChange) → ((w : Net) → f w ≡ g w) → (w : Net) → going_on f w ≡ going_on g w
on_as f g same w = by w.ended
  where
    by : (ended : Option WorldLimit) → cond (is_none ended) (f w) w ≡ cond (is_none ended) (g w) w
    by None = same w
    by (Some limit) = refl

-- Deeds and the same with their bytes.
pub acts_are_deeds : (uid moment : ℕ) (deeds : List Deed) (w : Net) → each (effects_of uid deeds) (acts uid moment) w ≡ each deeds (does uid moment) w
acts_are_deeds uid moment [] w = refl
acts_are_deeds uid moment (deed ∷ deeds) w =
    ap (each (effects_of uid deeds) (acts uid moment)) (on_as (acts uid moment (effect_of uid deed)) (does uid moment deed) (act_is_deed uid moment deed) w)
    ∙ acts_are_deeds uid moment deeds (going_on (does uid moment deed) w)

-- The next deed of a network that goes on.
pub next_act : (uid moment : ℕ) (effect : Effect) (effects : List Effect) (w v : Net) → is_some w.ended ≡ false → v ≡ acts uid moment effect w
    → each effects (acts uid moment) v ≡ each (effect ∷ effects) (acts uid moment) w
next_act uid moment effect effects w v on is = ap (each effects (acts uid moment)) (is ∙ sym (by w.ended on))
  where
    by : (o : Option WorldLimit) → is_some o ≡ false → cond (is_none o) (acts uid moment effect w) w ≡ acts uid moment effect w
    by None e = refl
    by (Some limit) h0 = absurd cc

-- No deed of a network that has ended.
pub no_act : (uid moment : ℕ) (effects : List Effect) (w : Net) → is_some w.ended ≡ true → w ≡ each effects (acts uid moment) w
no_act uid moment [] w h = refl
no_act uid moment (effect ∷ effects) w h = no_act uid moment effects w h ∙ sym (ap (each effects (acts uid moment)) (by w.ended h))
  where
    by : (o : Option WorldLimit) → is_some o ≡ true → cond (is_none o) (acts uid moment effect w) w ≡ w
    by None h0 = absurd cc
    by (Some limit) e = refl

pub own_uid : (uid : ℕ) (xs : List (Live kept)) (l : Live kept) → find (has_uid uid) xs ≡ Some l → l.node.me.uid ≡ uid
own_uid uid [] l h0 = absurd cc
own_uid uid (x ∷ xs) l h = by (x.node.me.uid == uid) refl h (own_uid uid xs l)
  where
    by : (b : Bool) → (x.node.me.uid == uid) ≡ b → cond b (Some x) (find (has_uid uid) xs) ≡ Some l → (find (has_uid uid) xs ≡ Some l → l.node.me.uid ≡ uid) → l.node.me.uid ≡ uid
    by true e h rest =
        let same : x ≡ l = cc in
        let is : x.node.me.uid ≡ uid = grind (arith, nat_tests) in
        ap (λ (y : Live kept). y.node.me.uid) (sym same) ∙ is
    by false e h rest = rest h

-- A live incarnation took an input, and did what it does at it.
pub given : (uid : ℕ) (input : Input) (w v u : Net) (at moment : ℕ) (l l' : Live kept) (effects : List Effect)
    → position (has_uid uid) w.live ≡ Some at → l ≡ get_or w.live at l → l' ≡ with_node (step input l.node).node l
    → effects ≡ effects_of l.node.me.uid (step input l.node).deeds → moment ≡ l'.node.moment
    → v ≡ record w { live = set w.live at l' } → u ≡ each effects (acts uid moment) v → u ≡ gives uid input w
given uid input w v u at moment l l' effects here is new told now becomes does_all =
    let found : find (has_uid uid) w.live ≡ Some l = place_is_found (has_uid uid) w.live at l here is in
    let own : l.node.me.uid ≡ uid = own_uid uid w.live l found in
    let changed : set w.live at l' ≡ _ = set_is_change (has_uid uid) (with_node (step input l.node).node) w.live at l l' here is new in
    does_all
    ∙ ap (λ x. each effects (acts uid moment) x) (becomes ∙ ap (λ ls. record w { live = ls }) changed)
    ∙ ap (λ m. each effects (acts uid m) (node_becomes uid (step input l.node).node w)) (now ∙ ap (λ (x : Live kept). x.node.moment) new)
    ∙ ap (λ es. each es (acts uid (step input l.node).node.moment) (node_becomes uid (step input l.node).node w)) (told ∙ ap (λ n. effects_of n (step input l.node).deeds) own)
    ∙ acts_are_deeds uid (step input l.node).node.moment (step input l.node).deeds (node_becomes uid (step input l.node).node w)
    ∙ sym (ap (λ o. by_found (λ (x : Live kept). follows uid (step input x.node)) o w) found)

-- Nobody with this UID lives.
pub nobody : (uid : ℕ) (input : Input) (w : Net) → position (has_uid uid) w.live ≡ None → w ≡ gives uid input w
nobody uid input w h = sym (ap (λ o. by_found (λ (x : Live kept). follows uid (step input x.node)) o w) (no_place (has_uid uid) w.live h))

-- Which inputs are fit for whoever is found.
pub piece_fits : (number : ℕ) (piece : List ℕ) (found : Option (Live kept)) → length piece ≤ 65536 → IsFitFor (inputs.Bytes number piece) found
piece_fits number piece None h = record {}
piece_fits number piece (Some l) h = h

pub ended_fits : (conn : Conn) (found : Option (Live kept)) → IsFitFor (inputs.Ended conn) found
ended_fits conn None = record {}
ended_fits conn (Some l) = record {}

pub accepted_fits : (number : ℕ) (found : Option (Live kept)) → IsFitFor (inputs.Accepted number) found
accepted_fits number None = record {}
accepted_fits number (Some l) = record {}

pub dialed_fits : (dial : ℕ) (found : Option (Live kept)) → IsFitFor (inputs.Dialed dial) found
dialed_fits dial None = record {}
dialed_fits dial (Some l) = record {}

pub failed_fits : (dial : ℕ) (found : Option (Live kept)) → IsFitFor (inputs.DialFailed dial) found
failed_fits dial None = record {}
failed_fits dial (Some l) = record {}

pub request_fits : (request : Request) (found : Option (Live kept)) → IsFitFor (inputs.Request request) found
request_fits request None = record {}
request_fits request (Some l) = record {}

-- ---- pieces

abbrev given_to : ℕ → ℕ → List ℕ → KeptChange
given_to far number piece = gives far (inputs.Bytes number piece)

-- Of no bytes, and of no piece, nothing comes.
pub no_pieces : (most : ℕ) (bytes : List ℕ) (f : List ℕ → KeptChange) (w : Net) → (length bytes ≡ 0) → each (pieces most bytes) f w ≡ w
no_pieces zero bytes f w h = refl
no_pieces (suc most) bytes f w h = ap (λ b. each (cond b [] (take 65536 bytes ∷ pieces most (drop 65536 bytes))) f w) (let e : (length bytes == 0) ≡ true = grind (arith, nat_tests) in e)

-- The next piece.
pub one_piece : (most : ℕ) (bytes : List ℕ) (f : List ℕ → KeptChange) (w : Net) → 0 < most → 0 < length bytes
    → each (pieces (most - 1) (drop 65536 bytes)) f (going_on (f (take 65536 bytes)) w) ≡ each (pieces most bytes) f w
one_piece zero bytes f w h k = absurd (omega arith)
one_piece (suc most) bytes f w h k =
    let e : (length bytes == 0) ≡ false = grind (arith, nat_tests) in
    let less : suc most - 1 ≡ most = omega arith in
    ap (λ n. each (pieces n (drop 65536 bytes)) f (going_on (f (take 65536 bytes)) w)) less
    ∙ sym (ap (λ b. each (cond b [] (take 65536 bytes ∷ pieces most (drop 65536 bytes))) f w) e)

take_all : (n : ℕ) (xs : List ℕ) → length xs ≤ n → take n xs ≡ xs
take_all zero [] h = refl
take_all zero (x ∷ xs) h = absurd (omega arith)
take_all (suc n) [] h = refl
take_all (suc n) (x ∷ xs) h = ap (λ ys. x ∷ ys) (take_all n xs (omega arith))

drop_all : (n : ℕ) (xs : List ℕ) → length xs ≤ n → drop n xs ≡ []
drop_all zero [] h = refl
drop_all zero (x ∷ xs) h = absurd (omega arith)
drop_all (suc n) [] h = refl
drop_all (suc n) (x ∷ xs) h = drop_all n xs (omega arith)

-- The one piece that all bytes are.
pub last_piece : (most : ℕ) (bytes : List ℕ) (f : List ℕ → KeptChange) (w v : Net) → 0 < most → 0 < length bytes → length bytes ≤ 65536
    → v ≡ going_on (f bytes) w → v ≡ each (pieces most bytes) f w
last_piece most bytes f w v h k small is =
    is
    ∙ ap (λ bs. going_on (f bs) w) (sym (take_all 65536 bytes small))
    ∙ sym (no_pieces (most - 1) [] f (going_on (f (take 65536 bytes)) w) refl)
    ∙ ap (λ bs. each (pieces (most - 1) bs) f (going_on (f (take 65536 bytes)) w)) (sym (drop_all 65536 bytes small))
    ∙ one_piece most bytes f w h k

drop_none : (n : ℕ) → drop {A = ℕ} n [] ≡ []
drop_none zero = refl
drop_none (suc n) = refl

drop_least : (n : ℕ) (xs : List ℕ) → drop n xs ≡ drop (min (length xs) n) xs
drop_least n [] = drop_none n ∙ sym (drop_none (min 0 n))
drop_least zero (x ∷ xs) = let e : 0 ≡ min (suc (length xs)) 0 = omega arith in ap (λ m. drop m (x ∷ xs)) e
drop_least (suc n) (x ∷ xs) = drop_least n xs ∙ (let e : suc (min (length xs) n) ≡ min (suc (length xs)) (suc n) = omega arith in ap (λ m. drop m (x ∷ xs)) e)

drop_more : (n a : ℕ) (xs : List ℕ) → a ≤ length xs → drop n (drop a xs) ≡ drop (a + min (length (drop a xs)) n) xs
drop_more n zero xs h = drop_least n xs ∙ (let e : min (length xs) n ≡ 0 + min (length xs) n = omega arith in ap (λ m. drop m xs) e)
drop_more n (suc a) [] h = absurd (omega arith)
drop_more n (suc a) (x ∷ xs) h =
    drop_more n a xs (omega arith) ∙ (let e : suc (a + min (length (drop a xs)) n) ≡ suc a + min (length (drop a xs)) n = omega arith in ap (λ m. drop m (x ∷ xs)) e)

-- The next piece of those that are left.
pub next_piece : (left at size : ℕ) (bytes : List ℕ) (f : List ℕ → KeptChange) (w v : Net) → 0 < left → at < length bytes
    → size ≡ min (length (drop at bytes)) 65536 → v ≡ going_on (f (take 65536 (drop at bytes))) w
    → each (pieces (left - 1) (drop (at + size) bytes)) f v ≡ each (pieces left (drop at bytes)) f w
next_piece left at size bytes f w v h k is so =
    ap (λ n. each (pieces (left - 1) (drop (at + n) bytes)) f v) is
    ∙ ap (λ bs. each (pieces (left - 1) bs) f v) (sym (drop_more 65536 at bytes (omega arith)))
    ∙ ap (each (pieces (left - 1) (drop 65536 (drop at bytes))) f) so
    ∙ one_piece left (drop at bytes) f w h (some at bytes k)
  where
    some : (a : ℕ) (xs : List ℕ) → a < length xs → 0 < length (drop a xs)
    some zero xs l = l
    some (suc a) [] l = absurd (omega arith)
    some (suc a) (x ∷ xs) l = some a xs (omega arith)

-- No piece is left, or all bytes were given.
pub none_left : (left : ℕ) (bytes : List ℕ) (f : List ℕ → KeptChange) (w : Net) → left ≤ 0 → w ≡ each (pieces left bytes) f w
none_left zero bytes f w h = refl
none_left (suc left) bytes f w h = absurd (omega arith)

pub all_given : (left at : ℕ) (bytes : List ℕ) (f : List ℕ → KeptChange) (w : Net) → length bytes ≤ at → w ≡ each (pieces left (drop at bytes)) f w
all_given left at bytes f w h = sym (no_pieces left (drop at bytes) f w (ap length (drop_all at bytes h)))

take_none : (n : ℕ) → take {A = ℕ} n [] ≡ []
take_none zero = refl
take_none (suc n) = refl

take_least : (n : ℕ) (xs : List ℕ) → take (min (length xs) n) xs ≡ take n xs
take_least n [] = take_none (min 0 n) ∙ sym (take_none n)
take_least zero (x ∷ xs) = let e : min (suc (length xs)) 0 ≡ 0 = omega arith in ap (λ m. take m (x ∷ xs)) e
take_least (suc n) (x ∷ xs) =
    (let e : min (suc (length xs)) (suc n) ≡ suc (min (length xs) n) = omega arith in ap (λ m. take m (x ∷ xs)) e) ∙ ap (λ ys. x ∷ ys) (take_least n xs)

-- The first piece of some bytes was given.
pub first_given : (far number : ℕ) (piece rest : List ℕ) (size : ℕ) (w v : Net) → size ≡ min (length rest) 65536 → piece ≡ take size rest
    → v ≡ going_on (gives far (inputs.Bytes number piece)) w → v ≡ going_on (gives far (inputs.Bytes number (take 65536 rest))) w
first_given far number piece rest size w v is part so =
    so ∙ ap (λ p. going_on (gives far (inputs.Bytes number p)) w) (part ∙ ap (λ n. take n rest) is ∙ take_least 65536 rest)

length_left : (a : ℕ) (xs : List ℕ) → length (drop a xs) ≤ length xs - a
length_left zero xs = omega arith
length_left (suc a) [] = omega arith
length_left (suc a) (x ∷ xs) = let rest : length (drop a xs) ≤ length xs - a = length_left a xs in omega arith

-- The next piece of those that are left, which are told by their number.
pub next_of_rest : (left at size : ℕ) (bytes : List ℕ) (f : List ℕ → KeptChange) (w v : Net) → 0 < left → at < length bytes
    → size ≡ min (length (take (length bytes - at) (drop at bytes))) 65536 → v ≡ going_on (f (take 65536 (take (length bytes - at) (drop at bytes)))) w
    → each (pieces (left - 1) (drop (at + size) bytes)) f v ≡ each (pieces left (drop at bytes)) f w
next_of_rest left at size bytes f w v h k is so =
    next_piece left at size bytes f w v h k (is ∙ ap (λ xs. min (length xs) 65536) tail) (so ∙ ap (λ xs. going_on (f (take 65536 xs)) w) tail)
  where
    tail : take (length bytes - at) (drop at bytes) ≡ drop at bytes
    tail = take_all (length bytes - at) (drop at bytes) (length_left at bytes)
