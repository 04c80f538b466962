-- Actors of systems are read exactly on their texts.
use Rattle.std.proofs.Common.{◌≡◌, ℕ, ◌+◌, ◌^◌, ◌<◌, Bool, true, false, not, cond, eqb, ltb, List, [], ◌∷◌, ◌++◌, length, take, drop, Some, None, refl, sym, ap, ◌∙◌, append_assoc, subst, arith}
use Rattle.std.specs.Prelude.{codes, decimal, position, IsAscii}
use Rattle.std.specs.Char.{is_ascii_digit}
use Rattle.std.specs.List.{list_all, prefix_len, position_or_len}
use Rattle.std.proofs.lemmas.Bool.{and_parts, eqb-true, lt-ltb}
use Rattle.std.proofs.lemmas.Bool.Decides.{nat_tests}
use Rattle.std.proofs.lemmas.List.{length-append, take-append-drop}
use Rattle.std.proofs.lemmas.List.Folds.{list_all-append}
use Rattle.std.proofs.lemmas.Str.{IsAscii-append}
use Rattle.std.proofs.Math.Seq.{drop-append_seam, take-append_seam, drop-append-add}
use Rattle.artery_base.specs.declared.address.Address.{Address}
use Rattle.artery_base.specs.Valid.{IsAddress, IsToken, is_part_byte, is_visible}
use Rattle.artery_text.specs.Spelling.{address_text}
use Rattle.artery_text.specs.Reading.{number_of, is_numeral, address_of}
use Rattle.artery_lines.specs.Lines.{◌>>=◌, is_space}
use Rattle.artery_script.specs.Limits.{most_reference}
use Rattle.artery_script.specs.Valid.{is_actor_path, IsActor, IsReference}
use Rattle.artery_script.specs.Reading.{ascii_told, address_told, is_slash, path_start, actor_at, actor_told, no_longer, reference_told}
use Rattle.artery_script.proofs.Formats.{NoSpace, IsField, Always, token_no_space, steps, found}
use Rattle.artery_script.proofs.FieldLaws.{TextLaws, ascii_told_is, ascii_back, all_ascii, all_weaker, path_ascii, path_no_space, cond_some, kept_field, short_is, short_back}

-- ---- places of marks

prefix_stops : (q : ℕ → Bool) (xs : List ℕ) (m : ℕ) (ys : List ℕ) → list_all q xs ≡ true → q m ≡ false → prefix_len q (xs ++ m ∷ ys) ≡ length xs
prefix_stops q [] m ys h e = rw e refl
prefix_stops q (x ∷ xs) m ys h e =
    let p = and_parts (q x) (list_all q xs) h in
    let ih = prefix_stops q xs m ys p.1 e in
    rw p.0 (omega (arith, ih))

pub position_at : (p : ℕ → Bool) (xs : List ℕ) (m : ℕ) (ys : List ℕ) → list_all (λ x. not (p x)) xs ≡ true → p m ≡ true → position p (xs ++ m ∷ ys) ≡ Some (length xs)
position_at p xs m ys h e =
    let stop : position_or_len p (xs ++ m ∷ ys) ≡ length xs = prefix_stops (λ x. not (p x)) xs m ys h (rw e refl) in
    let lt : ltb (length xs) (length (xs ++ m ∷ ys)) ≡ true = lt-ltb _ _ (omega (arith, length-append xs (m ∷ ys))) in
    rw (stop, lt) refl

pub behind : (xs : List ℕ) (m : ℕ) (ys : List ℕ) → drop (length xs + 1) (xs ++ m ∷ ys) ≡ ys
behind xs m ys = drop-append-add xs (m ∷ ys) 1

-- ---- digits

cond_true : (b c : Bool) → cond b false c ≡ true → c ≡ true
cond_true true c h = absurd cc
cond_true false c h = h

pub digits : (text : List ℕ) (n : ℕ) → number_of text ≡ Some n → list_all is_ascii_digit text ≡ true
digits text n h =
    let s = cond_some _ _ n h in
    let numeral = and_parts (is_numeral text) _ s.0 in
    cond_true _ _ (cond_true _ _ numeral.0)

digit_no_slash : (b : ℕ) → is_ascii_digit b ≡ true → not (is_slash b) ≡ true
digit_no_slash b h = grind (arith, nat_tests)

part_no_slash : (b : ℕ) → is_part_byte b ≡ true → not (is_slash b) ≡ true
part_no_slash b h = grind (arith, nat_tests)

pub both_no_space : (xs ys : List ℕ) → NoSpace xs → NoSpace ys → NoSpace (xs ++ ys)
both_no_space xs ys h e = rw (list_all-append (λ b. not (is_space b)) xs ys, h, e) refl

-- ---- actors of systems

actor_is : TextLaws → (t x : List ℕ) → actor_told t ≡ Some x → IsActor x × (t ≡ x)
actor_is l t x h =
    let s = steps (path_start t) (actor_at t) x h in
    let a = steps (address_told (take s.value t)) (λ address. cond (is_actor_path (drop s.value t)) (ascii_told t) None) x s.then_ in
    let c = cond_some (is_actor_path (drop s.value t)) (ascii_told t) x a.then_ in
    let z = l.addresses_spelled (take s.value t) a.value (found (address_of (take s.value t)) a.value a.first) in
    let same = ascii_told_is t x c.1 in
    let row : t ≡ address_text a.value ++ drop s.value t = sym (take-append-drop s.value t) ∙ ap (λ xs. xs ++ drop s.value t) z.1 in
    (subst IsActor same.1 (record { address = a.value; path = drop s.value t; spelled = row; address_good = z.0; path_good = c.0 }), same.1)

-- what stands between the second slash of an address and its end
abbrev middle : Address → List ℕ
middle a = a.system ++ codes "@" ++ a.host ++ codes ":" ++ decimal a.port

regrouped : (a : Address) → address_text a ≡ a.protocol ++ (codes "://" ++ middle a)
regrouped a =
    let p = a.protocol in
    let c = codes "://" in
    let r1 = append_assoc p c a.system in
    let r2 = ap (λ xs. xs ++ codes "@") r1 ∙ append_assoc p (c ++ a.system) (codes "@") in
    let r3 = ap (λ xs. xs ++ a.host) r2 ∙ append_assoc p (c ++ a.system ++ codes "@") a.host in
    let r4 = ap (λ xs. xs ++ codes ":") r3 ∙ append_assoc p (c ++ a.system ++ codes "@" ++ a.host) (codes ":") in
    ap (λ xs. xs ++ decimal a.port) r4 ∙ append_assoc p (c ++ a.system ++ codes "@" ++ a.host ++ codes ":") (decimal a.port)

abbrev no_slash : List ℕ → Type 0
no_slash xs = list_all (λ b. not (is_slash b)) xs ≡ true

both_no_slash : (xs ys : List ℕ) → no_slash xs → no_slash ys → no_slash (xs ++ ys)
both_no_slash xs ys h e = rw (list_all-append (λ b. not (is_slash b)) xs ys, h, e) refl

middle_no_slash : TextLaws → (a : Address) → IsAddress a → no_slash (middle a)
middle_no_slash l a v =
    let port : a.port < 2 ^ 64 = omega (arith, v.port.1) in
    let system : no_slash a.system = all_weaker is_part_byte (λ b. not (is_slash b)) part_no_slash a.system v.system.made_of in
    let host : no_slash a.host = all_weaker is_part_byte (λ b. not (is_slash b)) part_no_slash a.host v.host.made_of in
    let number : no_slash (decimal a.port) = all_weaker is_ascii_digit (λ b. not (is_slash b)) digit_no_slash (decimal a.port) (digits (decimal a.port) a.port (l.numbers_read a.port port)) in
    both_no_slash (a.system ++ codes "@" ++ a.host ++ codes ":") (decimal a.port)
    (both_no_slash (a.system ++ codes "@" ++ a.host) (codes ":")
    (both_no_slash (a.system ++ codes "@") a.host (both_no_slash a.system (codes "@") system refl) host) refl)
    number

colon_no_slash : (a : Address) → IsAddress a → no_slash (a.protocol ++ codes ":")
colon_no_slash a v = both_no_slash a.protocol (codes ":") (all_weaker is_part_byte (λ b. not (is_slash b)) part_no_slash a.protocol v.protocol.made_of) refl

-- a system's actor, parted at its slashes
parted : (a : Address) (rest : List ℕ) → address_text a ++ 47 ∷ rest ≡ (a.protocol ++ codes ":") ++ 47 ∷ (47 ∷ (middle a ++ 47 ∷ rest))
parted a rest =
    ap (λ xs. xs ++ 47 ∷ rest) (regrouped a) ∙ append_assoc a.protocol (codes "://" ++ middle a) (47 ∷ rest)
    ∙ sym (append_assoc a.protocol (codes ":") (47 ∷ (47 ∷ (middle a ++ 47 ∷ rest))))

address_length : (a : Address) → length (address_text a) ≡ length (a.protocol ++ codes ":") + 0 + length (middle a) + 2
address_length a =
    let whole = ap length (regrouped a) ∙ length-append a.protocol (codes "://" ++ middle a) in
    let front = length-append a.protocol (codes ":") in
    omega (arith, whole, front)

start_of : (front mid rest : List ℕ) → no_slash front → no_slash mid → path_start (front ++ 47 ∷ (47 ∷ (mid ++ 47 ∷ rest))) ≡ Some (length front + 0 + length mid + 2)
start_of front mid rest f m =
    rw (position_at is_slash front 47 (47 ∷ (mid ++ 47 ∷ rest)) f refl, behind front 47 (47 ∷ (mid ++ 47 ∷ rest)), position_at is_slash [] 47 (mid ++ 47 ∷ rest) refl refl, position_at is_slash mid 47 rest m refl) refl

path_first : (path : List ℕ) → is_actor_path path ≡ true → (rest : List ℕ) × (path ≡ 47 ∷ rest)
path_first [] h = absurd cc
path_first (b ∷ rest) h =
    let s = and_parts _ _ h in
    let f = and_parts _ (eqb b 47) s.0 in
    (rest, ap (λ c. c ∷ rest) (eqb-true b 47 f.1))

start_back : TextLaws → (a : Address) (path : List ℕ) → IsAddress a → is_actor_path path ≡ true → path_start (address_text a ++ path) ≡ Some (length (address_text a))
start_back l a path v h =
    let s = path_first path h in
    ap (λ xs. path_start (address_text a ++ xs)) s.1
    ∙ ap path_start (parted a s.0)
    ∙ start_of (a.protocol ++ codes ":") (middle a) s.0 (colon_no_slash a v) (middle_no_slash l a v)
    ∙ ap (λ n. Some n) (sym (address_length a))

visible_low : (b : ℕ) → is_visible b ≡ true → not (ltb 127 b) ≡ true
visible_low b h = grind (arith, nat_tests)

token_ascii : (xs : List ℕ) → IsToken xs → IsAscii xs
token_ascii xs h = all_ascii xs (all_weaker is_visible (λ b. not (ltb 127 b)) visible_low xs h.visible)

actor_back_at : TextLaws → (a : Address) (path : List ℕ) → IsAddress a → is_actor_path path ≡ true → actor_told (address_text a ++ path) ≡ Some (address_text a ++ path)
actor_back_at l a path v h =
    let ascii : IsAscii (address_text a ++ path) = IsAscii-append (address_text a) path (token_ascii (address_text a) (l.address_tokens a v)) (path_ascii path h) in
    let told : actor_at (address_text a ++ path) (length (address_text a)) ≡ Some (address_text a ++ path) =
    rw (take-append_seam (address_text a) path, drop-append_seam (address_text a) path, l.addresses_read a v, h) (ascii_back (address_text a ++ path) ascii) in
    ap (λ o. o >>= actor_at (address_text a ++ path)) (start_back l a path v h) ∙ told

actor_back : TextLaws → (x : List ℕ) → IsActor x → Always x → actor_told x ≡ Some x
actor_back l x v b = subst (λ (x : List ℕ). actor_told x ≡ Some x) (sym v.spelled) (actor_back_at l v.address v.path v.address_good v.path_good)

actor_token : TextLaws → (x : List ℕ) → IsActor x → Always x → NoSpace x
actor_token l x v b =
    subst NoSpace (sym v.spelled)
    (both_no_space (address_text v.address) v.path (token_no_space (address_text v.address) (l.address_tokens v.address v.address_good)) (path_no_space v.path v.path_good))

pub actor_field : TextLaws → IsField actor_told (λ x. x) IsActor Always
actor_field l = record { spelled = actor_is l; reads = actor_back l; token = actor_token l }

pub reference_field : TextLaws → IsField reference_told (λ x. x) IsReference Always
reference_field l = kept_field actor_told (λ x. x) IsActor Always (no_longer most_reference) IsReference (actor_field l)
    (λ x y h v. let s = short_is most_reference x y h in ((v, s.0), s.1)) (λ x v. (v.0, short_back most_reference x v.1))
