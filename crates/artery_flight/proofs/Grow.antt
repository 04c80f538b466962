-- What stands on the connections of a network, from a moment to a later one: connections that go on.
use Rattle.std.proofs.Common.{◌≡◌, ℕ, zero, suc, Bool, true, false, ◌&&◌, cond, List, [], ◌∷◌, ◌++◌, map, refl, sym, ◌∙◌, ap, subst, arith, append_assoc, append-nil}
use Rattle.std.specs.Prelude.{Option, Some, ◌==◌, slice_get, slice_set}
use Rattle.artery_base.specs.Words.{IsPrefix}
use Rattle.artery_machine.specs.Parts.{whole}
use Rattle.artery_machine.specs.Ways.{Wrote, whole_ways}
use Rattle.artery_machine.specs.Connections.{Connection, is_dialed, is_inward}
use Rattle.artery_machine.specs.World.{World}
use Rattle.artery_flight.specs.Answers.{IsReadBack}
use Rattle.artery_flight.proofs.Lists.{eq_true, and_left, and_right, by_test, not_both, some_same, Each, each_weaker, each_push, each_get, count, count_no, Placed, placed}

abbrev pub Network : Type 0
Network = World whole whole_ways

abbrev pub Conn : Type 0
Conn = Connection whole_ways

-- Whether a connection reaches this incarnation.
abbrev pub is_far : ℕ → Conn → Bool
is_far uid c = c.far == uid

-- ---- a connection goes on: those may have written on it of whom that holds

pub record Grows (W : ℕ → Type 0) (c d : Conn) : Type 0 where
  pub dialer : d.dialer ≡ c.dialer
  pub dial : d.dial ≡ c.dial
  pub far : d.far ≡ c.far
  pub number : d.number ≡ c.number
  pub near : d.near_open ≡ true → c.near_open ≡ true
  pub others : (W c.dialer → ⊥) → d.way.all ≡ c.way.all
  pub more : IsPrefix c.way.all d.way.all

abbrev pub Grow : (ℕ → Type 0) → List Conn → List Conn → Type 0
Grow W [] [] = Unit {0}
Grow W [] (d ∷ ds) = ⊥
Grow W (c ∷ cs) [] = ⊥
Grow W (c ∷ cs) (d ∷ ds) = Grows W c d × Grow W cs ds

pub grows_self : (W : ℕ → Type 0) (c : Conn) → Grows W c c
grows_self W c = record { dialer = refl; dial = refl; far = refl; number = refl; near = λ h. h; others = λ h. refl; more = ([], append-nil c.way.all) }

pub grow_self : (W : ℕ → Type 0) (cs : List Conn) → Grow W cs cs
grow_self W [] = tt
grow_self W (c ∷ cs) = (grows_self W c, grow_self W cs)

pub grows_trans : (W : ℕ → Type 0) (a b c : Conn) → Grows W a b → Grows W b c → Grows W a c
grows_trans W a b c f g = record {
  dialer = g.dialer ∙ f.dialer;
  dial = g.dial ∙ f.dial;
  far = g.far ∙ f.far;
  number = g.number ∙ f.number;
  near = λ h. f.near (g.near h);
  others = λ h. g.others (λ k. h (subst W f.dialer k)) ∙ f.others h;
  more = (f.more.0 ++ g.more.0, sym (append_assoc a.way.all f.more.0 g.more.0) ∙ ap (λ l. l ++ g.more.0) f.more.1 ∙ g.more.1);
}

pub grow_trans : (W : ℕ → Type 0) (xs ys zs : List Conn) → Grow W xs ys → Grow W ys zs → Grow W xs zs
grow_trans W [] [] [] f g = tt
grow_trans W [] [] (c ∷ zs) f g = absurd g
grow_trans W [] (b ∷ ys) zs f g = absurd f
grow_trans W (a ∷ xs) [] zs f g = absurd f
grow_trans W (a ∷ xs) (b ∷ ys) [] f g = absurd g
grow_trans W (a ∷ xs) (b ∷ ys) (c ∷ zs) f g = (grows_trans W a b c f.0 g.0, grow_trans W xs ys zs f.1 g.1)

grows_wider : (W V : ℕ → Type 0) → ((x : ℕ) → W x → V x) → (c d : Conn) → Grows W c d → Grows V c d
grows_wider W V f c d g = record { dialer = g.dialer; dial = g.dial; far = g.far; number = g.number; near = g.near; others = λ h. g.others (λ k. h (f c.dialer k)); more = g.more }

pub grow_wider : (W V : ℕ → Type 0) → ((x : ℕ) → W x → V x) → (cs ds : List Conn) → Grow W cs ds → Grow V cs ds
grow_wider W V f [] [] g = tt
grow_wider W V f [] (d ∷ ds) g = absurd g
grow_wider W V f (c ∷ cs) [] g = absurd g
grow_wider W V f (c ∷ cs) (d ∷ ds) g = (grows_wider W V f c d g.0, grow_wider W V f cs ds g.1)

pub grow_set : (W : ℕ → Type 0) (cs : List Conn) (i : ℕ) (c d : Conn) → slice_get cs i ≡ Some c → Grows W c d → Grow W cs (slice_set cs i d)
grow_set W [] i c d e g = tt
grow_set W (b ∷ cs) zero c d e g = (subst (λ (x : Conn). Grows W x d) (sym (some_same e)) g, grow_self W cs)
grow_set W (b ∷ cs) (suc i) c d e g = (grows_self W b, grow_set W cs i c d e g)

pub grow_map : (W : ℕ → Type 0) (f : Conn → Conn) → ((c : Conn) → Grows W c (f c)) → (cs : List Conn) → Grow W cs (map f cs)
grow_map W f g [] = tt
grow_map W f g (c ∷ cs) = (g c, grow_map W f g cs)

pub grow_count : (W : ℕ → Type 0) (p : Conn → Bool) → ((c d : Conn) → Grows W c d → p d ≡ p c) → (cs ds : List Conn) → Grow W cs ds → count p ds ≡ count p cs
grow_count W p h [] [] g = refl
grow_count W p h [] (d ∷ ds) g = absurd g
grow_count W p h (c ∷ cs) [] g = absurd g
grow_count W p h (c ∷ cs) (d ∷ ds) g = ap (λ (b : Bool). cond b (suc (count p ds)) (count p ds)) (h c d g.0) ∙ ap (λ (n : ℕ). cond (p c) (suc n) n) (grow_count W p h cs ds g.1)

pub grow_each : (W : ℕ → Type 0) (P Q : Conn → Type 0) → ((c d : Conn) → Grows W c d → P c → Q d) → (cs ds : List Conn) → Grow W cs ds → Each P cs → Each Q ds
grow_each W P Q f [] [] g h = tt
grow_each W P Q f [] (d ∷ ds) g h = absurd g
grow_each W P Q f (c ∷ cs) [] g h = absurd g
grow_each W P Q f (c ∷ cs) (d ∷ ds) g h = (f c d g.0 h.0, grow_each W P Q f cs ds g.1 h.1)

pub dialed_same : (W : ℕ → Type 0) (u x : ℕ) (c d : Conn) → Grows W c d → is_dialed u x d ≡ is_dialed u x c
dialed_same W u x c d g = ap (λ (n : ℕ). (n == u) && (d.dial == x)) g.dialer ∙ ap (λ (n : ℕ). (c.dialer == u) && (n == x)) g.dial

pub inward_same : (W : ℕ → Type 0) (u x : ℕ) (c d : Conn) → Grows W c d → is_inward u x d ≡ is_inward u x c
inward_same W u x c d g = ap (λ (n : ℕ). (n == u) && (d.number == x)) g.far ∙ ap (λ (n : ℕ). (c.far == u) && (n == x)) g.number

pub far_same : (W : ℕ → Type 0) (u : ℕ) (c d : Conn) → Grows W c d → is_far u d ≡ is_far u c
far_same W u c d g = ap (λ (n : ℕ). n == u) g.far

-- ---- as many bytes were delivered

abbrev pub Stay : List Conn → List Conn → Type 0
Stay [] [] = Unit {0}
Stay [] (d ∷ ds) = ⊥
Stay (c ∷ cs) [] = ⊥
Stay (c ∷ cs) (d ∷ ds) = (d.way.delivered ≡ c.way.delivered) × Stay cs ds

pub stay_self : (cs : List Conn) → Stay cs cs
stay_self [] = tt
stay_self (c ∷ cs) = (refl, stay_self cs)

pub stay_trans : (xs ys zs : List Conn) → Stay xs ys → Stay ys zs → Stay xs zs
stay_trans [] [] [] f g = tt
stay_trans [] [] (c ∷ zs) f g = absurd g
stay_trans [] (b ∷ ys) zs f g = absurd f
stay_trans (a ∷ xs) [] zs f g = absurd f
stay_trans (a ∷ xs) (b ∷ ys) [] f g = absurd g
stay_trans (a ∷ xs) (b ∷ ys) (c ∷ zs) f g = (g.0 ∙ f.0, stay_trans xs ys zs f.1 g.1)

pub stay_set : (cs : List Conn) (i : ℕ) (c d : Conn) → slice_get cs i ≡ Some c → d.way.delivered ≡ c.way.delivered → Stay cs (slice_set cs i d)
stay_set [] i c d e g = tt
stay_set (b ∷ cs) zero c d e g = (subst (λ (x : Conn). d.way.delivered ≡ x.way.delivered) (sym (some_same e)) g, stay_self cs)
stay_set (b ∷ cs) (suc i) c d e g = (refl, stay_set cs i c d e g)

pub stay_map : (f : Conn → Conn) → ((c : Conn) → (f c).way.delivered ≡ c.way.delivered) → (cs : List Conn) → Stay cs (map f cs)
stay_map f g [] = tt
stay_map f g (c ∷ cs) = (g c, stay_map f g cs)

-- ---- frames that are read back

-- Each frame that was written is read back.
abbrev pub AllRead : List Conn → Type 0
AllRead cs = Each (λ (c : Conn). Each (λ (x : Wrote). IsReadBack c.dialer x.writing) c.way.all) cs

-- what holds of each of a list holds of each of its beginning
pub each_front : {X : Type 0} (P : X → Type 0) (xs ys : List X) → IsPrefix xs ys → Each P ys → Each P xs
each_front {X} P xs ys p h = by xs (subst (Each P) (sym p.1) h)
  where
    by : (zs : List X) → Each P (zs ++ p.0) → Each P zs
    by [] k = tt
    by (z ∷ zs) k = (k.0, by zs k.1)

-- those before are read back where those later are
pub read_before : (W : ℕ → Type 0) (cs ds : List Conn) → Grow W cs ds → AllRead ds → AllRead cs
read_before W [] [] g h = tt
read_before W [] (d ∷ ds) g h = absurd g
read_before W (c ∷ cs) [] g h = absurd g
read_before W (c ∷ cs) (d ∷ ds) g h = (
  each_front (λ (x : Wrote). IsReadBack c.dialer x.writing) c.way.all d.way.all g.0.more
      (subst (λ (u : ℕ). Each (λ (x : Wrote). IsReadBack u x.writing) d.way.all) g.0.dialer h.0),
  read_before W cs ds g.1 h.1,
)

pub read_front : (cs : List Conn) (k : Conn) → AllRead (cs ++ k ∷ []) → AllRead cs
read_front cs k h = each_front (λ (c : Conn). Each (λ (x : Wrote). IsReadBack c.dialer x.writing) c.way.all) cs (cs ++ k ∷ []) (k ∷ [], refl) h

-- ---- the one connection that bears a name

-- There is one connection that passes a test, and something holds of it.
pub record TheOne (test : Conn → Bool) (Q : Conn → Type 0) (cs : List Conn) : Type 0 where
  pub made : count test cs ≡ 1
  pub holds : Each (λ (c : Conn). test c ≡ true → Q c) cs

pub one_weaker : (test : Conn → Bool) (P Q : Conn → Type 0) (cs : List Conn) → ((c : Conn) → test c ≡ true → P c → Q c) → TheOne test P cs → TheOne test Q cs
one_weaker test P Q cs f o = record { made = o.made; holds = each_weaker _ _ (λ c h t. f c t (h t)) cs o.holds }

pub one_grow : (W : ℕ → Type 0) (test : Conn → Bool) (P Q : Conn → Type 0) → ((c d : Conn) → Grows W c d → test d ≡ test c) → ((c d : Conn) → Grows W c d → P c → Q d) → (cs ds : List Conn) → Grow W cs ds → TheOne test P cs → TheOne test Q ds
one_grow W test P Q same f cs ds g o = record {
  made = grow_count W test same cs ds g ∙ o.made;
  holds = grow_each W _ _ (λ c d k h t. f c d k (h (sym (same c d k) ∙ t))) cs ds g o.holds;
}

-- another connection is made
pub one_pushed : (test : Conn → Bool) (Q : Conn → Type 0) (cs : List Conn) (k : Conn) → test k ≡ false → TheOne test Q cs → TheOne test Q (cs ++ k ∷ [])
one_pushed test Q cs k n o = record { made = count_no test cs k n ∙ o.made; holds = each_push _ cs k o.holds (λ t. not_both t n) }

-- it is there
pub one_placed : (test : Conn → Bool) (Q : Conn → Type 0) (cs : List Conn) → TheOne test Q cs → Placed test cs
one_placed test Q cs o = placed test cs (let e : count test cs ≡ 1 = o.made in omega arith)

pub one_here : (test : Conn → Bool) (Q : Conn → Type 0) (cs : List Conn) → (o : TheOne test Q cs) → Q (one_placed test Q cs o).element
one_here test Q cs o = each_get (λ (c : Conn). test c ≡ true → Q c) cs (one_placed test Q cs o).place (one_placed test Q cs o).element o.holds (one_placed test Q cs o).here (one_placed test Q cs o).passes

-- what holds of each connection holds of it besides
pub one_both : (test : Conn → Bool) (P Q : Conn → Type 0) (cs : List Conn) → Each P cs → TheOne test Q cs → TheOne test (λ (c : Conn). P c × Q c) cs
one_both test P Q cs h o = record { made = o.made; holds = by cs h o.holds }
  where
    by : (ds : List Conn) → Each P ds → Each (λ (c : Conn). test c ≡ true → Q c) ds → Each (λ (c : Conn). test c ≡ true → P c × Q c) ds
    by [] a b = tt
    by (d ∷ ds) a b = ((λ t. (a.0, b.0 t)), by ds a.1 b.1)

-- The connection with this dialer and dial number reaches this incarnation.
abbrev pub Reaches : ℕ → ℕ → ℕ → List Conn → Type 0
Reaches u d f cs = TheOne (is_dialed u d) (λ (c : Conn). c.far ≡ f) cs

pub reaches_grow : (W : ℕ → Type 0) (u d f : ℕ) (cs ds : List Conn) → Grow W cs ds → Reaches u d f cs → Reaches u d f ds
reaches_grow W u d f cs ds g o = one_grow W (is_dialed u d) (λ (c : Conn). c.far ≡ f) (λ (c : Conn). c.far ≡ f) (dialed_same W u d) (λ c e k h. k.far ∙ h) cs ds g o

-- The connection that reaches this incarnation under this number was dialed by that one, with the nonce as its dial number.
abbrev pub ComesFrom : ℕ → ℕ → ℕ → Option ℕ → List Conn → Type 0
ComesFrom u k v its_nonce cs = TheOne (is_inward u k) (λ (c : Conn). (v ≡ c.dialer) × (its_nonce ≡ Some c.dial)) cs

pub comes_grow : (W : ℕ → Type 0) (u k v : ℕ) (its_nonce : Option ℕ) (cs ds : List Conn) → Grow W cs ds → ComesFrom u k v its_nonce cs → ComesFrom u k v its_nonce ds
comes_grow W u k v its_nonce cs ds g o = one_grow W (is_inward u k) _ _ (inward_same W u k) (λ c d t h. (h.0 ∙ sym t.dialer, h.1 ∙ ap Some (sym t.dial))) cs ds g o

-- An answer with these fields is one for a connection that reaches this incarnation.
pub record IsAnswerFor (f : ℕ) (for_uid its_nonce : Option ℕ) (cs : List Conn) : Type 0 where
  pub uid : ℕ
  pub nonce : ℕ
  pub asked : for_uid ≡ Some uid
  pub its : its_nonce ≡ Some nonce
  pub reaches : Reaches uid nonce f cs

pub answer_grow : (W : ℕ → Type 0) (f : ℕ) (for_uid its_nonce : Option ℕ) (cs ds : List Conn) → Grow W cs ds → IsAnswerFor f for_uid its_nonce cs → IsAnswerFor f for_uid its_nonce ds
answer_grow W f for_uid its_nonce cs ds g h = record { uid = h.uid; nonce = h.nonce; asked = h.asked; its = h.its; reaches = reaches_grow W h.uid h.nonce f cs ds g h.reaches }

-- a connection is made whose name no other has
pub name_apart : (u d : ℕ) (cs : List Conn) (k : Conn) → count (is_dialed k.dialer k.dial) cs ≡ 0 → count (is_dialed u d) cs ≡ 1 → is_dialed u d k ≡ false
name_apart u d cs k none made = by_test (is_dialed u d k)
    (λ t. (let a : k.dialer ≡ u = eq_true k.dialer u (and_left (k.dialer == u) (k.dial == d) t) in
    let b : k.dial ≡ d = eq_true k.dial d (and_right (k.dialer == u) (k.dial == d) t) in
    let z : count (is_dialed u d) cs ≡ 0 = subst (λ (y : ℕ). count (is_dialed u y) cs ≡ 0) b (subst (λ (y : ℕ). count (is_dialed y k.dial) cs ≡ 0) a none) in
    let y : count (is_dialed u d) cs ≡ 1 = made in absurd (let c : ⊥ = omega arith in c)))
    (λ t. t)

-- the same of whom it reaches, and its number there
pub place_apart : (u d : ℕ) (cs : List Conn) (k : Conn) → count (is_inward k.far k.number) cs ≡ 0 → count (is_inward u d) cs ≡ 1 → is_inward u d k ≡ false
place_apart u d cs k none made = by_test (is_inward u d k)
    (λ t. (let a : k.far ≡ u = eq_true k.far u (and_left (k.far == u) (k.number == d) t) in
    let b : k.number ≡ d = eq_true k.number d (and_right (k.far == u) (k.number == d) t) in
    let z : count (is_inward u d) cs ≡ 0 = subst (λ (y : ℕ). count (is_inward u y) cs ≡ 0) b (subst (λ (y : ℕ). count (is_inward y k.number) cs ≡ 0) a none) in
    let y : count (is_inward u d) cs ≡ 1 = made in absurd (let c : ⊥ = omega arith in c)))
    (λ t. t)

pub answer_pushed : (f : ℕ) (for_uid its_nonce : Option ℕ) (cs : List Conn) (k : Conn) → count (is_dialed k.dialer k.dial) cs ≡ 0 → IsAnswerFor f for_uid its_nonce cs → IsAnswerFor f for_uid its_nonce (cs ++ k ∷ [])
answer_pushed f for_uid its_nonce cs k none h = record {
  uid = h.uid;
  nonce = h.nonce;
  asked = h.asked;
  its = h.its;
  reaches = one_pushed (is_dialed h.uid h.nonce) _ cs k (name_apart h.uid h.nonce cs k none h.reaches.made) h.reaches;
}
