-- Deeds outside that say nothing of ordinary messages and tables.
use Rattle.std.proofs.Common.{◌≡◌, ℕ, true, List, [], ◌∷◌, ◌++◌, length, refl, sym, ◌∙◌, ap, subst, append-nil}
use Rattle.std.specs.Prelude.{Option, None, Some, ◌==◌, not, is_none, slice_get, slice_set}
use Rattle.artery_frame.specs.declared.stream.Stream.{Stream}
use Rattle.artery_journal.specs.declared.line.Line.{Line}
use Rattle.artery_judge.specs.Lines.{says_got}
use Rattle.artery_machine.specs.declared.input.Conn.TheVariants.{Outward, Inward}
use Rattle.artery_machine.specs.declared.world.Outcome.TheVariants as outcomes
use Rattle.artery_machine.specs.declared.world.WorldLimit.{WorldLimit}
use Rattle.artery_machine.specs.declared.world.WorldLimit.TheVariants as limits
use Rattle.artery_machine.specs.Lists.{put_at}
use Rattle.artery_machine.specs.Deeds.{Writing, Begins, Deed, Dials, Writes, Hangs, Tells, bytes_of}
use Rattle.artery_machine.specs.Parts.{whole}
use Rattle.artery_machine.specs.Ways.{Wrote, whole_ways}
use Rattle.artery_machine.specs.Connections.{is_dialed, near_ended, far_ended, with_writing, place_dialed, place_inward}
use Rattle.artery_machine.specs.Doing.{Sink}
use Rattle.artery_machine.specs.World.{Change, stays, going_on, ends, by_found, by_connection, connection_becomes, comes_out, is_too_much, writes, does as does_outside}
use Rattle.artery_names.proofs.Lists.{by_option, on_cond, not_both, not_some, eq_true, and_left, prefix_self, position_passes}
use Rattle.artery_names.proofs.Said.{sends_said, tables_said, acks_said, answers_said, speakers_said, all_said, said_append}
use Rattle.artery_names.proofs.Talks.{newest_line, newest_wrote, IsSilent, SameTalk, same_talk, same_then, silent_same}
use Rattle.artery_names.proofs.Facts.{Network, Conn, journal, KeepsOrdinary, IsLawful}
use Rattle.artery_names.proofs.Growing.{Grown, Still, still_self, still_trans, Stepped, stepped_self, stepped_trans, Along, along_self, along_trans, along_set}

-- The outside of the node with this UID at a moment: a deed is done there at once, unless the network has ended.
abbrev pub outward : ℕ → ℕ → Sink
outward u m = record { Deeds = Network; told = λ deed w. going_on (does_outside u m deed) w }

pub record Quietly (u : ℕ) (w v : Network) : Type 0 where
  pub steps : Along (Stepped u) w.connections v.connections
  pub talk : SameTalk (journal w) (journal v)
  pub conns : Along Still w.connections v.connections
  pub lawful : IsLawful (journal w) → IsLawful (journal v)
  pub going : v.ended ≡ None → w.ended ≡ None

same_steps : (u : ℕ) (cs : List Conn) → Along (Stepped u) cs cs
same_steps u cs = along_self (Stepped u) (stepped_self u) cs

pub quietly_self : (u : ℕ) (w : Network) → Quietly u w w
quietly_self u w = record { steps = same_steps u w.connections; talk = same_talk (journal w); conns = along_self Still still_self w.connections; lawful = λ h. h; going = λ h. h }

pub quietly_then : (u : ℕ) (w v x : Network) → Quietly u w v → Quietly u v x → Quietly u w x
quietly_then u w v x f g = record {
  steps = along_trans (Stepped u) (stepped_trans u) w.connections v.connections x.connections f.steps g.steps;
  talk = same_then _ _ _ f.talk g.talk;
  conns = along_trans Still still_trans w.connections v.connections x.connections f.conns g.conns;
  lawful = λ h. g.lawful (f.lawful h);
  going = λ h. f.going (g.going h);
}

-- ---- lines

pub silent_lawful : (l : Line) (ls : List Line) → says_got l ≡ None → IsLawful ls → IsLawful (l ∷ ls)
silent_lawful l ls e h = (subst (KeepsOrdinary ls) (sym e) tt, h)

pub line_quietly : (u m : ℕ) (l : Line) (w : Network) → IsSilent l → Quietly u w (comes_out (outcomes.Line m l) w)
line_quietly u m l w s = record {
  steps = same_steps u w.connections;
  talk = subst (SameTalk (journal w)) (sym (newest_line w.outcomes [] m l)) (silent_same l (journal w) s);
  conns = along_self Still still_self w.connections;
  lawful = λ h. subst IsLawful (sym (newest_line w.outcomes [] m l)) (silent_lawful l (journal w) s.got h);
  going = λ h. h;
}

pub wrote_quietly : (u d : ℕ) (bytes : List ℕ) (w : Network) → Quietly u w (comes_out (outcomes.Wrote u d bytes) w)
wrote_quietly u d bytes w = record {
  steps = same_steps u w.connections;
  talk = subst (SameTalk (journal w)) (sym (newest_wrote w.outcomes [] u d bytes)) (same_talk (journal w));
  conns = along_self Still still_self w.connections;
  lawful = λ h. subst IsLawful (sym (newest_wrote w.outcomes [] u d bytes)) h;
  going = λ h. h;
}

-- ---- connections

-- connections that go on, and nothing else
conns_quietly : (u : ℕ) (w : Network) (cs : List Conn) → Along Still w.connections cs → Along (Stepped u) w.connections cs → Quietly u w (record w { connections = cs })
conns_quietly u w cs l s = record { steps = s; talk = same_talk (journal w); conns = l; lawful = λ h. h; going = λ h. h }

set_quietly : (u : ℕ) (w : Network) (i : ℕ) (c d : Conn) → slice_get w.connections i ≡ Some c → Still c d → Stepped u c d → Quietly u w (record w { connections = slice_set w.connections i d })
set_quietly u w i c d e s t = conns_quietly u w (slice_set w.connections i d) (along_set Still still_self w.connections i c d e s) (along_set (Stepped u) (stepped_self u) w.connections i c d e t)

pub becomes_quietly : (u : ℕ) (g : Conn → Conn) → ((c : Conn) → Still c (g c)) → ((c : Conn) → Stepped u c (g c)) → (i : ℕ) (w : Network) → Quietly u w (connection_becomes g i w)
becomes_quietly u g f t i w = by_option (slice_get w.connections i)
    (λ e. subst (λ (x : Option Conn). Quietly u w (record w { connections = put_at i g w.connections x })) (sym e) (quietly_self u w))
    (λ c e. subst (λ (x : Option Conn). Quietly u w (record w { connections = put_at i g w.connections x })) (sym e) (set_quietly u w i c (g c) e (f c) (t c)))

pub found_quietly : (u : ℕ) (g : Conn → Conn) → ((c : Conn) → Still c (g c)) → ((c : Conn) → Stepped u c (g c)) → (i : Option ℕ) (w : Network) → Quietly u w (by_found (connection_becomes g) i w)
found_quietly u g f t None w = quietly_self u w
found_quietly u g f t (Some i) w = becomes_quietly u g f t i w

near_still : (c : Conn) → Still c (near_ended c)
near_still c = record { grown = record { dialer = refl; dial = refl; far = refl; number = refl; near = λ h. not_both h refl; more = prefix_self c.way.all }; sends = refl; tables = refl; acks = refl; answers = refl; speakers = refl }

far_still : (c : Conn) → Still c (far_ended c)
far_still c = record { grown = record { dialer = refl; dial = refl; far = refl; number = refl; near = λ h. h; more = prefix_self c.way.all }; sends = refl; tables = refl; acks = refl; answers = refl; speakers = refl }

near_stepped : (u : ℕ) (c : Conn) → Stepped u c (near_ended c)
near_stepped u c = record { grown = (near_still c).grown; others = λ n. refl }

far_stepped : (u : ℕ) (c : Conn) → Stepped u c (far_ended c)
far_stepped u c = record { grown = (far_still c).grown; others = λ n. refl }

-- ---- something is written

-- Something that says nothing of these.
pub record IsPlain (x : Writing) : Type 0 where
  pub sends : sends_said x ≡ []
  pub tables : tables_said x ≡ []
  pub acks : acks_said x ≡ []
  pub answers : answers_said x ≡ []
  pub speakers : speakers_said x ≡ []

pub begins_plain : (stream : Stream) → IsPlain (Begins stream)
begins_plain stream = record { sends = refl; tables = refl; acks = refl; answers = refl; speakers = refl }

pub said_nothing : {X : Type 0} (says : Writing → List X) (ws : List Wrote) (x : Writing) (bytes : List ℕ) → says x ≡ [] → all_said says (ws ++ record { writing = x; bytes = bytes } ∷ []) ≡ all_said says ws
said_nothing says ws x bytes e = said_append says ws (record { writing = x; bytes = bytes } ∷ []) ∙ ap (λ l. all_said says ws ++ (l ++ [])) e ∙ append-nil (all_said says ws)

pub writing_grown : (x : Writing) (bytes : List ℕ) (c : Conn) → Grown c (with_writing x bytes c)
writing_grown x bytes c = record { dialer = refl; dial = refl; far = refl; number = refl; near = λ h. h; more = (record { writing = x; bytes = bytes } ∷ [], refl) }

pub writing_still : (x : Writing) (bytes : List ℕ) → IsPlain x → (c : Conn) → Still c (with_writing x bytes c)
writing_still x bytes p c = record {
  grown = writing_grown x bytes c;
  sends = said_nothing sends_said c.way.all x bytes p.sends;
  tables = said_nothing tables_said c.way.all x bytes p.tables;
  acks = said_nothing acks_said c.way.all x bytes p.acks;
  answers = said_nothing answers_said c.way.all x bytes p.answers;
  speakers = said_nothing speakers_said c.way.all x bytes p.speakers;
}

pub ends_quietly : (u : ℕ) (limit : WorldLimit) (w : Network) → Quietly u w (ends limit w)
ends_quietly u limit w = record { steps = same_steps u w.connections; talk = same_talk (journal w); conns = along_self Still still_self w.connections; lawful = λ h. h; going = λ h. not_some (sym h) }

pub writing_stepped : (u : ℕ) (x : Writing) (bytes : List ℕ) (c : Conn) → c.dialer ≡ u → Stepped u c (with_writing x bytes c)
writing_stepped u x bytes c e = record { grown = writing_grown x bytes c; others = λ n. absurd (n e) }

-- What was written at a place, where there is a connection.
pub set_at : (g : Conn → Conn) (i : ℕ) (w : Network) (c : Conn) → slice_get w.connections i ≡ Some c → connection_becomes g i w ≡ record w { connections = slice_set w.connections i (g c) }
set_at g i w c e = ap (λ (x : Option Conn). record w { connections = put_at i g w.connections x }) e

writes_quietly : (u d : ℕ) (x : Writing) (i : ℕ) (c : Conn) (w : Network) → slice_get w.connections i ≡ Some c → c.dialer ≡ u → IsPlain x → Quietly u w (writes u d x (bytes_of u x) i c w)
writes_quietly u d x i c w e mine p =
    on_cond K (not c.near_open) stays _ (λ t. quietly_self u w)
    (λ t. on_cond K (is_too_much (length (bytes_of u x)) c w) (ends limits.Undelivered) _ (λ k. ends_quietly u limits.Undelivered w)
    (λ k. (let v : Network = record w { connections = slice_set w.connections i (with_writing x (bytes_of u x) c) } in
    subst (λ (y : Network). Quietly u w (comes_out (outcomes.Wrote u d (bytes_of u x)) y)) (sym (set_at (with_writing x (bytes_of u x)) i w c e))
    (quietly_then u w v (comes_out (outcomes.Wrote u d (bytes_of u x)) v)
    (set_quietly u w i c (with_writing x (bytes_of u x) c) e (writing_still x (bytes_of u x) p c) (writing_stepped u x (bytes_of u x) c mine)) (wrote_quietly u d (bytes_of u x) v)))))
  where
    K : Change whole whole_ways → Type 0
    K change = Quietly u w (change w)

pub dialer_is : (u d : ℕ) (c : Conn) → is_dialed u d c ≡ true → c.dialer ≡ u
dialer_is u d c h = eq_true c.dialer u (and_left (c.dialer == u) (c.dial == d) h)

write_quietly : (u m d : ℕ) (x : Writing) (w : Network) → IsPlain x → Quietly u w (does_outside u m (Writes d x) w)
write_quietly u m d x w p = by (place_dialed u d w.connections) refl
  where
    at_place : (i : ℕ) → place_dialed u d w.connections ≡ Some i → (c : Option Conn) → slice_get w.connections i ≡ c → Quietly u w (by_found (writes u d x (bytes_of u x) i) c w)
    at_place i e None g = quietly_self u w
    at_place i e (Some c) g = writes_quietly u d x i c w g (dialer_is u d c (position_passes (is_dialed u d) w.connections i c e g)) p

    by : (i : Option ℕ) → place_dialed u d w.connections ≡ i → Quietly u w (by_found (by_connection (writes u d x (bytes_of u x))) i w)
    by None e = quietly_self u w
    by (Some i) e = at_place i e (slice_get w.connections i) refl

-- ---- a deed

-- A deed that says nothing of these.
abbrev pub IsPlainDeed : Deed → Type 0
IsPlainDeed (Dials dial address) = Unit {0}
IsPlainDeed (Writes dial x) = IsPlain x
IsPlainDeed (Hangs conn) = Unit {0}
IsPlainDeed (Tells line) = IsSilent line

deed_quietly : (u m : ℕ) (deed : Deed) (w : Network) → IsPlainDeed deed → Quietly u w (does_outside u m deed w)
deed_quietly u m (Dials dial address) w p = record { steps = same_steps u w.connections; talk = same_talk (journal w); conns = along_self Still still_self w.connections; lawful = λ h. h; going = λ h. h }
deed_quietly u m (Writes dial x) w p = write_quietly u m dial x w p
deed_quietly u m (Hangs (Outward dial)) w p = found_quietly u near_ended near_still (near_stepped u) (place_dialed u dial w.connections) w
deed_quietly u m (Hangs (Inward number)) w p = found_quietly u far_ended far_still (far_stepped u) (place_inward u number w.connections) w
deed_quietly u m (Tells line) w p = line_quietly u m line w p

pub told_quietly : (u m : ℕ) (deed : Deed) (w : Network) → IsPlainDeed deed → Quietly u w (going_on (does_outside u m deed) w)
told_quietly u m deed w p = on_cond (Quietly u w) (is_none w.ended) (does_outside u m deed w) w (λ t. deed_quietly u m deed w p) (λ t. quietly_self u w)
