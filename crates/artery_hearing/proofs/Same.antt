-- The rules of a frame, by an inbound connection or by its number and what is known there.
use Rattle.std.proofs.Common.{◌≡◌, ℕ, Bool, true, false, cond, List, [], ◌∷◌, refl, ap, sym, ◌∙◌, arith}
use Rattle.std.specs.Prelude.{Option, Some, None, Result, Ok, Err, ◌==◌}
use Rattle.std.specs.List.{find}
use Rattle.std.specs.Option.{option_map}
use Rattle.std.proofs.lemmas.Bool.Decides.{nat_tests}
use Rattle.artery_base.specs.declared.address.Address.{Address}
use Rattle.artery_base.specs.declared.address.UniqueAddress.{UniqueAddress}
use Rattle.artery_base.specs.declared.message.SysMsg.{SysMsg}
use Rattle.artery_control.specs.declared.control.Control.TheVariants as controls
use Rattle.artery_delivery.specs.declared.inbound.Take.{Take}
use Rattle.artery_delivery.specs.declared.inbound.Take.TheVariants.{Taken, Again, Gap}
use Rattle.artery_delivery.specs.declared.outbound.Acked.{Acked}
use Rattle.artery_delivery.specs.declared.outbound.Acked.TheVariants.{Cleared, Past}
use Rattle.artery_delivery.specs.Inbound.{taking}
use Rattle.artery_delivery.specs.Outbound.{Kept, acknowledgement, kept_acknowledged, kept_refused}
use Rattle.artery_frame.specs.declared.stream.Stream.{Stream}
use Rattle.artery_handshake.specs.declared.in_conn.InState.{InState}
use Rattle.artery_handshake.specs.declared.in_conn.InState.TheVariants.{Raw, Known}
use Rattle.artery_header.specs.declared.fault.HeaderFault.{HeaderFault}
use Rattle.artery_header.specs.Envelope.{EnvelopeOf, read_of}
use Rattle.artery_journal.specs.declared.words.Kind.{Kind}
use Rattle.artery_tables.specs.declared.out_table.Adopted.{Adopted as Adopting}
use Rattle.artery_tables.specs.declared.out_table.Adopted.TheVariants as adopting
use Rattle.artery_tables.specs.declared.in_tables.Confirmed.{Confirmed}
use Rattle.artery_tables.specs.declared.in_tables.Confirmed.TheVariants as confirming
use Rattle.artery_tables.specs.InTables.{confirming as announced}
use Rattle.artery_tables.specs.OutTable.{adopting as newer}
use Rattle.artery_verdict.specs.Heard.{read_heard}
use Rattle.artery_machine.specs.Lists.{or_else}
use Rattle.artery_machine.specs.Parts.{kept}
use Rattle.artery_machine.specs.Node.{Node, Inbound, Origin, of_kind, new_origin, is_origin, is_number, inbound_at, speaker_in, peer_at, origin_at}
use Rattle.artery_machine.specs.Doing.{Doing, in_bytes}
use Rattle.artery_machine.specs.Verdict.{Content, Ordinary, Controls, Verdict, Dropped, OfClosed, Says, read_said, tables_for, is_shut, judged, verdict}
use Rattle.artery_machine.specs.Handshaking.{requested}
use Rattle.artery_machine.specs.Hearing.{numbered_as, numbered, acked_as, acked, nacked, adopts_as, adopts, confirms_as, confirms, heard_as, hears_on, hears}
use Rattle.artery_machine.specs.Watching.{Told, told_of, acts_as, acts}
use Rattle.artery_node.specs.Heard.{taken_by, cleared_by, adopted_by, confirmed_by}
use Rattle.artery_hearing.specs.Heard.{numbered_then, acked_then, adopts_then, confirms_then, requested_on, handles_on, heard_with, heard_on, heard_where, origin_in, tables_of}

-- ---- what a frame is

-- A request on a connection, by cases on whether that is there.
pub requested_so : (v : UniqueAddress) (to : Address) (its_nonce : Option ℕ) (o : Option (Inbound kept)) (d w : Doing kept in_bytes)
    → ((i : Inbound kept) → o ≡ Some i → w ≡ requested i v to its_nonce d) → (o ≡ None → w ≡ d) → w ≡ requested_on v to its_nonce o d
requested_so v to its_nonce None d w there none = none refl
requested_so v to its_nonce (Some i) d w there none = there i refl

-- The tables by which names are read are those of the origin, where the node has it.
of_found : (who : UniqueAddress) (n : Node kept) (o : Option (Origin kept)) → find (is_origin who) n.origins ≡ o → tables_for (Known who None) n ≡ tables_of o
of_found who n None e = ap (λ (q : Option (Origin kept)). (or_else (new_origin n.moment who) q).tables) e
of_found who n (Some o) e = ap (λ (q : Option (Origin kept)). (or_else (new_origin n.moment who) q).tables) e

pub tables_so : (state : InState) (n : Node kept) → tables_for state n ≡ tables_of (origin_in state n)
tables_so Raw n = refl
tables_so (Known who its_nonce) n = of_found who n (find (is_origin who) n.origins) refl

read_so : (stream : Option Stream) (n : Node kept) (i : Inbound kept) (r : Result EnvelopeOf HeaderFault) → read_said stream n i r ≡ read_heard i.state stream (tables_for i.state n) r
read_so stream n i (Ok envelope) = refl
read_so stream n i (Err fault) = refl

handles_so : (i : Inbound kept) (d : Doing kept in_bytes) → inbound_at i.number d.node ≡ Some i → (content : Content)
    → handles_on i.number i.state content d ≡ heard_as i (Says content) d
handles_so i d at (Ordinary e m) = refl
handles_so i d at (Controls (controls.HandshakeReq from to its_nonce)) = ap (λ (o : Option (Inbound kept)). requested_on from to its_nonce o d) at
handles_so i d at (Controls (controls.HandshakeRsp from for_uid its_nonce)) = refl
handles_so i d at (Controls (controls.Quarantined from to)) = refl
handles_so i d at (Controls (controls.Terminating from)) = refl
handles_so i d at (Controls (controls.TerminatingAck from)) = refl
handles_so i d at (Controls (controls.RefsTable from origin_uid version keys values sequence)) = refl
handles_so i d at (Controls (controls.RefsAck from version sequence)) = refl
handles_so i d at (Controls (controls.ManifestsTable from origin_uid version keys values sequence)) = refl
handles_so i d at (Controls (controls.ManifestsAck from version sequence)) = refl
handles_so i d at (Controls (controls.Numbered n message reply_to)) = refl
handles_so i d at (Controls (controls.Ack n from)) = refl
handles_so i d at (Controls (controls.Nack n from)) = refl
handles_so i d at (Controls controls.Heartbeat) = refl
handles_so i d at (Controls (controls.HeartbeatRsp uid)) = refl

with_so : (i : Inbound kept) (d : Doing kept in_bytes) → inbound_at i.number d.node ≡ Some i → (x : Verdict)
    → heard_with i.number i.state x d ≡ heard_as i x d
with_so i d at (Dropped rule) = refl
with_so i d at (OfClosed content) = refl
with_so i d at (Says content) = handles_so i d at content

on_so : (i : Inbound kept) (stream : Option Stream) (frame : List ℕ) (d : Doing kept in_bytes) → inbound_at i.number d.node ≡ Some i
    → heard_on i.number i.state stream frame d ≡ heard_as i (verdict stream d.node i frame) d
on_so i stream frame d at =
    ap (λ said. heard_with i.number i.state (judged (is_shut d.node (speaker_in i.state)) said) d) (sym (read_so stream d.node i (read_of frame)))
    ∙ with_so i d at (verdict stream d.node i frame)

is_same : (a b : ℕ) → (a == b) ≡ true → a ≡ b
is_same a b h = grind (arith, nat_tests)

-- what is found by a number has it
has_number : (number : ℕ) (is : List (Inbound kept)) (i : Inbound kept) → find (is_number number) is ≡ Some i → i.number ≡ number
has_number number [] i h = cc
has_number number (j ∷ js) i h = by (is_number number j) refl h (has_number number js i)
  where
    by : (b : Bool) → is_number number j ≡ b → cond b (Some j) (find (is_number number) js) ≡ Some i → (find (is_number number) js ≡ Some i → i.number ≡ number) → i.number ≡ number
    by true e found rest = let same : j ≡ i = cc in ap (λ (k : Inbound kept). k.number) (sym same) ∙ is_same j.number number e
    by false e found rest = rest found

where_so : (conn : ℕ) (stream : Option Stream) (frame : List ℕ) (d : Doing kept in_bytes) (o : Option (Inbound kept)) → inbound_at conn d.node ≡ o
    → heard_where conn (option_map (λ i. i.state) o) stream frame d ≡ hears_on stream o frame d
where_so conn stream frame d None e = refl
where_so conn stream frame d (Some i) e =
    let same : i.number ≡ conn = has_number conn d.node.inbound i e in
    ap (λ c. heard_on c i.state stream frame d) (sym same)
    ∙ on_so i stream frame d (ap (λ c. inbound_at c d.node) same ∙ e)

-- A frame on a connection is one on the number and what is known there.
pub heard_so : (conn : ℕ) (stream : Option Stream) (frame : List ℕ) (d w : Doing kept in_bytes) (state : Option InState)
    → state ≡ option_map (λ (i : Inbound kept). i.state) (inbound_at conn d.node)
    → w ≡ heard_where conn state stream frame d → w ≡ hears conn stream frame d
heard_so conn stream frame d w state is told =
    told ∙ ap (λ s. heard_where conn s stream frame d) is ∙ where_so conn stream frame d (inbound_at conn d.node) refl

-- ---- messages

numbered_by : (v : UniqueAddress) (n : ℕ) (message : SysMsg) (d : Doing kept in_bytes) (x : Take) → taking v n d.node.taken ≡ x
    → numbered_then v n message x (taken_by v n x d) ≡ numbered_as v n message x d
numbered_by v n message d Taken e = refl
numbered_by v n message d (Again last) e = refl
numbered_by v n message d (Gap last) e = refl

-- A numbered message, by its answer.
pub numbered_so : (v : UniqueAddress) (n : ℕ) (message : SysMsg) (d w e : Doing kept in_bytes) (x : Take)
    → x ≡ taking v n d.node.taken → w ≡ taken_by v n (taking v n d.node.taken) d → e ≡ numbered_then v n message x w → e ≡ numbered v n message d
numbered_so v n message d w e x is work told =
    told
    ∙ ap (λ y. numbered_then v n message y w) is
    ∙ ap (numbered_then v n message (taking v n d.node.taken)) work
    ∙ numbered_by v n message d (taking v n d.node.taken) refl

-- What a message tells of a watch acts, as the message does.
pub acts_so : (v : UniqueAddress) (message : SysMsg) (d w : Doing kept in_bytes) (x : Told)
    → x ≡ told_of message → w ≡ acts_as v d.node.me.address x d → w ≡ acts v message d
acts_so v message d w x is acted = acted ∙ ap (λ (y : Told). acts_as v d.node.me.address y d) is

acked_by : (conn : ℕ) (v : UniqueAddress) (change : Kept → Kept) (again : Bool) (d : Doing kept in_bytes) (x : Acked)
    → acked_then conn v again x (cleared_by v.address change x d) ≡ acked_as conn v change again x d
acked_by conn v change again d Past = refl
acked_by conn v change again d (Cleared count) = refl

acked_from : (conn n : ℕ) (v : UniqueAddress) (change : Kept → Kept) (again : Bool) (d w e : Doing kept in_bytes) (x : Acked)
    → x ≡ acknowledgement n (peer_at v.address d.node).out
    → w ≡ cleared_by v.address change (acknowledgement n (peer_at v.address d.node).out) d
    → e ≡ acked_then conn v again x w → e ≡ acked_as conn v change again (acknowledgement n (peer_at v.address d.node).out) d
acked_from conn n v change again d w e x is work told =
    told
    ∙ ap (λ (y : Acked). acked_then conn v again y w) is
    ∙ ap (acked_then conn v again (acknowledgement n (peer_at v.address d.node).out)) work
    ∙ acked_by conn v change again d (acknowledgement n (peer_at v.address d.node).out)

-- An acknowledgement, by its answer.
pub acked_so : (conn n : ℕ) (v : UniqueAddress) (d w e : Doing kept in_bytes) (x : Acked)
    → x ≡ acknowledgement n (peer_at v.address d.node).out
    → w ≡ cleared_by v.address (kept_acknowledged n) (acknowledgement n (peer_at v.address d.node).out) d
    → e ≡ acked_then conn v false x w → e ≡ acked conn v n d
acked_so conn n v d w e x is work told = acked_from conn n v (kept_acknowledged n) false d w e x is work told

-- The contrary, by its answer.
pub nacked_so : (conn n : ℕ) (v : UniqueAddress) (d w e : Doing kept in_bytes) (x : Acked)
    → x ≡ acknowledgement n (peer_at v.address d.node).out
    → w ≡ cleared_by v.address (kept_refused n) (acknowledgement n (peer_at v.address d.node).out) d
    → e ≡ acked_then conn v true x w → e ≡ nacked conn v n d
nacked_so conn n v d w e x is work told = acked_from conn n v (kept_refused n) true d w e x is work told

-- ---- tables

adopts_by : (conn : ℕ) (v : UniqueAddress) (kind : Kind) (number : ℕ) (keys : List (List ℕ)) (values : List ℕ) (d : Doing kept in_bytes) (x : Adopting)
    → adopts_then conn v kind number x (adopted_by v.address kind number keys values x d) ≡ adopts_as conn v kind number keys values x d
adopts_by conn v kind number keys values d adopting.Older = refl
adopts_by conn v kind number keys values d adopting.Same = refl
adopts_by conn v kind number keys values d adopting.Adopted = refl

-- A table, by its answer.
pub adopts_so : (conn : ℕ) (v : UniqueAddress) (kind : Kind) (number : ℕ) (keys : List (List ℕ)) (values : List ℕ) (d w e : Doing kept in_bytes) (x : Adopting)
    → x ≡ newer number (of_kind kind (peer_at v.address d.node).tables).number
    → w ≡ adopted_by v.address kind number keys values (newer number (of_kind kind (peer_at v.address d.node).tables).number) d
    → e ≡ adopts_then conn v kind number x w → e ≡ adopts conn v kind number keys values d
adopts_so conn v kind number keys values d w e x is work told =
    told
    ∙ ap (λ (y : Adopting). adopts_then conn v kind number y w) is
    ∙ ap (adopts_then conn v kind number (newer number (of_kind kind (peer_at v.address d.node).tables).number)) work
    ∙ adopts_by conn v kind number keys values d (newer number (of_kind kind (peer_at v.address d.node).tables).number)

confirms_by : (conn : ℕ) (v : UniqueAddress) (kind : Kind) (number : ℕ) (d : Doing kept in_bytes) (x : Confirmed)
    → confirms_then conn x (confirmed_by v kind number x d) ≡ confirms_as conn v kind number x d
confirms_by conn v kind number d confirming.Confirmed = refl
confirms_by conn v kind number d confirming.NotAnnounced = refl

-- The acknowledgement of a table, by its answer.
pub confirms_so : (conn : ℕ) (v : UniqueAddress) (kind : Kind) (number : ℕ) (d w e : Doing kept in_bytes) (x : Confirmed)
    → x ≡ announced number (of_kind kind (origin_at v d.node).tables)
    → w ≡ confirmed_by v kind number (announced number (of_kind kind (origin_at v d.node).tables)) d
    → e ≡ confirms_then conn x w → e ≡ confirms conn v kind number d
confirms_so conn v kind number d w e x is work told =
    told
    ∙ ap (λ (y : Confirmed). confirms_then conn y w) is
    ∙ ap (confirms_then conn (announced number (of_kind kind (origin_at v d.node).tables))) work
    ∙ confirms_by conn v kind number d (announced number (of_kind kind (origin_at v d.node).tables))
