-- The handshake: dials that are up, requests and answers, and what follows where a connection is bound.
use Rattle.std.specs.Prelude.{ℕ, ◌+◌, ◌==◌, nat_lt, Bool, true, false, ◌||◌, ◌&&◌, not, is_some, if◌then◌else◌, List, [], ◌∷◌, ◌++◌, length, Option, None, Some}
use Rattle.artery_base.specs.declared.address.Address.{Address}
use Rattle.artery_base.specs.declared.address.UniqueAddress.{UniqueAddress}
use Rattle.artery_base.specs.declared.message.SysMsg.{SysMsg}
use Rattle.artery_assoc.specs.Peer.{learning, peer_learnt}
use Rattle.artery_assoc.specs.declared.peer.Learn.{Learn}
use Rattle.artery_assoc.specs.declared.peer.Learn.TheVariants.{Learnt, Same, WasClosed, ClosedFull}
use Rattle.artery_control.specs.declared.control.Control.{Control}
use Rattle.artery_control.specs.declared.control.Control.TheVariants as controls
use Rattle.artery_frame.specs.declared.stream.Stream.{Stream}
use Rattle.artery_frame.specs.declared.stream.Stream.TheVariants as streams
use Rattle.artery_handshake.specs.declared.out_conn.OutConn.{OutConn}
use Rattle.artery_handshake.specs.declared.out_conn.OnRsp.{OnRsp}
use Rattle.artery_handshake.specs.declared.out_conn.OnRsp.TheVariants.{Bind, Repeat, Stray}
use Rattle.artery_handshake.specs.Outgoing.{is_dialing, conn_dialed, answer_to_rsp, conn_answered}
use Rattle.artery_handshake.specs.declared.in_conn.InState.{InState}
use Rattle.artery_handshake.specs.declared.in_conn.InState.TheVariants.{Raw, Known}
use Rattle.artery_handshake.specs.declared.in_conn.OnReq.{OnReq}
use Rattle.artery_handshake.specs.declared.in_conn.OnReq.TheVariants.{Opened, Repeated, OtherOrigin}
use Rattle.artery_handshake.specs.Incoming.{answer_to_req, state_after_req}
use Rattle.artery_journal.specs.declared.line.Line.TheVariants as lines
use Rattle.artery_journal.specs.declared.words.Reason.TheVariants as reasons
use Rattle.artery_journal.specs.declared.words.Cause.TheVariants as causes
use Rattle.artery_journal.specs.declared.rule.Rule.{Rule as DropRule}
use Rattle.artery_journal.specs.declared.rule.Rule.TheVariants as rules
use Rattle.artery_machine.specs.declared.input.Conn.TheVariants.{Outward}
use Rattle.artery_machine.specs.Deeds.{Begins, Controls, Hangs, Writes}
use Rattle.artery_machine.specs.Parts.{Parts}
use Rattle.artery_machine.specs.Node.{Node, Peer, Inbound, Origin, Answer, Link, same_address, address_of, current_of, conn_of, with_link, peer_at, peer_dialed, stream_dialed, dial_asked, dialed_as, has_origin, origin_at, new_origin}
use Rattle.artery_machine.specs.Making.{dials, makes_missing, may_have, uses, loses}
use Rattle.artery_machine.specs.Closing.{dial_of, on_control, closes_current}
use Rattle.artery_machine.specs.Sending.{rewinds, pumps, tells_sent, tells_held}
use Rattle.artery_machine.specs.Doing.{Sink, Rule, ◌▸◌, stays, where_true, does, becomes, tells_of, writes_on, hangs_up, peer_becomes, inbound_becomes, origin_becomes, each}

-- At most 1,024 origins are known.
abbrev pub most_origins : ℕ
most_origins = 1024

-- The answer to a request of this incarnation: it repeats the UID and the nonce, or has neither where the request had no nonce.
abbrev pub answer_to : UniqueAddress → Option ℕ → Answer
answer_to v None = record { for_uid = None; nonce = None }
answer_to v (Some its_nonce) = record { for_uid = Some v.uid; nonce = Some its_nonce }

-- The message of an answer.
abbrev pub response : UniqueAddress → Answer → Control
response me answer = controls.HandshakeRsp me answer.for_uid answer.nonce

-- A connection is changed, where there is one.
abbrev pub change_conn : (OutConn → OutConn) → Link → Link
change_conn change l = record l { conn = changed l.conn }
  where
    changed : Option OutConn → Option OutConn
    changed None = None
    changed (Some c) = Some (change c)

-- Whether there is a connection that is not up yet.
abbrev pub waits_for_dial : Option OutConn → Bool
waits_for_dial None = false
waits_for_dial (Some c) = is_dialing c

-- Whether an answer is that of another origin.
abbrev pub is_other : OnReq → Bool
is_other Opened = false
is_other Repeated = false
is_other OtherOrigin = true

-- What an answer is to a connection, where there is one.
abbrev pub answer_on : ℕ → UniqueAddress → Option ℕ → Option ℕ → Option OutConn → OnRsp
answer_on me v for_uid its_nonce None = Stray
answer_on me v for_uid its_nonce (Some c) = answer_to_rsp me v.uid for_uid its_nonce c

-- Whether an answer was meant for a connection.
abbrev pub is_met : OnRsp → Bool
is_met (Bind uid) = true
is_met Repeat = true
is_met Stray = false

module _ {P : Parts} where
  -- The peer is quiet from now on.
  abbrev pub quiet_now : ℕ → Peer P → Peer P
  quiet_now now p = record p { quiet = now }

  -- No answer is owed.
  abbrev pub owes_no_answer : Inbound P → Inbound P
  owes_no_answer i = record i { owed = None }

  -- The first of these rules drops a request: it is for another address; it is from the own address; it is from another origin, or with another nonce, than the connection is known for; its peer is one too many; its origin is one too many.
  abbrev pub request_rule : Node P → Inbound P → UniqueAddress → Address → Option ℕ → Option DropRule
  request_rule n i v to its_nonce =
      if not (same_address to n.me.address) then Some rules.NotMe
      else if same_address v.address n.me.address then Some rules.Itself
      else if is_other (answer_to_req v its_nonce i.state) then Some rules.Origin
      else if not (may_have v.address n) then Some rules.Peers
      else if not (has_origin v n || nat_lt (length n.origins) most_origins) then Some rules.Origins
      else None

  -- A new origin is the last of a node's origins, and nothing was taken from it.
  abbrev pub with_origin : UniqueAddress → Node P → Node P
  with_origin v n = record n { origins = n.origins ++ new_origin n.moment v ∷ []; taken = P.opened v n.taken }

  -- It is known who speaks on an inbound connection.
  abbrev pub known_as : UniqueAddress → Option ℕ → Inbound P → Inbound P
  known_as v its_nonce i = record i { state = state_after_req v its_nonce i.state }

  -- An answer is owed; a former one is not owed any more.
  abbrev pub owing : Answer → Inbound P → Inbound P
  owing answer i = record i { owed = Some answer }

  -- A peer whose UID is learnt now: those that waited are the first messages to it, and patience runs from now on.
  abbrev pub with_learnt : ℕ → ℕ → Peer P → Peer P
  with_learnt now uid p = record p { incarnations = peer_learnt uid p.incarnations; out = P.learnt p.out; patience = now }

  -- No acknowledgement is owed.
  abbrev pub owes_no_ack : Origin P → Origin P
  owes_no_ack o = record o { owes = false }

  -- The dial number of the ordinary connection to an incarnation, where it is current.
  abbrev pub ordinary_dial : UniqueAddress → Peer P → Option ℕ
  ordinary_dial v p = if is_that v.uid (current_of p) then dial_of (conn_of streams.Ordinary p) else None
    where
      is_that : ℕ → Option ℕ → Bool
      is_that uid None = false
      is_that uid (Some current) = current == uid

  -- What an answer is to the connection of this kind.
  abbrev pub answer_at : Stream → Node P → UniqueAddress → Option ℕ → Option ℕ → OnRsp
  answer_at stream n v for_uid its_nonce = answer_on n.me.uid v for_uid its_nonce (conn_of stream (peer_at v.address n))

module _ {P : Parts} {E : Sink} where
  -- ---- dials

  -- The request of a handshake is written: to the address, with the dial number as its nonce.
  abbrev pub asks_on : Address → ℕ → Rule P E
  asks_on address dial d = writes_on (Some dial) (Controls (controls.HandshakeReq d.node.me address (Some dial))) d

  -- An answer that is owed is written, where one is.
  abbrev pub writes_answer : ℕ → Option Answer → Rule P E
  writes_answer dial None d = d
  writes_answer dial (Some answer) d = writes_on (Some dial) (Controls (response d.node.me answer)) d

  -- The answer owed on an inbound connection is written, where the one that asked is at the address.
  abbrev pub answers_owed : Address → ℕ → Inbound P → InState → Rule P E
  answers_owed address dial i Raw = stays
  answers_owed address dial i (Known who its_nonce) =
      where_true (same_address who.address address) (inbound_becomes i.number owes_no_answer ▸ writes_answer dial i.owed)

  -- All answers that are owed to those at an address are written, by ascending number of the inbound connection.
  abbrev pub answers_all : Address → ℕ → Rule P E
  answers_all address dial d = each d.node.inbound (λ i. answers_owed address dial i i.state) d

  -- On the control connection the owed answers follow.
  abbrev pub answers_after : Stream → Address → ℕ → Rule P E
  answers_after streams.Control address dial = answers_all address dial
  answers_after streams.Ordinary address dial = stays

  -- A connection that is up begins with what it carries and asks; on the control connection the owed answers follow.
  abbrev pub begins : Stream → Address → ℕ → Rule P E
  begins stream address dial d =
      (peer_becomes address (with_link stream (change_conn (conn_dialed d.node.moment)))
      ▸ does (Writes dial (Begins stream)) ▸ asks_on address dial ▸ answers_after stream address dial) d

  -- A dial that nobody waits for is hung up.
  abbrev pub dialed_of : ℕ → Option (Peer P) → Rule P E
  dialed_of dial None = does (Hangs (Outward dial))
  dialed_of dial (Some p) =
      if waits_for_dial (conn_of (stream_dialed dial p) p) then begins (stream_dialed dial p) (address_of p) dial
      else does (Hangs (Outward dial))

  -- A dial is up.
  abbrev pub dialed : ℕ → Rule P E
  dialed dial d = dialed_of dial (peer_dialed dial d.node) d

  -- A connection that failed or ended is gone, and may be dialed again 1,000 ms from now.
  abbrev pub lost_of : ℕ → Option (Peer P) → Rule P E
  lost_of dial None = stays
  lost_of dial (Some p) = loses (stream_dialed dial p) (address_of p)

  -- The connection with this dial number failed or ended.
  abbrev pub lost : ℕ → Rule P E
  lost dial d = lost_of dial (peer_dialed dial d.node) d

  -- An own connection is hung up and gone, and may be dialed again 1,000 ms from now.
  abbrev pub gives_up : Stream → Address → Rule P E
  gives_up stream address d = (hangs_up (dial_of (conn_of stream (peer_at address d.node))) ▸ loses stream address) d

  -- ---- requests

  -- An origin that is missing is made.
  abbrev pub makes_origin : UniqueAddress → Rule P E
  makes_origin v d = where_true (not (has_origin v d.node)) (becomes (with_origin v)) d

  -- An answer is written on the control connection to its peer where that was asked or is bound, whoever it is bound to; else it is owed.
  abbrev pub answers_on : ℕ → Answer → Option ℕ → Rule P E
  answers_on number answer None = inbound_becomes number (owing answer)
  answers_on number answer (Some dial) = inbound_becomes number owes_no_answer ▸ writes_answer dial (Some answer)

  -- A request is answered.
  abbrev pub answers : ℕ → UniqueAddress → Option ℕ → Rule P E
  answers number v its_nonce d = answers_on number (answer_to v its_nonce) (dial_asked (conn_of streams.Control (peer_at v.address d.node))) d

  -- A request is taken: the peer is made where it is missing, and used; it is known who speaks on the connection; the origin is made where it is new; and the request is answered.
  abbrev pub is_asked : ℕ → UniqueAddress → Option ℕ → Rule P E
  is_asked number v its_nonce =
      makes_missing v.address ▸ uses v.address ▸ inbound_becomes number (known_as v its_nonce) ▸ makes_origin v ▸ answers number v its_nonce

  -- A rule drops a frame.
  abbrev pub drops : ℕ → DropRule → Rule P E
  drops number rule = tells_of (λ me. lines.Dropped me number rule)

  -- A rule drops a frame, or it is handled.
  abbrev pub drops_or : ℕ → Option DropRule → Rule P E → Rule P E
  drops_or number None rest = rest
  drops_or number (Some rule) rest = drops number rule

  -- A handshake request came.
  abbrev pub requested : Inbound P → UniqueAddress → Address → Option ℕ → Rule P E
  requested i v to its_nonce d = drops_or i.number (request_rule d.node i v to its_nonce) (is_asked i.number v its_nonce) d

  -- ---- binding

  -- Messages are told as sent, numbered from n on.
  abbrev pub tells_all_sent : Address → ℕ → ℕ → List SysMsg → Rule P E
  tells_all_sent address uid n [] = stays
  tells_all_sent address uid n (m ∷ ms) = tells_sent address (Some uid) n m ▸ tells_all_sent address uid (n + 1) ms

  -- The messages that waited are told as sent.
  abbrev pub tells_waiting : Address → ℕ → Rule P E
  tells_waiting address uid d = tells_all_sent address uid 1 (P.unacknowledged (peer_at address d.node).out) d

  -- An acknowledgement that is owed to an origin is written: of the last message that was taken from it.
  abbrev pub writes_owed_ack : UniqueAddress → Rule P E
  writes_owed_ack v d =
      where_true (origin_at v d.node).owes
      (origin_becomes v owes_no_ack ▸ on_control v (controls.Ack (P.last_taken v d.node.taken) d.node.me)) d

  -- The ordinary connection of a peer that has none is dialed.
  abbrev pub dials_ordinary : Address → Rule P E
  dials_ordinary address d = where_true (not (is_some (conn_of streams.Ordinary (peer_at address d.node)))) (dials streams.Ordinary address) d

  -- A peer that is bound to its current UID: it is quiet from now on; an acknowledgement that is owed is written; the messages that are kept are written again; and the ordinary connection is dialed where there is none.
  abbrev pub goes_on : UniqueAddress → Rule P E
  goes_on v d =
      (peer_becomes v.address (quiet_now d.node.moment)
      ▸ writes_owed_ack v ▸ rewinds v.address ▸ pumps v.address ▸ dials_ordinary v.address) d

  -- A new UID is learnt: the former one is closed as superseded, and all that waited is sent.
  abbrev pub learns_new : UniqueAddress → Option ℕ → Rule P E
  learns_new v former d =
      (closes_current v.address causes.Superseded former stays
      ▸ peer_becomes v.address (with_learnt d.node.moment v.uid)
      ▸ tells_of (λ me. lines.Learnt me v)
      ▸ tells_waiting v.address v.uid
      ▸ goes_on v) d

  -- A UID that was closed stays closed; beside 1,024 others no further one is learnt; the current one goes on; else it is learnt.
  abbrev pub learns_as : UniqueAddress → Learn → Rule P E
  learns_as v WasClosed = tells_of (λ me. lines.Barred me v)
  learns_as v ClosedFull = tells_of (λ me. lines.Refused me reasons.ClosedUids) ▸ gives_up streams.Control v.address
  learns_as v Same = goes_on v
  learns_as v (Learnt former) = learns_new v former

  -- The UID of an incarnation is learnt, or not.
  abbrev pub learns : UniqueAddress → Rule P E
  learns v d = learns_as v (learning v.uid (peer_at v.address d.node).incarnations) d

  -- An answer that is meant for no connection of this node.
  abbrev pub strays : UniqueAddress → Option ℕ → Rule P E
  strays v its_nonce = tells_of (λ me. lines.Stray me v its_nonce)

  -- The ordinary connection that is bound to the current UID tells what was held. One that is bound to another is given up.
  abbrev pub binds_ordinary : UniqueAddress → Option ℕ → Option ℕ → Rule P E
  binds_ordinary v its_nonce None = strays v its_nonce ▸ gives_up streams.Ordinary v.address
  binds_ordinary v its_nonce (Some dial) = tells_held v.address dial

  -- A connection is bound by an answer of this incarnation. The control connection is used then, and the UID is learnt.
  abbrev pub binds : Stream → UniqueAddress → Option ℕ → Rule P E
  binds streams.Control v its_nonce d = (uses v.address ▸ learns v) d
  binds streams.Ordinary v its_nonce d = binds_ordinary v its_nonce (ordinary_dial v (peer_at v.address d.node)) d

  -- An answer changes a connection, and binds it where it says so.
  abbrev pub answered_as : Stream → UniqueAddress → Option ℕ → Option ℕ → OnRsp → Rule P E
  answered_as stream v for_uid its_nonce (Bind uid) d =
      (peer_becomes v.address (with_link stream (change_conn (conn_answered d.node.me.uid v.uid for_uid its_nonce))) ▸ binds stream v its_nonce) d
  answered_as stream v for_uid its_nonce Repeat d = d
  answered_as stream v for_uid its_nonce Stray d = d

  -- The connection of this kind takes an answer.
  abbrev pub takes_answer : Stream → UniqueAddress → Option ℕ → Option ℕ → Rule P E
  takes_answer stream v for_uid its_nonce d = answered_as stream v for_uid its_nonce (answer_at stream d.node v for_uid its_nonce) d

  -- An answer that is met by a connection is taken by it; else it is stray.
  abbrev pub answered_by : Stream → UniqueAddress → ℕ → ℕ → Bool → Rule P E
  answered_by stream v for_uid its_nonce true = takes_answer stream v (Some for_uid) (Some its_nonce)
  answered_by stream v for_uid its_nonce false = strays v (Some its_nonce)

  -- An answer with both fields is for the connection with that dial number. Where it is not meant for it, or there is none, it is stray.
  abbrev pub answered_to : UniqueAddress → ℕ → ℕ → Rule P E
  answered_to v for_uid its_nonce d =
      answered_by (stream_dialed its_nonce (peer_at v.address d.node)) v for_uid its_nonce
      (dialed_as its_nonce (peer_at v.address d.node)
      && is_met (answer_at (stream_dialed its_nonce (peer_at v.address d.node)) d.node v (Some for_uid) (Some its_nonce))) d

  -- An answer that was met by no connection is stray.
  abbrev pub strays_unless : Bool → UniqueAddress → Rule P E
  strays_unless true v = stays
  strays_unless false v = strays v None

  -- The ordinary connection takes an answer. Where it was met neither by this nor before, it is stray.
  abbrev pub then_ordinary : Bool → UniqueAddress → Option ℕ → Option ℕ → Rule P E
  then_ordinary met v for_uid its_nonce d =
      (takes_answer streams.Ordinary v for_uid its_nonce
      ▸ strays_unless (met || is_met (answer_at streams.Ordinary d.node v for_uid its_nonce)) v) d

  -- An answer without both fields is for the control connection and then, always, for the ordinary one. Where it is meant for neither, it is stray.
  abbrev pub answered_plainly : UniqueAddress → Option ℕ → Option ℕ → Rule P E
  answered_plainly v for_uid its_nonce d =
      (takes_answer streams.Control v for_uid its_nonce
      ▸ then_ordinary (is_met (answer_at streams.Control d.node v for_uid its_nonce)) v for_uid its_nonce) d

  -- A handshake answer came.
  abbrev pub answered : UniqueAddress → Option ℕ → Option ℕ → Rule P E
  answered v (Some for_uid) (Some its_nonce) = answered_to v for_uid its_nonce
  answered v (Some for_uid) None = answered_plainly v (Some for_uid) None
  answered v None its_nonce = answered_plainly v None its_nonce
