-- Parts that lie over others: maps of what has a whole history, under which each operation is the same; and a node seen through them.
use Rattle.std.specs.Prelude.{◌≡◌, ℕ, Bool, List, map}
use Rattle.artery_base.specs.declared.address.UniqueAddress.{UniqueAddress}
use Rattle.artery_base.specs.declared.message.SysMsg.{SysMsg}
use Rattle.artery_machine.specs.Parts.{Parts}
use Rattle.artery_machine.specs.Node.{Peer, Inbound, Origin, Node}
use Rattle.artery_machine.specs.Doing.{listed, Doing}

-- Parts over which others lie: a map of each kind of value, and for each operation that it is the same before and after the maps.
pub record Over (P Q : Parts) : Type 0 where
  pub out : P.Out → Q.Out
  pub ins : P.In → Q.In
  pub announced : P.Announced → Q.Announced
  pub adopted : P.Adopted → Q.Adopted
  pub bytes : P.Bytes → Q.Bytes
  pub beats : P.Beats → Q.Beats
  pub nothing_sent : Q.nothing_sent ≡ out P.nothing_sent
  pub acceptance : (m : SysMsg) (o : P.Out) → Q.acceptance m (out o) ≡ P.acceptance m o
  pub accepted : (m : SysMsg) (o : P.Out) → Q.accepted m (out o) ≡ out (P.accepted m o)
  pub learnt : (o : P.Out) → Q.learnt (out o) ≡ out (P.learnt o)
  pub forgotten : Q.forgotten ≡ out P.forgotten
  pub acknowledgement : (n : ℕ) (o : P.Out) → Q.acknowledgement n (out o) ≡ P.acknowledgement n o
  pub acknowledged : (n : ℕ) (o : P.Out) → Q.acknowledged n (out o) ≡ out (P.acknowledged n o)
  pub refused : (n : ℕ) (o : P.Out) → Q.refused n (out o) ≡ out (P.refused n o)
  pub rewound : (o : P.Out) → Q.rewound (out o) ≡ out (P.rewound o)
  pub next : (o : P.Out) → Q.next (out o) ≡ P.next o
  pub pumped : (o : P.Out) → Q.pumped (out o) ≡ out (P.pumped o)
  pub unacknowledged : (o : P.Out) → Q.unacknowledged (out o) ≡ P.unacknowledged o
  pub nothing_taken : Q.nothing_taken ≡ ins P.nothing_taken
  pub opened : (v : UniqueAddress) (i : P.In) → Q.opened v (ins i) ≡ ins (P.opened v i)
  pub taking : (v : UniqueAddress) (n : ℕ) (i : P.In) → Q.taking v n (ins i) ≡ P.taking v n i
  pub taken : (v : UniqueAddress) (n : ℕ) (m : SysMsg) (i : P.In) → Q.taken v n m (ins i) ≡ ins (P.taken v n m i)
  pub last_taken : (v : UniqueAddress) (i : P.In) → Q.last_taken v (ins i) ≡ P.last_taken v i
  pub nothing_announced : Q.nothing_announced ≡ announced P.nothing_announced
  pub counted : (name : List ℕ) (t : P.Announced) → Q.counted name (announced t) ≡ announced (P.counted name t)
  pub advertising : (b : Bool) (t : P.Announced) → Q.advertising b (announced t) ≡ P.advertising b t
  pub advertised : (b : Bool) (t : P.Announced) → Q.advertised b (announced t) ≡ announced (P.advertised b t)
  pub unconfirmed : (t : P.Announced) → Q.unconfirmed (announced t) ≡ P.unconfirmed t
  pub confirming : (n : ℕ) (t : P.Announced) → Q.confirming n (announced t) ≡ P.confirming n t
  pub confirmed : (n : ℕ) (t : P.Announced) → Q.confirmed n (announced t) ≡ announced (P.confirmed n t)
  pub current_number : (t : P.Announced) → Q.current_number (announced t) ≡ P.current_number t
  pub number_of : (t : P.Announced) (v : ℕ) → Q.number_of (announced t) v ≡ P.number_of t v
  pub entries : (t : P.Announced) (v i : ℕ) → Q.entries (announced t) v i ≡ P.entries t v i
  pub nothing_adopted : Q.nothing_adopted ≡ adopted P.nothing_adopted
  pub adopting : (n : ℕ) (t : P.Adopted) → Q.adopting n (adopted t) ≡ P.adopting n t
  pub adopts : (n : ℕ) (keys : List (List ℕ)) (values : List ℕ) (t : P.Adopted) → Q.adopted n keys values (adopted t) ≡ adopted (P.adopted n keys values t)
  pub indices_version : (t : P.Adopted) → (Q.indices (adopted t)).version ≡ (P.indices t).version
  pub indices_index : (t : P.Adopted) (name : List ℕ) → (Q.indices (adopted t)).index_of name ≡ (P.indices t).index_of name
  pub nothing_came : Q.nothing_came ≡ bytes P.nothing_came
  pub frames : (piece : List ℕ) (b : P.Bytes) → Q.frames piece (bytes b) ≡ P.frames piece b
  pub came : (piece : List ℕ) (b : P.Bytes) → Q.came piece (bytes b) ≡ bytes (P.came piece b)
  pub carries : (b : P.Bytes) → Q.carries (bytes b) ≡ P.carries b
  pub fault : (b : P.Bytes) → Q.fault (bytes b) ≡ P.fault b
  pub no_beats : Q.no_beats ≡ beats P.no_beats
  pub asked : (now : ℕ) (b : P.Beats) → Q.asked now (beats b) ≡ beats (P.asked now b)
  pub heard : (now : ℕ) (b : P.Beats) → Q.heard now (beats b) ≡ beats (P.heard now b)
  pub available : (now : ℕ) (b : P.Beats) → Q.available now (beats b) ≡ P.available now b

module _ {P Q : Parts} (h : Over P Q) where
  -- A peer, seen through the maps.
  abbrev pub peer_over : Peer P → Peer Q
  peer_over p = record {
    incarnations = p.incarnations;
    out = h.out p.out;
    held = p.held;
    tables = record { refs = h.adopted p.tables.refs; manifests = h.adopted p.tables.manifests };
    control = p.control;
    ordinary = p.ordinary;
    quiet = p.quiet;
    patience = p.patience;
    used = p.used;
    asleep = p.asleep;
    beats = h.beats p.beats;
    last_beat = p.last_beat;
  }

  -- An inbound connection, seen through the maps.
  abbrev pub inbound_over : Inbound P → Inbound Q
  inbound_over i = record { number = i.number; bytes = h.bytes i.bytes; state = i.state; owed = i.owed; shown = i.shown }

  -- An origin, seen through the maps.
  abbrev pub origin_over : Origin P → Origin Q
  origin_over o = record {
    who = o.who;
    tables = record { refs = h.announced o.tables.refs; manifests = h.announced o.tables.manifests };
    advertised = o.advertised;
    owes = o.owes;
  }

  -- A node, seen through the maps.
  abbrev pub node_over : Node P → Node Q
  node_over n = record {
    me = n.me;
    moment = n.moment;
    dials = n.dials;
    peers = map peer_over n.peers;
    inbound = map inbound_over n.inbound;
    origins = map origin_over n.origins;
    taken = h.ins n.taken;
    watching = n.watching;
  }

-- What a node did at an input, its deeds as they are, and the node seen through the maps.
abbrev pub seen_through : {P Q : Parts} (h : Over P Q) → Doing P listed → Doing Q listed
seen_through h d = record { node = node_over h d.node; deeds = d.deeds }
