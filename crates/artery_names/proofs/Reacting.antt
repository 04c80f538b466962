-- What comes to a node: the facts stay true, and it is known how much was given on each inbound connection.
use Rattle.std.proofs.Common.{◌≡◌, ℕ, zero, suc, ◌+◌, Bool, true, false, cond, List, [], ◌++◌, length, refl, sym, ◌∙◌, ap, arith, length-append}
use Rattle.std.specs.Prelude.{Option, None, Some, ◌==◌, nat_lt, is_some}
use Rattle.std.proofs.lemmas.Bool.Decides.{nat_tests}
use Rattle.artery_base.specs.declared.address.Address.{Address}
use Rattle.artery_base.specs.declared.address.UniqueAddress.{UniqueAddress}
use Rattle.artery_base.specs.declared.message.Request.{Request}
use Rattle.artery_base.specs.declared.message.Request.TheVariants as requests
use Rattle.artery_frame.specs.Stream.{reading_of, new_frames}
use Rattle.artery_frame.proofs.Pieces.{frames_with, first_frames}
use Rattle.artery_journal.specs.declared.line.Line.TheVariants as lines
use Rattle.artery_journal.specs.declared.words.Cause.TheVariants as causes
use Rattle.artery_journal.specs.declared.words.Reason.TheVariants as reasons
use Rattle.artery_machine.specs.declared.input.Conn.TheVariants.{Outward, Inward}
use Rattle.artery_machine.specs.declared.input.Input.{Input}
use Rattle.artery_machine.specs.declared.input.Input.TheVariants as inputs
use Rattle.artery_machine.specs.Deeds.{Hangs}
use Rattle.artery_machine.specs.Parts.{whole, came_whole}
use Rattle.artery_machine.specs.Node.{Node, Inbound, inbound_at}
use Rattle.artery_machine.specs.Doing.{◌▸◌, stays, becomes, does, tells_of, inbound_becomes, each}
use Rattle.artery_machine.specs.Sending.{sends, tells_message}
use Rattle.artery_machine.specs.Hearing.{hears}
use Rattle.artery_machine.specs.Reacting.{most_inbound, with_inbound, with_bytes, accepts, ends_broken, comes_on, comes, quarantined, asked_for, reacts}
use Rattle.artery_flight.proofs.Rules.{bytes_in, bytes_at}
use Rattle.artery_flight.proofs.Inward.{BytesFrom}
use Rattle.artery_names.proofs.Lists.{eq_self, some_same, not_some}
use Rattle.artery_names.proofs.Facts.{Network, Conn, journal, Good}
use Rattle.artery_names.proofs.Rules.{Work}
use Rattle.artery_names.proofs.Later.{Later, later_self, later_trans}
use Rattle.artery_names.proofs.Keeping.{nowhere, Kept, plain_keeps, Keeps, ◌▻◌, stays_keep}
use Rattle.artery_names.proofs.Making.{at_request_keeps}
use Rattle.artery_names.proofs.Closing.{closes_current_kept}
use Rattle.artery_names.proofs.Sending.{refused_plain, sends_keeps, watches_keep, unwatches_keep, spawns_keep, kills_keep}
use Rattle.artery_names.proofs.Talking.{tells_message_keeps}
use Rattle.artery_names.proofs.Asking.{dialed_keeps, lost_keeps}
use Rattle.artery_names.proofs.Frames.{then_given}
use Rattle.artery_names.proofs.Shown.{then_here}
use Rattle.artery_names.proofs.Hearing.{Before, Behind, AtFirst}
use Rattle.artery_names.proofs.Giving.{AllFrames, last, last_is, then_away, Given, all_heard, without_keeps, hangs_keeps, broken_keeps, bytes_keep, Put, New, Old, put_found, MadeJustNow, with_good}
use Rattle.artery_names.proofs.Ticking.{Carrying, ticks_kept}

-- ---- how much was given

-- Where so many frames were read of the bytes that came, they and the preamble before them were given.
abbrev pub had_by : ℕ → ℕ
had_by zero = 0
had_by (suc n) = suc (suc n)

abbrev pub frames_in : List ℕ → ℕ
frames_in bytes = length (reading_of bytes).frames

abbrev pub Counts : (ℕ → ℕ) → Node whole → Type 0
Counts given n = (k : ℕ) (bytes : List ℕ) → bytes_at k n ≡ Some bytes → given k ≡ had_by (frames_in bytes)

before_next : (g n : ℕ) → g ≡ had_by n → Before g (n + 1)
before_next g zero e = AtFirst e (omega arith)
before_next g (suc n) e = Behind (let k : g ≡ suc (suc n) = e in omega arith)

had_next : (n l : ℕ) → cond (l == 0) (had_by n) (n + 1 + l) ≡ had_by (n + l)
had_next n zero = ap (λ (b : Bool). cond b (had_by n) (n + 1 + 0)) (eq_self 0) ∙ ap had_by (let e : n ≡ n + 0 = omega arith in e)
had_next n (suc l) = ap (λ (b : Bool). cond b (had_by n) (n + 1 + suc l)) no ∙ (let e : n + 1 + suc l ≡ suc (suc (n + l)) = omega arith in e) ∙ ap had_by (let e : suc (n + l) ≡ n + suc l = omega arith in e)
  where
    no : (suc l == 0) ≡ false
    no = grind (arith, nat_tests)

no_frame : frames_in [] ≡ 0
no_frame =
    let nothing : List ℕ = [] in
    let twice : frames_in [] ≡ frames_in [] + length (new_frames nothing nothing) = ap length (frames_with nothing nothing) ∙ length-append (reading_of nothing).frames (new_frames nothing nothing) in
    let once : length (new_frames nothing nothing) ≡ frames_in [] = ap length (first_frames nothing) in omega arith

frames_more : (old piece : List ℕ) → (reading_of old).end ≡ None → frames_in (came_whole piece old) ≡ frames_in old + length (new_frames old piece)
frames_more old piece e = ap (λ x. frames_in (cond (is_some x) old (old ++ piece))) e ∙ ap length (frames_with old piece) ∙ length-append (reading_of old).frames (new_frames old piece)

-- ---- what must be true outside

-- Bytes that come: those before them were read without a fault, and the frames that are whole now were written there.
pub record Arrives (u k : ℕ) (piece bytes : List ℕ) (cs : List Conn) : Type 0 where
  pub sound : (reading_of bytes).end ≡ None
  pub frames : AllFrames u k (frames_in bytes + 1) (whole.carries (came_whole piece bytes)) (new_frames bytes piece) cs

abbrev pub Ready : UniqueAddress → ℕ → (ℕ → ℕ) → Input → Node whole → Node whole → Network → Type 0
Ready nobody u given (inputs.Request request) n after w = Unit {0}
Ready nobody u given (inputs.Accepted k) n after w = MadeJustNow nobody u k w.connections (journal w)
Ready nobody u given (inputs.Dialed dial) n after w = Unit {0}
Ready nobody u given (inputs.DialFailed dial) n after w = Unit {0}
Ready nobody u given (inputs.Bytes k piece) n after w = (bytes : List ℕ) → bytes_at k n ≡ Some bytes → Arrives u k piece bytes w.connections
Ready nobody u given (inputs.Ended side) n after w = Unit {0}
Ready nobody u given (inputs.Tick now) n after w = Carrying u given after.inbound w.connections

-- what came of it
pub record Reacts (nobody : UniqueAddress) (u : ℕ) (w : Network) (n : Node whole) (v : Network) : Type 0 where
  pub given : ℕ → ℕ
  pub kept : Kept nobody u given nowhere w n v
  pub counts : Counts given n

-- ---- requests

module _ {nobody : UniqueAddress} {u m : ℕ} {given : ℕ → ℕ} where
  quarantined_keeps : (a : Address) → Keeps nobody u m given (quarantined a)
  quarantined_keeps a = record { on = λ d g. closes_current_kept a causes.Quarantined (tells_of (λ me. lines.Refused me reasons.NotCurrent)) (plain_keeps _ (refused_plain reasons.NotCurrent)) d g }

  pub asked_keeps : (request : Request) → Keeps nobody u m given (asked_for request)
  asked_keeps (requests.Pair a) = at_request_keeps a stays stays_keep
  asked_keeps (requests.Send a x) = at_request_keeps a (sends a x) (sends_keeps a x)
  asked_keeps (requests.Tell a x) = at_request_keeps a (tells_message a x) (tells_message_keeps a x)
  asked_keeps (requests.Watch path watchee) = watches_keep path watchee
  asked_keeps (requests.Unwatch path watchee) = unwatches_keep path watchee
  asked_keeps (requests.Spawn path) = spawns_keep path
  asked_keeps (requests.Kill path) = kills_keep path
  asked_keeps (requests.Quarantine a) = quarantined_keeps a

-- ---- bytes

module _ {nobody : UniqueAddress} {u m : ℕ} {given : ℕ → ℕ} where
  -- where as much was given as before
  as_before : (d e : Work u m) → Kept nobody u given nowhere d.deeds e.node e.deeds → Counts given d.node → ((j : ℕ) (bytes : List ℕ) → bytes_at j e.node ≡ Some bytes → bytes_at j d.node ≡ Some bytes) → Reacts nobody u d.deeds e.node e.deeds
  as_before d e k c f = record { given = given; kept = k; counts = λ j bytes b. c j bytes (f j bytes b) }

  accepts_kept : (k : ℕ) (d : Work u m) → Counts given d.node → (d.deeds.ended ≡ None → MadeJustNow nobody u k d.deeds.connections (journal d.deeds)) → Good nobody u given nowhere d.node d.deeds → Reacts nobody u d.deeds (accepts k d).node (accepts k d).deeds
  accepts_kept k d c f g = by (nat_lt (length d.node.inbound) most_inbound)
    where
      counted : (j : ℕ) (bytes : List ℕ) (x : Option (Inbound whole)) → inbound_at j (with_inbound k d.node) ≡ x → bytes_in x ≡ Some bytes → then_given given k 0 j ≡ had_by (frames_in bytes)
      counted j bytes None e b = not_some b
      counted j bytes (Some i) e b = at_it (put_found j k d.node.inbound i e)
        where
          at_it : Put j k d.node.inbound i → then_given given k 0 j ≡ had_by (frames_in bytes)
          at_it (New p q) = ap (then_given given k 0) p ∙ then_here given k 0 ∙ sym (ap had_by no_frame) ∙ ap (λ bs. had_by (frames_in bs)) (sym (ap (λ (x : Inbound whole). x.bytes) q) ∙ some_same b)
          at_it (Old p at) = then_away given k 0 j p ∙ c j bytes (ap bytes_in at ∙ b)

      by : (b : Bool) → Reacts nobody u d.deeds (cond b (becomes (with_inbound k)) (tells_of (λ me. lines.Refused me reasons.Connections) ▸ does (Hangs (Inward k))) d).node (cond b (becomes (with_inbound k)) (tells_of (λ me. lines.Refused me reasons.Connections) ▸ does (Hangs (Inward k))) d).deeds
      by true = record {
        given = then_given given k 0;
        kept = record { good = with_good nobody u given k d.node d.deeds f g; later = later_self nobody u d.deeds };
        counts = λ j bytes b. counted j bytes (inbound_at j (with_inbound k d.node)) refl b;
      }
      by false = record { given = given; kept = (plain_keeps _ (refused_plain reasons.Connections) ▻ hangs_keeps k).on d g; counts = c }

  comes_kept : (k : ℕ) (piece : List ℕ) (d : Work u m) → Counts given d.node → ((bytes : List ℕ) → bytes_at k d.node ≡ Some bytes → Arrives u k piece bytes d.deeds.connections) → ((j : ℕ) (bytes : List ℕ) → bytes_at j (comes k piece d).node ≡ Some bytes → BytesFrom (inputs.Bytes k piece) j bytes d.node)
      → Good nobody u given nowhere d.node d.deeds → Reacts nobody u d.deeds (comes k piece d).node (comes k piece d).deeds
  comes_kept k piece d c arrives from g = by (inbound_at k d.node) refl from
    where
      by : (x : Option (Inbound whole)) → inbound_at k d.node ≡ x → ((j : ℕ) (bytes : List ℕ) → bytes_at j (comes_on k piece x d).node ≡ Some bytes → BytesFrom (inputs.Bytes k piece) j bytes d.node) → Reacts nobody u d.deeds (comes_on k piece x d).node (comes_on k piece x d).deeds
      by None e f = record { given = given; kept = (hangs_keeps k).on d g; counts = c }
      by (Some i) e f = record { given = heard.after; kept = record { good = k4.good; later = later }; counts = λ j bytes b. counted j bytes (f j bytes b) }
        where
          a : Arrives u k piece i.bytes d.deeds.connections
          a = arrives i.bytes (ap bytes_in e)

          before : given k ≡ had_by (frames_in i.bytes)
          before = c k i.bytes (ap bytes_in e)

          d1 : Work u m
          d1 = inbound_becomes k (with_bytes []) d

          k1 : Kept nobody u given nowhere d.deeds d1.node d1.deeds
          k1 = (bytes_keep k []).on d g

          d2 : Work u m
          d2 = each (new_frames i.bytes piece) (hears k (whole.carries (came_whole piece i.bytes))) d1

          heard : Given nobody u k (last (given k) (frames_in i.bytes + 1) (new_frames i.bytes piece)) given d1.deeds d2.node d2.deeds
          heard = all_heard k (frames_in i.bytes + 1) (whole.carries (came_whole piece i.bytes)) (new_frames i.bytes piece) given d1 (before_next (given k) (frames_in i.bytes) before) (λ live. a.frames) k1.good

          d3 : Work u m
          d3 = inbound_becomes k (with_bytes (came_whole piece i.bytes)) d2

          k3 : Kept nobody u heard.after nowhere d2.deeds d3.node d3.deeds
          k3 = (bytes_keep k (came_whole piece i.bytes)).on d2 heard.kept.good

          d4 : Work u m
          d4 = ends_broken k (whole.fault (came_whole piece i.bytes)) d3

          k4 : Kept nobody u heard.after nowhere d3.deeds d4.node d4.deeds
          k4 = (broken_keeps k (whole.fault (came_whole piece i.bytes))).on d3 k3.good

          later : Later nobody u d.deeds d4.deeds
          later = later_trans nobody u d.deeds d2.deeds d4.deeds heard.kept.later (later_trans nobody u d2.deeds d3.deeds d4.deeds k3.later k4.later)

          now : heard.after k ≡ had_by (frames_in (came_whole piece i.bytes))
          now = heard.here ∙ last_is (given k) (frames_in i.bytes + 1) (new_frames i.bytes piece)
              ∙ ap (λ (x : ℕ). cond (length (new_frames i.bytes piece) == 0) x (frames_in i.bytes + 1 + length (new_frames i.bytes piece))) before
              ∙ had_next (frames_in i.bytes) (length (new_frames i.bytes piece)) ∙ ap had_by (sym (frames_more i.bytes piece a.sound))

          counted : (j : ℕ) (bytes : List ℕ) → BytesFrom (inputs.Bytes k piece) j bytes d.node → heard.after j ≡ had_by (frames_in bytes)
          counted j bytes (true, b) =
              let old : b.1 ≡ i.bytes = some_same (sym b.2 ∙ ap bytes_in e) in
              ap heard.after b.0 ∙ now ∙ ap (λ bs. had_by (frames_in bs)) (sym (b.3 ∙ ap (came_whole piece) old))
          counted j bytes (false, b) = heard.away j b.0 ∙ c j bytes b.1

  -- ---- the step

  pub reacts_kept : (input : Input) (d : Work u m) → Counts given d.node → Ready nobody u given input d.node (reacts input d).node d.deeds → ((j : ℕ) (bytes : List ℕ) → bytes_at j (reacts input d).node ≡ Some bytes → BytesFrom input j bytes d.node)
      → Good nobody u given nowhere d.node d.deeds → Reacts nobody u d.deeds (reacts input d).node (reacts input d).deeds
  reacts_kept (inputs.Request request) d c r f g = as_before d (asked_for request d) ((asked_keeps request).on d g) c f
  reacts_kept (inputs.Accepted k) d c r f g = accepts_kept k d c (λ live. r) g
  reacts_kept (inputs.Dialed dial) d c r f g = as_before d (reacts (inputs.Dialed dial) d) ((dialed_keeps dial).on d g) c f
  reacts_kept (inputs.DialFailed dial) d c r f g = as_before d (reacts (inputs.DialFailed dial) d) ((lost_keeps dial).on d g) c f
  reacts_kept (inputs.Bytes k piece) d c r f g = comes_kept k piece d c r f g
  reacts_kept (inputs.Ended (Outward dial)) d c r f g = as_before d (reacts (inputs.Ended (Outward dial)) d) ((lost_keeps dial).on d g) c f
  reacts_kept (inputs.Ended (Inward k)) d c r f g = as_before d (reacts (inputs.Ended (Inward k)) d) ((without_keeps k).on d g) c f
  reacts_kept (inputs.Tick now) d c r f g = as_before d (reacts (inputs.Tick now) d) (ticks_kept now d (λ live. r) g) c f
