-- What is read of the connection with a dial number before it is changed.
use Rattle.std.specs.Prelude.{ℕ, if◌then◌else◌, Option, None, Some}
use Rattle.artery_machine.specs.declared.input.Conn.TheVariants.{Outward}
use Rattle.artery_machine.specs.Deeds.{Hangs}
use Rattle.artery_machine.specs.Parts.{kept}
use Rattle.artery_machine.specs.Node.{Peer, address_of, conn_of, stream_dialed}
use Rattle.artery_machine.specs.Making.{loses}
use Rattle.artery_machine.specs.Doing.{Rule, in_bytes, stays, does}
use Rattle.artery_machine.specs.Handshaking.{waits_for_dial, begins}
use Rattle.artery_meeting.specs.declared.dialing.DialedPeer.{DialedPeer}

-- The address of a peer, one of whose connections has a dial number, what that connection carries, and whether it is not up yet.
abbrev pub dialed_peer : ℕ → Peer kept → DialedPeer
dialed_peer dial p = record {
  address = address_of p;
  stream = stream_dialed dial p;
  waits = waits_for_dial (conn_of (stream_dialed dial p) p);
}

-- A connection that waits for its dial begins. A dial that nobody waits for is hung up.
abbrev pub dialed_by : ℕ → Option DialedPeer → Rule kept in_bytes
dialed_by dial None = does (Hangs (Outward dial))
dialed_by dial (Some found) = if found.waits then begins found.stream found.address dial else does (Hangs (Outward dial))

-- A connection that failed or ended is gone.
abbrev pub lost_by : Option DialedPeer → Rule kept in_bytes
lost_by None = stays
lost_by (Some found) = loses found.stream found.address
