-- A connection with a dial number, read before it is changed.
use Rattle.std.proofs.Common.{◌≡◌, ℕ, refl, ap, ◌∙◌}
use Rattle.std.specs.Prelude.{Option, None, Some}
use Rattle.std.specs.Option.{option_map}
use Rattle.artery_machine.specs.Parts.{kept}
use Rattle.artery_machine.specs.Node.{Peer, peer_dialed}
use Rattle.artery_machine.specs.Doing.{Doing, in_bytes}
use Rattle.artery_machine.specs.Handshaking.{dialed_of, dialed, lost_of, lost}
use Rattle.artery_meeting.specs.declared.dialing.DialedPeer.{DialedPeer}
use Rattle.artery_meeting.specs.Dials.{dialed_peer, dialed_by, lost_by}

dialed_so : (dial : ℕ) (o : Option (Peer kept)) (d : Doing kept in_bytes) → dialed_by dial (option_map (dialed_peer dial) o) d ≡ dialed_of dial o d
dialed_so dial None d = refl
dialed_so dial (Some p) d = refl

lost_so : (dial : ℕ) (o : Option (Peer kept)) (d : Doing kept in_bytes) → lost_by (option_map (dialed_peer dial) o) d ≡ lost_of dial o d
lost_so dial None d = refl
lost_so dial (Some p) d = refl

-- What follows what was read is what follows a dial that is up.
pub is_dialed : (dial : ℕ) (found : Option DialedPeer) (d e : Doing kept in_bytes) → found ≡ option_map (dialed_peer dial) (peer_dialed dial d.node)
    → e ≡ dialed_by dial found d → e ≡ dialed dial d
is_dialed dial found d e read done = done ∙ ap (λ f. dialed_by dial f d) read ∙ dialed_so dial (peer_dialed dial d.node) d

-- The same of one that failed or ended.
pub is_lost : (dial : ℕ) (found : Option DialedPeer) (d e : Doing kept in_bytes) → found ≡ option_map (dialed_peer dial) (peer_dialed dial d.node)
    → e ≡ lost_by found d → e ≡ lost dial d
is_lost dial found d e read done = done ∙ ap (λ f. lost_by f d) read ∙ lost_so dial (peer_dialed dial d.node) d
