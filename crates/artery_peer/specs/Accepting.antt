-- What a peer becomes with a system message to it, by the answer to that message.
use Rattle.std.specs.Prelude.{ℕ}
use Rattle.artery_base.specs.declared.message.SysMsg.{SysMsg}
use Rattle.artery_delivery.specs.declared.outbound.Accept.{Accept}
use Rattle.artery_delivery.specs.declared.outbound.Accept.TheVariants.{Accepted, Waiting, Overflow}
use Rattle.artery_delivery.specs.Outbound.{kept_accepted}
use Rattle.artery_machine.specs.Parts.{kept}
use Rattle.artery_machine.specs.Node.{Peer}
use Rattle.artery_machine.specs.Sending.{with_out, begins_waiting}

-- An accepted message is kept, and waiting begins with the first one; one that waits is kept; one too many changes nothing.
abbrev pub accepted_by : ℕ → SysMsg → Accept → Peer kept → Peer kept
accepted_by now message (Accepted n) p = with_out (kept_accepted message) (begins_waiting now p)
accepted_by now message (Waiting place) p = with_out (kept_accepted message) p
accepted_by now message (Overflow back) p = p
