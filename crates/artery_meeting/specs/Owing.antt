-- What is owed on inbound connections, read before any of it is written.
use Rattle.std.specs.Prelude.{ℕ, Bool, false}
use Rattle.artery_base.specs.declared.address.Address.{Address}
use Rattle.artery_handshake.specs.declared.in_conn.InState.{InState}
use Rattle.artery_handshake.specs.declared.in_conn.InState.TheVariants.{Raw, Known}
use Rattle.artery_machine.specs.Parts.{kept}
use Rattle.artery_machine.specs.Node.{Inbound, same_address}
use Rattle.artery_machine.specs.Doing.{Rule, in_bytes, ◌▸◌, where_true, inbound_becomes}
use Rattle.artery_machine.specs.Handshaking.{owes_no_answer, writes_answer}
use Rattle.artery_meeting.specs.declared.dialing.Owed.{Owed}

-- Whether the one that is known to speak on an inbound connection is at an address.
abbrev pub speaks_at : Address → InState → Bool
speaks_at address Raw = false
speaks_at address (Known who its_nonce) = same_address who.address address

-- What is owed on an inbound connection to one at an address.
abbrev pub owed_on : Address → Inbound kept → Owed
owed_on address i = record { number = i.number; answer = i.owed; here = speaks_at address i.state }

-- An answer that is owed is written, where the one that asked is at the address, and not owed any more.
abbrev pub answers_one : ℕ → Owed → Rule kept in_bytes
answers_one dial owed = where_true owed.here (inbound_becomes owed.number owes_no_answer ▸ writes_answer dial owed.answer)
