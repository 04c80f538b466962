-- Lines that say nothing of ordinary messages and tables, and messages that do not.
use Rattle.std.proofs.Common.{◌≡◌, Bool, true, false, refl}
use Rattle.artery_control.specs.declared.control.Control.{Control}
use Rattle.artery_control.specs.declared.control.Control.TheVariants as controls
use Rattle.artery_journal.specs.declared.line.Line.{Line}
use Rattle.artery_journal.specs.declared.line.Line.TheVariants as lines
use Rattle.artery_machine.specs.Deeds.{Controls}
use Rattle.artery_names.proofs.Lists.{not_both}
use Rattle.artery_names.proofs.Talks.{IsSilent}
use Rattle.artery_names.proofs.Outside.{IsPlain}

abbrev pub is_silent : Line → Bool
is_silent (lines.Started a) = false
is_silent (lines.Told a b dial message) = false
is_silent (lines.Got a b n message) = false
is_silent (lines.Adopted a b kind version) = false
is_silent _ = true

pub silent : (l : Line) → is_silent l ≡ true → IsSilent l
silent (lines.Started a) h = not_both h refl
silent (lines.Stopped a) h = record { adopted = refl; told = refl; got = refl; started = refl }
silent (lines.Learnt a b) h = record { adopted = refl; told = refl; got = refl; started = refl }
silent (lines.Closed a b cause) h = record { adopted = refl; told = refl; got = refl; started = refl }
silent (lines.Sent a b n message) h = record { adopted = refl; told = refl; got = refl; started = refl }
silent (lines.Took a b n message) h = record { adopted = refl; told = refl; got = refl; started = refl }
silent (lines.Again a b n) h = record { adopted = refl; told = refl; got = refl; started = refl }
silent (lines.Gap a b n) h = record { adopted = refl; told = refl; got = refl; started = refl }
silent (lines.Told a b dial message) h = not_both h refl
silent (lines.Got a b n message) h = not_both h refl
silent (lines.Dropped a conn rule) h = record { adopted = refl; told = refl; got = refl; started = refl }
silent (lines.Stray a b n) h = record { adopted = refl; told = refl; got = refl; started = refl }
silent (lines.Barred a b) h = record { adopted = refl; told = refl; got = refl; started = refl }
silent (lines.Notice a b) h = record { adopted = refl; told = refl; got = refl; started = refl }
silent (lines.Watched a id watcher watchee) h = record { adopted = refl; told = refl; got = refl; started = refl }
silent (lines.Unwatched a id) h = record { adopted = refl; told = refl; got = refl; started = refl }
silent (lines.Terminated a id) h = record { adopted = refl; told = refl; got = refl; started = refl }
silent (lines.Refused a reason) h = record { adopted = refl; told = refl; got = refl; started = refl }
silent (lines.Spawned a path) h = record { adopted = refl; told = refl; got = refl; started = refl }
silent (lines.Ended a path) h = record { adopted = refl; told = refl; got = refl; started = refl }
silent (lines.Advertised a b kind version count) h = record { adopted = refl; told = refl; got = refl; started = refl }
silent (lines.Adopted a b kind version) h = not_both h refl
silent (lines.Skipped a sender k seen at) h = record { adopted = refl; told = refl; got = refl; started = refl }
silent (lines.Idle a b) h = record { adopted = refl; told = refl; got = refl; started = refl }

abbrev pub is_plain : Control → Bool
is_plain (controls.HandshakeReq from to its_nonce) = false
is_plain (controls.HandshakeRsp from for_uid its_nonce) = false
is_plain (controls.RefsTable from origin_uid version keys values sequence) = false
is_plain (controls.RefsAck from version sequence) = false
is_plain (controls.ManifestsTable from origin_uid version keys values sequence) = false
is_plain (controls.ManifestsAck from version sequence) = false
is_plain _ = true

pub plain : (c : Control) → is_plain c ≡ true → IsPlain (Controls c)
plain (controls.Quarantined from to) h = record { sends = refl; tables = refl; acks = refl; answers = refl; speakers = refl }
plain (controls.Terminating from) h = record { sends = refl; tables = refl; acks = refl; answers = refl; speakers = refl }
plain (controls.TerminatingAck from) h = record { sends = refl; tables = refl; acks = refl; answers = refl; speakers = refl }
plain (controls.HandshakeReq from to its_nonce) h = not_both h refl
plain (controls.HandshakeRsp from for_uid its_nonce) h = not_both h refl
plain (controls.RefsTable from origin_uid version keys values sequence) h = not_both h refl
plain (controls.RefsAck from version sequence) h = not_both h refl
plain (controls.ManifestsTable from origin_uid version keys values sequence) h = not_both h refl
plain (controls.ManifestsAck from version sequence) h = not_both h refl
plain (controls.Numbered n message reply_to) h = record { sends = refl; tables = refl; acks = refl; answers = refl; speakers = refl }
plain (controls.Ack n from) h = record { sends = refl; tables = refl; acks = refl; answers = refl; speakers = refl }
plain (controls.Nack n from) h = record { sends = refl; tables = refl; acks = refl; answers = refl; speakers = refl }
plain controls.Heartbeat h = record { sends = refl; tables = refl; acks = refl; answers = refl; speakers = refl }
plain (controls.HeartbeatRsp uid) h = record { sends = refl; tables = refl; acks = refl; answers = refl; speakers = refl }
