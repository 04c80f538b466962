-- The control messages that one node may tell another: their texts and the ranges of their numbers.
use Rattle.std.specs.Prelude.{◌≡◌, ℕ, ◌^◌, ◌<◌, ◌≤◌, FitsSigned, true, List, length, Option, Some, None}
use Rattle.std.specs.List.{AllByRecursion}
use Rattle.std.specs.Int.{w32}
use Rattle.artery_base.specs.declared.message.SysMsg.{SysMsg}
use Rattle.artery_base.specs.Valid.{IsAddress, IsUniqueAddress}
use Rattle.artery_control.specs.declared.control.Control.{Control}
use Rattle.artery_control.specs.declared.control.Control.TheVariants as controls
use Rattle.artery_control.specs.Parts.{is_key}
use Rattle.artery_control.specs.Message.{version_of}

-- a number of 64 bits
abbrev pub IsNumber : ℕ → Type 0
IsNumber n = n < 2 ^ 64

-- a number that may be absent
abbrev pub IsOptional : Option ℕ → Type 0
IsOptional None = Unit {0}
IsOptional (Some n) = IsNumber n

-- a version is at most 255; where the number of its table is there, that is at least 1 and has this version
abbrev pub IsVersion : ℕ → Option ℕ → Type 0
IsVersion version None = version ≤ 255
IsVersion version (Some sequence) = (version ≤ 255) × (1 ≤ sequence) × (version ≡ version_of sequence) × IsNumber sequence

-- a table has as many keys as values; a key is a key, and a value is at most 65,535
pub record IsTable (keys : List (List ℕ)) (values : List ℕ) : Type 0 where
  pub each_key : AllByRecursion (λ text. is_key text ≡ true) keys
  pub each_value : AllByRecursion (λ n. n ≤ 65535) values
  pub equal : length keys ≡ length values

-- the serializer of a system message is a signed number of 32 bits; its manifest and its payload have lengths of 64 bits
pub record IsSystemMessage (m : SysMsg) : Type 0 where
  pub serializer : FitsSigned w32 m.serializer
  pub manifest : IsNumber (length m.manifest)
  pub payload : IsNumber (length m.payload)

-- A control message is valid where its addresses, versions, tables and numbers are.
abbrev pub IsValid : Control → Type 0
IsValid (controls.Quarantined from to) = IsUniqueAddress from × IsUniqueAddress to
IsValid (controls.Terminating from) = IsUniqueAddress from
IsValid (controls.TerminatingAck from) = IsUniqueAddress from
IsValid (controls.HandshakeReq from to nonce) = IsUniqueAddress from × IsAddress to × IsOptional nonce
IsValid (controls.HandshakeRsp from for_uid nonce) = IsUniqueAddress from × IsOptional for_uid × IsOptional nonce
IsValid (controls.RefsTable from origin version keys values sequence) = IsUniqueAddress from × IsNumber origin × IsVersion version sequence × IsTable keys values
IsValid (controls.RefsAck from version sequence) = IsUniqueAddress from × IsVersion version sequence
IsValid (controls.ManifestsTable from origin version keys values sequence) = IsUniqueAddress from × IsNumber origin × IsVersion version sequence × IsTable keys values
IsValid (controls.ManifestsAck from version sequence) = IsUniqueAddress from × IsVersion version sequence
IsValid (controls.Numbered n message reply_to) = IsNumber n × IsSystemMessage message × IsUniqueAddress reply_to
IsValid (controls.Ack n from) = IsNumber n × IsUniqueAddress from
IsValid (controls.Nack n from) = IsNumber n × IsUniqueAddress from
IsValid controls.Heartbeat = Unit {0}
IsValid (controls.HeartbeatRsp uid) = IsNumber uid
