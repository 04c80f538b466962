-- The texts of control messages and of the faults of payloads that are none.
use Rattle.std.specs.Prelude.{ℕ, List, [], ◌∷◌, ◌++◌, length, codes, decimal, Option, Some, None, Result, Ok, Err}
use Rattle.artery_base.specs.declared.address.UniqueAddress.{UniqueAddress}
use Rattle.artery_text.specs.Spelling.{address_text, unique_text, word_text, message_text}
use Rattle.artery_wire.specs.declared.fault.WireFault.{WireFault}
use Rattle.artery_wire.specs.declared.fault.WireFault.TheVariants.{Varint, WireType, Truncated, FieldNumber}
use Rattle.artery_control.specs.declared.control.Control.{Control}
use Rattle.artery_control.specs.declared.control.Control.TheVariants as controls
use Rattle.artery_control.specs.declared.fault.ControlFault.{ControlFault}
use Rattle.artery_control.specs.declared.fault.ControlFault.TheVariants as faults
use Rattle.artery_control.specs.declared.path.Path.{Path}
use Rattle.artery_control.specs.declared.path.Path.TheVariants as paths

-- where a fault stands: the numbers of the fields that lead there, joined by dots; `-` for the message itself
abbrev pub path_text : Path → List ℕ
path_text paths.Message = codes "-"
path_text (paths.Field a) = decimal a
path_text (paths.Inner a b) = decimal a ++ codes "." ++ decimal b
path_text (paths.Innermost a b c) = decimal a ++ codes "." ++ decimal b ++ codes "." ++ decimal c

-- a fault of a record: its word and its place
abbrev pub wire_fault_text : WireFault → List ℕ
wire_fault_text (Varint at) = codes "varint " ++ decimal at
wire_fault_text (WireType at) = codes "wire-type " ++ decimal at
wire_fault_text (Truncated at) = codes "truncated " ++ decimal at
wire_fault_text (FieldNumber at) = codes "field-number " ++ decimal at

-- a fault of a payload: its word, and where it is; of a table with too few values or keys, how many there are of each
abbrev pub fault_text : ControlFault → List ℕ
fault_text faults.UnknownManifest = codes "unknown-manifest"
fault_text (faults.Wire path fault) = wire_fault_text fault ++ codes " " ++ path_text path
fault_text (faults.Missing path) = codes "missing " ++ path_text path
fault_text (faults.BadText path) = codes "bad-text " ++ path_text path
fault_text (faults.Range path) = codes "range " ++ path_text path
fault_text (faults.Unequal keys values) = codes "unequal " ++ decimal keys ++ codes " " ++ decimal values
fault_text faults.NoMemory = codes "memory"

-- a number that may be absent: `-` then
abbrev pub optional_text : Option ℕ → List ℕ
optional_text None = codes "-"
optional_text (Some n) = decimal n

-- the version of a table, and behind a `/` the table's number where it is told
abbrev pub version_text : ℕ → Option ℕ → List ℕ
version_text version None = decimal version
version_text version (Some sequence) = decimal version ++ codes "/" ++ decimal sequence

-- an entry of a table, ` KEY=VALUE`, the key being a word
abbrev pub entry_text : List ℕ → ℕ → List ℕ
entry_text key value = codes " " ++ word_text key ++ codes "=" ++ decimal value

-- the entries of a table in order
abbrev pub entries_text : List (List ℕ) → List ℕ → List ℕ
entries_text [] values = []
entries_text (key ∷ keys) [] = []
entries_text (key ∷ keys) (value ∷ values) = entry_text key value ++ entries_text keys values

-- who sent a table, and for whom
abbrev pub origin_text : UniqueAddress → ℕ → List ℕ
origin_text from origin_uid = unique_text from ++ codes " " ++ decimal origin_uid ++ codes " "

-- how many entries a table has, and each
abbrev pub counted_text : List (List ℕ) → List ℕ → List ℕ
counted_text keys values = codes " " ++ decimal (length keys) ++ entries_text keys values

-- a table: `FROM ORIGINUID VERSION COUNT` and its entries
abbrev pub table_text : UniqueAddress → ℕ → List ℕ → List (List ℕ) → List ℕ → List ℕ
table_text from origin_uid version keys values = origin_text from origin_uid ++ version ++ counted_text keys values

-- a control message: its word and its fields
abbrev pub control_text : Control → List ℕ
control_text (controls.Quarantined from to) = codes "quarantined " ++ unique_text from ++ codes " " ++ unique_text to
control_text (controls.Terminating from) = codes "terminating " ++ unique_text from
control_text (controls.TerminatingAck from) = codes "terminating-ack " ++ unique_text from
control_text (controls.HandshakeReq from to nonce) = codes "handshake-req " ++ unique_text from ++ codes " " ++ address_text to ++ codes " " ++ optional_text nonce
control_text (controls.HandshakeRsp from for_uid nonce) = codes "handshake-rsp " ++ unique_text from ++ codes " " ++ optional_text for_uid ++ codes " " ++ optional_text nonce
control_text (controls.RefsTable from origin_uid version keys values sequence) = codes "refs-table " ++ table_text from origin_uid (version_text version sequence) keys values
control_text (controls.RefsAck from version sequence) = codes "refs-ack " ++ unique_text from ++ codes " " ++ version_text version sequence
control_text (controls.ManifestsTable from origin_uid version keys values sequence) = codes "manifests-table " ++ table_text from origin_uid (version_text version sequence) keys values
control_text (controls.ManifestsAck from version sequence) = codes "manifests-ack " ++ unique_text from ++ codes " " ++ version_text version sequence
control_text (controls.Numbered n message reply_to) = codes "numbered " ++ decimal n ++ codes " " ++ message_text message ++ codes " " ++ unique_text reply_to
control_text (controls.Ack n from) = codes "ack " ++ decimal n ++ codes " " ++ unique_text from
control_text (controls.Nack n from) = codes "nack " ++ decimal n ++ codes " " ++ unique_text from
control_text controls.Heartbeat = codes "heartbeat"
control_text (controls.HeartbeatRsp uid) = codes "heartbeat-rsp " ++ decimal uid

-- the line of a payload in a capture: the control message that it is, or its first fault
abbrev pub control_line : Result Control ControlFault → List ℕ
control_line (Ok control) = codes "control " ++ control_text control ++ codes "\n"
control_line (Err fault) = codes "control fault " ++ fault_text fault ++ codes "\n"
