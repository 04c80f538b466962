-- Which control message, letter and payload belong together.
use Rattle.std.specs.Prelude.{◌≡◌, ◌↔◌, ℕ, ◌==◌, List, [], ◌∷◌, ◌++◌, map, Option, Some, None, Ok, if◌then◌else◌}
use Rattle.std.specs.Option.{unwrap_or}
use Rattle.std.specs.List.{AllByRecursion, filter_map}
use Rattle.std.specs.Int.{w32, cast_signed}
use Rattle.artery_base.specs.declared.address.Address.{Address}
use Rattle.artery_base.specs.declared.address.UniqueAddress.{UniqueAddress}
use Rattle.artery_base.specs.declared.message.SysMsg.{SysMsg}
use Rattle.artery_wire.specs.Record.{ValueOf, Varint, Bytes, FieldOf, StandFor, ArePacked}
use Rattle.artery_control.specs.declared.control.Control.{Control}
use Rattle.artery_control.specs.declared.control.Control.TheVariants as controls
use Rattle.artery_control.specs.Picking.{varint_in, bytes_in}
use Rattle.artery_control.specs.Message.{low32, message_of}
use Rattle.artery_control.specs.Payload.{letter_of}
use Rattle.artery_control.specs.Valid.{IsValid}

-- ---- the fields of a record

-- none of the fields gives anything
abbrev pub NonePicked : {X : Type 0} → (FieldOf → Option X) → List FieldOf → Type 0
NonePicked pick fs = AllByRecursion (λ f. pick f ≡ None) fs

-- a scalar is the last field of its number and type: this is what that field gives
pub record IsLast {X : Type 0} (pick : FieldOf → Option X) (x : X) (fs : List FieldOf) : Type 0 where
  pub before : List FieldOf
  pub field : FieldOf
  pub after : List FieldOf
  pub parts : fs ≡ before ++ field ∷ after
  pub here : pick field ≡ Some x
  pub none_after : NonePicked pick after

-- an optional scalar, which is absent exactly where no field gives it
abbrev pub MayBeLast : {X : Type 0} → (FieldOf → Option X) → Option X → List FieldOf → Type 0
MayBeLast pick None fs = NonePicked pick fs
MayBeLast pick (Some x) fs = IsLast pick x fs

-- a scalar of 32 bits is the low 32 bits of its number
abbrev pub IsLow : ℕ → ℕ → List FieldOf → Type 0
IsLow k v fs = (n : ℕ) × IsLast (varint_in k) n fs × (v ≡ low32 n)

-- the value of a field with this number
abbrev pub value_in : ℕ → FieldOf → Option ValueOf
value_in k f = if f.number == k then Some f.value else None

-- the numbers of 32 bits that one occurrence of a repeated number gives: one, or all of a packed list
abbrev pub GivesValues : Option ValueOf → List ℕ → Type 0
GivesValues (Some (Varint n)) ns = ns ≡ low32 n ∷ []
GivesValues (Some (Bytes packed)) ns = (numbers : List ℕ) × ArePacked numbers packed × (ns ≡ map low32 numbers)
GivesValues _ ns = ns ≡ []

-- a repeated number is the list of all its values, packed or not
abbrev pub AreValues : ℕ → List FieldOf → List ℕ → Type 0
AreValues k [] ns = ns ≡ []
AreValues k (f ∷ fs) ns = (first : List ℕ) × (rest : List ℕ) × (ns ≡ first ++ rest) × GivesValues (value_in k f) first × AreValues k fs rest

-- ---- embedded messages

-- the fields of one occurrence, which is a record by itself
abbrev pub IsOccurrence : Option (List ℕ) → List FieldOf → Type 0
IsOccurrence None part = part ≡ []
IsOccurrence (Some payload) part = StandFor part payload

-- the fields of all occurrences, one after the other
abbrev pub AreMerged : ℕ → List FieldOf → List FieldOf → Type 0
AreMerged k [] inner = inner ≡ []
AreMerged k (f ∷ fs) inner = (part : List FieldOf) × (rest : List FieldOf) × (inner ≡ part ++ rest) × IsOccurrence (bytes_in k f) part × AreMerged k fs rest

-- an embedded message is there, and has the fields of all its occurrences merged
pub record IsEmbedded (k : ℕ) (inner fs : List FieldOf) : Type 0 where
  pub last : List ℕ
  pub there : IsLast (bytes_in k) last fs
  pub merged : AreMerged k fs inner

-- the fields of an address: its protocol 1, its system 2, its host 3 and its port 4
pub record TellsAddress (a : Address) (fs : List FieldOf) : Type 0 where
  pub protocol : IsLast (bytes_in 1) a.protocol fs
  pub system : IsLast (bytes_in 2) a.system fs
  pub host : IsLast (bytes_in 3) a.host fs
  pub port : IsLow 4 a.port fs

-- an address is embedded in the field k
abbrev pub HasAddress : ℕ → Address → List FieldOf → Type 0
HasAddress k a fs = (inner : List FieldOf) × IsEmbedded k inner fs × TellsAddress a inner

-- the fields of a unique address: its address 1 and its UID 2
pub record TellsUnique (u : UniqueAddress) (fs : List FieldOf) : Type 0 where
  pub address : HasAddress 1 u.address fs
  pub uid : IsLast (varint_in 2) u.uid fs

-- a unique address is embedded in the field k
abbrev pub HasUnique : ℕ → UniqueAddress → List FieldOf → Type 0
HasUnique k u fs = (inner : List FieldOf) × IsEmbedded k inner fs × TellsUnique u inner

-- ---- messages

-- the fields of a table: who announces it 1, its origin's UID 2, its version 3, its keys 4, its values 5 and its optional sequence 6
pub record TellsTable (from : UniqueAddress) (origin version : ℕ) (keys : List (List ℕ)) (values : List ℕ) (sequence : Option ℕ) (fs : List FieldOf) : Type 0 where
  pub from_is : HasUnique 1 from fs
  pub origin_is : IsLast (varint_in 2) origin fs
  pub version_is : IsLow 3 version fs
  pub keys_are : keys ≡ filter_map (bytes_in 4) fs
  pub values_are : AreValues 5 fs values
  pub sequence_is : MayBeLast (varint_in 6) sequence fs

-- the fields of the answer to a table: who adopted it 1, its version 2 and its optional sequence 3
pub record TellsTableAck (from : UniqueAddress) (version : ℕ) (sequence : Option ℕ) (fs : List FieldOf) : Type 0 where
  pub from_is : HasUnique 1 from fs
  pub version_is : IsLow 2 version fs
  pub sequence_is : MayBeLast (varint_in 3) sequence fs

-- the fields of a system message: its payload 1, its serializer 2, the low 32 bits as a signed number, and its manifest 3, empty where it is absent
pub record TellsSystemMessage (m : SysMsg) (fs : List FieldOf) : Type 0 where
  pub payload : IsLast (bytes_in 1) m.payload fs
  pub serializer : (n : ℕ) × IsLast (varint_in 2) n fs × (m.serializer ≡ cast_signed w32 (low32 n))
  pub manifest : (present : Option (List ℕ)) × MayBeLast (bytes_in 3) present fs × (m.manifest ≡ unwrap_or present [])

-- the fields of a message
abbrev pub Tells : Control → List FieldOf → Type 0
Tells (controls.Quarantined from to) fs = HasUnique 1 from fs × HasUnique 2 to fs
Tells (controls.Terminating from) fs = HasUnique 1 from fs
Tells (controls.TerminatingAck from) fs = HasUnique 1 from fs
Tells (controls.HandshakeReq from to nonce) fs = HasUnique 1 from fs × HasAddress 2 to fs × MayBeLast (varint_in 15) nonce fs
Tells (controls.HandshakeRsp from for_uid nonce) fs = HasUnique 1 from fs × MayBeLast (varint_in 14) for_uid fs × MayBeLast (varint_in 15) nonce fs
Tells (controls.RefsTable from origin version keys values sequence) fs = TellsTable from origin version keys values sequence fs
Tells (controls.RefsAck from version sequence) fs = TellsTableAck from version sequence fs
Tells (controls.ManifestsTable from origin version keys values sequence) fs = TellsTable from origin version keys values sequence fs
Tells (controls.ManifestsAck from version sequence) fs = TellsTableAck from version sequence fs
Tells (controls.Numbered n message reply_to) fs = TellsSystemMessage message fs × IsLast (varint_in 4) n fs × HasUnique 5 reply_to fs
Tells (controls.Ack n from) fs = IsLast (varint_in 1) n fs × HasUnique 2 from fs
Tells (controls.Nack n from) fs = IsLast (varint_in 1) n fs × HasUnique 2 from fs
Tells controls.Heartbeat fs = Unit {0}
Tells (controls.HeartbeatRsp uid) fs = IsLast (varint_in 1) uid fs

-- A control message, a manifest and a payload belong together where the manifest is the message's letter, the payload is a record whose fields tell the message, and each of its texts and ranges holds.
pub record BelongTogether (control : Control) (manifest bytes : List ℕ) : Type 0 where
  pub letter : manifest ≡ letter_of control ∷ []
  pub fields : List FieldOf
  pub stand : StandFor fields bytes
  pub told : Tells control fields
  pub valid : IsValid control

-- a message is read from a manifest and a payload exactly where it belongs together with them
abbrev pub BelongingIsRead : Type 0
BelongingIsRead = (control : Control) (manifest bytes : List ℕ) → BelongTogether control manifest bytes ↔ (message_of manifest bytes ≡ Ok control)

-- what is read is valid
abbrev pub ReadIsValid : Type 0
ReadIsValid = (control : Control) (manifest bytes : List ℕ) → message_of manifest bytes ≡ Ok control → IsValid control
