-- The bytes of an embedded message, in place or merged.
use Rattle.std.specs.Prelude.{ℕ, List}
use Rattle.artery_control.specs.declared.record.Record.{Record}
use Rattle.artery_control.specs.declared.record.Record.TheVariants as records

-- the bytes, without where they lie
abbrev pub bytes_of : Record → List ℕ
bytes_of (records.InPlace payload) = payload.now
bytes_of (records.Merged bytes) = bytes
