-- A cursor over the bytes of a record, as contracts see it, and what one call does.
use Rattle.std.specs.Prelude.{◌≡◌, ℕ, ◌+◌, ◌-◌, List, [], length, Option, Some, None, Result, Ok, Err}
use Rattle.artery_wire.specs.declared.fault.FaultKind.{FaultKind}
use Rattle.artery_wire.specs.declared.fault.WireFault.{WireFault}
use Rattle.artery_wire.specs.Record.{FieldOf}
use Rattle.artery_wire.specs.Reading.{field_at, varint_at, with_first, all_within}

-- a cursor: the bytes that are left, the place of the first of them, and the fault that it has told
pub record Reader : Type 0 where
  pub rest : List ℕ
  pub place : ℕ
  pub told : Option WireFault

-- a cursor at the first byte
abbrev pub reader_of : List ℕ → Reader
reader_of bytes = record { rest = bytes; place = 0; told = None }

-- what calls have still to give: items, and the fault after them if there is one
abbrev pub left_of : {X : Type 0} → (List ℕ → Result (X × List ℕ) FaultKind) → Reader → List X × Option WireFault
left_of one r =
    elim r.told [
      | Some fault ↦ ([], Some fault)
      | None ↦ all_within one (length r.rest) r.place r.rest
    ]

-- the fields that are left, and the fault after them if there is one
unfoldable pub fields_left : Reader → List FieldOf × Option WireFault
fields_left r = left_of field_at r

-- the varints that are left, and the fault after them if there is one
unfoldable pub numbers_left : Reader → List ℕ × Option WireFault
numbers_left r = left_of varint_at r

-- A call answers the next of what was left. At the end it answers None, and at a fault that fault, and both leave
-- what was left as it was.
abbrev pub IsNext : {A X : Type 0} → (A → X) → Result (Option A) WireFault → List X × Option WireFault → List X × Option WireFault → Type 0
IsNext view (Ok (Some x)) before after = before ≡ with_first (view x) after
IsNext view (Ok None) before after = (before ≡ ([], None)) × (after ≡ ([], None))
IsNext view (Err fault) before after = (before ≡ ([], Some fault)) × (after ≡ ([], Some fault))

-- the cursor behind an item, whose rest this is
abbrev pub moved_to : List ℕ → Reader → Reader
moved_to rest r = record { rest = rest; place = r.place + (length r.rest - length rest); told = r.told }

-- the cursor that has told a fault
abbrev pub stopped_by : WireFault → Reader → Reader
stopped_by fault r = record { rest = r.rest; place = r.place; told = Some fault }
