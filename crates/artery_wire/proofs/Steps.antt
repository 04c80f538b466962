-- One call of a cursor.
use Rattle.std.proofs.Common.{◌≡◌, ℕ, ◌<◌, List, [], length, Some, None, Ok, Err, refl, ap, arith}
use Rattle.std.proofs.lemmas.List.{length-append}
use Rattle.artery_wire.specs.declared.fault.FaultKind.{FaultKind}
use Rattle.artery_wire.specs.declared.fault.WireFault.{WireFault}
use Rattle.artery_wire.specs.Fault.{fault_at}
use Rattle.artery_wire.specs.Record.{FieldOf}
use Rattle.artery_wire.specs.Reading.{with_first, field_at, varint_at}
use Rattle.artery_wire.specs.Reader.{Reader, left_of, fields_left, numbers_left, moved_to}
use Rattle.artery_wire.proofs.Varints.{Varints, varint_takes, varint_some}
use Rattle.artery_wire.proofs.Fields.{Fields, field_takes, field_some}
use Rattle.artery_wire.proofs.Alls.{Reads, Shortens, left_at_end, left_at_item, left_at_fault}

pub field_shortens : (bytes : List ℕ) (f : FieldOf) (rest : List ℕ) → field_at bytes ≡ Ok (f, rest) → length rest < length bytes
field_shortens bytes f rest e =
    let t : Fields bytes f rest = field_takes bytes f rest e in
    omega (arith, field_some f t.front t.front_is, ap length t.parts, length-append t.front rest)

pub varint_shortens : (bytes : List ℕ) (n : ℕ) (rest : List ℕ) → varint_at bytes ≡ Ok (n, rest) → length rest < length bytes
varint_shortens bytes n rest e =
    let t : Varints bytes n rest = varint_takes bytes n rest e in
    omega (arith, varint_some n t.front t.front_is, ap length t.parts, length-append t.front rest)

told_left : {X : Type 0} (one : Reads X) (r : Reader) (fault : WireFault) → r.told ≡ Some fault → left_of one r ≡ ([], Some fault)
told_left one r fault e = rw e refl

end_left : {X : Type 0} (one : Reads X) (r : Reader) → r.told ≡ None → length r.rest ≡ 0 → left_of one r ≡ ([], None)
end_left one r e len = rw e (left_at_end one r.place r.rest len)

item_left : {X : Type 0} (one : Reads X) → Shortens one → (r : Reader) (x : X) (rest : List ℕ) → r.told ≡ None → 0 < length r.rest → one r.rest ≡ Ok (x, rest)
    → left_of one r ≡ with_first x (left_of one (moved_to rest r))
item_left one short r x rest e some read = rw e (left_at_item one short r.place r.rest x rest some read)

fault_left : {X : Type 0} (one : Reads X) (r : Reader) (kind : FaultKind) → r.told ≡ None → 0 < length r.rest → one r.rest ≡ Err kind
    → left_of one r ≡ ([], Some (fault_at kind r.place))
fault_left one r kind e some read = rw e (left_at_fault one r.place r.rest kind some read)

pub field_told : (r : Reader) (fault : WireFault) → r.told ≡ Some fault → fields_left r ≡ ([], Some fault)
unfolding fields_left
field_told r fault e = told_left field_at r fault e

pub field_end : (r : Reader) → r.told ≡ None → length r.rest ≡ 0 → fields_left r ≡ ([], None)
unfolding fields_left
field_end r e len = end_left field_at r e len

pub field_item : (r : Reader) (f : FieldOf) (rest : List ℕ) → field_at r.rest ≡ Ok (f, rest) → r.told ≡ None → 0 < length r.rest → fields_left r ≡ with_first f (fields_left (moved_to rest r))
unfolding fields_left
field_item r f rest read e some = item_left field_at field_shortens r f rest e some read

pub field_fault_left : (r : Reader) (kind : FaultKind) → field_at r.rest ≡ Err kind → r.told ≡ None → 0 < length r.rest → fields_left r ≡ ([], Some (fault_at kind r.place))
unfolding fields_left
field_fault_left r kind read e some = fault_left field_at r kind e some read

pub number_told : (r : Reader) (fault : WireFault) → r.told ≡ Some fault → numbers_left r ≡ ([], Some fault)
unfolding numbers_left
number_told r fault e = told_left varint_at r fault e

pub number_end : (r : Reader) → r.told ≡ None → length r.rest ≡ 0 → numbers_left r ≡ ([], None)
unfolding numbers_left
number_end r e len = end_left varint_at r e len

pub number_item : (r : Reader) (n : ℕ) (rest : List ℕ) → varint_at r.rest ≡ Ok (n, rest) → r.told ≡ None → 0 < length r.rest → numbers_left r ≡ with_first n (numbers_left (moved_to rest r))
unfolding numbers_left
number_item r n rest read e some = item_left varint_at varint_shortens r n rest e some read

pub number_fault_left : (r : Reader) (kind : FaultKind) → varint_at r.rest ≡ Err kind → r.told ≡ None → 0 < length r.rest → numbers_left r ≡ ([], Some (fault_at kind r.place))
unfolding numbers_left
number_fault_left r kind read e some = fault_left varint_at r kind e some read

pub ruleset field_steps = (field_shortens, field_told, field_end, field_item, field_fault_left)

pub ruleset number_steps = (varint_shortens, number_told, number_end, number_item, number_fault_left)
