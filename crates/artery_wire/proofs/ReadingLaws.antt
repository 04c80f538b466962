-- The laws of reading, at fields and at the numbers of a packed field.
use Rattle.artery_wire.specs.Record.{IsVarint, IsField}
use Rattle.artery_wire.specs.FirstFault.{VarintFault, FieldFault}
use Rattle.artery_wire.specs.Reading.{varint_at, field_at}
use Rattle.artery_wire.specs.Laws.{FieldsAreRead, FaultIsRead, FieldsAreLongest, NumbersAreRead, PackedFaultIsRead}
use Rattle.artery_wire.proofs.Varints.{Varints, varint_takes, varint_again, varint_some, varint_fault, varint_fault_again}
use Rattle.artery_wire.proofs.Fields.{Fields, field_takes, field_again, field_some, field_fault, field_fault_again}
use Rattle.artery_wire.proofs.Steps.{varint_shortens, field_shortens}
use Rattle.artery_wire.proofs.Alls.{IsReader, whole_read, fault_read, longest_read, whole_stands, fault_stands}

field_reader : IsReader IsField FieldFault field_at
field_reader = record {
  takes = λ bytes f rest e. let t : Fields bytes f rest = field_takes bytes f rest e in (t.front, t.parts, t.front_is);
  again = field_again;
  some = field_some;
  shortens = field_shortens;
  faults = field_fault;
  faults_again = field_fault_again;
}

number_reader : IsReader IsVarint VarintFault varint_at
number_reader = record {
  takes = λ bytes n rest e. let t : Varints bytes n rest = varint_takes bytes n rest e in (t.front, t.parts, t.front_is);
  again = varint_again;
  some = varint_some;
  shortens = varint_shortens;
  faults = varint_fault;
  faults_again = varint_fault_again;
}

pub fields_are_read : FieldsAreRead
fields_are_read fs bytes = (λ stands. whole_read IsField FieldFault field_at field_reader fs bytes stands, λ e. whole_stands IsField FieldFault field_at field_reader fs bytes e)

pub fault_is_read : FaultIsRead
fault_is_read fs bytes fault = (λ f. fault_read IsField FieldFault field_at field_reader fs bytes fault f, λ e. fault_stands IsField FieldFault field_at field_reader fs bytes fault e)

pub fields_are_longest : FieldsAreLongest
fields_are_longest fs front rest stands = longest_read IsField FieldFault field_at field_reader fs front rest stands

pub numbers_are_read : NumbersAreRead
numbers_are_read ns bytes = (λ stands. whole_read IsVarint VarintFault varint_at number_reader ns bytes stands, λ e. whole_stands IsVarint VarintFault varint_at number_reader ns bytes e)

pub packed_fault_is_read : PackedFaultIsRead
packed_fault_is_read ns bytes fault = (λ f. fault_read IsVarint VarintFault varint_at number_reader ns bytes fault f, λ e. fault_stands IsVarint VarintFault varint_at number_reader ns bytes fault e)

pub ruleset field_laws = (fields_are_read, fault_is_read, fields_are_longest)

pub ruleset number_laws = (numbers_are_read, packed_fault_is_read)
