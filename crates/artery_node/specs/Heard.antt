-- What a node becomes by an answer to what came, by name.
use Rattle.std.specs.Prelude.{ℕ, ◌-◌, nat_lt, if◌then◌else◌, List}
use Rattle.artery_base.specs.declared.address.Address.{Address}
use Rattle.artery_base.specs.declared.address.UniqueAddress.{UniqueAddress}
use Rattle.artery_delivery.specs.declared.inbound.Take.{Take}
use Rattle.artery_delivery.specs.declared.inbound.Take.TheVariants.{Taken, Again, Gap}
use Rattle.artery_delivery.specs.declared.outbound.Acked.{Acked}
use Rattle.artery_delivery.specs.declared.outbound.Acked.TheVariants.{Cleared, Past}
use Rattle.artery_delivery.specs.Inbound.{is_expected, with_taken}
use Rattle.artery_delivery.specs.Outbound.{Kept}
use Rattle.artery_journal.specs.declared.words.Kind.{Kind}
use Rattle.artery_tables.specs.declared.out_table.Adopted.{Adopted as Adopting}
use Rattle.artery_tables.specs.declared.out_table.Adopted.TheVariants as adopting
use Rattle.artery_tables.specs.declared.in_tables.Confirmed.{Confirmed}
use Rattle.artery_tables.specs.declared.in_tables.Confirmed.TheVariants as confirming
use Rattle.artery_machine.specs.Parts.{kept}
use Rattle.artery_machine.specs.Doing.{Rule, in_bytes, becomes, peer_becomes, origin_becomes}
use Rattle.artery_machine.specs.Sending.{with_out}
use Rattle.artery_machine.specs.Hearing.{with_adopted, with_confirmed}

-- What a number is where another one is expected.
abbrev pub taking_at : ℕ → ℕ → Take
taking_at n expected = if nat_lt n expected then Again (expected - 1) else if is_expected n expected then Taken else Gap (expected - 1)

-- The expected message is taken; any other one changes nothing.
abbrev pub taken_by : UniqueAddress → ℕ → Take → Rule kept in_bytes
taken_by v n Taken d = becomes (λ node. record node { taken = with_taken v n node.taken }) d
taken_by v n (Again last) d = d
taken_by v n (Gap last) d = d

-- What is kept for a peer changes, unless the acknowledged number is past the last one sent.
abbrev pub cleared_by : Address → (Kept → Kept) → Acked → Rule kept in_bytes
cleared_by address change Past d = d
cleared_by address change (Cleared count) d = peer_becomes address (with_out change) d

-- A newer table is adopted; any other one changes nothing.
abbrev pub adopted_by : Address → Kind → ℕ → List (List ℕ) → List ℕ → Adopting → Rule kept in_bytes
adopted_by address kind number keys values adopting.Older d = d
adopted_by address kind number keys values adopting.Same d = d
adopted_by address kind number keys values adopting.Adopted d = peer_becomes address (with_adopted kind number keys values) d

-- The table that is announced is confirmed; any other number changes nothing.
abbrev pub confirmed_by : UniqueAddress → Kind → ℕ → Confirmed → Rule kept in_bytes
confirmed_by v kind number confirming.Confirmed d = origin_becomes v (with_confirmed kind number) d
confirmed_by v kind number confirming.NotAnnounced d = d
