-- What an origin that is new was announced: nothing.
use Rattle.std.proofs.Common.{◌≡◌, Bool, refl}
use Rattle.artery_journal.specs.declared.words.Kind.{Kind}
use Rattle.artery_journal.specs.declared.words.Kind.TheVariants.{Refs, Manifests}
use Rattle.artery_tables.specs.InTables.{nothing_kept, advertising}
use Rattle.artery_tables.specs.declared.in_tables.Advertised.TheVariants.{Same}
use Rattle.artery_machine.specs.Node.{of_kind, of_each}

-- Where no name was counted, there is nothing new.
pub nothing_new : (kind : Kind) (settled : Bool) → advertising settled (of_kind kind (of_each nothing_kept)) ≡ Same
nothing_new Refs settled = refl
nothing_new Manifests settled = refl
