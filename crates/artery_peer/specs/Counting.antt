-- The names that are counted for an origin.
use Rattle.std.specs.Prelude.{ℕ, List}
use Rattle.artery_header.specs.Envelope.{EnvelopeOf}
use Rattle.artery_journal.specs.declared.words.Kind.{Kind}
use Rattle.artery_journal.specs.declared.words.Kind.TheVariants.{Refs, Manifests}
use Rattle.artery_tables.specs.InTables.{kept_counted}
use Rattle.artery_machine.specs.Parts.{kept}
use Rattle.artery_machine.specs.Node.{Origin, change_kind}
use Rattle.artery_machine.specs.Hearing.{with_counted}

-- A name of one kind is counted.
abbrev pub with_text : Kind → List ℕ → Origin kept → Origin kept
with_text kind text o = record o { tables = change_kind kind (kept_counted text) o.tables }

-- The names of an envelope are counted: sender and recipient as references, then the manifest.
abbrev pub with_names : EnvelopeOf → Origin kept → Origin kept
with_names e o = with_counted Manifests e.manifest (with_counted Refs e.recipient (with_counted Refs e.sender o))
