-- Which tables are shown on an inbound connection.
use Rattle.std.specs.Prelude.{ℕ, Option}
use Rattle.std.specs.Option.{option_or}
use Rattle.artery_machine.specs.Parts.{kept}
use Rattle.artery_machine.specs.Node.{Inbound}

-- The tables with these numbers are shown; where there is none, the one before stays.
abbrev pub with_numbers : Option ℕ → Option ℕ → Inbound kept → Inbound kept
with_numbers refs manifests i =
    record i { shown = record { refs = option_or refs i.shown.refs; manifests = option_or manifests i.shown.manifests } }
