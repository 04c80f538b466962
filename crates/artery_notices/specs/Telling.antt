-- The code's words for notices as those of the machine.
use Rattle.std.specs.Prelude.{ℕ, List, [], Option, Some, None, if◌then◌else◌}
use Rattle.artery_base.specs.declared.address.Address.{Address}
use Rattle.artery_text.specs.Spelling.{address_text}
use Rattle.artery_watch.specs.Place.{is_at, after}
use Rattle.artery_machine.specs.Lists.{or_else}
use Rattle.artery_machine.specs.Watching as machine
use Rattle.artery_machine.specs.Watching.{watch_kind, unwatch_kind, ended_kind}
use Rattle.artery_notices.specs.declared.notices.NoticeKind.{NoticeKind}
use Rattle.artery_notices.specs.declared.notices.NoticeKind.TheVariants.{Watch, Unwatch, Ended}
use Rattle.artery_notices.specs.declared.notices.Told.{Told}
use Rattle.artery_notices.specs.declared.notices.Told.TheVariants.{Begins, Ends, HasEnded, Nothing}

-- The manifest of a notice of this kind.
abbrev pub kind_of : NoticeKind → List ℕ
kind_of Watch = watch_kind
kind_of Unwatch = unwatch_kind
kind_of Ended = ended_kind

-- What is told, as the machine says it.
abbrev pub told : Told → machine.Told
told (Begins notice) = machine.Begins notice
told (Ends notice) = machine.Ends notice
told (HasEnded notice) = machine.HasEnded notice
told Nothing = machine.Nothing

-- The path of the actor that a text names at an address, where it names one there.
abbrev pub path_at : Address → List ℕ → Option (List ℕ)
path_at address text = if is_at address text then Some (or_else [] (after (address_text address) text)) else None
