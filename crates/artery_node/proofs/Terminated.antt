-- Watches that end before their lines are told.
use Rattle.std.proofs.Common.{◌≡◌, ℕ, List, [], ◌∷◌, refl, ap, ◌∙◌}
use Rattle.artery_base.specs.declared.address.Address.{Address}
use Rattle.artery_journal.specs.declared.line.Line.TheVariants as lines
use Rattle.artery_machine.specs.Parts.{kept}
use Rattle.artery_machine.specs.Doing.{Doing, in_bytes, each, tells_of}
use Rattle.artery_machine.specs.Closing.{ends_watches_at, terminates_at}
use Rattle.artery_watch.specs.Watcher.{ids_at}

-- It is the same whether the watches end before or after their lines.
pub tells_then_ends : (address : Address) (ids : List ℕ) (d : Doing kept in_bytes)
    → each ids (λ id. tells_of (λ me. lines.Terminated me id)) (ends_watches_at address d) ≡ ends_watches_at address (each ids (λ id. tells_of (λ me. lines.Terminated me id)) d)
tells_then_ends address [] d = refl
tells_then_ends address (id ∷ ids) d = tells_then_ends address ids (tells_of (λ me. lines.Terminated me id) d)

-- Watches that ended, and whose lines were told, are terminated.
pub terminated : (address : Address) (ids : List ℕ) (d e f : Doing kept in_bytes) → e ≡ ends_watches_at address d → ids ≡ ids_at address d.node.watching.watches.list
    → f ≡ each ids (λ id. tells_of (λ me. lines.Terminated me id)) e → f ≡ terminates_at address d
terminated address ids d e f ended are told =
    told
    ∙ ap (each ids (λ id. tells_of (λ me. lines.Terminated me id))) ended
    ∙ tells_then_ends address ids d
    ∙ ap (λ all. ends_watches_at address (each all (λ id. tells_of (λ me. lines.Terminated me id)) d)) are
