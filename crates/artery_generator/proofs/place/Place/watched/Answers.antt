use Rattle.std.proofs.Common.{◌≡◌, IfOk, List, ℕ, sym, subst}
use Rattle.artery_generator.specs.declared.place.Place.{Place}
use Rattle.artery_generator.specs.Places.{actor_at, watched_path}
use Rattle.artery_generator.proofs.place.Place.watched.Goals as goal

pub returns-in-A : goal.returns-in-A
returns-in-A c = subst (λ (p : Place). IfOk c.from_ascii.result (λ t. t ≡ actor_at p watched_path)) (sym c.in-A.is) c.from_ascii.ensures

pub returns-in-B : goal.returns-in-B
returns-in-B c = subst (λ (p : Place). IfOk c.from_ascii-in-B.result (λ t. t ≡ actor_at p watched_path)) (sym c.in-B.is) c.from_ascii-in-B.ensures

pub returns-in-C : goal.returns-in-C
returns-in-C c = subst (λ (p : Place). IfOk c.from_ascii-in-C.result (λ t. t ≡ actor_at p watched_path)) (sym c.in-C.is) c.from_ascii-in-C.ensures
