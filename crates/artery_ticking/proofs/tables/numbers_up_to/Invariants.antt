use Rattle.std.proofs.Common.{◌≡◌, ◌++◌, ◌-◌}
use Rattle.artery_machine.specs.Ticking.{numbers_from}
use Rattle.artery_ticking.proofs.tables.numbers_up_to.Given as goal

abbrev pub invariant-loop-place : goal.invariant-loop-place
invariant-loop-place l = l.all ++ numbers_from l.place (l.most - l.place) ≡ numbers_from 0 l.most
