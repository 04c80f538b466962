use Rattle.std.proofs.Common.{◌≡◌, ◌++◌, map, take, drop}
use Rattle.artery_machine.specs.Connections.{ended_with}
use Rattle.artery_connections.proofs.connections.Connections.end_all_with.Given as goal

abbrev pub invariant-loop-place : goal.invariant-loop-place
invariant-loop-place l = l.self ≡ map (ended_with l.fn.uid) (take l.place l.fn.self) ++ drop l.place l.fn.self
