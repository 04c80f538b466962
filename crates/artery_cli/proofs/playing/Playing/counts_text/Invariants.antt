use Rattle.std.proofs.Common.{◌≡◌, ◌++◌, drop}
use Rattle.artery_replay.specs.Replay.{counts_text}
use Rattle.artery_cli.proofs.playing.Playing.counts_text.Given as goal

abbrev pub invariant-loop-place : goal.invariant-loop-place
invariant-loop-place l = record {
  so_far : l.text ++ counts_text (drop l.place l.self.world.world.connections) ≡ counts_text l.self.world.world.connections;
}
