use Rattle.std.proofs.Common.{◌≡◌, []}
use Rattle.crossbeam_queue.specs.Passes.{view as pass_view, IsSamePass}
use Rattle.artery_lanes.specs.declared.lane_view.LaneView.TheVariants as views
use Rattle.artery_lanes.specs.Calls.{new_passes}
use Rattle.artery_lanes.proofs.lane.all_passes.Given as goal

abbrev pub invariant-loop-sender : goal.invariant-loop-sender
invariant-loop-sender l = IsSamePass l.fn.pass l.pass × (pass_view l.pass ≡ views.Taker l.sender [] []) × (l.passes ≡ new_passes l.queue.table.shared.table_id l.sender)
