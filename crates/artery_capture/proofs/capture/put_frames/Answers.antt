use Rattle.std.proofs.Common.{◌≡◌, None, Some, sym, ◌∙◌}
use Rattle.artery_capture.proofs.Appending.{keeps_front}
use Rattle.artery_frame.specs.Kept.{kept_answer}
use Rattle.artery_capture.specs.Captured.{end_of}
use Rattle.artery_capture.proofs.Showing.{Keeping, goes_on, all_told}
use Rattle.artery_capture.proofs.capture.put_frames.Goals as goal

pub returns-in-Some-clause-shown : goal.returns-in-Some-clause-shown
returns-in-Some-clause-shown c =
    let end : Some c.in-Some.progress ≡ end_of (kept_answer c.loop-progress.deframer) = sym c.in-Some.is ∙ c.in_ok-progress.ensures.end in
    let laws : Keeping = record { answer = c.keeping_stands.ensures.answer; given = c.keeping_stands.ensures.given } in
    λ fed given h. all_told laws c.loop-progress.deframer c.put_next.new.deframer fed given c.args.out.now c.loop-progress.out c.put_next.new.out c.in-Some.progress
    (c.loop-progress.invariant.under_way fed given h) end c.put_next.ensures.given c.in_ok-progress.ensures.lines

pub loop-progress-preserved : goal.loop-progress-preserved
loop-progress-preserved c =
    let goes : None ≡ end_of (kept_answer c.loop-progress.deframer) = sym c.in-None.is ∙ c.in_ok-progress.ensures.end in
    let laws : Keeping = record { answer = c.keeping_stands.ensures.answer; given = c.keeping_stands.ensures.given } in
    record {
      room = c.put_next.ensures.room ∙ c.loop-progress.invariant.room;
      under_way = λ fed given h. goes_on laws c.loop-progress.deframer c.put_next.new.deframer fed given c.args.out.now c.loop-progress.out c.put_next.new.out
          (c.loop-progress.invariant.under_way fed given h) goes c.put_next.ensures.given c.in_ok-progress.ensures.lines;
      kept = keeps_front c.args.out.now c.loop-progress.out _ c.put_next.new.out c.loop-progress.invariant.kept c.in_ok-progress.ensures.lines;
    }
