use Rattle.std.proofs.Common.{◌≡◌, ◌++◌, ap, ◌∙◌, Option}
use Rattle.artery_frame.specs.declared.stream.Stream.{Stream}
use Rattle.artery_frame.specs.Stream.{reading_of}
use Rattle.artery_capture.specs.Captured.{new_stream_line}
use Rattle.artery_capture.proofs.Telling.{piece_told}
use Rattle.artery_capture.proofs.capture.put_piece.Goals as goal

pub returns-clause-told : goal.returns-clause-told
returns-clause-told c =
    let taken = c.feed_room.new.self in
    let line : c.put_stream.new.out ≡ c.args.out.now ++ new_stream_line c.args.deframer.now.stream taken.stream
    = c.in_ok-put_stream.ensures.ok
    ∙ ap (λ (s : Option Stream). c.args.out.now ++ new_stream_line s c.stream.result) c.stream-known.ensures.kept
    ∙ ap (λ (s : Option Stream). c.args.out.now ++ new_stream_line c.args.deframer.now.stream s) c.stream.ensures.kept in
    λ fed h.
    let stands = c.in-Ok.ensures.stands fed (reading_of fed).frames h.0 in
    piece_told c.one_reading.ensures.longer c.readings_are_within.ensures.nameless c.args.deframer.now taken c.put_frames.new.deframer c.in_ok-progress.progress fed c.args.piece.now c.args.out.now c.put_stream.new.out c.put_frames.new.out
    h stands line (c.in_ok-progress.ensures.shown (fed ++ c.args.piece.now) (reading_of fed).frames stands)
