use Rattle.std.proofs.Common.{rules, ◌≡◌, ◌∙◌, ◌≤◌, List, ℕ, ◌++◌, length, drop, ap, Some}
use Rattle.std.proofs.lemmas.List.{take_rest, drop-append-le}
use Rattle.artery_frame.specs.Stream.{preamble_of}
use Rattle.artery_frame.specs.Kept.{Kept, new_stream}
use Rattle.artery_frame.proofs.Holding.{of_parts, piece_told}
use Rattle.artery_frame.proofs.deframer.Deframer.append.Goals as goal

pub returns-in-Some-clause-ok : goal.returns-in-Some-clause-ok
returns-in-Some-clause-ok c =
    let items = c.extend_from_slice.new.self.items in
    let cut = c.cut_off-self-inside.new.buffer.items in
    let from = c.cut_off-self-inside.result in
    let piece = c.args.piece.now in
    let inside = c.self.inside in
    let within : from ≤ length cut = search rules in
    let rest : drop from items ≡ drop inside.from inside.buffer.items ++ piece
    = ap (drop from) c.in_ok-extend_from_slice.ensures.items ∙ drop-append-le from cut piece within ∙ ap (λ (w : List ℕ). w ++ piece) c.cut_off-self-inside.ensures.rest in
    let view = ap (λ (w : List ℕ). of_parts w inside.place inside.stream inside.fault inside.has_room) rest
    ∙ ap (λ (k : Kept). record k { rest = k.rest ++ piece }) c.self.view_is in
    let whole = take_rest c.deref.result.now from in
    let told : new_stream inside.stream (preamble_of (drop from items)) ≡ Some c.in-Some.stream = cc in
    piece_told c.args.self.now piece items from _ _ _ _ c.in-Some.stream view told
