use Rattle.std.proofs.Common.{◌≡◌, rules, [], ◌∷◌, length, get_or, take, drop, true, false, eqb, arith, length-drop}
use Rattle.std.specs.Prelude.{codes, bytes_eq, nat_eq, ◌-◌}
use Rattle.std.specs.List.{starts_with}
use Rattle.std.proofs.lemmas.List.{take_all}
use Rattle.std.proofs.lemmas.Bool.Decides.{nat_tests}
use Rattle.artery_text.proofs.WordPieces.{at_given, other_given}
use Rattle.artery_text.proofs.word.bytes_in.Goals as goal

pub returns-then-starts_with : goal.returns-then-starts_with
returns-then-starts_with c =
    let text = c.args.text.now in
    let mark : starts_with nat_eq text (codes "%40") ≡ true = search rules in
    let front : c.in_ok-front.front ≡ 64 ∷ [] = search rules in
    at_given c.read_pieces.result text c.in_ok-front.front (take (length text - 3) (drop 3 text)) mark front (take_all (length text - 3) (drop 3 text) (omega (arith, length-drop 3 text))) c.read_pieces.ensures

pub returns : goal.returns
returns c =
    let text = c.args.text.now in
    let dash : bytes_eq text (codes "-") ≡ false = search rules in
    let some : eqb (length text) 0 ≡ false = search rules in
    let at : eqb (get_or text 0 0) 64 ≡ false = grind (arith, nat_tests, c.if-text-eq64.false) in
    let lone : bytes_eq text (codes "%2d") ≡ false = search rules in
    let mark : starts_with nat_eq text (codes "%40") ≡ false = search rules in
    other_given c.read_pieces-2.result text c.new-2.result dash some at lone mark c.new-2.ensures c.read_pieces-2.ensures
