use Rattle.std.proofs.Common.{◌≡◌, ◌∙◌, ◌-◌, ◌<◌, length, get_or, drop, Some, true, sym, arith, length-drop, length-take}
use Rattle.std.proofs.lemmas.Bool.Decides.{nat_tests}
use Rattle.artery_text.specs.Spelling.{is_plain}
use Rattle.artery_text.specs.Reading.{escape_of}
use Rattle.artery_text.proofs.WordPieces.{plain_on, escape_on, escape_long}
use Rattle.artery_text.proofs.word.read_pieces.Goals as goal

pub loop-rest-preserved-then-is_plain : goal.loop-rest-preserved-then-is_plain
loop-rest-preserved-then-is_plain c =
    let rest = c.loop-rest.rest.now in
    let lt : 0 < length rest = grind (arith, nat_tests, c.is_empty.ensures, c.loop-rest-test.true) in
    let plain : is_plain (get_or rest 0 0) ≡ true = sym c.is_plain.ensures ∙ c.if-is_plain.true in
    record {
      so_far = plain_on c.loop-rest.bytes c.loop-rest.at rest c.push.new.self _ lt plain c.in_ok-push.ensures.ok c.loop-rest.invariant.so_far;
      place = omega (arith, length-take (length rest - 1) (drop 1 rest), length-drop 1 rest, c.loop-rest.invariant.place);
    }

pub loop-rest-preserved : goal.loop-rest-preserved
loop-rest-preserved c =
    let rest = c.loop-rest.rest.now in
    let escaped : escape_of rest ≡ Some c.in-Some.byte = sym c.escape.ensures ∙ c.in-Some.is in
    let long = escape_long rest c.in-Some.byte escaped in
    record {
      so_far = escape_on c.loop-rest.bytes c.loop-rest.at c.in-Some.byte rest c.push-in-loop-rest.new.self _ escaped c.in_ok-push-2.ensures.ok c.loop-rest.invariant.so_far;
      place = omega (arith, long, length-take (length rest - 3) (drop 3 rest), length-drop 3 rest, c.loop-rest.invariant.place);
    }
