use Rattle.std.proofs.Common.{◌≡◌, ◌∙◌, ◌-◌, ◌<◌, length, get_or, drop, Some, sym, arith, length-drop, length-take}
use Rattle.artery_text.specs.Reading.{pair_of}
use Rattle.artery_text.proofs.HexPairs.{read_on}
use Rattle.artery_text.proofs.hexadecimal.read_by_pairs.Goals as goal

pub loop-rest-preserved : goal.loop-rest-preserved
loop-rest-preserved c =
    let rest = c.loop-rest.rest.now in
    let lt : 1 < length rest = c.loop-rest-test.true in
    let read : pair_of (get_or rest 0 0) (get_or rest 1 0) ≡ Some c.in-Some.byte = sym c.pair.ensures ∙ c.in-Some.is in
    record {
      so_far = read_on c.loop-rest.bytes c.loop-rest.at c.in-Some.byte rest c.push.new.self _ lt read c.in_ok-push.ensures.ok c.loop-rest.invariant.so_far;
      place = omega (arith, length-take (length rest - 2) (drop 2 rest), length-drop 2 rest, c.loop-rest.invariant.place);
    }
