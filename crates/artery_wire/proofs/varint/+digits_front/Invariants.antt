use Rattle.artery_wire.proofs.varint.+digits_front.Given as goal

abbrev pub decreases-digits_front : goal.decreases-digits_front
decreases-digits_front l = l.left
