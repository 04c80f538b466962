-- What is said of a serializer.
use Rattle.std.proofs.Common.{◌≡◌, refl, arith, ℤ, pos, negsuc}
use Rattle.std.specs.Prelude.{nat_eq, FitsSigned}
use Rattle.std.specs.Int.{cast_unsigned, w32}
use Rattle.std.proofs.lemmas.Bool.{ne_eqb}
use Rattle.artery_capture.specs.FrameText.{is_control_serializer}

pub is_seventeen : (z : ℤ) → FitsSigned w32 z → nat_eq (cast_unsigned w32 z) 17 ≡ is_control_serializer z
is_seventeen (pos n) f = refl
is_seventeen (negsuc n) f = ne_eqb _ 17 (λ e. omega (arith, f.sfits))
