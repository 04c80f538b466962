-- A message would be one too many exactly where what is kept is full.
use Rattle.std.proofs.Common.{◌≡◌, ℕ, Bool, true, false, refl}
use Rattle.std.specs.Prelude.{Option, Some, None, is_none, ◌&&◌, if◌then◌else◌}
use Rattle.artery_base.specs.declared.message.SysMsg.{SysMsg}
use Rattle.artery_delivery.specs.Outbound.{Kept, acceptance, is_full}
use Rattle.artery_delivery.specs.declared.outbound.Accept.TheVariants.{Accepted, Waiting, Overflow}
use Rattle.artery_machine.specs.Watching.{would_overflow}

by : (full learnt : Bool) (message : SysMsg) (n m : ℕ) (current : Option ℕ)
    → would_overflow (if full then Overflow message else if learnt then Accepted n else Waiting m) current ≡ (full && is_none current)
by true learnt message n m None = refl
by true learnt message n m (Some uid) = refl
by false true message n m None = refl
by false true message n m (Some uid) = refl
by false false message n m None = refl
by false false message n m (Some uid) = refl

pub overflows : (message : SysMsg) (k : Kept) (current : Option ℕ) → would_overflow (acceptance message k) current ≡ (is_full k && is_none current)
overflows message k current = by (is_full k) k.learnt message _ _ current
