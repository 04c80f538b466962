use Rattle.std.proofs.Common.{◌≡◌, sym, ap, ◌∙◌}
use Rattle.artery_capture.specs.declared.progress.Progress.TheVariants.{Faulty}
use Rattle.artery_capture.specs.Captured.{KeptCapture}
use Rattle.artery_capture.proofs.Telling.{fault_kept}
use Rattle.artery_capture.proofs.capture.Capture.tell.Goals as goal

pub returns-in-Faulty-clause-told : goal.returns-in-Faulty-clause-told
returns-in-Faulty-clause-told c =
    let faulty : c.args.self.now.progress ≡ Faulty c.in-Faulty.fault = sym (ap (λ (k : KeptCapture). k.progress) c.self.view_is) ∙ c.in-Faulty.is in
    λ fed h. fault_kept c.one_reading.ensures.longer c.args.self.now c.in-Faulty.fault fed c.args.piece.now c.args.out.now faulty h
