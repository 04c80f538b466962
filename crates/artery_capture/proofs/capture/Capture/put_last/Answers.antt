use Rattle.std.proofs.Common.{◌≡◌, length, sym, ap, ◌∙◌}
use Rattle.artery_capture.specs.declared.progress.Progress.TheVariants.{GoingOn, Faulty}
use Rattle.artery_capture.specs.Captured.{KeptCapture}
use Rattle.artery_capture.proofs.Telling.{Places, rest_written, fault_written}
use Rattle.artery_capture.proofs.capture.Capture.put_last.Goals as goal

pub returns-in_ok-put_rest-in-GoingOn-clause-ok : goal.returns-in_ok-put_rest-in-GoingOn-clause-ok
returns-in_ok-put_rest-in-GoingOn-clause-ok c =
    let going : c.args.self.now.progress ≡ GoingOn = sym (ap (λ (k : KeptCapture). k.progress) c.self.view_is) ∙ c.in-GoingOn.is in
    let held : c.held.result ≡ length c.args.self.now.deframer.rest = c.held.ensures.kept ∙ ap (λ (k : KeptCapture). length k.deframer.rest) c.self.view_is in
    let laws : Places = record { held = c.keeping_stands.ensures.held; sound = c.readings_are_within.ensures.sound; within = c.readings_are_within.ensures.within } in
    λ fed h s. rest_written laws c.args.self.now fed c.held.result c.args.out.now c.put_rest.new.out going held h c.in_ok-put_rest-in-GoingOn.ensures.ok

pub returns-in_ok-put_fault-in-Faulty-clause-ok : goal.returns-in_ok-put_fault-in-Faulty-clause-ok
returns-in_ok-put_fault-in-Faulty-clause-ok c =
    let faulty : c.args.self.now.progress ≡ Faulty c.in-Faulty.fault = sym (ap (λ (k : KeptCapture). k.progress) c.self.view_is) ∙ c.in-Faulty.is in
    let place : c.offset.result ≡ c.args.self.now.deframer.place = c.offset.ensures.kept ∙ ap (λ (k : KeptCapture). k.deframer.place) c.self.view_is in
    let laws : Places = record { held = c.keeping_stands.ensures.held; sound = c.readings_are_within.ensures.sound; within = c.readings_are_within.ensures.within } in
    λ fed h s. fault_written laws c.args.self.now c.in-Faulty.fault fed c.offset.result c.args.out.now c.put_fault.new.out faulty place h s c.in_ok-put_fault-in-Faulty.ensures.ok
