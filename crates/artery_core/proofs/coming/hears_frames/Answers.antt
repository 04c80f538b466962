use Rattle.std.proofs.Common.{◌≡◌, ℕ, ◌+◌, List, sym, ◌∙◌}
use Rattle.artery_frame.specs.Kept.{kept_answer, kept_given}
use Rattle.artery_machine.specs.Parts.{kept, answers, frames_given, frames_gone}
use Rattle.artery_machine.specs.Doing.{in_bytes, each}
use Rattle.artery_machine.specs.Hearing.{hears}
use Rattle.artery_core.specs.declared.coming.Next.TheVariants.{Frame, Nothing, Broken}
use Rattle.artery_core.specs.Coming.{next_told, frame_in}
use Rattle.artery_core.proofs.Given.{Ends, all_heard}
use Rattle.artery_core.proofs.coming.hears_frames.Goals as goal

pub returns-in-Nothing-clause-bytes : goal.returns-in-Nothing-clause-bytes
returns-in-Nothing-clause-bytes c =
    let ends : Ends c.loop-left.left c.loop-left.bytes c.hears_next.new.bytes (hears c.args.number c.args.stream) c.loop-left.work c.hears_next.new.work =
    all_heard c.loop-left.left c.loop-left.bytes c.hears_next.new.bytes Nothing (hears c.args.number c.args.stream) c.loop-left.work c.hears_next.new.work (λ e. cc)
    (sym c.in-Nothing.is ∙ c.in_ok-hears_next.ensures.next) c.hears_next.ensures.given c.in_ok-hears_next.ensures.work in
    ends.gone ∙ c.loop-left.invariant.gone

pub returns-in-Broken-clause-bytes : goal.returns-in-Broken-clause-bytes
returns-in-Broken-clause-bytes c =
    let ends : Ends c.loop-left.left c.loop-left.bytes c.hears_next.new.bytes (hears c.args.number c.args.stream) c.loop-left.work c.hears_next.new.work =
    all_heard c.loop-left.left c.loop-left.bytes c.hears_next.new.bytes (Broken c.in-Broken.fault) (hears c.args.number c.args.stream) c.loop-left.work c.hears_next.new.work (λ e. cc)
    (sym c.in-Broken.is ∙ c.in_ok-hears_next.ensures.next) c.hears_next.ensures.given c.in_ok-hears_next.ensures.work in
    ends.gone ∙ c.loop-left.invariant.gone

pub returns-in-Nothing-clause-work : goal.returns-in-Nothing-clause-work
returns-in-Nothing-clause-work c =
    let ends : Ends c.loop-left.left c.loop-left.bytes c.hears_next.new.bytes (hears c.args.number c.args.stream) c.loop-left.work c.hears_next.new.work =
    all_heard c.loop-left.left c.loop-left.bytes c.hears_next.new.bytes Nothing (hears c.args.number c.args.stream) c.loop-left.work c.hears_next.new.work (λ e. cc)
    (sym c.in-Nothing.is ∙ c.in_ok-hears_next.ensures.next) c.hears_next.ensures.given c.in_ok-hears_next.ensures.work in
    ends.heard ∙ c.loop-left.invariant.heard

pub returns-in-Broken-clause-work : goal.returns-in-Broken-clause-work
returns-in-Broken-clause-work c =
    let ends : Ends c.loop-left.left c.loop-left.bytes c.hears_next.new.bytes (hears c.args.number c.args.stream) c.loop-left.work c.hears_next.new.work =
    all_heard c.loop-left.left c.loop-left.bytes c.hears_next.new.bytes (Broken c.in-Broken.fault) (hears c.args.number c.args.stream) c.loop-left.work c.hears_next.new.work (λ e. cc)
    (sym c.in-Broken.is ∙ c.in_ok-hears_next.ensures.next) c.hears_next.ensures.given c.in_ok-hears_next.ensures.work in
    ends.heard ∙ c.loop-left.invariant.heard
