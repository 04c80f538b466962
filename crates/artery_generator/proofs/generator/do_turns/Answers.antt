use Rattle.std.proofs.Common.{rules, ◌≡◌, ℕ, ap, ◌∙◌, ◌++◌}
use Rattle.artery_generator.specs.Turns.{live_after_turns}
use Rattle.artery_generator.specs.Scripts.{turns_up_to}
use Rattle.artery_generator.proofs.Steps.{drawn_on, live_on, events_on}
use Rattle.artery_generator.proofs.generator.do_turns.Goals as goal

pub loop-done-preserved : goal.loop-done-preserved
loop-done-preserved c =
    let n = c.args.n in
    let k = c.loop-done.done in
    let own = c.loop-done.generator in
    let so = c.loop-done.invariant in
    record {
      drawn_so_far = drawn_on n k own.drawn c.turn.new.self.drawn so.drawn_so_far c.in_ok-turn.ensures.drawn;
      live = live_on n k own.drawn own.live c.turn.new.self.live so.drawn_so_far so.live c.in_ok-turn.ensures.live;
      so_far = events_on n k own.drawn own.live c.args.events.now.items c.loop-done.events.items c.turn.new.events.items
          so.drawn_so_far so.live so.so_far c.in_ok-turn.ensures.events;
    }

pub returns-clause-live : goal.returns-clause-live
returns-clause-live c =
    let all : c.loop-done.done ≡ c.args.n = search rules in
    c.loop-done.invariant.live ∙ ap (λ (k : ℕ). live_after_turns c.args.n k) all

pub returns-clause-events : goal.returns-clause-events
returns-clause-events c =
    let all : c.loop-done.done ≡ c.args.n = search rules in
    c.loop-done.invariant.so_far ∙ ap (λ (k : ℕ). c.args.events.now.items ++ turns_up_to c.args.n k) all
