use Rattle.std.proofs.Common.{◌≡◌, ℕ, [], ◌+◌, ◌≤◌, ◌<◌, length, take, ap, subst, rules}
use Rattle.std.specs.Prelude.{Some}
use Rattle.std.specs.Io.KnownBytes.{Consumes}
use Rattle.artery_cli.specs.declared.command.Command.TheVariants.{Show}
use Rattle.artery_cli.specs.Limits.{most_bytes}
use Rattle.artery_cli.specs.declared.stop.Stop.TheVariants as stops
use Rattle.artery_cli.proofs.Results.{if_err, if_ok, stops_with}
use Rattle.artery_cli.proofs.ShownSoFar.{shows_end, shows_end_stopped, shows_stopped, shows_until, shows_long_by, shows_long_stopped, ended_here, ended_past_limit, bounded_so_far, bounded_kept, bounded_piece}
use Rattle.artery_cli.proofs.Stopping.{leaves_nothing_here}
use Rattle.artery_cli.proofs.showing.show.Goals as goal

pub returns-in_err-capture-clause-left : goal.returns-in_err-capture-clause-left
returns-in_err-capture-clause-left g c = stops_with c.from_residual.result stops.NoMemory _ c.from_residual.ensures (leaves_nothing_here c.nothing_told.ensures.lines (g.S.Source.left c.args.input.now) (Some Show) (g.K.Sink.held c.args.output.now))

pub returns-in-Err-clause-bounded : goal.returns-in-Err-clause-bounded
returns-in-Err-clause-bounded g c = bounded_kept (g.S.Source.left c.args.input.now) (g.S.Source.left c.loop.input) (g.S.Source.left c.read.new.self) (g.K.Sink.held c.args.output.now) (g.K.Sink.held c.loop.output) c.loop.capture c.loop.seen c.loop.invariant.so_far c.in-Err.ensures.bytes

pub returns-then-count-eq0-clause-answers : goal.returns-then-count-eq0-clause-answers
returns-then-count-eq0-clause-answers g c =
    let zero : c.in-Ok.count ≡ 0 = search rules in
    let nil : take c.in-Ok.count c.read.new.into ≡ [] = ap (λ (n : ℕ). take n c.read.new.into) zero in
    let some : 0 < length c.read.new.into = search rules in
    if_ok c.show_end.result _ _ (λ status e. shows_end (g.S.Source.left c.args.input.now) (g.S.Source.left c.loop.input) (g.S.Source.left c.read.new.self) (g.K.Sink.held c.args.output.now) (g.K.Sink.held c.loop.output) _ c.loop.capture c.loop.seen status (take c.in-Ok.count c.read.new.into) c.loop.invariant.so_far c.in-Ok.ensures.bytes.0 nil (c.in-Ok.ensures.bytes.1 zero some) e) c.show_end.ensures.ended

pub returns-then-count-eq0-clause-left : goal.returns-then-count-eq0-clause-left
returns-then-count-eq0-clause-left g c =
    let zero : c.in-Ok.count ≡ 0 = search rules in
    let nil : take c.in-Ok.count c.read.new.into ≡ [] = ap (λ (n : ℕ). take n c.read.new.into) zero in
    let some : 0 < length c.read.new.into = search rules in
    if_err c.show_end.result _ _ (λ stop w. shows_end_stopped (g.S.Source.left c.args.input.now) (g.S.Source.left c.loop.input) (g.S.Source.left c.read.new.self) (g.K.Sink.held c.args.output.now) (g.K.Sink.held c.loop.output) _ c.loop.capture c.loop.seen (take c.in-Ok.count c.read.new.into) stop c.loop.invariant.so_far c.in-Ok.ensures.bytes.0 nil (c.in-Ok.ensures.bytes.1 zero some) w) c.show_end.ensures.left

pub returns-in_err-show_piece-clause-left : goal.returns-in_err-show_piece-clause-left
returns-in_err-show_piece-clause-left g c =
    let same : take c.in-Ok.count c.read.new.into ≡ c.split_at.result.0.now = search rules in
    let consumed : Consumes (g.S.Source.left c.loop.input) (g.S.Source.left c.read.new.self) c.split_at.result.0.now = subst (Consumes (g.S.Source.left c.loop.input) (g.S.Source.left c.read.new.self)) same c.in-Ok.ensures.bytes.0 in
    let long : c.in-Ok.count ≡ length c.split_at.result.0.now = search rules in
    let counted : c.loop.seen + c.in-Ok.count ≤ most_bytes + 1 = search rules in
    let within : c.loop.seen + length c.split_at.result.0.now ≤ most_bytes + 1 = subst (λ (n : ℕ). c.loop.seen + n ≤ most_bytes + 1) long counted in
    stops_with c.from_residual-in_err-show_piece.result c.in_err-show_piece.field-0.0 _ c.from_residual-in_err-show_piece.ensures (shows_stopped (g.S.Source.left c.args.input.now) (g.S.Source.left c.loop.input) (g.S.Source.left c.read.new.self) (g.K.Sink.held c.args.output.now) (g.K.Sink.held c.loop.output) _ c.loop.capture c.loop.seen c.split_at.result.0.now c.in_err-show_piece.field-0.0 c.loop.invariant.so_far consumed within c.in_err-show_piece.ensures.left)

pub returns-in_err-show_piece-clause-bounded : goal.returns-in_err-show_piece-clause-bounded
returns-in_err-show_piece-clause-bounded g c =
    let long : length (take c.in-Ok.count c.read.new.into) ≡ c.in-Ok.count = search rules in
    let within : c.loop.seen + c.in-Ok.count ≤ most_bytes + 1 = search rules in
    bounded_piece (g.S.Source.left c.args.input.now) (g.S.Source.left c.loop.input) (g.S.Source.left c.read.new.self) (g.K.Sink.held c.args.output.now) (g.K.Sink.held c.loop.output) c.loop.capture c.loop.seen c.in-Ok.count (take c.in-Ok.count c.read.new.into) c.loop.invariant.so_far c.in-Ok.ensures.bytes.0 long within

pub returns-then-seen-gt-MOST_BYTES-clause-answers : goal.returns-then-seen-gt-MOST_BYTES-clause-answers
returns-then-seen-gt-MOST_BYTES-clause-answers g c =
    let same : take c.in-Ok.count c.read.new.into ≡ c.split_at.result.0.now = search rules in
    let consumed : Consumes (g.S.Source.left c.loop.input) (g.S.Source.left c.read.new.self) c.split_at.result.0.now = subst (Consumes (g.S.Source.left c.loop.input) (g.S.Source.left c.read.new.self)) same c.in-Ok.ensures.bytes.0 in
    let long : c.in-Ok.count ≡ length c.split_at.result.0.now = search rules in
    let past : c.loop.seen + c.in-Ok.count ≡ most_bytes + 1 = search rules in
    shows_long_by c.tell.result (g.S.Source.left c.args.input.now) (g.S.Source.left c.loop.input) (g.S.Source.left c.read.new.self) (g.K.Sink.held c.args.output.now) (g.K.Sink.held c.loop.output) _ _ c.loop.capture c.show_piece.new.capture c.loop.seen c.in-Ok.count c.split_at.result.0.now c.loop.invariant.so_far consumed long past c.in_ok-show_piece.ensures.shown c.tell.ensures.written c.tell.ensures.is_status

pub returns-then-seen-gt-MOST_BYTES-clause-left : goal.returns-then-seen-gt-MOST_BYTES-clause-left
returns-then-seen-gt-MOST_BYTES-clause-left g c =
    let same : take c.in-Ok.count c.read.new.into ≡ c.split_at.result.0.now = search rules in
    let consumed : Consumes (g.S.Source.left c.loop.input) (g.S.Source.left c.read.new.self) c.split_at.result.0.now = subst (Consumes (g.S.Source.left c.loop.input) (g.S.Source.left c.read.new.self)) same c.in-Ok.ensures.bytes.0 in
    let long : c.in-Ok.count ≡ length c.split_at.result.0.now = search rules in
    let past : c.loop.seen + c.in-Ok.count ≡ most_bytes + 1 = search rules in
    if_err c.tell.result _ _ (λ stop w. shows_long_stopped (g.S.Source.left c.args.input.now) (g.S.Source.left c.loop.input) (g.S.Source.left c.read.new.self) (g.K.Sink.held c.args.output.now) (g.K.Sink.held c.loop.output) _ _ c.loop.capture c.show_piece.new.capture c.loop.seen c.in-Ok.count c.split_at.result.0.now stop c.loop.invariant.so_far consumed long past c.in_ok-show_piece.ensures.shown w) c.tell.ensures.left

pub returns-then-seen-gt-MOST_BYTES-clause-bounded : goal.returns-then-seen-gt-MOST_BYTES-clause-bounded
returns-then-seen-gt-MOST_BYTES-clause-bounded g c =
    let long : length (take c.in-Ok.count c.read.new.into) ≡ c.in-Ok.count = search rules in
    let within : c.loop.seen + c.in-Ok.count ≤ most_bytes + 1 = search rules in
    bounded_piece (g.S.Source.left c.args.input.now) (g.S.Source.left c.loop.input) (g.S.Source.left c.read.new.self) (g.K.Sink.held c.args.output.now) (g.K.Sink.held c.loop.output) c.loop.capture c.loop.seen c.in-Ok.count (take c.in-Ok.count c.read.new.into) c.loop.invariant.so_far c.in-Ok.ensures.bytes.0 long within

pub returns-clause-left : goal.returns-clause-left
returns-clause-left g c = shows_until (g.S.Source.left c.args.input.now) (g.S.Source.left c.loop.input) (g.K.Sink.held c.args.output.now) (g.K.Sink.held c.loop.output) c.loop.capture c.loop.seen c.loop.invariant.so_far

pub returns-clause-bounded : goal.returns-clause-bounded
returns-clause-bounded g c = bounded_so_far (g.S.Source.left c.args.input.now) (g.S.Source.left c.loop.input) (g.K.Sink.held c.args.output.now) (g.K.Sink.held c.loop.output) c.loop.capture c.loop.seen c.loop.invariant.so_far

pub returns-then-count-eq0-clause-ended : goal.returns-then-count-eq0-clause-ended
returns-then-count-eq0-clause-ended g c =
    let zero : c.in-Ok.count ≡ 0 = search rules in
    let some : 0 < length c.read.new.into = search rules in
    ended_here c.show_end.result (g.S.Source.left c.args.input.now) (g.S.Source.left c.read.new.self) (c.in-Ok.ensures.bytes.1 zero some)

pub returns-then-seen-gt-MOST_BYTES-clause-ended : goal.returns-then-seen-gt-MOST_BYTES-clause-ended
returns-then-seen-gt-MOST_BYTES-clause-ended g c =
    let same : take c.in-Ok.count c.read.new.into ≡ c.split_at.result.0.now = search rules in
    let consumed : Consumes (g.S.Source.left c.loop.input) (g.S.Source.left c.read.new.self) c.split_at.result.0.now = subst (Consumes (g.S.Source.left c.loop.input) (g.S.Source.left c.read.new.self)) same c.in-Ok.ensures.bytes.0 in
    let long : c.in-Ok.count ≡ length c.split_at.result.0.now = search rules in
    let past : c.loop.seen + c.in-Ok.count ≡ most_bytes + 1 = search rules in
    ended_past_limit c.tell.result (g.S.Source.left c.args.input.now) (g.S.Source.left c.loop.input) (g.S.Source.left c.read.new.self) (g.K.Sink.held c.args.output.now) (g.K.Sink.held c.loop.output) c.loop.capture c.loop.seen c.in-Ok.count c.split_at.result.0.now c.loop.invariant.so_far consumed long past
