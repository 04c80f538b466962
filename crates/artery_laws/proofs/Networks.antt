-- A network of what is kept shows what the same network of whole histories shows; and what came before a network changes nothing of what becomes of it.
use Rattle.std.proofs.Common.{◌≡◌, List, [], ◌∷◌, map, refl, ap, sym, ◌∙◌, subst}
use Rattle.artery_script.specs.declared.event.Event.{Event}
use Rattle.artery_script.specs.declared.script.ScriptLine.{ScriptLine}
use Rattle.artery_machine.specs.declared.world.Outcome.{Outcome}
use Rattle.artery_machine.specs.Parts.{Parts, kept, whole}
use Rattle.artery_machine.specs.Ways.{Ways, kept_ways, whole_ways}
use Rattle.artery_machine.specs.Connections.{Connection}
use Rattle.artery_machine.specs.World.{World, Live, nothing, refusal, applies}
use Rattle.artery_machine.specs.Playing.{Run, plays, run}
use Rattle.artery_laws.specs.OverWays.{WaysOver, live_over, connection_over, world_over, run_over}
use Rattle.artery_laws.specs.Network.{counts_of, IsSameRun, with_outcomes_before, run_with_outcomes_before}
use Rattle.artery_laws.proofs.Both.{PartLaws, both, over_kept, over_whole}
use Rattle.artery_laws.proofs.SureWays.{sure_ways, over_kept_ways, over_whole_ways}
use Rattle.artery_laws.proofs.Same.{same, each_same, node_same}
use Rattle.artery_laws.proofs.OverWorld.{refusal_over, applies_over, plays_over}

-- ---- both networks

counts_over : {V W : Ways} (g : WaysOver V W) (cs : List (Connection V)) → map counts_of (map (connection_over g) cs) ≡ map counts_of cs
counts_over g [] = refl
counts_over {V} {W} g (c ∷ cs) =
    ap (λ n. record { uid = c.dialer; dial = c.dial; written = n; delivered = W.delivered (g.way c.way) } ∷ map counts_of (map (connection_over g) cs)) (g.written c.way)
    ∙ ap (λ n. record { uid = c.dialer; dial = c.dial; written = V.written c.way; delivered = n } ∷ map counts_of (map (connection_over g) cs)) (g.delivered c.way)
    ∙ ap (λ xs. counts_of c ∷ xs) (counts_over g cs)

module _ (law : PartLaws) where
  abbrev both_run : List ScriptLine → Run (both law) sure_ways
  both_run script = run script

  run_kept : (script : List ScriptLine) → run {P = kept} {W = kept_ways} script ≡ run_over (over_kept law) over_kept_ways [] (both_run script)
  run_kept script = plays_over (over_kept law) over_kept_ways [] script nothing

  run_whole : (script : List ScriptLine) → run {P = whole} {W = whole_ways} script ≡ run_over (over_whole law) over_whole_ways [] (both_run script)
  run_whole script = plays_over (over_whole law) over_whole_ways [] script nothing

  both_same : (r : Run (both law) sure_ways) → IsSameRun (run_over (over_kept law) over_kept_ways [] r) (run_over (over_whole law) over_whole_ways [] r)
  both_same r = record { outcomes = refl; stop = refl; counts = counts_over over_kept_ways r.world.connections ∙ sym (counts_over over_whole_ways r.world.connections) }

  pub is_whole : (script : List ScriptLine) → IsSameRun (run {P = kept} {W = kept_ways} script) (run {P = whole} {W = whole_ways} script)
  is_whole script =
      subst (λ k. IsSameRun k (run {P = whole} {W = whole_ways} script)) (sym (run_kept script))
      (subst (λ w. IsSameRun (run_over (over_kept law) over_kept_ways [] (both_run script)) w) (sym (run_whole script)) (both_same (both_run script)))

-- ---- what came before

abbrev same_ways : (W : Ways) → WaysOver W W
same_ways W = record {
  way = λ x. x;
  nothing_written = refl;
  wrote = λ writing bytes x. refl;
  delivered_more = λ count x. refl;
  ended = λ x. refl;
  is_open = λ x. refl;
  undelivered = λ x. refl;
  written = λ x. refl;
  delivered = λ x. refl;
}

live_same : {P : Parts} (l : Live P) → live_over (same P) l ≡ l
live_same {P} l = ap (λ n. record l { node = n }) (node_same P l.node)

module _ {P : Parts} {W : Ways} (before : List Outcome) where
  abbrev itself : World P W → World P W
  itself = world_over (same P) (same_ways W) before

  is_itself : (w : World P W) → itself w ≡ with_outcomes_before before w
  is_itself w =
      ap (λ ls. record (itself w) { live = ls }) (each_same (live_over (same P)) live_same w.live)
      ∙ ap (λ cs. record (itself w) { live = w.live; connections = cs }) (each_same (connection_over (same_ways W)) (λ c. refl) w.connections)

  pub applies_behind : (event : Event) (w : World P W) → applies event (with_outcomes_before before w) ≡ with_outcomes_before before (applies event w)
  applies_behind event w = ap (applies event) (sym (is_itself w)) ∙ applies_over (same P) (same_ways W) before event w ∙ is_itself (applies event w)

  pub refusal_behind : (event : Event) (w : World P W) → refusal event (with_outcomes_before before w) ≡ refusal event w
  refusal_behind event w = ap (refusal event) (sym (is_itself w)) ∙ refusal_over (same P) (same_ways W) before event w

  pub plays_behind : (script : List ScriptLine) (w : World P W) → plays script (with_outcomes_before before w) ≡ run_with_outcomes_before before (plays script w)
  plays_behind script w =
      ap (plays script) (sym (is_itself w))
      ∙ plays_over (same P) (same_ways W) before script w
      ∙ ap (λ v. record (plays script w) { world = v }) (is_itself (plays script w).world)
