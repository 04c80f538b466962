-- Messages that were sent and taken, at the end of a script.
use Rattle.std.proofs.Common.{◌≡◌, ℕ, suc, ◌+◌, List, [], ◌∷◌, ◌++◌, length, map, refl, sym, ◌∙◌, ap, subst}
use Rattle.std.specs.Prelude.{Some, slice_get}
use Rattle.artery_base.specs.declared.address.UniqueAddress.{UniqueAddress}
use Rattle.artery_base.specs.declared.message.SysMsg.{SysMsg}
use Rattle.artery_control.specs.declared.control.Control.TheVariants as controls
use Rattle.artery_journal.specs.declared.line.Line.{Line}
use Rattle.artery_journal.specs.declared.line.Line.TheVariants as lines
use Rattle.artery_judge.specs.Lines.{Entry, Rest, says_took}
use Rattle.artery_script.specs.declared.script.ScriptLine.{ScriptLine}
use Rattle.artery_machine.specs.Deeds.{Writing, Controls}
use Rattle.artery_machine.specs.Parts.{whole}
use Rattle.artery_machine.specs.Ways.{Wrote, whole_ways}
use Rattle.artery_machine.specs.Ticking.{numbers_from}
use Rattle.artery_machine.specs.Playing.{run}
use Rattle.artery_flight.specs.Answers.{AreReadBack}
use Rattle.artery_flight.specs.Numbers.{lines_in, numbers_sent, AreNumbered, WasSent, IsSentOn}
use Rattle.artery_flight.proofs.Lists.{Each, each_get}
use Rattle.artery_flight.proofs.Lines.{sent_in, numbered, TookIt, IsOwn}
use Rattle.artery_flight.proofs.Facts.{Network, Conn}
use Rattle.artery_flight.proofs.Networks.{Holds}
use Rattle.artery_flight.proofs.Playing.{run_holds}
use Rattle.artery_flight.proofs.Meetings.{all_read}

firsts : (n : ℕ) (ms : List SysMsg) → map (λ (r : Rest). r.0) (numbered n ms) ≡ numbers_from n (length ms)
firsts n [] = refl
firsts n (m ∷ ms) = ap (λ ns. n ∷ ns) (firsts (n + 1) ms)

as_many : (n : ℕ) (ms : List SysMsg) → length (map (λ (r : Rest). r.0) (numbered n ms)) ≡ length ms
as_many n [] = refl
as_many n (m ∷ ms) = ap suc (as_many (n + 1) ms)

are_numbered : (rs : List Rest) (ms : List SysMsg) → rs ≡ numbered 1 ms → AreNumbered (map (λ (r : Rest). r.0) rs)
are_numbered rs ms e = subst (λ xs. AreNumbered (map (λ (r : Rest). r.0) xs)) (sym e) (firsts 1 ms ∙ ap (numbers_from 1) (sym (as_many 1 ms)))

took_it : (before : List Entry) (line : Line) (a b : UniqueAddress) (n : ℕ) (m : SysMsg) → line ≡ lines.Took b a n m → TookIt before (says_took line) → WasSent a b n m before
took_it before line a b n m e t = (let k : TookIt before (says_took (lines.Took b a n m)) = subst (λ (x : Line). TookIt before (says_took x)) e t in record { place = k.place; there = k.here })

module _ (script : List ScriptLine) where
  abbrev at_end : Network
  at_end = (run {P = whole} {W = whole_ways} script).world

  holds : Holds at_end
  holds = run_holds script

  pub sent_in_order : (a b : UniqueAddress) → AreNumbered (numbers_sent a b (lines_in at_end.outcomes))
  sent_in_order a b = (let k : (ms : List SysMsg) × (sent_in a b at_end.outcomes ≡ numbered 1 ms) = holds.out.told.sent a b in are_numbered (sent_in a b at_end.outcomes) k.0 k.1)

  pub taken_was_sent : AreReadBack at_end.connections → (before after : List Entry) (e : Entry) (a b : UniqueAddress) (n : ℕ) (m : SysMsg) → lines_in at_end.outcomes ≡ before ++ e ∷ after → e.1 ≡ lines.Took b a n m → WasSent a b n m before
  taken_was_sent r before after e a b n m h k = took_it before e.1 a b n m k (holds.out.told.took (all_read at_end.connections r) before after e h)

  pub sent_on : AreReadBack at_end.connections → (i j : ℕ) (c : Conn) (x : Wrote) (n : ℕ) (m : SysMsg) (from : UniqueAddress) → slice_get at_end.connections i ≡ Some c → slice_get c.way.all j ≡ Some x
      → x.writing ≡ Controls (controls.Numbered n m from) → IsSentOn c.far from n m (lines_in at_end.outcomes)
  sent_on r i j c x n m from e f k =
      let own : IsOwn at_end.outcomes c.far x.writing = each_get (λ (y : Wrote). IsOwn at_end.outcomes c.far y.writing) c.way.all j x
      (each_get (λ (d : Conn). Each (λ (y : Wrote). IsOwn at_end.outcomes d.far y.writing) d.way.all) at_end.connections i c (holds.out.told.own (all_read at_end.connections r)) e) f in
      let t : IsOwn at_end.outcomes c.far (Controls (controls.Numbered n m from)) = subst (λ (y : Writing). IsOwn at_end.outcomes c.far y) k own in
      record { to = t.0; reaches = t.1; sent = record { place = t.3.place; there = t.3.here } }
