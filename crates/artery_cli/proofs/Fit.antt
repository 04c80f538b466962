-- The events of a script that was read, and of one that was generated, are fit for a network.
use Rattle.std.proofs.Common.{◌≡◌, ℕ, zero, suc, ◌+◌, ◌<◌, ◌≤◌, Bool, true, false, cond, List, [], ◌∷◌, ◌++◌, length, get_or, refl, sym, ◌∙◌, ap, subst, arith}
use Rattle.std.specs.Prelude.{Ok, nat_lt, ◌==◌}
use Rattle.std.proofs.lemmas.List.Elements.{All-nil}
use Rattle.artery_script.specs.declared.event.Event.{Event}
use Rattle.artery_script.specs.declared.event.Event.TheVariants as events
use Rattle.artery_script.specs.declared.script.ScriptLine.{ScriptLine}
use Rattle.artery_script.specs.Scripts.{script_of}
use Rattle.artery_script.specs.Valid.{IsEvent}
use Rattle.artery_generator.specs.declared.live.Live.{Live}
use Rattle.artery_generator.specs.declared.turn.Turn.{Turn}
use Rattle.artery_generator.specs.Events.{events_of_turn, first_events, last_round, sends, tells, watches, ticks, breaks, passes, stops_and_starts, actor}
use Rattle.artery_generator.specs.Places.{first_live}
use Rattle.artery_generator.specs.Turns.{live_after_turns, restarts, turn_behind}
use Rattle.artery_generator.specs.Scripts.{turns_up_to, last_up_to, events_of_script, numbered_from, script_of as generated}
use Rattle.artery_world.specs.Running.{IsFitEvent}
use Rattle.artery_cli.specs.Playing.{AreFit}
use Rattle.artery_cli.proofs.Read.{Spelled, Each, EachIfRead, read_each}

-- ---- lists of fit events

abbrev Fits : List Event → Type 0
Fits [] = Unit {0}
Fits (e ∷ es) = IsFitEvent e × Fits es

fits_both : (xs ys : List Event) → Fits xs → Fits ys → Fits (xs ++ ys)
fits_both [] ys h k = k
fits_both (x ∷ xs) ys h k = (h.0, fits_both xs ys h.1 k)

abbrev FitLines : List ScriptLine → Type 0
FitLines script = Each IsFitEvent script

fit_behind : (l : ScriptLine) (ls : List ScriptLine) → IsFitEvent l.event → AreFit ls → AreFit (l ∷ ls)
fit_behind l ls first rest = λ k d inside. by k d inside
  where
    by : (k : ℕ) (d : ScriptLine) → k < length (l ∷ ls) → IsFitEvent (get_or (l ∷ ls) k d).event
    by zero d inside = first
    by (suc k) d inside = rest k d (omega (arith, inside))

are_fit : (script : List ScriptLine) → FitLines script → AreFit script
are_fit [] h = All-nil (λ (l : ScriptLine). IsFitEvent l.event)
are_fit (l ∷ ls) h = fit_behind l ls h.0 (are_fit ls h.1)

-- the line at a place is fit
pub line_fits : (script : List ScriptLine) (items : List ScriptLine) (i : ℕ) (x : ScriptLine) → AreFit script → items ≡ script → i < length items → x ≡ get_or items i x → IsFitEvent x.event
line_fits script items i x h same inside e =
    subst (λ (l : ScriptLine). IsFitEvent l.event) (sym (e ∙ ap (λ (ls : List ScriptLine). get_or ls i x) same))
    (h i x (subst (λ (ls : List ScriptLine). i < length ls) same inside))

-- ---- a script that was read

event_fits : (e : Event) → IsEvent e → IsFitEvent e
event_fits (events.Start unique) h = tt
event_fits (events.Stop uid) h = tt
event_fits (events.At uid request) h = tt
event_fits (events.Tick uid moment) h = h.1
event_fits (events.Answer uid dial) h = tt
event_fits (events.Fail uid dial) h = tt
event_fits (events.Carry uid dial count) h = tt
event_fits (events.Cut uid dial) h = tt
event_fits (events.End uid dial) h = tt
event_fits (events.CutAll uid) h = tt
event_fits (events.EndAll uid) h = tt
event_fits (events.Pass rounds) h = tt

-- a script that a text tells
pub script_is_fit : Spelled → (text : List ℕ) (script : List ScriptLine) → script_of text ≡ Ok script → AreFit script
script_is_fit law text script e = are_fit script (subst (EachIfRead IsFitEvent) e (read_each IsFitEvent (λ t x h. event_fits x (law t x h).0) text))

-- ---- a script that was generated

ticks_fit : (k : ℕ) (live : Live) → k ≤ 20000 → Fits (ticks k live)
ticks_fit k live h = (omega (arith, h), (omega (arith, h), (omega (arith, h), tt)))

turn_fits : (t : Turn) → t.number ≤ 20000 → Fits (events_of_turn t)
turn_fits t h = by (nat_lt t.deed 3) (nat_lt t.deed 5) (t.deed == 5) (t.deed == 6) (t.deed == 7) (t.deed == 8) (restarts t)
  where
    by : (a b c d e f g : Bool) → Fits (cond a (sends t ∷ []) (cond b (tells t ∷ []) (cond c (passes 3 ∷ []) (cond d (watches t ∷ []) (cond e (ticks t.number t.live) (cond f (breaks (actor t)) (cond g (stops_and_starts t) (passes 1 ∷ []))))))))
    by true b c d e f g = (tt, tt)
    by false true c d e f g = (tt, tt)
    by false false true d e f g = (tt, tt)
    by false false false true e f g = (tt, tt)
    by false false false false true f g = ticks_fit t.number t.live h
    by false false false false false true g = (tt, (tt, tt))
    by false false false false false false true = (tt, (tt, (tt, (tt, (tt, (tt, (tt, (tt, tt))))))))
    by false false false false false false false = (tt, tt)

turns_fit : (n k : ℕ) → k ≤ 10000 → Fits (turns_up_to n k)
turns_fit n zero h = tt
turns_fit n (suc k) h = fits_both (turns_up_to n k) (events_of_turn (turn_behind n k (live_after_turns n k))) (turns_fit n k (omega (arith, h))) (turn_fits (turn_behind n k (live_after_turns n k)) (omega (arith, h)))

last_fit : (n : ℕ) (live : Live) (t : ℕ) → n ≤ 10000 → t ≤ 3 → Fits (last_up_to n live t)
last_fit n live zero h k = tt
last_fit n live (suc t) h k =
    fits_both (last_up_to n live t) (last_round (n + t + 1) live) (last_fit n live t h (omega (arith, k)))
    (fits_both (ticks (n + t + 1) live) (passes 9 ∷ []) (ticks_fit (n + t + 1) live (omega (arith, h, k))) (tt, tt))

numbered_fit : (line : ℕ) (es : List Event) → Fits es → FitLines (numbered_from line es)
numbered_fit line [] h = tt
numbered_fit line (e ∷ es) h = (h.0, numbered_fit (line + 1) es h.1)

-- the script with this number
pub generated_is_fit : (n : ℕ) (script : List ScriptLine) → n ≤ 10000 → script ≡ generated n → AreFit script
generated_is_fit n script h e = subst AreFit (sym e) (are_fit (generated n) (numbered_fit 1 (events_of_script n)
    (fits_both (first_events first_live ++ turns_up_to n n) (last_up_to n (live_after_turns n n) 3)
    (fits_both (first_events first_live) (turns_up_to n n) (tt, (tt, (tt, (tt, (tt, (tt, tt)))))) (turns_fit n n h))
    (last_fit n (live_after_turns n n) 3 h (omega arith)))))
