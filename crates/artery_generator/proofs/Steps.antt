-- One step more.
use Rattle.std.proofs.Common.{◌≡◌, ℕ, ◌+◌, List, ◌++◌, sym, ap, ◌∙◌, append_assoc, add-one}
use Rattle.artery_script.specs.declared.event.Event.{Event}
use Rattle.artery_generator.specs.declared.live.Live.{Live}
use Rattle.artery_generator.specs.declared.turn.Turn.{Turn}
use Rattle.artery_generator.specs.Turns.{drawn, next_drawn, turn_of, turn_behind, live_after, live_after_turns}
use Rattle.artery_generator.specs.Events.{events_of_turn, last_round}
use Rattle.artery_generator.specs.Scripts.{turns_up_to, last_up_to}

drawn_next : (n k : ℕ) → drawn n (k + 1) ≡ next_drawn (drawn n k)
drawn_next n k = ap (λ (m : ℕ). drawn n m) (add-one k)

live_next : (n k : ℕ) → live_after_turns n (k + 1) ≡ live_after (turn_behind n k (live_after_turns n k))
live_next n k = ap (λ (m : ℕ). live_after_turns n m) (add-one k)

turns_next : (n k : ℕ) → turns_up_to n (k + 1) ≡ turns_up_to n k ++ events_of_turn (turn_behind n k (live_after_turns n k))
turns_next n k = ap (λ (m : ℕ). turns_up_to n m) (add-one k)

pub last_next : (n : ℕ) (live : Live) (t : ℕ) → last_up_to n live (t + 1) ≡ last_up_to n live t ++ last_round (n + t + 1) live
last_next n live t = ap (λ (m : ℕ). last_up_to n live m) (add-one t)

-- the next step, when these numbers and UIDs are those of the script
turn_is : (n k x : ℕ) (l : Live) → x ≡ drawn n k → l ≡ live_after_turns n k → turn_of (k + 1) (next_drawn x) l ≡ turn_behind n k (live_after_turns n k)
turn_is n k x l e h =
    ap (λ (y : ℕ). turn_of (k + 1) (next_drawn y) l) e
    ∙ ap (λ (y : ℕ). turn_of (k + 1) y l) (sym (drawn_next n k))
    ∙ ap (λ (m : Live). turn_of (k + 1) (drawn n (k + 1)) m) h

pub drawn_on : (n k x new : ℕ) → x ≡ drawn n k → new ≡ next_drawn x → new ≡ drawn n (k + 1)
drawn_on n k x new e is = is ∙ ap (λ (y : ℕ). next_drawn y) e ∙ sym (drawn_next n k)

pub live_on : (n k x : ℕ) (l new : Live) → x ≡ drawn n k → l ≡ live_after_turns n k → new ≡ live_after (turn_of (k + 1) (next_drawn x) l)
    → new ≡ live_after_turns n (k + 1)
live_on n k x l new e h is = is ∙ ap (λ (t : Turn). live_after t) (turn_is n k x l e h) ∙ sym (live_next n k)

pub events_on : (n k x : ℕ) (l : Live) (first out new : List Event) → x ≡ drawn n k → l ≡ live_after_turns n k → out ≡ first ++ turns_up_to n k
    → new ≡ out ++ events_of_turn (turn_of (k + 1) (next_drawn x) l) → new ≡ first ++ turns_up_to n (k + 1)
events_on n k x l first out new e h so_far is =
    let t : Turn = turn_behind n k (live_after_turns n k) in
    is ∙ ap (λ (u : Turn). out ++ events_of_turn u) (turn_is n k x l e h)
    ∙ ap (λ (o : List Event). o ++ events_of_turn t) so_far
    ∙ append_assoc first (turns_up_to n k) (events_of_turn t)
    ∙ ap (λ (es : List Event). first ++ es) (sym (turns_next n k))
