-- What an event does is the same whatever came before it; a script that is played line by line.
use Rattle.std.proofs.Common.{◌≡◌, ℕ, suc, ◌+◌, ◌<◌, length, get_or, add-one, drop-cons, List, [], ◌∷◌, ◌++◌, drop, refl, sym, ◌∙◌, ap, subst, append-nil}
use Rattle.std.specs.Prelude.{Option, None, Some, Result}
use Rattle.std.specs.Option.{option_map}
use Rattle.std.specs.Io.KnownBytes.{Appends}
use Rattle.std.proofs.lemmas.List.Concat.{flat_map-append}
use Rattle.artery_base.specs.Words.{IsPrefix}
use Rattle.artery_io.specs.Written.{TakesFront}
use Rattle.artery_script.specs.declared.event.Event.{Event}
use Rattle.artery_script.specs.declared.script.ScriptLine.{ScriptLine}
use Rattle.artery_machine.specs.declared.world.Outcome.{Outcome}
use Rattle.artery_machine.specs.declared.world.Why.{Why}
use Rattle.artery_machine.specs.declared.world.WorldLimit.{WorldLimit}
use Rattle.artery_machine.specs.declared.world.WorldFault.{WorldFault}
use Rattle.artery_machine.specs.declared.world.WorldFault.TheVariants as faults
use Rattle.artery_machine.specs.Parts.{kept}
use Rattle.artery_machine.specs.Ways.{kept_ways}
use Rattle.artery_machine.specs.World.{World, nothing, refusal, applies}
use Rattle.artery_machine.specs.Playing.{Run, fault_before, first_fault, fault_of, goes_on, plays}
use Rattle.artery_laws.specs.Network.{with_outcomes_before, run_with_outcomes_before}
use Rattle.artery_world.specs.Running.{Running, running, HasCome, Comes}
use Rattle.artery_replay.specs.declared.form.Form.{Form}
use Rattle.artery_replay.specs.Texts.{outcome_text, outcomes_text}
use Rattle.artery_cli.specs.declared.stop.Stop.{Stop}
use Rattle.artery_cli.specs.declared.stop.Stop.TheVariants as stops
use Rattle.artery_cli.specs.Leaving.{WritingStops}
use Rattle.artery_cli.specs.Playing.{kept_run, answered, PlaysOne, StopsOne, PlaysAll, StopsAll}
use Rattle.artery_cli.proofs.Sinks.{appends_nothing, appends_more, appends_kept, takes_more}

abbrev Kept : Type 0
Kept = World kept kept_ways

-- ---- one event

-- the answer to an event whose fault this is
pub has_come : (fault : Option WorldFault) (event : Event) (old new : Running) (before after : List Outcome) → (fault ≡ Some faults.NoMemory → ⊥) → Comes (answered fault) event old new before after
    → HasCome fault event old new before after
has_come None event old new before after n h = h
has_come (Some (faults.NotAllowed reason)) event old new before after n h = h
has_come (Some (faults.Limit which)) event old new before after n h = h
has_come (Some faults.NoMemory) event old new before after n h = absurd (n refl)

pub came : (answer : Result (Unit {0}) WorldFault) (fault : Option WorldFault) (event : Event) (old new : Running) (before after : List Outcome) → answer ≡ answered fault → (fault ≡ Some faults.NoMemory → ⊥)
    → Comes answer event old new before after → HasCome fault event old new before after
came answer fault event old new before after e n h = has_come fault event old new before after n (subst (λ a. Comes a event old new before after) e h)

pub told_alone : (fault : Option WorldFault) (event : Event) (old new : Running) (before after : List Outcome) → before ≡ [] → HasCome fault event old new before after → after ≡ (applies event old.world).outcomes
told_alone fault event old new before after e h = h.told ∙ ap (λ (b : List Outcome). b ++ (applies event old.world).outcomes) e

-- an event came, and what came of it was written
pub plays_one : (form : Form) (answer : Result (Unit {0}) WorldFault) (fault : Option WorldFault) (event : Event) (old new : Running) (before after : List Outcome) (held held' : Option (List ℕ))
    → answer ≡ answered fault → (fault ≡ Some faults.NoMemory → ⊥) → Comes answer event old new before after → before ≡ [] → Appends held held' (outcomes_text form after) → PlaysOne form event fault old new held held'
plays_one form answer fault event old new before after held held' e n h b w =
    let c = came answer fault event old new before after e n h in
    record {
      is_fault = c.is_fault;
      network = c.network;
      written = subst (λ o. Appends held held' (outcomes_text form o)) (told_alone fault event old new before after b c) w;
    }

-- an event came, but what came of it could not be written
pub stops_one : (form : Form) (answer : Result (Unit {0}) WorldFault) (fault : Option WorldFault) (stop : Stop) (event : Event) (old new : Running) (before after : List Outcome) (held held' : Option (List ℕ))
    → answer ≡ answered fault → (fault ≡ Some faults.NoMemory → ⊥) → Comes answer event old new before after → before ≡ [] → WritingStops stop (outcomes_text form after) held held' → StopsOne stop form event old held held'
stops_one form answer fault stops.Read event old new before after held held' e n h b w = w
stops_one form answer fault stops.NoMemory event old new before after held held' e n h b w = w
stops_one form answer fault stops.Write event old new before after held held' e n h b w =
    subst (λ o. TakesFront held held' (outcomes_text form o)) (told_alone fault event old new before after b (came answer fault event old new before after e n h)) w

-- ---- a network that has come somewhere

-- the network without what came of it
abbrev bare : Kept → Kept
bare w = record w { outcomes = [] }

same_world : (w : Kept) → with_outcomes_before w.outcomes (bare w) ≡ w
same_world w = ap (λ (o : List Outcome). (let x : Kept = record w { outcomes = o } in x)) (append-nil w.outcomes)

-- what came of a network before does not matter: the law of events, of refusals and of scripts
pub record GoesOn : Type 0 where
  pub event : (before : List Outcome) (event : Event) (w : Kept) → applies event (with_outcomes_before before w) ≡ with_outcomes_before before (applies event w)
  pub refusal : (before : List Outcome) (event : Event) (w : Kept) → refusal event (with_outcomes_before before w) ≡ refusal event w
  pub script : (before : List Outcome) (script : List ScriptLine) (w : Kept) → plays script (with_outcomes_before before w) ≡ run_with_outcomes_before before (plays script w)

applies_on : GoesOn → (event : Event) (w : Kept) → applies event w ≡ with_outcomes_before w.outcomes (applies event (bare w))
applies_on law event w = ap (applies event) (sym (same_world w)) ∙ law.event w.outcomes event (bare w)

fault_on : GoesOn → (event : Event) (w : Kept) → fault_of event w ≡ fault_of event (bare w)
fault_on law event w =
    let refused : refusal event w ≡ refusal event (bare w) = ap (refusal event) (sym (same_world w)) ∙ law.refusal w.outcomes event (bare w) in
    let ended : (applies event w).ended ≡ (applies event (bare w)).ended = ap (λ (x : Kept). x.ended) (applies_on law event w) in
    ap (λ (r : Option Why). first_fault (fault_before w.ended r) (option_map faults.Limit (applies event w).ended)) refused
    ∙ ap (λ (l : Option WorldLimit). first_fault (fault_before w.ended (refusal event (bare w))) (option_map faults.Limit l)) ended

plays_on : GoesOn → (script : List ScriptLine) (w : Kept) → plays script w ≡ run_with_outcomes_before w.outcomes (plays script (bare w))
plays_on law script w = ap (plays script) (sym (same_world w)) ∙ law.script w.outcomes script (bare w)

-- a part of a script was played: the rest, played on this network, leads where the whole script does; and the network that is kept is it, without what came of it
pub record CameTo (all rest : List ScriptLine) (now : Running) : Type 0 where
  pub w : Kept
  pub is_now : now ≡ running w
  pub left : plays rest w ≡ kept_run all

abbrev pub comes_first : (all : List ScriptLine) (now : Running) → now ≡ running nothing → CameTo all all now
comes_first all now h = record { w = nothing; is_now = h; left = refl }

now_is : (all rest : List ScriptLine) (now : Running) → (c : CameTo all rest now) → now.world ≡ bare c.w
now_is all rest now c = ap (λ (r : Running). r.world) c.is_now

-- the network behind the next event
abbrev after_next : (all rest : List ScriptLine) (now : Running) (event : Event) → CameTo all rest now → Kept
after_next all rest now event c = applies event c.w

applied : GoesOn → (all rest : List ScriptLine) (now : Running) (event : Event) → (c : CameTo all rest now) → applies event c.w ≡ with_outcomes_before c.w.outcomes (applies event now.world)
applied law all rest now event c = applies_on law event c.w ∙ ap (λ (x : Kept). with_outcomes_before c.w.outcomes (applies event x)) (sym (now_is all rest now c))

pub runs : GoesOn → (all rest : List ScriptLine) (now now' : Running) (event : Event) → (c : CameTo all rest now) → now' ≡ running (applies event now.world) → now' ≡ running (applies event c.w)
runs law all rest now now' event c h = h ∙ ap (λ (x : Kept). running x) (sym (applied law all rest now event c))

fault_now : GoesOn → (all rest : List ScriptLine) (now : Running) (event : Event) (fault : Option WorldFault) → (c : CameTo all rest now) → fault ≡ fault_of event now.world → fault_of event c.w ≡ fault
fault_now law all rest now event fault c h = fault_on law event c.w ∙ ap (fault_of event) (sym (now_is all rest now c)) ∙ sym h

-- the next event came
pub next_left : GoesOn → (all rest more : List ScriptLine) (l : ScriptLine) (now : Running) (fault : Option WorldFault) → (c : CameTo all rest now) → rest ≡ l ∷ more → fault ≡ fault_of l.event now.world
    → goes_on l.line (applies l.event c.w) fault (plays more (applies l.event c.w)) ≡ kept_run all
next_left law all rest more l now fault c r f =
    ap (λ (x : Option WorldFault). goes_on l.line (applies l.event c.w) x (plays more (applies l.event c.w))) (sym (fault_now law all rest now l.event fault c f))
    ∙ ap (λ (ls : List ScriptLine). plays ls c.w) (sym r)
    ∙ c.left

abbrev pub comes_next : GoesOn → (all rest more : List ScriptLine) (l : ScriptLine) (now now' : Running) → CameTo all rest now → rest ≡ l ∷ more → None ≡ fault_of l.event now.world → now' ≡ running (applies l.event now.world)
    → CameTo all more now'
comes_next law all rest more l now now' c r f n = record {
  w = applies l.event c.w;
  is_now = runs law all rest now now' l.event c n;
  left = next_left law all rest more l now None c r f;
}

pub outcomes_next : GoesOn → (all rest : List ScriptLine) (event : Event) (now : Running) → (c : CameTo all rest now) → (applies event c.w).outcomes ≡ c.w.outcomes ++ (applies event now.world).outcomes
outcomes_next law all rest event now c = ap (λ (x : Kept). x.outcomes) (applied law all rest now event c)

pub run_ended : (all rest : List ScriptLine) (now : Running) → (c : CameTo all rest now) → rest ≡ [] → record { world = c.w; stop = None } ≡ kept_run all
run_ended all rest now c r = ap (λ (ls : List ScriptLine). plays ls c.w) (sym r) ∙ c.left

pub run_stopped : GoesOn → (all rest more : List ScriptLine) (l : ScriptLine) (now : Running) (fault : WorldFault) → (c : CameTo all rest now) → rest ≡ l ∷ more → Some fault ≡ fault_of l.event now.world
    → record { world = applies l.event c.w; stop = Some (record { line = l.line; fault = fault }) } ≡ kept_run all
run_stopped law all rest more l now fault c r f = next_left law all rest more l now (Some fault) c r f

-- what came so far is a front of what comes of the whole script
pub so_far_is_front : GoesOn → (all rest : List ScriptLine) (now : Running) → (c : CameTo all rest now) → IsPrefix c.w.outcomes (kept_run all).world.outcomes
so_far_is_front law all rest now c = ((plays rest (bare c.w)).world.outcomes, ap (λ (r : Run kept kept_ways). r.world.outcomes) (sym (plays_on law rest c.w) ∙ c.left))

-- what came so far and of the next event too
with_next_is_front : GoesOn → (all rest more : List ScriptLine) (l : ScriptLine) (now : Running) (fault : Option WorldFault) → (c : CameTo all rest now) → rest ≡ l ∷ more → fault_of l.event now.world ≡ fault
    → IsPrefix (applies l.event c.w).outcomes (kept_run all).world.outcomes
with_next_is_front law all rest more l now None c r f =
    so_far_is_front law all more (running (applies l.event now.world)) (comes_next law all rest more l now (running (applies l.event now.world)) c r (sym f) refl)
with_next_is_front law all rest more l now (Some fault) c r f =
    ([], append-nil (applies l.event c.w).outcomes ∙ ap (λ (x : Run kept kept_ways). x.world.outcomes) (run_stopped law all rest more l now fault c r (sym f)))

-- ---- a script that is played and written

texts_append : (form : Form) (xs ys : List Outcome) → outcomes_text form (xs ++ ys) ≡ outcomes_text form xs ++ outcomes_text form ys
texts_append form xs ys = flat_map-append (outcome_text form) xs ys

-- so far a script was played, and what came of it was written
pub record PlayedSoFar (form : Form) (all rest : List ScriptLine) (now : Running) (old new : Option (List ℕ)) : Type 0 where
  pub came : CameTo all rest now
  pub written : Appends old new (outcomes_text form came.w.outcomes)

pub plays_first : (form : Form) (all : List ScriptLine) (now : Running) (held : Option (List ℕ)) → now ≡ running nothing → PlayedSoFar form all all now held held
plays_first form all now held h = record { came = comes_first all now h; written = appends_nothing held }

next_written : GoesOn → (form : Form) (all rest : List ScriptLine) (event : Event) (now : Running) (old mid new : Option (List ℕ)) → (p : PlayedSoFar form all rest now old mid) → Appends mid new (outcomes_text form (applies event now.world).outcomes)
    → Appends old new (outcomes_text form (applies event p.came.w).outcomes)
next_written law form all rest event now old mid new p h =
    subst (Appends old new)
    (sym (ap (outcomes_text form) (outcomes_next law all rest event now p.came) ∙ texts_append form p.came.w.outcomes (applies event now.world).outcomes))
    (appends_more old mid new _ _ p.written h)

pub plays_next : GoesOn → (form : Form) (all rest more : List ScriptLine) (l : ScriptLine) (now now' : Running) (old mid new : Option (List ℕ)) → PlayedSoFar form all rest now old mid → rest ≡ l ∷ more
    → PlaysOne form l.event None now now' mid new → PlayedSoFar form all more now' old new
plays_next law form all rest more l now now' old mid new p r h = record {
  came = comes_next law all rest more l now now' p.came r h.is_fault h.network;
  written = next_written law form all rest l.event now old mid new p h.written;
}

pub plays_end : (form : Form) (all rest : List ScriptLine) (now : Running) (old new : Option (List ℕ)) → PlayedSoFar form all rest now old new → rest ≡ [] → PlaysAll form all None now old new
plays_end form all rest now old new p r =
    let e = run_ended all rest now p.came r in
    record {
      is_stop = ap (λ (x : Run kept kept_ways). x.stop) e;
      network = p.came.is_now ∙ ap (λ (x : Run kept kept_ways). running x.world) e;
      written = subst (λ (x : Run kept kept_ways). Appends old new (outcomes_text form x.world.outcomes)) e p.written;
    }

pub plays_stop : GoesOn → (form : Form) (all rest more : List ScriptLine) (l : ScriptLine) (now now' : Running) (old mid new : Option (List ℕ)) (fault : WorldFault) → PlayedSoFar form all rest now old mid → rest ≡ l ∷ more
    → PlaysOne form l.event (Some fault) now now' mid new → PlaysAll form all (Some (l.line, fault)) now' old new
plays_stop law form all rest more l now now' old mid new fault p r h =
    let e = run_stopped law all rest more l now fault p.came r h.is_fault in
    record {
      is_stop = ap (λ (x : Run kept kept_ways). x.stop) e;
      network = runs law all rest now now' l.event p.came h.network ∙ ap (λ (x : Run kept kept_ways). running x.world) e;
      written = subst (λ (x : Run kept kept_ways). Appends old new (outcomes_text form x.world.outcomes)) e (next_written law form all rest l.event now old mid new p h.written);
    }

-- memory ran out before the next event came
pub plays_no_further : GoesOn → (form : Form) (all rest : List ScriptLine) (now : Running) (old mid : Option (List ℕ)) → PlayedSoFar form all rest now old mid → StopsAll stops.NoMemory form all old mid
plays_no_further law form all rest now old mid p = record {
  outcomes = p.came.w.outcomes;
  first = so_far_is_front law all rest now p.came;
  written = p.written;
}

-- playing stopped at the next event
pub plays_stopped : GoesOn → (form : Form) (all rest more : List ScriptLine) (l : ScriptLine) (now : Running) (old mid new : Option (List ℕ)) (stop : Stop) → PlayedSoFar form all rest now old mid → rest ≡ l ∷ more
    → StopsOne stop form l.event now mid new → StopsAll stop form all old new
plays_stopped law form all rest more l now old mid new stops.Read p r h = h
plays_stopped law form all rest more l now old mid new stops.NoMemory p r h = record {
  outcomes = p.came.w.outcomes;
  first = so_far_is_front law all rest now p.came;
  written = appends_kept old mid new _ p.written h;
}
plays_stopped law form all rest more l now old mid new stops.Write p r h = record {
  outcomes = (applies l.event p.came.w).outcomes;
  first = with_next_is_front law all rest more l now (fault_of l.event now.world) p.came r refl;
  taken = subst (TakesFront old new)
      (sym (ap (outcomes_text form) (outcomes_next law all rest l.event now p.came) ∙ texts_append form p.came.w.outcomes (applies l.event now.world).outcomes))
      (takes_more old mid new _ _ p.written h);
}

-- the line at a place begins what is left
pub line_is_first : (items all : List ScriptLine) (i : ℕ) (x : ScriptLine) → items ≡ all → i < length items → x ≡ get_or items i x → drop i all ≡ x ∷ drop (i + 1) all
line_is_first items all i x same h e =
    ap (drop i) (sym same)
    ∙ (let cut : drop i items ≡ get_or items i x ∷ drop (suc i) items = drop-cons items i x h in cut)
    ∙ ap (λ y. y ∷ drop (suc i) items) (sym e)
    ∙ ap (λ (n : ℕ). x ∷ drop n items) (sym (add-one i))
    ∙ ap (λ ls. x ∷ drop (i + 1) ls) same
