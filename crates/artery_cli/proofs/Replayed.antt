-- What is told of a script that is played, or of a part of it.
use Rattle.std.proofs.Common.{◌≡◌, ◌⊎◌, ℕ, ◌+◌, ◌≤◌, zero, suc, add-one, Bool, cond, List, [], ◌∷◌, ◌++◌, length, map, drop, refl, sym, ◌∙◌, ap, subst, append-nil, append_assoc, inl, inr}
use Rattle.std.specs.Prelude.{Option, None, Some, Result, Ok, slice_get}
use Rattle.std.specs.Option.{option_map}
use Rattle.std.specs.Result.{result_ok}
use Rattle.std.specs.Io.KnownBytes.{Appends}
use Rattle.std.specs.List.{flat_map}
use Rattle.artery_base.specs.Words.{IsPrefix}
use Rattle.artery_script.specs.declared.script.ScriptLine.{ScriptLine}
use Rattle.artery_script.specs.declared.script.ScriptFault.{ScriptFault}
use Rattle.artery_script.specs.Scripts.{script_of}
use Rattle.artery_machine.specs.declared.world.Outcome.{Outcome}
use Rattle.artery_machine.specs.declared.world.WorldFault.{WorldFault}
use Rattle.artery_machine.specs.Parts.{Parts, kept, whole}
use Rattle.artery_machine.specs.Ways.{Ways, kept_ways, whole_ways}
use Rattle.artery_machine.specs.Connections.{Connection}
use Rattle.artery_machine.specs.Playing.{Run, Stop as RunStop}
use Rattle.artery_laws.specs.Network.{Counted, counts_of, IsSameRun}
use Rattle.artery_connections.specs.declared.connection.Counts.{Counts}
use Rattle.artery_connections.specs.Change.{counts_of as kept_counts_of}
use Rattle.artery_world.specs.Running.{Running}
use Rattle.artery_replay.specs.declared.form.Form.{Form}
use Rattle.artery_replay.specs.Texts.{front_text, outcomes_text, stop_text}
use Rattle.artery_replay.specs.Replay.{count_line, counted_text, counts_text, end_text, run_text, run_status}
use Rattle.artery_cli.specs.declared.command.Command.TheVariants.{Whole}
use Rattle.artery_cli.specs.declared.command.Task.TheVariants.{Replay}
use Rattle.artery_cli.specs.declared.stop.Stop.{Stop}
use Rattle.artery_cli.specs.declared.stop.Stop.TheVariants as stops
use Rattle.artery_cli.specs.Limits.{most_bytes}
use Rattle.artery_cli.specs.Answers.{Answers, refusal_answer, run_answer, script_answer, task_answer, whole_run}
use Rattle.artery_cli.specs.declared.refusal.Refusal.TheVariants.{TooManyBytes}
use Rattle.artery_cli.specs.Leaving.{IsPlayedPart, IsScriptPart, IsTaskPart, IsLeft, script_in, Leaves, WritingStops}
use Rattle.artery_cli.specs.Playing.{kept_run, stop_of, ended_text, PlaysAll, StopsAll, StopsTold}
use Rattle.artery_cli.proofs.Sinks.{appends_nothing, appends_more, appends_kept, kept_appends, takes_more}
use Rattle.artery_cli.proofs.Stopping.{short_test}

-- ---- counts

counted_next : (all : List (Connection kept_ways)) (place : ℕ) (counts : Counts) → Some counts ≡ option_map kept_counts_of (slice_get all place)
    → counts_text (drop place all) ≡ count_line counts.uid counts.dial counts.written counts.delivered ++ counts_text (drop (suc place) all)
counted_next [] place counts h = absurd cc
counted_next (c ∷ cs) zero counts h =
    let same : counts ≡ kept_counts_of c = cc in
    ap (λ (x : Counts). count_line x.uid x.dial x.written x.delivered ++ counts_text cs) (sym same)
counted_next (c ∷ cs) (suc place) counts h = counted_next cs place counts h

-- the line of the connection at a place stands before those of the later ones
pub one_counted : (all : List (Connection kept_ways)) (place : ℕ) (counts : Counts) (before text : List ℕ) → Some counts ≡ option_map kept_counts_of (slice_get all place)
    → text ≡ before ++ count_line counts.uid counts.dial counts.written counts.delivered → before ++ counts_text (drop place all) ≡ counts_text all → text ++ counts_text (drop (place + 1) all) ≡ counts_text all
one_counted all place counts before text h e so_far =
    ap (λ (front : List ℕ). front ++ counts_text (drop (place + 1) all)) e
    ∙ append_assoc before (count_line counts.uid counts.dial counts.written counts.delivered) (counts_text (drop (place + 1) all))
    ∙ ap (λ (n : ℕ). before ++ (count_line counts.uid counts.dial counts.written counts.delivered ++ counts_text (drop n all))) (add-one place)
    ∙ ap (λ (rest : List ℕ). before ++ rest) (sym (counted_next all place counts h))
    ∙ so_far

none_left : (all : List (Connection kept_ways)) (place : ℕ) → None ≡ option_map kept_counts_of (slice_get all place) → counts_text (drop place all) ≡ []
none_left [] zero h = refl
none_left [] (suc place) h = refl
none_left (c ∷ cs) zero h = absurd cc
none_left (c ∷ cs) (suc place) h = none_left cs place h

-- no connection is left
pub all_are_counted : (all : List (Connection kept_ways)) (place : ℕ) (text : List ℕ) → None ≡ option_map kept_counts_of (slice_get all place) → text ++ counts_text (drop place all) ≡ counts_text all → text ≡ counts_text all
all_are_counted all place text h so_far = sym (append-nil text) ∙ ap (λ (rest : List ℕ). text ++ rest) (sym (none_left all place h)) ∙ so_far

-- ---- the run over whole histories

-- what stands behind the outcomes, by the counts of connections
abbrev end_by : List Counted → Option RunStop → List ℕ
end_by counts None = flat_map counted_text counts
end_by counts (Some stop) = stop_text stop.line stop.fault

end_is : {P : Parts} {W : Ways} (r : Run P W) (stop : Option RunStop) → end_text r stop ≡ end_by (map counts_of r.world.connections) stop
end_is r None = refl
end_is r (Some stop) = refl

ended_is : {W : Ways} (connections : List (Connection W)) (stop : Option RunStop) → ended_text connections stop ≡ end_by (map counts_of connections) stop
ended_is connections None = refl
ended_is connections (Some stop) = refl

-- what is told of the run over what is kept is what is told of that over whole histories
told_whole : (form : Form) (k : Run kept kept_ways) (w : Run whole whole_ways) → IsSameRun k w
    → (front_text form ++ outcomes_text form k.world.outcomes) ++ ended_text k.world.connections k.stop ≡ run_text form w
told_whole form k w s =
    ap (λ (e : List ℕ). front_text form ++ outcomes_text form k.world.outcomes ++ e) (ended_is k.world.connections k.stop)
    ∙ ap (λ (o : List Outcome). front_text form ++ outcomes_text form o ++ end_by (map counts_of k.world.connections) k.stop) s.outcomes
    ∙ ap (λ (c : List Counted). front_text form ++ outcomes_text form w.world.outcomes ++ end_by c k.stop) s.counts
    ∙ ap (λ (x : Option RunStop). front_text form ++ outcomes_text form w.world.outcomes ++ end_by (map counts_of w.world.connections) x) s.stop
    ∙ ap (λ (e : List ℕ). front_text form ++ outcomes_text form w.world.outcomes ++ e) (sym (end_is w w.stop))

abbrev Same : Type 0
Same = (script : List ScriptLine) → IsSameRun (kept_run script) (whole_run script)

-- ---- parts of what is told

-- the front and the texts of first outcomes
front_with : Same → (form : Form) (script : List ScriptLine) (outcomes : List Outcome) → IsPrefix outcomes (kept_run script).world.outcomes → IsPlayedPart form script (front_text form ++ outcomes_text form outcomes)
front_with law form script outcomes first = inr (record {
  outcomes = outcomes;
  first = subst (λ (all : List Outcome). IsPrefix outcomes all) (law script).outcomes first;
  is = refl;
})

-- the front alone
front_alone : (form : Form) (script : List ScriptLine) → IsPlayedPart form script (front_text form)
front_alone form script = inr (record { outcomes = []; first = ((whole_run script).world.outcomes, refl); is = sym (append-nil (front_text form)) })

-- memory ran out before anything was written
pub nothing_made : (form : Form) (script : List ScriptLine) (held : Option (List ℕ)) → StopsTold stops.NoMemory form script held held
nothing_made form script held = record { part = []; is_part = inl refl; written = appends_nothing held }

-- the front could not be written
pub front_stops : (form : Form) (script : List ScriptLine) (stop : Stop) (front : List ℕ) (old new : Option (List ℕ)) → front ≡ front_text form → WritingStops stop front old new → StopsTold stop form script old new
front_stops form script stops.Read front old new e h = h
front_stops form script stops.Write front old new e h = record { told = front; is_told = inr (subst (IsPlayedPart form script) (sym e) (front_alone form script)); taken = h }
front_stops form script stops.NoMemory front old new e h = record { part = []; is_part = inl refl; written = kept_appends old new h }

-- the script was not played to its end
pub run_stops : Same → (form : Form) (script : List ScriptLine) (stop : Stop) (front : List ℕ) (old mid new : Option (List ℕ)) → front ≡ front_text form → Appends old mid front → StopsAll stop form script mid new → StopsTold stop form script old new
run_stops law form script stops.Read front old mid new e f h = h
run_stops law form script stops.Write front old mid new e f h = record {
  told = front_text form ++ outcomes_text form h.outcomes;
  is_told = inr (front_with law form script h.outcomes h.first);
  taken = takes_more old mid new (front_text form) (outcomes_text form h.outcomes) (subst (Appends old mid) e f) h.taken;
}
run_stops law form script stops.NoMemory front old mid new e f h = record {
  part = front_text form ++ outcomes_text form h.outcomes;
  is_part = front_with law form script h.outcomes h.first;
  written = appends_more old mid new (front_text form) (outcomes_text form h.outcomes) (subst (Appends old mid) e f) h.written;
}

whole_prefix : {X : Type 0} (xs : List X) → IsPrefix xs xs
whole_prefix xs = ([], append-nil xs)

-- all that came of the script was written behind the front
all_written : (form : Form) (script : List ScriptLine) (stop : Option (ℕ × WorldFault)) (now : Running) (front : List ℕ) (old mid new : Option (List ℕ)) → front ≡ front_text form → Appends old mid front → PlaysAll form script stop now mid new
    → Appends old new (front_text form ++ outcomes_text form (kept_run script).world.outcomes)
all_written form script stop now front old mid new e f h = appends_more old mid new (front_text form) (outcomes_text form (kept_run script).world.outcomes) (subst (Appends old mid) e f) h.written

-- memory ran out before what stands behind the outcomes was made
pub end_missing : Same → (form : Form) (script : List ScriptLine) (stop : Option (ℕ × WorldFault)) (now : Running) (front : List ℕ) (old mid new : Option (List ℕ)) → front ≡ front_text form → Appends old mid front → PlaysAll form script stop now mid new
    → StopsTold stops.NoMemory form script old new
end_missing law form script stop now front old mid new e f h = record {
  part = front_text form ++ outcomes_text form (kept_run script).world.outcomes;
  is_part = front_with law form script (kept_run script).world.outcomes (whole_prefix (kept_run script).world.outcomes);
  written = all_written form script stop now front old mid new e f h;
}

-- what stands behind the outcomes, by where the run led to
end_of_run : (form : Form) (script : List ScriptLine) (stop : Option (ℕ × WorldFault)) (now : Running) (mid new : Option (List ℕ)) → PlaysAll form script stop now mid new
    → ended_text now.world.connections (stop_of stop) ≡ ended_text (kept_run script).world.connections (kept_run script).stop
end_of_run form script stop now mid new h =
    ap (λ (x : Running). ended_text x.world.connections (stop_of stop)) h.network
    ∙ ap (λ (x : Option RunStop). ended_text (kept_run script).world.connections x) h.is_stop

told_all : Same → (form : Form) (script : List ScriptLine) (stop : Option (ℕ × WorldFault)) (now : Running) (text : List ℕ) (mid new : Option (List ℕ)) → PlaysAll form script stop now mid new → text ≡ ended_text now.world.connections (stop_of stop)
    → (front_text form ++ outcomes_text form (kept_run script).world.outcomes) ++ text ≡ (run_answer form (whole_run script)).written
told_all law form script stop now text mid new h t =
    ap (λ (e : List ℕ). (front_text form ++ outcomes_text form (kept_run script).world.outcomes) ++ e) (t ∙ end_of_run form script stop now mid new h)
    ∙ told_whole form (kept_run script) (whole_run script) (law script)

-- what stands behind the outcomes could not be written
pub end_stops : Same → (form : Form) (script : List ScriptLine) (stop : Option (ℕ × WorldFault)) (why : Stop) (now : Running) (front text : List ℕ) (old mid low new : Option (List ℕ)) → front ≡ front_text form → Appends old mid front
    → PlaysAll form script stop now mid low → text ≡ ended_text now.world.connections (stop_of stop) → WritingStops why text low new → StopsTold why form script old new
end_stops law form script stop stops.Read now front text old mid low new e f h t w = w
end_stops law form script stop stops.Write now front text old mid low new e f h t w = record {
  told = (front_text form ++ outcomes_text form (kept_run script).world.outcomes) ++ text;
  is_told = inl (told_all law form script stop now text mid low h t);
  taken = takes_more old low new (front_text form ++ outcomes_text form (kept_run script).world.outcomes) text (all_written form script stop now front old mid low e f h) w;
}
end_stops law form script stop stops.NoMemory now front text old mid low new e f h t w = record {
  part = front_text form ++ outcomes_text form (kept_run script).world.outcomes;
  is_part = front_with law form script (kept_run script).world.outcomes (whole_prefix (kept_run script).world.outcomes);
  written = appends_kept old low new (front_text form ++ outcomes_text form (kept_run script).world.outcomes) (all_written form script stop now front old mid low e f h) w;
}

-- all was told
pub all_told : Same → (form : Form) (script : List ScriptLine) (stop : Option (ℕ × WorldFault)) (now : Running) (front text : List ℕ) (status answer : ℕ) (old mid low new : Option (List ℕ)) → front ≡ front_text form → Appends old mid front
    → PlaysAll form script stop now mid low → text ≡ ended_text now.world.connections (stop_of stop) → Appends low new text → status ≡ run_status (stop_of stop) → answer ≡ status → Answers (run_answer form (whole_run script)) old new answer
all_told law form script stop now front text status answer old mid low new e f h t w s a = record {
  written = subst (Appends old new) (told_all law form script stop now text mid low h t)
      (appends_more old low new (front_text form ++ outcomes_text form (kept_run script).world.outcomes) text (all_written form script stop now front old mid low e f h) w);
  is_status = a ∙ s ∙ ap run_status h.is_stop ∙ ap run_status (law script).stop;
}

-- ---- the answer of a text

script_in_is : (text : List ℕ) (script : List ScriptLine) → length text ≤ most_bytes → script_of text ≡ Ok script → script_in text ≡ Some script
script_in_is text script l e =
    ap (λ (b : Bool). cond b None (result_ok (script_of text))) (short_test (length text) l)
    ∙ ap result_ok e

part_of_text : (form : Form) (text : List ℕ) (script : List ScriptLine) (part : List ℕ) → length text ≤ most_bytes → script_of text ≡ Ok script → IsPlayedPart form script part → IsTaskPart (Replay form) text part
part_of_text form text script part l e h = subst (λ (s : Option (List ScriptLine)). IsScriptPart form s part) (sym (script_in_is text script l e)) h

-- a script of which not all was told
pub script_stops : (form : Form) (text : List ℕ) (script : List ScriptLine) (stop : Stop) (old new : Option (List ℕ)) → length text ≤ most_bytes → script_of text ≡ Ok script → StopsTold stop form script old new
    → Leaves stop (Some (Whole (Replay form))) text old new
script_stops form text script stops.Read old new l e h = tt
script_stops form text script stops.NoMemory old new l e h = record {
  part = h.part;
  is_part = part_of_text form text script h.part l e h.is_part;
  written = subst (Appends old new) (sym (append-nil h.part)) h.written;
}
script_stops form text script stops.Write old new l e h = record {
  whole = h.told;
  is_left = by h.is_told;
  taken = h.taken;
}
  where
    answered : (run_answer form (whole_run script)).written ≡ (task_answer (Replay form) text).written
    answered =
        ap (λ (r : Result (List ScriptLine) ScriptFault). (script_answer form r).written) (sym e)
        ∙ ap (λ (b : Bool). (cond b (refusal_answer TooManyBytes) (script_answer form (script_of text))).written) (sym (short_test (length text) l))

    by : (h.told ≡ (run_answer form (whole_run script)).written) ⊎ IsPlayedPart form script h.told → IsLeft (Some (Whole (Replay form))) text h.told
    by (inl same) = inl (same ∙ answered)
    by (inr part) = inr (inl (record { part = h.told; is_part = part_of_text form text script h.told l e part; last = []; is_last = inl refl; is = sym (append-nil h.told) }))
