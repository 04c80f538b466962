-- What a command leaves where it stops, as what its parts leave.
use Rattle.std.proofs.Common.{◌≡◌, ℕ, ◌+◌, ◌≤◌, ◌<◌, Bool, true, false, cond, List, [], ◌++◌, length, refl, sym, ◌∙◌, ap, subst, append-nil, inl, inr, arith}
use Rattle.std.specs.Prelude.{Option, None, Some, IfSome, IfOk, OnOk, Result, Ok, Err, nat_lt, codes}
use Rattle.std.proofs.lemmas.Bool.Decides.{nat_tests}
use Rattle.std.specs.Io.KnownBytes.{Appends, Consumes}
use Rattle.artery_io.specs.Written.{TakesFront}
use Rattle.artery_capture.specs.Shown.{front_lines}
use Rattle.artery_cli.specs.declared.command.Command.{Command}
use Rattle.artery_cli.specs.declared.command.Command.TheVariants.{Show, Whole, Generate}
use Rattle.artery_cli.specs.declared.command.Task.{Task}
use Rattle.artery_cli.specs.declared.command.Task.TheVariants.{Replay, Make, CheckControl, CheckJournal, Audit}
use Rattle.artery_cli.specs.declared.stop.Stop.{Stop}
use Rattle.artery_cli.specs.declared.stop.Stop.TheVariants as stops
use Rattle.artery_cli.specs.Command.{reads_input}
use Rattle.artery_cli.specs.Limits.{most_bytes}
use Rattle.artery_cli.specs.declared.refusal.Refusal.{Refusal}
use Rattle.artery_cli.specs.declared.refusal.Refusal.TheVariants.{TooManyBytes}
use Rattle.artery_cli.specs.declared.input.Gathered.TheVariants as Gathered
use Rattle.artery_cli.specs.declared.input.Gathered.TheVariants.{TooLong}
use Rattle.artery_cli.specs.Reading.{Gathers}
use Rattle.artery_cli.specs.Answers.{Answer, Answers, text_answer, task_answer, answer_of, memory_fault, read_fault, script_answer, refusal_answer}
use Rattle.artery_base.specs.Words.{IsPrefix}
use Rattle.artery_cli.specs.Leaving.{told_of, script_in, IsScriptPart, LeavesRead, IsPart, LeavesPart, LeavesFront, Leaves, WritingStops}
use Rattle.artery_script.specs.declared.script.ScriptFault.{ScriptFault}
use Rattle.artery_script.specs.declared.script.ScriptLine.{ScriptLine}
use Rattle.artery_script.specs.Scripts.{script_of}
use Rattle.artery_replay.specs.declared.form.Form.{Form}
use Rattle.artery_cli.proofs.Sinks.{kept_appends, appends_nothing, appends_more, takes_more}

nothing_is_front : {X : Type 0} (xs : List X) → IsPrefix [] xs
nothing_is_front xs = (xs, refl)

-- nothing is a part of what is told of a script
no_part : (form : Form) (script : Option (List ScriptLine)) → IsScriptPart form script []
no_part form None = refl
no_part form (Some script) = inl refl

-- what a command has written before any byte is a part of its answer
told_is_part : (c : Option Command) (text : List ℕ) → IsPart c text (told_of c [])
told_is_part None text = refl
told_is_part (Some Show) text = ([], nothing_is_front text, few, refl)
  where
    few : 0 ≤ most_bytes + 1
    few = omega arith
told_is_part (Some (Whole (Replay form))) text = no_part form (script_in text)
told_is_part (Some (Whole Make)) text = refl
told_is_part (Some (Whole (CheckControl manifest))) text = refl
told_is_part (Some (Whole CheckJournal)) text = refl
told_is_part (Some (Whole (Audit merge))) text = refl
told_is_part (Some (Generate number)) text = refl

-- a task has written nothing before its answer
nothing_of_task : (task : Task) (text : List ℕ) → IsPart (Some (Whole task)) text []
nothing_of_task task text = told_is_part (Some (Whole task)) text

-- nor has a command before any byte, since no bytes have no lines
nothing_is_part : front_lines [] ≡ [] → (c : Option Command) (text : List ℕ) → IsPart c text []
nothing_is_part no_lines c text = subst (IsPart c text) (nothing_told c) (told_is_part c text)
  where
    nothing_told : (c : Option Command) → told_of c [] ≡ []
    nothing_told None = refl
    nothing_told (Some Show) = no_lines
    nothing_told (Some (Whole task)) = refl
    nothing_told (Some (Generate number)) = refl

-- a command that writes one text alone
pub writing_stops : (stop : Stop) (c : Option Command) (text : List ℕ) (old new : Option (List ℕ)) → IsPart c text [] → WritingStops stop (answer_of c text).written old new → Leaves stop c text old new
writing_stops stops.Read c text old new none h = tt
writing_stops stops.Write c text old new none h = record { whole = (answer_of c text).written; is_left = inl refl; taken = h }
writing_stops stops.NoMemory c text old new none h = record { part = []; is_part = none; written = kept_appends old new h }

-- memory ran out before anything was written
pub leaves_nothing : (c : Option Command) (text : List ℕ) (held : Option (List ℕ)) → IsPart c text [] → Leaves stops.NoMemory c text held held
leaves_nothing c text held none = record { part = []; is_part = none; written = appends_nothing held }

pub task_leaves_nothing : (task : Task) (text : List ℕ) (held : Option (List ℕ)) → Leaves stops.NoMemory (Some (Whole task)) text held held
task_leaves_nothing task text held = leaves_nothing (Some (Whole task)) text held (nothing_of_task task text)

-- ---- the last line

pub told_read : (left left' old mid new : Option (List ℕ)) (c : Option Command) → LeavesRead c [] left left' old mid → Appends mid new read_fault → LeavesRead c read_fault left left' old new
told_read left left' old mid new c h k = record {
  seen = h.seen;
  consumed = h.consumed;
  written = subst (λ front. Appends old new (front ++ read_fault)) (append-nil (told_of c h.seen)) (appends_more old mid new (told_of c h.seen ++ []) read_fault h.written k);
}

pub told_part : (left old mid new : Option (List ℕ)) (c : Option Command) → IfSome left (λ text. Leaves stops.NoMemory c text old mid) → Appends mid new memory_fault
    → IfSome left (λ text. LeavesPart c memory_fault text old new)
told_part None old mid new c h k = tt
told_part (Some text) old mid new c h k = record {
  part = h.part;
  is_part = h.is_part;
  written = subst (λ front. Appends old new (front ++ memory_fault)) (append-nil h.part) (appends_more old mid new (h.part ++ []) memory_fault h.written k);
}

consumed_front : (text seen : List ℕ) (left : Option (List ℕ)) → Consumes (Some text) left seen → IsPrefix seen text
consumed_front text seen None h = absurd h
consumed_front text seen (Some rest) h = (rest, sym h)

-- a command that the source failed reads it
pub does_read : {X R : Type 0} (reads : Bool) → (reads ≡ false → X × (R → ⊥)) → R → reads ≡ true
does_read true h r = refl
does_read false h r = absurd ((h refl).1 r)

pub cut_read : (left left' old mid new : Option (List ℕ)) (c : Option Command) → reads_input c ≡ true → LeavesRead c [] left left' old mid → TakesFront mid new read_fault
    → IfSome left (λ text. LeavesFront c text old new)
cut_read None left' old mid new c reads h k = tt
cut_read (Some text) left' old mid new c reads h k = record {
  whole = told_of c h.seen ++ read_fault;
  is_left = inr (inr (record { reads = reads; seen = h.seen; first = consumed_front text h.seen left' h.consumed; is = refl }));
  taken = subst (λ front. TakesFront old new (front ++ read_fault)) (append-nil (told_of c h.seen)) (takes_more old mid new (told_of c h.seen ++ []) read_fault h.written k);
}

pub cut_part : (left old mid new : Option (List ℕ)) (c : Option Command) → IfSome left (λ text. Leaves stops.NoMemory c text old mid) → TakesFront mid new memory_fault
    → IfSome left (λ text. LeavesFront c text old new)
cut_part None old mid new c h k = tt
cut_part (Some text) old mid new c h k = record {
  whole = h.part ++ memory_fault;
  is_left = inr (inl (record { part = h.part; is_part = h.is_part; last = memory_fault; is_last = inr refl; is = refl }));
  taken = subst (λ front. TakesFront old new (front ++ memory_fault)) (append-nil h.part) (takes_more old mid new (h.part ++ []) memory_fault h.written k);
}

-- ---- a script

pub short_test : (n : ℕ) → n ≤ most_bytes → nat_lt most_bytes n ≡ false
short_test n h = grind (arith, nat_tests, h)

-- ---- a task

long_test : (n : ℕ) → most_bytes < n → nat_lt most_bytes n ≡ true
long_test n h = grind (arith, nat_tests, h)

-- the text of a task's answer could not be made or written
pub text_stops : (stop : Stop) (task : Task) (text : List ℕ) (old new : Option (List ℕ)) → length text ≤ most_bytes → WritingStops stop (text_answer task text).written old new → Leaves stop (Some (Whole task)) text old new
text_stops stop task text old new l h =
    let same : text_answer task text ≡ task_answer task text = ap (λ (b : Bool). cond b (refusal_answer TooManyBytes) (text_answer task text)) (sym (short_test (length text) l)) in
    writing_stops stop (Some (Whole task)) text old new (nothing_of_task task text) (subst (λ (a : Answer). WritingStops stop a.written old new) same h)

-- the line of a text that is too long could not be made or written
pub long_stops : (left : Option (List ℕ)) (stop : Stop) (task : Task) (old new : Option (List ℕ)) → IfSome left (λ text. Gathers TooLong text) → WritingStops stop (refusal_answer TooManyBytes).written old new
    → IfSome left (λ text. Leaves stop (Some (Whole task)) text old new)
long_stops None stop task old new g h = tt
long_stops (Some text) stop task old new g h =
    let same : refusal_answer TooManyBytes ≡ task_answer task text = ap (λ (b : Bool). cond b (refusal_answer TooManyBytes) (text_answer task text)) (sym (long_test (length text) g)) in
    writing_stops stop (Some (Whole task)) text old new (nothing_of_task task text) (subst (λ (a : Answer). WritingStops stop a.written old new) same h)

-- what was gathered is the whole text
pub gathered_stops : (left : Option (List ℕ)) (bytes : List ℕ) (stop : Stop) (task : Task) (old new : Option (List ℕ)) → IfSome left (λ text. Gathers (Gathered.Whole bytes) text) → Leaves stop (Some (Whole task)) bytes old new
    → IfSome left (λ text. Leaves stop (Some (Whole task)) text old new)
gathered_stops None bytes stop task old new g h = tt
gathered_stops (Some text) bytes stop task old new g h = subst (λ xs. Leaves stop (Some (Whole task)) xs old new) g.0 h

-- the source failed before the input was read whole
pub gathered_read : (left left' held : Option (List ℕ)) (task : Task) → ((seen : List ℕ) × Consumes left left' seen) → LeavesRead (Some (Whole task)) [] left left' held held
gathered_read left left' held task s = record { seen = s.0; consumed = s.1; written = appends_nothing held }

-- memory ran out before anything was read or written
pub leaves_nothing_here : front_lines [] ≡ [] → (left : Option (List ℕ)) (c : Option Command) (held : Option (List ℕ)) → IfSome left (λ text. Leaves stops.NoMemory c text held held)
leaves_nothing_here no_lines None c held = tt
leaves_nothing_here no_lines (Some text) c held = leaves_nothing c text held (nothing_is_part no_lines c text)

pub task_leaves_nothing_here : (left : Option (List ℕ)) (task : Task) (held : Option (List ℕ)) → IfSome left (λ text. Leaves stops.NoMemory (Some (Whole task)) text held held)
task_leaves_nothing_here None task held = tt
task_leaves_nothing_here (Some text) task held = task_leaves_nothing task text held

-- the line that tells that the words name no command could not be written
pub words_stop : (left : Option (List ℕ)) (c : Option Command) (stop : Stop) (old new : Option (List ℕ)) → c ≡ None → WritingStops stop (codes "fault words\n") old new → IfSome left (λ text. Leaves stop c text old new)
words_stop None c stop old new e h = tt
words_stop (Some text) c stop old new e h = subst (λ x. Leaves stop x text old new) (sym e) (writing_stops stop None text old new refl h)

-- the line that tells the first fault of a script could not be made or written
pub refused_script : (form : Form) (text : List ℕ) (stop : Stop) (refusal : Refusal) (fault : ScriptFault) (old new : Option (List ℕ)) → length text ≤ most_bytes → script_of text ≡ Err fault → (script_answer form (Err fault)).written ≡ (refusal_answer refusal).written
    → WritingStops stop (refusal_answer refusal).written old new → Leaves stop (Some (Whole (Replay form))) text old new
refused_script form text stop refusal fault old new l e s h =
    let same : (refusal_answer refusal).written ≡ (script_answer form (script_of text)).written = sym s ∙ ap (λ (r : Result (List ScriptLine) ScriptFault). (script_answer form r).written) (sym e) in
    text_stops stop (Replay form) text old new l (subst (λ xs. WritingStops stop xs old new) same h)

-- the line that tells that the words name no command was written
pub words_answer : (left : Option (List ℕ)) (c : Option Command) (r : Result ℕ Stop) (old new : Option (List ℕ)) → c ≡ None → OnOk r (Appends old new (codes "fault words\n")) → IfOk r (λ answer. answer ≡ 2)
    → IfOk r (λ status. IfSome left (λ text. Answers (answer_of c text) old new status))
words_answer left c (Err stop) old new e h s = tt
words_answer None c (Ok status) old new e h s = tt
words_answer (Some text) c (Ok status) old new e h s = subst (λ x. Answers (answer_of x text) old new status) (sym e) (record { written = h; is_status = s })
