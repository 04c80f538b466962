-- The lines of a text, read one after the other.
use Rattle.std.proofs.Common.{◌≡◌, ℕ, ◌+◌, Bool, true, false, List, [], ◌∷◌, ◌++◌, Option, Some, None, Result, Ok, Err, refl, sym, ap, ◌∙◌, append_assoc}
use Rattle.std.proofs.lemmas.List.{append-nil}
use Rattle.artery_base.specs.Words.{Gives, Unless}
use Rattle.artery_journal.specs.declared.line.Line.{Line}
use Rattle.artery_journal.specs.declared.stamped.Stamped.{Stamped}
use Rattle.artery_journal_reading.specs.declared.fault.JournalFault.{JournalFault}
use Rattle.artery_journal_reading.specs.declared.fault.JournalFault.TheVariants as journal_faults
use Rattle.artery_journal_reading.specs.Reading.{line_of, stamped_of}
use Rattle.artery_journal_reading.specs.Journals.{before_others, at_line, told_at, items_from, journal_memory}

-- what was read, before what the lines left tell
abbrev pub behind : {X : Type 0} → List X → Result (List X) JournalFault → Result (List X) JournalFault
behind front (Ok others) = Ok (front ++ others)
behind front (Err fault) = Err fault

moved : {X : Type 0} (front : List X) (x : X) (r : Result (List X) JournalFault) → behind (front ++ x ∷ []) r ≡ behind front (before_others x r)
moved front x (Ok others) = ap (λ ls. Ok ls) (append_assoc front (x ∷ []) others)
moved front x (Err fault) = refl

told_some : {X : Type 0} (n : ℕ) (o : Option X) (x : X) → told_at n o ≡ Ok x → o ≡ Some x
told_some n None x h = absurd cc
told_some n (Some other) x h = cc

on : {X : Type 0} (told : List ℕ → Option X) (front new : List X) (n : ℕ) (line : List ℕ) (x : X) (old left : List (List ℕ)) (total : Result (List X) JournalFault)
    → old ≡ line ∷ left → told_at n (told line) ≡ Ok x → new ≡ front ++ x ∷ []
    → behind front (items_from told n old) ≡ total → behind new (items_from told (n + 1) left) ≡ total
on told front new n line x old left total e t push so_far =
    let step : items_from told n old ≡ before_others x (items_from told (n + 1) left) =
    ap (items_from told n) e ∙ ap (λ o. at_line n o (items_from told (n + 1) left)) (told_some n (told line) x t) in
    ap (λ ls. behind ls (items_from told (n + 1) left)) push
    ∙ moved front x (items_from told (n + 1) left)
    ∙ ap (behind front) (sym step) ∙ so_far

fails : {X : Type 0} (b : Bool) (o : Option X) (n : ℕ) (fault : JournalFault) (front : List X) (others total : Result (List X) JournalFault)
    → Unless b (told_at n o ≡ Err fault) → behind front (at_line n o others) ≡ total → Unless b (total ≡ Err fault)
fails true o n fault front others total h so_far = tt
fails false None n fault front others total h so_far =
    let same : journal_faults.BadLine n ≡ fault = cc in
    sym so_far ∙ ap (λ f. Err f) same
fails false (Some x) n fault front others total h so_far = absurd cc

failed : {X : Type 0} (told : List ℕ → Option X) (front : List X) (n : ℕ) (line : List ℕ) (fault : JournalFault) (old left : List (List ℕ)) (total : Result (List X) JournalFault)
    → old ≡ line ∷ left → Gives journal_memory (Err fault) (told_at n (told line))
    → behind front (items_from told n old) ≡ total → Gives journal_memory (Err fault) total
failed told front n line fault old left total e t so_far =
    fails (journal_memory fault) (told line) n fault front (items_from told (n + 1) left) total t
    (ap (behind front) (sym (ap (items_from told n) e)) ∙ so_far)

end : {X : Type 0} (told : List ℕ → Option X) (front : List X) (n : ℕ) (old : List (List ℕ)) (total : Result (List X) JournalFault)
    → old ≡ [] → behind front (items_from told n old) ≡ total → total ≡ Ok front
end told front n old total e so_far =
    sym so_far ∙ ap (λ ls. behind front (items_from told n ls)) e ∙ ap (λ ls. Ok ls) (append-nil front)

-- ---- form 1

pub line_on : (front new : List Line) (n : ℕ) (line : List ℕ) (x : Line) (old left : List (List ℕ)) (total : Result (List Line) JournalFault)
    → old ≡ line ∷ left → told_at n (line_of line) ≡ Ok x → new ≡ front ++ x ∷ []
    → behind front (items_from line_of n old) ≡ total → behind new (items_from line_of (n + 1) left) ≡ total
line_on = on line_of

pub line_fails : (front : List Line) (n : ℕ) (line : List ℕ) (fault : JournalFault) (old left : List (List ℕ)) (total : Result (List Line) JournalFault)
    → old ≡ line ∷ left → Gives journal_memory (Err fault) (told_at n (line_of line))
    → behind front (items_from line_of n old) ≡ total → Gives journal_memory (Err fault) total
line_fails = failed line_of

pub lines_end : (front : List Line) (n : ℕ) (old : List (List ℕ)) (total : Result (List Line) JournalFault)
    → old ≡ [] → behind front (items_from line_of n old) ≡ total → total ≡ Ok front
lines_end = end line_of

-- ---- form 2

pub stamped_on : (front new : List Stamped) (n : ℕ) (line : List ℕ) (x : Stamped) (old left : List (List ℕ)) (total : Result (List Stamped) JournalFault)
    → old ≡ line ∷ left → told_at n (stamped_of line) ≡ Ok x → new ≡ front ++ x ∷ []
    → behind front (items_from stamped_of n old) ≡ total → behind new (items_from stamped_of (n + 1) left) ≡ total
stamped_on = on stamped_of

pub stamped_fails : (front : List Stamped) (n : ℕ) (line : List ℕ) (fault : JournalFault) (old left : List (List ℕ)) (total : Result (List Stamped) JournalFault)
    → old ≡ line ∷ left → Gives journal_memory (Err fault) (told_at n (stamped_of line))
    → behind front (items_from stamped_of n old) ≡ total → Gives journal_memory (Err fault) total
stamped_fails = failed stamped_of

pub stamped_end : (front : List Stamped) (n : ℕ) (old : List (List ℕ)) (total : Result (List Stamped) JournalFault)
    → old ≡ [] → behind front (items_from stamped_of n old) ≡ total → total ≡ Ok front
stamped_end = end stamped_of
