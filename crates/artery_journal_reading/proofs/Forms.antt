-- The two forms of a journal.
use Rattle.std.proofs.Common.{◌≡◌, ℕ, Bool, true, false, cond, List, ◌∷◌, Result, Ok, Err, refl, sym, ap, ◌∙◌}
use Rattle.std.specs.Prelude.{codes, bytes_eq}
use Rattle.artery_base.specs.Words.{Gives, Unless}
use Rattle.artery_journal.specs.declared.line.Line.{Line}
use Rattle.artery_journal.specs.declared.stamped.Stamped.{Stamped}
use Rattle.artery_journal.specs.declared.journal.Journal.{Journal}
use Rattle.artery_journal_reading.specs.declared.fault.JournalFault.{JournalFault}
use Rattle.artery_journal_reading.specs.Reading.{line_of, stamped_of}
use Rattle.artery_journal_reading.specs.Journals.{items_from, as_plain, as_stamped, journal_in, journal_memory}

-- where the first line is another, all lines are those of form 1
pub first_form : (lines left : List (List ℕ)) (first : List ℕ) → lines ≡ first ∷ left → bytes_eq first (codes "journal 2") ≡ false → journal_in lines ≡ as_plain (items_from line_of 1 lines)
first_form lines left first e h =
    ap journal_in e
    ∙ ap (λ (b : Bool). cond b (as_stamped (items_from stamped_of 2 left)) (as_plain (items_from line_of 1 (first ∷ left)))) h
    ∙ ap (λ ls. as_plain (items_from line_of 1 ls)) (sym e)

-- where it is `journal 2`, the others are those of form 2
pub second_form : (lines left : List (List ℕ)) (first : List ℕ) → lines ≡ first ∷ left → bytes_eq first (codes "journal 2") ≡ true → journal_in lines ≡ as_stamped (items_from stamped_of 2 left)
second_form lines left first e h =
    ap journal_in e ∙ ap (λ (b : Bool). cond b (as_stamped (items_from stamped_of 2 left)) (as_plain (items_from line_of 1 (first ∷ left)))) h

plain_unless : (b : Bool) (fault : JournalFault) (r : Result (List Line) JournalFault) (told : Result Journal JournalFault) → told ≡ as_plain r → Unless b (r ≡ Err fault) → Unless b (told ≡ Err fault)
plain_unless true fault r told e h = tt
plain_unless false fault r told e h = e ∙ ap as_plain h

-- lines that tell no journal of form 1
pub plain_fails : (fault : JournalFault) (r : Result (List Line) JournalFault) (told : Result Journal JournalFault) → told ≡ as_plain r → Gives journal_memory (Err fault) r → Gives journal_memory (Err fault) told
plain_fails fault r told e h = plain_unless (journal_memory fault) fault r told e h

stamped_unless : (b : Bool) (fault : JournalFault) (r : Result (List Stamped) JournalFault) (told : Result Journal JournalFault) → told ≡ as_stamped r → Unless b (r ≡ Err fault) → Unless b (told ≡ Err fault)
stamped_unless true fault r told e h = tt
stamped_unless false fault r told e h = e ∙ ap as_stamped h

-- or none of form 2
pub stamped_fails : (fault : JournalFault) (r : Result (List Stamped) JournalFault) (told : Result Journal JournalFault) → told ≡ as_stamped r → Gives journal_memory (Err fault) r → Gives journal_memory (Err fault) told
stamped_fails fault r told e h = stamped_unless (journal_memory fault) fault r told e h
