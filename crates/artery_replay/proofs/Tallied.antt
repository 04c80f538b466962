-- A journal that is counted line by line.
use Rattle.std.proofs.Common.{◌≡◌, ℕ, ◌+◌, Bool, true, false, cond, List, [], ◌∷◌, ◌++◌, length, refl, sym, ◌∙◌, ap, arith, append-nil, append_assoc}
use Rattle.std.proofs.lemmas.List.{length-append}
use Rattle.std.specs.List.{count_by}
use Rattle.std.proofs.lemmas.List.Sums.{sum_by_push}
use Rattle.artery_journal.specs.declared.line.Line.{Line}
use Rattle.artery_machine.specs.Ways.{as_told}
use Rattle.artery_replay.specs.declared.tally.Tally.{Tally}
use Rattle.artery_replay.specs.Tally.{how_many, more_where, one_more, tally_of, is_sent, is_took, is_told, is_got, is_closed, is_terminated}

-- lines counted one after the other
abbrev pub tallied : Tally → List Line → Tally
tallied t [] = t
tallied t (line ∷ rest) = tallied (one_more line t) rest

one_told : (n : ℕ) → as_told (as_told n + 1) ≡ as_told (n + 1)
one_told n = omega arith

more_by : (one : Bool) (n : ℕ) → more_where one (as_told n) ≡ as_told (n + cond one 1 0)
more_by true n = one_told n
more_by false n = omega arith

many_and_one : (kind : Line → Bool) (before : List Line) (line : Line) → more_where (kind line) (how_many kind before) ≡ how_many kind (before ++ line ∷ [])
many_and_one kind before line =
    more_by (kind line) (count_by kind before)
    ∙ ap as_told (sym (sum_by_push (λ x. cond (kind x) 1 0) before line))

-- a line behind those that were counted
one_behind : (before : List Line) (line : Line) → one_more line (tally_of before) ≡ tally_of (before ++ line ∷ [])
one_behind before line = rw (
  one_told (length before) ∙ ap as_told (sym (length-append before (line ∷ []))),
  many_and_one is_sent before line,
  many_and_one is_took before line,
  many_and_one is_told before line,
  many_and_one is_got before line,
  many_and_one is_closed before line,
  many_and_one is_terminated before line,
) refl

behind : (before more : List Line) → tallied (tally_of before) more ≡ tally_of (before ++ more)
behind before [] = ap tally_of (sym (append-nil before))
behind before (line ∷ rest) =
    ap (λ (t : Tally). tallied t rest) (one_behind before line)
    ∙ behind (before ++ line ∷ []) rest
    ∙ ap tally_of (append_assoc before (line ∷ []) rest)

-- what was counted line by line, behind a journal that was counted
pub all_counted : (t u : Tally) (more : List Line) → u ≡ tallied t more → (before : List Line) → t ≡ tally_of before → u ≡ tally_of (before ++ more)
all_counted t u more h before e = h ∙ ap (λ (x : Tally). tallied x more) e ∙ behind before more
