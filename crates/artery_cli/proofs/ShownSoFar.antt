-- The pieces of a connection that were told one after the other.
use Rattle.std.proofs.Common.{◌≡◌, ℕ, ◌+◌, ◌≤◌, ◌<◌, Bool, true, false, cond, List, [], ◌++◌, length, take, refl, sym, ◌∙◌, ap, subst, append-nil, arith, length-append, inl, inr}
use Rattle.std.specs.Prelude.{Option, None, Some, IfSome, IfOk, OnOk, Result, Ok, Err, nat_lt, codes}
use Rattle.std.specs.Io.KnownBytes.{Appends, Keeps, Consumes, IsAtEnd}
use Rattle.std.proofs.lemmas.Bool.Decides.{nat_tests}
use Rattle.std.proofs.lemmas.List.{take_at}
use Rattle.artery_io.specs.Written.{TakesFront}
use Rattle.artery_capture.specs.Captured.{KeptCapture, Shows, TellsMore}
use Rattle.artery_capture.specs.Shown.{front_lines, last_line}
use Rattle.artery_cli.specs.declared.command.Command.TheVariants.{Show}
use Rattle.artery_cli.specs.Limits.{most_bytes}
use Rattle.artery_cli.specs.declared.stop.Stop.{Stop}
use Rattle.artery_cli.specs.declared.stop.Stop.TheVariants as stops
use Rattle.artery_cli.specs.Answers.{Answer, Answers, show_answer, capture_answer, long_answer}
use Rattle.artery_base.specs.Words.{IsPrefix}
use Rattle.artery_cli.specs.Leaving.{Leaves, LeavesRead, WritingStops}
use Rattle.artery_cli.specs.Reading.{ReadsAtMost, ReadsAll}
use Rattle.artery_cli.specs.Showing.{WritesLines, StopsInPiece, Ends}
use Rattle.artery_cli.proofs.Gathering.{nothing_read, piece_read, read_to_end, read_past_limit}
use Rattle.artery_cli.proofs.Sinks.{appends_nothing, appends_more, appends_kept, takes_more}

-- so far these bytes were read and told, no more than the limit
pub record ShownSoFar (first left old held : Option (List ℕ)) (capture : KeptCapture) (count : ℕ) : Type 0 where
  pub fed : List ℕ
  pub consumed : Consumes first left fed
  pub shows : Shows capture fed
  pub written : Appends old held (front_lines fed)
  pub counted : count ≡ length fed
  pub short : count ≤ most_bytes

pub shows_first : front_lines [] ≡ [] → (left held : Option (List ℕ)) (capture : KeptCapture) → Shows capture [] → ShownSoFar left left held held capture 0
shows_first no_lines left held capture h = record {
  fed = [];
  consumed = nothing_read left;
  shows = h;
  written = subst (Appends held held) (sym no_lines) (appends_nothing held);
  counted = refl;
  short = omega arith;
}

pub shows_next : (first mid left old held held' : Option (List ℕ)) (c c' : KeptCapture) (count size : ℕ) (piece : List ℕ) → ShownSoFar first mid old held c count → Consumes mid left piece
    → size ≡ length piece → ((fed : List ℕ) → Shows c fed → WritesLines c' fed piece held held') → count + size ≤ most_bytes → ShownSoFar first left old held' c' (count + size)
shows_next first mid left old held held' c c' count size piece s r z h l =
    let w = h s.fed s.shows in
    record {
      fed = s.fed ++ piece;
      consumed = piece_read first mid left s.fed piece (s.fed ++ piece) s.consumed r refl;
      shows = w.shows;
      written = subst (Appends old held') (sym w.lines) (appends_more old held held' (front_lines s.fed) w.added s.written w.written);
      counted = omega (arith, s.counted, z, length-append s.fed piece);
      short = l;
    }

kept_left : (first mid left : Option (List ℕ)) (fed : List ℕ) → Consumes first mid fed → Keeps mid left → Consumes first left fed
kept_left None mid left fed h k = tt
kept_left (Some a) None left fed h k = absurd h
kept_left (Some a) (Some b) None fed h k = absurd k
kept_left (Some a) (Some b) (Some c) fed h k = h ∙ ap (λ rest. fed ++ rest) (sym k)

-- the bytes that were read begin the text
read_front : (text fed : List ℕ) (left : Option (List ℕ)) → Consumes (Some text) left fed → IsPrefix fed text
read_front text fed None h = absurd h
read_front text fed (Some rest) h = (rest, sym h)

-- all bytes were read
read_all : (text fed : List ℕ) (mid left : Option (List ℕ)) (piece : List ℕ) → Consumes (Some text) mid fed → Consumes mid left piece → piece ≡ [] → IsAtEnd left → fed ≡ text
read_all text fed None left piece h k e z = absurd h
read_all text fed (Some b) None piece h k e z = absurd k
read_all text fed (Some b) (Some c) piece h k e z =
    let none : b ≡ [] = k ∙ ap (λ p. p ++ c) e ∙ z in
    sym (h ∙ ap (λ rest. fed ++ rest) none ∙ append-nil fed)

short_test : (n : ℕ) → n ≤ most_bytes → nat_lt most_bytes n ≡ false
short_test n h = grind (arith, nat_tests, h)

long_test : (n : ℕ) → most_bytes < n → nat_lt most_bytes n ≡ true
long_test n h = grind (arith, nat_tests, h)

short_answer : (text : List ℕ) → length text ≤ most_bytes → show_answer text ≡ capture_answer text
short_answer text h = ap (λ (b : Bool). cond b (long_answer text) (capture_answer text)) (short_test (length text) h)

too_long_answer : (text : List ℕ) → most_bytes < length text → show_answer text ≡ long_answer text
too_long_answer text h = ap (λ (b : Bool). cond b (long_answer text) (capture_answer text)) (long_test (length text) h)

-- at the end the last line tells all
pub shows_end : (first mid left old held held' : Option (List ℕ)) (c : KeptCapture) (count status : ℕ) (piece : List ℕ) → ShownSoFar first mid old held c count → Consumes mid left piece → piece ≡ [] → IsAtEnd left
    → ((fed : List ℕ) → Shows c fed → length fed ≤ most_bytes → Ends status fed held held') → IfSome first (λ text. Answers (show_answer text) old held' status)
shows_end None mid left old held held' c count status piece s r e z h = tt
shows_end (Some text) mid left old held held' c count status piece s r e z h =
    let small : length s.fed ≤ most_bytes = omega (arith, s.counted, s.short) in
    let ended = h s.fed s.shows small in
    let all : s.fed ≡ text = read_all text s.fed mid left piece s.consumed r e z in
    let answered : Answers (capture_answer s.fed) old held' status = record {
      written = appends_more old held held' (front_lines s.fed) (last_line s.fed) s.written ended.written;
      is_status = ended.is_status;
    } in
    let same : capture_answer s.fed ≡ show_answer text = sym (short_answer s.fed small) ∙ ap show_answer all in
    subst (λ (a : Answer). Answers a old held' status) same answered

-- the limit is passed by the last byte that was read
pub shows_long : (first mid left old held held' held'' : Option (List ℕ)) (c c' : KeptCapture) (count size status : ℕ) (piece : List ℕ) → ShownSoFar first mid old held c count → Consumes mid left piece
    → size ≡ length piece → count + size ≡ most_bytes + 1 → ((fed : List ℕ) → Shows c fed → WritesLines c' fed piece held held') → Appends held' held'' (codes "fault limit bytes\n") → status ≡ 6
    → IfSome first (λ text. Answers (show_answer text) old held'' status)
shows_long None mid left old held held' held'' c c' count size status piece s r z l h a t = tt
shows_long (Some text) mid left old held held' held'' c c' count size status piece s r z l h a t =
    let w = h s.fed s.shows in
    let fed : List ℕ = s.fed ++ piece in
    let front : IsPrefix fed text = read_front text fed left (piece_read (Some text) mid left s.fed piece fed s.consumed r refl) in
    let many : length fed ≡ most_bytes + 1 = omega (arith, s.counted, z, l, length-append s.fed piece) in
    let first_bytes : take (most_bytes + 1) text ≡ fed = ap (λ n. take n text) (sym many) ∙ ap (take (length fed)) (sym front.1) ∙ take_at fed front.0 (length fed) refl in
    let long : most_bytes < length text = omega (arith, many, length-append fed front.0, ap length front.1) in
    let told : Appends old held' (front_lines fed) = subst (Appends old held') (sym w.lines) (appends_more old held held' (front_lines s.fed) w.added s.written w.written) in
    let same : front_lines fed ++ codes "fault limit bytes\n" ≡ (show_answer text).written =
    ap (λ bytes. front_lines bytes ++ codes "fault limit bytes\n") (sym first_bytes) ∙ ap (λ (x : Answer). x.written) (sym (too_long_answer text long)) in
    record {
      written = subst (Appends old held'') same (appends_more old held' held'' (front_lines fed) (codes "fault limit bytes\n") told a);
      is_status = t ∙ ap (λ (x : Answer). x.status) (sym (too_long_answer text long));
    }

-- ---- where showing stops

-- what was told is within the limit
within_limit : (fed : List ℕ) (count : ℕ) → count ≡ length fed → count ≤ most_bytes → length fed ≤ most_bytes + 1
within_limit fed count e h = omega (arith, e, h)

-- the source failed before it gave another piece
pub shows_read : (first mid left old held : Option (List ℕ)) (c : KeptCapture) (count : ℕ) → ShownSoFar first mid old held c count → Keeps mid left → LeavesRead (Some Show) [] first left old held
shows_read first mid left old held c count s k = record {
  seen = s.fed;
  consumed = kept_left first mid left s.fed s.consumed k;
  written = subst (Appends old held) (sym (append-nil (front_lines s.fed))) s.written;
}

-- memory ran out, or the sink failed, as the lines of a piece were told
pub shows_stopped : (first mid left old held held' : Option (List ℕ)) (c : KeptCapture) (count : ℕ) (piece : List ℕ) (stop : Stop) → ShownSoFar first mid old held c count → Consumes mid left piece
    → count + length piece ≤ most_bytes + 1 → ((fed : List ℕ) → Shows c fed → StopsInPiece stop fed piece held held') → IfSome first (λ text. Leaves stop (Some Show) text old held')
shows_stopped None mid left old held held' c count piece stop s r l h = tt
shows_stopped (Some text) mid left old held held' c count piece stops.Read s r l h = tt
shows_stopped (Some text) mid left old held held' c count piece stops.NoMemory s r l h = record {
  part = front_lines s.fed;
  is_part = (s.fed, read_front text s.fed mid s.consumed, within_limit s.fed count s.counted s.short, refl);
  written = subst (Appends old held') (sym (append-nil (front_lines s.fed))) (appends_kept old held held' (front_lines s.fed) s.written (h s.fed s.shows));
}
shows_stopped (Some text) mid left old held held' c count piece stops.Write s r l h =
    let w = h s.fed s.shows in
    let fed : List ℕ = s.fed ++ piece in
    record {
      whole = front_lines fed;
      is_left = inr (inl (record { part = front_lines fed; is_part = (fed, read_front text fed left (piece_read (Some text) mid left s.fed piece fed s.consumed r refl), omega (arith, s.counted, l, length-append s.fed piece), refl); last = []; is_last = inl refl; is = sym (append-nil (front_lines fed)) }));
      taken = subst (TakesFront old held') (sym w.lines) (takes_more old held held' (front_lines s.fed) w.added s.written w.taken);
    }

-- memory ran out before the next piece
pub shows_until : (first mid old held : Option (List ℕ)) (c : KeptCapture) (count : ℕ) → ShownSoFar first mid old held c count → IfSome first (λ text. Leaves stops.NoMemory (Some Show) text old held)
shows_until None mid old held c count s = tt
shows_until (Some text) mid old held c count s = record {
  part = front_lines s.fed;
  is_part = (s.fed, read_front text s.fed mid s.consumed, within_limit s.fed count s.counted s.short, refl);
  written = subst (Appends old held) (sym (append-nil (front_lines s.fed))) s.written;
}

-- the last line could not be made or written
pub shows_end_stopped : (first mid left old held held' : Option (List ℕ)) (c : KeptCapture) (count : ℕ) (piece : List ℕ) (stop : Stop) → ShownSoFar first mid old held c count → Consumes mid left piece → piece ≡ [] → IsAtEnd left
    → ((fed : List ℕ) → Shows c fed → length fed ≤ most_bytes → WritingStops stop (last_line fed) held held') → IfSome first (λ text. Leaves stop (Some Show) text old held')
shows_end_stopped None mid left old held held' c count piece stop s r e z h = tt
shows_end_stopped (Some text) mid left old held held' c count piece stops.Read s r e z h = tt
shows_end_stopped (Some text) mid left old held held' c count piece stops.NoMemory s r e z h =
    let small : length s.fed ≤ most_bytes = omega (arith, s.counted, s.short) in
    record {
      part = front_lines s.fed;
      is_part = (s.fed, read_front text s.fed mid s.consumed, within_limit s.fed count s.counted s.short, refl);
      written = subst (Appends old held') (sym (append-nil (front_lines s.fed))) (appends_kept old held held' (front_lines s.fed) s.written (h s.fed s.shows small));
    }
shows_end_stopped (Some text) mid left old held held' c count piece stops.Write s r e z h =
    let small : length s.fed ≤ most_bytes = omega (arith, s.counted, s.short) in
    let all : s.fed ≡ text = read_all text s.fed mid left piece s.consumed r e z in
    let same : capture_answer s.fed ≡ show_answer text = sym (short_answer s.fed small) ∙ ap show_answer all in
    record {
      whole = front_lines s.fed ++ last_line s.fed;
      is_left = inl (ap (λ (x : Answer). x.written) same);
      taken = takes_more old held held' (front_lines s.fed) (last_line s.fed) s.written (h s.fed s.shows small);
    }

-- the line of the limit could not be written
pub shows_long_stopped : (first mid left old held held' held'' : Option (List ℕ)) (c c' : KeptCapture) (count size : ℕ) (piece : List ℕ) (stop : Stop) → ShownSoFar first mid old held c count → Consumes mid left piece
    → size ≡ length piece → count + size ≡ most_bytes + 1 → ((fed : List ℕ) → Shows c fed → WritesLines c' fed piece held held') → WritingStops stop (codes "fault limit bytes\n") held' held''
    → IfSome first (λ text. Leaves stop (Some Show) text old held'')
shows_long_stopped None mid left old held held' held'' c c' count size piece stop s r z l h k = tt
shows_long_stopped (Some text) mid left old held held' held'' c c' count size piece stops.Read s r z l h k = tt
shows_long_stopped (Some text) mid left old held held' held'' c c' count size piece stops.NoMemory s r z l h k =
    let w = h s.fed s.shows in
    let fed : List ℕ = s.fed ++ piece in
    record {
      part = front_lines fed;
      is_part = (fed, read_front text fed left (piece_read (Some text) mid left s.fed piece fed s.consumed r refl), omega (arith, s.counted, z, l, length-append s.fed piece), refl);
      written = subst (Appends old held'') (sym w.lines ∙ sym (append-nil (front_lines fed))) (appends_kept old held' held'' (front_lines s.fed ++ w.added) (appends_more old held held' (front_lines s.fed) w.added s.written w.written) k);
    }
shows_long_stopped (Some text) mid left old held held' held'' c c' count size piece stops.Write s r z l h k =
    let w = h s.fed s.shows in
    let fed : List ℕ = s.fed ++ piece in
    let front : IsPrefix fed text = read_front text fed left (piece_read (Some text) mid left s.fed piece fed s.consumed r refl) in
    let many : length fed ≡ most_bytes + 1 = omega (arith, s.counted, z, l, length-append s.fed piece) in
    let first_bytes : take (most_bytes + 1) text ≡ fed = ap (λ n. take n text) (sym many) ∙ ap (take (length fed)) (sym front.1) ∙ take_at fed front.0 (length fed) refl in
    let long : most_bytes < length text = omega (arith, many, length-append fed front.0, ap length front.1) in
    let same : front_lines fed ++ codes "fault limit bytes\n" ≡ (show_answer text).written =
    ap (λ bytes. front_lines bytes ++ codes "fault limit bytes\n") (sym first_bytes) ∙ ap (λ (x : Answer). x.written) (sym (too_long_answer text long)) in
    record {
      whole = front_lines fed ++ codes "fault limit bytes\n";
      is_left = inl same;
      taken = takes_more old held' held'' (front_lines fed) (codes "fault limit bytes\n") (subst (Appends old held') (sym w.lines) (appends_more old held held' (front_lines s.fed) w.added s.written w.written)) k;
    }

-- ---- one piece

-- the lines of a piece were made and written
pub piece_written : (new : KeptCapture) (fed piece before lines : List ℕ) (held held' : Option (List ℕ)) → before ≡ [] → TellsMore new fed piece before lines → Appends held held' lines → WritesLines new fed piece held held'
piece_written new fed piece before lines held held' e t a = record {
  shows = t.shows;
  added = t.added;
  lines = t.lines;
  written = subst (Appends held held') (t.appended ∙ ap (λ front. front ++ t.added) e) a;
}

-- they were made, and could not be written
pub piece_stopped : (new : KeptCapture) (fed piece before lines : List ℕ) (held held' : Option (List ℕ)) (stop : Stop) → before ≡ [] → TellsMore new fed piece before lines → WritingStops stop lines held held' → StopsInPiece stop fed piece held held'
piece_stopped new fed piece before lines held held' stops.Read e t w = absurd w
piece_stopped new fed piece before lines held held' stops.NoMemory e t w = w
piece_stopped new fed piece before lines held held' stops.Write e t w = record {
  added = t.added;
  lines = t.lines;
  taken = subst (TakesFront held held') (t.appended ∙ ap (λ front. front ++ t.added) e) w;
}

-- ---- how much was read

-- the source answered that it is at its end
pub ended_here : (r : Result ℕ Stop) (first left : Option (List ℕ)) → IsAtEnd left → IfOk r (λ _. ReadsAll first left)
ended_here (Err stop) first left e = tt
ended_here (Ok status) first left e = read_to_end first left e

-- the last piece passed the limit
pub ended_past_limit : (r : Result ℕ Stop) (first mid left old held : Option (List ℕ)) (c : KeptCapture) (count size : ℕ) (piece : List ℕ) → ShownSoFar first mid old held c count → Consumes mid left piece → size ≡ length piece → count + size ≡ most_bytes + 1
    → IfOk r (λ _. ReadsAll first left)
ended_past_limit (Err stop) first mid left old held c count size piece s r z l = tt
ended_past_limit (Ok status) first mid left old held c count size piece s r z l =
    read_past_limit first left (s.fed ++ piece) (piece_read first mid left s.fed piece (s.fed ++ piece) s.consumed r refl) (omega (arith, s.counted, z, l, length-append s.fed piece))

pub bounded_so_far : (first mid old held : Option (List ℕ)) (c : KeptCapture) (count : ℕ) → ShownSoFar first mid old held c count → ReadsAtMost (most_bytes + 1) first mid
bounded_so_far None mid old held c count s = tt
bounded_so_far (Some text) None old held c count s = tt
bounded_so_far (Some text) (Some rest) old held c count s = (let whole : length text ≡ length s.fed + length rest = ap length s.consumed ∙ length-append s.fed rest in omega (arith, whole, s.counted, s.short))

pub bounded_kept : (first mid left old held : Option (List ℕ)) (c : KeptCapture) (count : ℕ) → ShownSoFar first mid old held c count → Keeps mid left → ReadsAtMost (most_bytes + 1) first left
bounded_kept first mid left old held c count s k = bounded_so_far first left old held c count (record { fed = s.fed; consumed = kept_left first mid left s.fed s.consumed k; shows = s.shows; written = s.written; counted = s.counted; short = s.short })

pub bounded_piece : (first mid left old held : Option (List ℕ)) (c : KeptCapture) (count size : ℕ) (piece : List ℕ) → ShownSoFar first mid old held c count → Consumes mid left piece → length piece ≡ size → count + size ≤ most_bytes + 1 → ReadsAtMost (most_bytes + 1) first left
bounded_piece None mid left old held c count size piece s r z l = tt
bounded_piece (Some text) mid None old held c count size piece s r z l = tt
bounded_piece (Some text) mid (Some rest) old held c count size piece s r z l =
    let consumed : text ≡ (s.fed ++ piece) ++ rest = piece_read (Some text) mid (Some rest) s.fed piece (s.fed ++ piece) s.consumed r refl in
    let whole : length text ≡ length (s.fed ++ piece) + length rest = ap length consumed ∙ length-append (s.fed ++ piece) rest in
    omega (arith, whole, s.counted, z, l, length-append s.fed piece)

-- the line of the limit was written
pub shows_long_by : (r : Result ℕ Stop) (first mid left old held held' held'' : Option (List ℕ)) (c c' : KeptCapture) (count size : ℕ) (piece : List ℕ) → ShownSoFar first mid old held c count → Consumes mid left piece
    → size ≡ length piece → count + size ≡ most_bytes + 1 → ((fed : List ℕ) → Shows c fed → WritesLines c' fed piece held held') → OnOk r (Appends held' held'' (codes "fault limit bytes\n")) → IfOk r (λ answer. answer ≡ 6)
    → IfOk r (λ status. IfSome first (λ text. Answers (show_answer text) old held'' status))
shows_long_by (Err stop) first mid left old held held' held'' c c' count size piece s r z l h a t = tt
shows_long_by (Ok status) first mid left old held held' held'' c c' count size piece s r z l h a t = shows_long first mid left old held held' held'' c c' count size status piece s r z l h a t
