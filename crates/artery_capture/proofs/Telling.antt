-- What one piece adds, and what stands at the end.
use Rattle.std.proofs.Common.{◌≡◌, ℕ, ◌-◌, ◌+◌, ◌<◌, ◌≤◌, ◌^◌, true, false, is_some, List, [], ◌++◌, length, drop, refl, sym, ap, subst, ◌∙◌, arith, Option, Some, None, append_assoc, append-nil}
use Rattle.std.specs.Prelude.{flat_map}
use Rattle.std.proofs.lemmas.List.{drop_at}
use Rattle.std.proofs.lemmas.Grind.{flat_map-append}
use Rattle.artery_frame.specs.declared.stream.Stream.{Stream}
use Rattle.artery_frame.specs.declared.fault.FrameFault.{FrameFault}
use Rattle.artery_frame.specs.Stream.{Reading, reading_of}
use Rattle.artery_frame.specs.Kept.{Kept, told}
use Rattle.artery_frame.specs.Standing.{Stands, HasEnded, given_out}
use Rattle.artery_capture.specs.declared.progress.Progress.{Progress}
use Rattle.artery_capture.specs.declared.progress.Progress.TheVariants.{GoingOn, Faulty}
use Rattle.artery_capture.specs.FrameText.{frame_lines}
use Rattle.artery_capture.specs.Shown.{stream_line, front_lines, rest_line, fault_line, end_line, last_line, has_fault}
use Rattle.artery_capture.specs.Captured.{KeptCapture, ShowsBy, Shows, TellsMore, new_stream_line, lines_behind, AllShown}
use Rattle.artery_capture.proofs.Longer.{Longer, longer_stream, longer_frames, longer_fault}

-- the law of frames without an id, as it is stated of readings
abbrev pub Nameless : Type 0
Nameless = (bytes : List ℕ) → (reading_of bytes).stream ≡ None → (reading_of bytes).frames ≡ []

-- the laws of places and of what is held, as they are stated of readings and of what a deframer keeps
pub record Places : Type 0 where
  pub held : (k : Kept) (fed : List ℕ) (given : List (List ℕ)) → Stands k fed given → length k.rest + given_out (reading_of fed).stream given ≡ length fed
  pub sound : (bytes : List ℕ) → (reading_of bytes).end ≡ None → (reading_of bytes).offset ≡ given_out (reading_of bytes).stream (reading_of bytes).frames
  pub within : (bytes : List ℕ) → (reading_of bytes).offset ≤ length bytes

more_lines : (s now : Option Stream) (frames more : List (List ℕ)) → (s ≡ None → frames ≡ []) → ((x : Stream) → s ≡ Some x → now ≡ Some x)
    → stream_line now ++ flat_map frame_lines (frames ++ more) ≡ (stream_line s ++ flat_map frame_lines frames) ++ (new_stream_line s now ++ flat_map frame_lines more)
more_lines None now frames more n g = rw (n refl) refl
more_lines (Some x) now frames more n g =
    rw (g x refl) (ap (λ (w : List ℕ). stream_line (Some x) ++ w) (flat_map-append frame_lines frames more) ∙ sym (append_assoc (stream_line (Some x)) (flat_map frame_lines frames) (flat_map frame_lines more)))

-- the lines of the longer bytes
longer_lines : Longer → Nameless → (fed piece : List ℕ) → front_lines (fed ++ piece) ≡ front_lines fed ++ (new_stream_line (reading_of fed).stream (reading_of (fed ++ piece)).stream ++ lines_behind (reading_of fed).frames (fed ++ piece))
longer_lines longer nameless fed piece =
    let frames = (reading_of fed).frames in
    let f = longer_frames longer fed piece in
    let behind : drop (length frames) (reading_of (fed ++ piece)).frames ≡ f.0 = ap (drop (length frames)) f.1 ∙ drop_at frames f.0 (length frames) refl in
    ap (λ (fs : List (List ℕ)). stream_line (reading_of (fed ++ piece)).stream ++ flat_map frame_lines fs) f.1
    ∙ more_lines (reading_of fed).stream (reading_of (fed ++ piece)).stream frames f.0 (nameless fed) (longer_stream longer fed piece)
    ∙ ap (λ (fs : List (List ℕ)). front_lines fed ++ (new_stream_line (reading_of fed).stream (reading_of (fed ++ piece)).stream ++ flat_map frame_lines fs)) (sym behind)

-- a piece adds its lines
pub piece_told : Longer → Nameless → (old taken new : Kept) (progress : Progress) (fed piece old_out out new_out : List ℕ) → ShowsBy GoingOn old fed → Stands taken (fed ++ piece) (reading_of fed).frames
    → out ≡ old_out ++ new_stream_line old.stream taken.stream → AllShown progress new (fed ++ piece) (reading_of fed).frames out new_out
    → TellsMore (record { deframer = new; progress = progress }) fed piece old_out new_out
piece_told longer nameless old taken new progress fed piece old_out out new_out h s w a =
    let line : new_stream_line old.stream taken.stream ≡ new_stream_line (reading_of fed).stream (reading_of (fed ++ piece)).stream = rw (h.0.stream, s.stream) refl in
    let behind = lines_behind (reading_of fed).frames (fed ++ piece) in
    record {
      shows = a.shows;
      added = new_stream_line (reading_of fed).stream (reading_of (fed ++ piece)).stream ++ behind;
      appended = a.lines ∙ ap (λ (o : List ℕ). o ++ behind) (w ∙ ap (λ (o : List ℕ). old_out ++ o) line)
          ∙ append_assoc old_out (new_stream_line (reading_of fed).stream (reading_of (fed ++ piece)).stream) behind;
      lines = longer_lines longer nameless fed piece;
    }

-- a deframer whose fault was answered stands for no bytes without a fault
none_ended : (f : Option FrameFault) (fed : List ℕ) (given : List (List ℕ)) → HasEnded f (reading_of fed) given → (reading_of fed).end ≡ None → is_some f ≡ false
none_ended None fed given h e = refl
none_ended (Some x) fed given h e = absurd (cc (h.1, e))

pub not_broken : (k : Kept) (fed : List ℕ) → ShowsBy GoingOn k fed → is_some k.fault ≡ false
not_broken k fed h = none_ended k.fault fed (reading_of fed).frames h.0.fault h.1

-- behind a fault nothing is added
pub fault_told : Longer → (k : Kept) (fault : FrameFault) (fed piece out : List ℕ) → ShowsBy (Faulty fault) k fed → TellsMore (record { deframer = k; progress = Faulty fault }) fed piece out out
fault_told longer k fault fed piece out h =
    let same = longer_fault longer fed piece fault h.0 in
    record {
      shows = (ap (λ (r : Reading). r.end) same ∙ h.0, h.1 ∙ ap (λ (r : Reading). told r.offset) (sym same));
      added = [];
      appended = sym (append-nil out);
      lines = ap (λ (r : Reading). stream_line r.stream ++ flat_map frame_lines r.frames) same ∙ sym (append-nil (front_lines fed));
    }

-- how many bytes are left over
pub rest_said : Places → (k : Kept) (fed : List ℕ) → ShowsBy GoingOn k fed → (false ≡ has_fault fed) × (rest_line (length k.rest) ≡ last_line fed)
rest_said laws k fed h =
    let held = laws.held k fed (reading_of fed).frames h.0 in
    let offset = laws.sound fed h.1 in
    let count : length k.rest ≡ length fed - (reading_of fed).offset = omega (arith, held, offset) in
    (sym (ap is_some h.1), ap rest_line count ∙ ap (λ (e : Option FrameFault). end_line e (reading_of fed).offset (length fed)) (sym h.1))

-- the place of the fault
told_all : Places → (fed : List ℕ) → length fed < 2 ^ 63 → told (reading_of fed).offset ≡ (reading_of fed).offset
told_all laws fed s = omega (arith, laws.within fed)

pub fault_said : Places → (k : Kept) (fault : FrameFault) (fed : List ℕ) → ShowsBy (Faulty fault) k fed → length fed < 2 ^ 63 → (true ≡ has_fault fed) × (fault_line fault k.place ≡ last_line fed)
fault_said laws k fault fed h s =
    (sym (ap is_some h.0), ap (fault_line fault) (h.1 ∙ told_all laws fed s) ∙ ap (λ (e : Option FrameFault). end_line e (reading_of fed).offset (length fed)) (sym h.0))

-- the same, for what a capture keeps
pub fault_kept : Longer → (k : KeptCapture) (fault : FrameFault) (fed piece out : List ℕ) → k.progress ≡ Faulty fault → Shows k fed → TellsMore k fed piece out out
fault_kept longer k fault fed piece out e h =
    let P : Progress → Type 0 = λ p. ShowsBy p k.deframer fed in
    let Q : Progress → Type 0 = λ p. TellsMore (record { deframer = k.deframer; progress = p }) fed piece out out in
    subst Q (sym e) (fault_told longer k.deframer fault fed piece out (subst P e h))

pub rest_written : Places → (k : KeptCapture) (fed : List ℕ) (count : ℕ) (out new : List ℕ) → k.progress ≡ GoingOn → count ≡ length k.deframer.rest → Shows k fed → new ≡ out ++ rest_line count
    → (false ≡ has_fault fed) × (new ≡ out ++ last_line fed)
rest_written laws k fed count out new e n h w =
    let P : Progress → Type 0 = λ p. ShowsBy p k.deframer fed in
    let said = rest_said laws k.deframer fed (subst P e h) in
    (said.0, w ∙ ap (λ (l : List ℕ). out ++ l) (ap rest_line n ∙ said.1))

pub fault_written : Places → (k : KeptCapture) (fault : FrameFault) (fed : List ℕ) (offset : ℕ) (out new : List ℕ) → k.progress ≡ Faulty fault → offset ≡ k.deframer.place → Shows k fed → length fed < 2 ^ 63
    → new ≡ out ++ fault_line fault offset → (true ≡ has_fault fed) × (new ≡ out ++ last_line fed)
fault_written laws k fault fed offset out new e n h s w =
    let P : Progress → Type 0 = λ p. ShowsBy p k.deframer fed in
    let said = fault_said laws k.deframer fault fed (subst P e h) s in
    (said.0, w ∙ ap (λ (l : List ℕ). out ++ l) (ap (fault_line fault) n ∙ said.1))
