-- Names of actors and notices: how long they are.
use Rattle.std.proofs.Common.{◌≡◌, ℕ, zero, suc, ◌+◌, ◌*◌, ◌<◌, ◌≤◌, ◌^◌, Bool, true, false, cond, List, [], ◌∷◌, ◌++◌, length, take, drop, map, refl, sym, ◌∙◌, ap, subst, arith, take-append-drop, Result, Ok, Err}
use Rattle.std.specs.Prelude.{Option, None, Some, nat_lt, codes, decimal, bytes_eq}
use Rattle.std.proofs.lemmas.List.{length-append}
use Rattle.std.proofs.lemmas.Fmt.{length-decimal-le}
use Rattle.artery_base.specs.declared.address.Address.{Address}
use Rattle.artery_base.specs.declared.message.SysMsg.{SysMsg}
use Rattle.artery_base.specs.Valid.{IsAddress}
use Rattle.artery_lines.specs.Lines.{◌>>=◌}
use Rattle.artery_text.specs.Spelling.{address_text}
use Rattle.artery_text.specs.Reading.{address_of as address_read}
use Rattle.artery_text.specs.declared.fault.AddressFault.{AddressFault}
use Rattle.artery_text.proofs.AddressLaws.{address_of-Ok}
use Rattle.artery_script.specs.Reading.{path_start}
use Rattle.artery_watch.specs.declared.notice.Notice.{Notice}
use Rattle.artery_watch.specs.Notice.{text_bytes, notice_bytes, is_ascii, text_of, text_at, notice_by, notice_behind, notice_of}
use Rattle.artery_machine.specs.Watching.{reference, address_before, address_in, is_notice_serializer, notice, watch_kind, unwatch_kind, ended_kind, Told, Begins, Ends, HasEnded, Nothing, told_by, told_in, told_of}
use Rattle.artery_flight.proofs.Lists.{on_cond, not_both, some_same, not_some}
use Rattle.artery_written.proofs.Facts.{MessageFacts}
use Rattle.artery_written.proofs.Sizes.{two_short}

-- ---- the address in a reference

before_good : (text : List ℕ) (at : ℕ) (a : Address) → address_before text at ≡ Some a → IsAddress a
before_good text at a h = by (address_read (take at text)) refl
  where
    by : (r : Result Address AddressFault) → address_read (take at text) ≡ r → IsAddress a
    by (Ok b) k =
        let e : address_before text at ≡ Some b = rw k refl in
        subst IsAddress (some_same (sym e ∙ h)) (address_of-Ok (take at text) b k).0
    by (Err fault) k =
        let e : address_before text at ≡ None = rw k refl in
        not_some (sym e ∙ h)

pub reference_good : (text : List ℕ) (a : Address) → address_in text ≡ Some a → IsAddress a
reference_good text a h = by (path_start text) h
  where
    by : (x : Option ℕ) → (x >>= address_before text) ≡ Some a → IsAddress a
    by None k = not_some k
    by (Some at) k = before_good text at a k

-- ---- a reference is short

text_short : (a : Address) → IsAddress a → length (address_text a) ≤ 775
text_short a h =
    let p : length a.protocol ≤ 255 = h.protocol.short in
    let s : length a.system ≤ 255 = h.system.short in
    let t : length a.host ≤ 255 = h.host.short in
    let n : a.port ≤ 65535 = h.port.1 in
    let d : length (decimal a.port) ≤ 5 = length-decimal-le 5 a.port (omega arith) (omega arith) (omega arith) in
    let t1 : length (a.protocol ++ codes "://") ≤ 255 + 3 = two_short a.protocol (codes "://") 255 3 p (omega arith) in
    let t2 : length (a.protocol ++ codes "://" ++ a.system) ≤ 258 + 255 = two_short (a.protocol ++ codes "://") a.system 258 255 t1 s in
    let t3 : length (a.protocol ++ codes "://" ++ a.system ++ codes "@") ≤ 513 + 1 = two_short (a.protocol ++ codes "://" ++ a.system) (codes "@") 513 1 t2 (omega arith) in
    let t4 : length (a.protocol ++ codes "://" ++ a.system ++ codes "@" ++ a.host) ≤ 514 + 255 = two_short (a.protocol ++ codes "://" ++ a.system ++ codes "@") a.host 514 255 t3 t in
    let t5 : length (a.protocol ++ codes "://" ++ a.system ++ codes "@" ++ a.host ++ codes ":") ≤ 769 + 1 = two_short (a.protocol ++ codes "://" ++ a.system ++ codes "@" ++ a.host) (codes ":") 769 1 t4 (omega arith) in
    let t6 : length (address_text a) ≤ 770 + 5 = two_short (a.protocol ++ codes "://" ++ a.system ++ codes "@" ++ a.host ++ codes ":") (decimal a.port) 770 5 t5 d in
    omega arith

pub reference_short : (a : Address) (path : List ℕ) → IsAddress a → length path ≤ 1024 → length (reference a path) ≤ 2048
reference_short a path h k =
    let e : length (reference a path) ≤ 775 + 1024 = two_short (address_text a) path 775 1024 (text_short a h) k in
    omega arith

-- ---- notices

bytes_long : (n : Notice) → length (notice_bytes n) ≡ 4 + (length n.actor + length n.watcher)
bytes_long n = (let e : length (text_bytes n.actor ++ text_bytes n.watcher) ≡ length (text_bytes n.actor) + length (text_bytes n.watcher) = length-append (text_bytes n.actor) (text_bytes n.watcher) in
    let a : length (text_bytes n.actor) ≡ suc (suc (length n.actor)) = refl in
    let b : length (text_bytes n.watcher) ≡ suc (suc (length n.watcher)) = refl in
    omega arith)

-- a notice of any kind but that a watch begins may have texts of so many bytes
pub ended_good : (actor watcher : List ℕ) → length actor + length watcher ≤ 135000 → MessageFacts (notice ended_kind actor watcher)
ended_good actor watcher h = record {
  serializer = omega arith;
  manifest = omega arith;
  payload = (let e : length (notice_bytes (record { actor = actor; watcher = watcher })) ≡ 4 + (length actor + length watcher) = bytes_long (record { actor = actor; watcher = watcher }) in omega arith);
  begins = λ b. not_both b refl;
}

pub short_good : (kind actor watcher : List ℕ) → length kind ≤ 4096 → length actor + length watcher ≤ 131000 → MessageFacts (notice kind actor watcher)
short_good kind actor watcher k h = record {
  serializer = omega arith;
  manifest = k;
  payload = (let e : length (notice_bytes (record { actor = actor; watcher = watcher })) ≡ 4 + (length actor + length watcher) = bytes_long (record { actor = actor; watcher = watcher }) in omega arith);
  begins = λ b. (let e : length (notice_bytes (record { actor = actor; watcher = watcher })) ≡ 4 + (length actor + length watcher) = bytes_long (record { actor = actor; watcher = watcher }) in omega arith);
}

-- ---- what a message tells

abbrev TextLength : ℕ → Option (List ℕ × List ℕ) → Type 0
TextLength total None = Unit {0}
TextLength total (Some x) = 2 + (length x.0 + length x.1) ≡ total

text_of_length : (len : ℕ) (bytes : List ℕ) → TextLength (suc (suc (length bytes))) (text_of len bytes)
text_of_length len bytes = on_cond (TextLength (suc (suc (length bytes)))) (nat_lt (length bytes) len) None (cond (is_ascii (take len bytes)) (Some (take len bytes, drop len bytes)) None) (λ b. tt)
    (λ b. on_cond (TextLength (suc (suc (length bytes)))) (is_ascii (take len bytes)) (Some (take len bytes, drop len bytes)) None
    (λ c. (let e : length (take len bytes ++ drop len bytes) ≡ length (take len bytes) + length (drop len bytes) = length-append (take len bytes) (drop len bytes) in
    let f : length (take len bytes ++ drop len bytes) ≡ length bytes = ap length (take-append-drop len bytes) in
    omega arith)) (λ c. tt))

text_length : (bytes : List ℕ) → TextLength (length bytes) (text_at bytes)
text_length [] = tt
text_length (low ∷ []) = tt
text_length (low ∷ high ∷ bytes) = text_of_length (low + 256 * high) bytes

abbrev NoticeLength : ℕ → Option Notice → Type 0
NoticeLength total None = Unit {0}
NoticeLength total (Some n) = 4 + (length n.actor + length n.watcher) ≡ total

notice_by_length : (total : ℕ) (actor : List ℕ) (x : Option (List ℕ × List ℕ)) (rest : ℕ) → 2 + (length actor + rest) ≡ total → TextLength rest x → NoticeLength total (notice_by actor x)
notice_by_length total actor None rest h k = tt
notice_by_length total actor (Some (watcher, [])) rest h k = (let e : 2 + (length watcher + 0) ≡ rest = k in omega arith)
notice_by_length total actor (Some (watcher, b ∷ bytes)) rest h k = tt

notice_length : (bytes : List ℕ) → NoticeLength (length bytes) (notice_of bytes)
notice_length bytes = by (text_at bytes) (text_length bytes)
  where
    by : (x : Option (List ℕ × List ℕ)) → TextLength (length bytes) x → NoticeLength (length bytes) (notice_behind x)
    by None k = tt
    by (Some (actor, rest)) k = notice_by_length (length bytes) actor (text_at rest) (length rest) k (text_length rest)

-- a notice that begins a watch has texts of at most so many bytes
abbrev pub ToldFacts : Told → Type 0
ToldFacts (Begins n) = length n.actor + length n.watcher ≤ 131068
ToldFacts (Ends n) = Unit {0}
ToldFacts (HasEnded n) = Unit {0}
ToldFacts Nothing = Unit {0}

told_by_facts : (m : SysMsg) → MessageFacts m → (n : Notice) → NoticeLength (length m.payload) (Some n) → ToldFacts (told_by m.manifest n)
told_by_facts m f n e = on_cond ToldFacts (bytes_eq m.manifest watch_kind) (Begins n) (cond (bytes_eq m.manifest unwatch_kind) (Ends n) (cond (bytes_eq m.manifest ended_kind) (HasEnded n) Nothing))
    (λ b. (let k : length m.payload ≤ 131072 = f.begins b in let g : 4 + (length n.actor + length n.watcher) ≡ length m.payload = e in omega arith))
    (λ b. on_cond ToldFacts (bytes_eq m.manifest unwatch_kind) (Ends n) (cond (bytes_eq m.manifest ended_kind) (HasEnded n) Nothing) (λ c. tt) (λ c. on_cond ToldFacts (bytes_eq m.manifest ended_kind) (HasEnded n) Nothing (λ g. tt) (λ g. tt)))

pub told_facts : (m : SysMsg) → MessageFacts m → ToldFacts (told_of m)
told_facts m f = on_cond ToldFacts (is_notice_serializer m.serializer) (told_in m.manifest (notice_of m.payload)) Nothing (λ b. by (notice_of m.payload) (notice_length m.payload)) (λ b. tt)
  where
    by : (x : Option Notice) → NoticeLength (length m.payload) x → ToldFacts (told_in m.manifest x)
    by None k = tt
    by (Some n) k = told_by_facts m f n k
