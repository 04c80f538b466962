-- The bytes of a notice.
use Rattle.std.specs.Prelude.{◌≡◌, ℕ, ◌+◌, ◌*◌, ◌/◌, ◌%◌, ◌≤◌, Bool, true, nat_lt, if◌then◌else◌, List, [], ◌∷◌, ◌++◌, length, take, drop, Option, Some, None, Result, Ok, Err}
use Rattle.std.specs.List.{list_all}
use Rattle.artery_watch.specs.declared.notice.Notice.{Notice}
use Rattle.artery_watch.specs.declared.notice.NoticeFault.{NoticeFault}
use Rattle.artery_watch.specs.declared.notice.NoticeFault.TheVariants.{BadNotice, NoMemory}

-- Two bytes of length, the lowest first, and the text.
abbrev pub text_bytes : List ℕ → List ℕ
text_bytes text = (length text % 256) ∷ (length text / 256) ∷ text

-- The actor, and then the watcher.
abbrev pub notice_bytes : Notice → List ℕ
notice_bytes n = text_bytes n.actor ++ text_bytes n.watcher

-- All bytes are ASCII: below 128.
abbrev pub is_ascii : List ℕ → Bool
is_ascii bytes = list_all (λ byte. nat_lt byte 128) bytes

-- A text that a notice can have: ASCII, and its length fits into two bytes.
pub record IsNoticeText (text : List ℕ) : Type 0 where
  pub ascii : is_ascii text ≡ true
  pub short : length text ≤ 65535

-- A notice that has bytes.
pub record IsNotice (n : Notice) : Type 0 where
  pub actor : IsNoticeText n.actor
  pub watcher : IsNoticeText n.watcher

-- So many ASCII bytes, and what stands behind them.
abbrev pub text_of : ℕ → List ℕ → Option (List ℕ × List ℕ)
text_of len bytes =
    if nat_lt (length bytes) len then None
    else if is_ascii (take len bytes) then Some (take len bytes, drop len bytes) else None

-- The text at the front, behind its length, and what stands behind it.
abbrev pub text_at : List ℕ → Option (List ℕ × List ℕ)
text_at [] = None
text_at (low ∷ []) = None
text_at (low ∷ high ∷ bytes) = text_of (low + 256 * high) bytes

-- The notice of this actor and of a watcher behind which nothing stands.
abbrev pub notice_by : List ℕ → Option (List ℕ × List ℕ) → Option Notice
notice_by actor None = None
notice_by actor (Some (watcher, [])) = Some (record { actor = actor; watcher = watcher })
notice_by actor (Some (watcher, b ∷ bytes)) = None

-- The notice of this actor, whose watcher's text stands behind it.
abbrev pub notice_behind : Option (List ℕ × List ℕ) → Option Notice
notice_behind None = None
notice_behind (Some (actor, bytes)) = notice_by actor (text_at bytes)

-- The notice that the bytes are, if they are one.
abbrev pub notice_of : List ℕ → Option Notice
notice_of bytes = notice_behind (text_at bytes)

-- What reading gave: the notice, or that the bytes are none. Want of memory says nothing of the bytes.
abbrev pub Gives : Result Notice NoticeFault → Option Notice → Type 0
Gives (Ok n) read = read ≡ Some n
Gives (Err BadNotice) read = read ≡ None
Gives (Err NoMemory) read = Unit {0}
