-- What the program does by itself.
use Rattle.std.specs.Prelude.{ℕ, if◌then◌else◌, List, [], ◌∷◌, codes, bytes_eq, Option, None, Some}
use Rattle.artery.specs.declared.own.Own.{Own}
use Rattle.artery.specs.declared.own.Own.TheVariants.{Help, Version}
use Rattle.artery.specs.declared.own.WordsFault.{WordsFault}
use Rattle.artery.specs.declared.own.WordsFault.TheVariants.{NotAscii, NoMemory}

-- the words that the program answers itself: `--help` and `--version`
abbrev pub own_named : List ℕ → Option Own
own_named word = if bytes_eq word (codes "--help") then Some Help else if bytes_eq word (codes "--version") then Some Version else None

-- one of them, as the only word
abbrev pub own_of : List (List ℕ) → Option Own
own_of [] = None
own_of (word ∷ []) = own_named word
own_of (word ∷ next ∷ words) = None

-- the line that is told where the words of the command line are no words
abbrev pub fault_line : WordsFault → List ℕ
fault_line NotAscii = codes "fault words\n"
fault_line NoMemory = codes "fault memory\n"

-- the status then: that of other words that name no command, or that of want of memory
abbrev pub fault_status : WordsFault → ℕ
fault_status NotAscii = 2
fault_status NoMemory = 9
