-- The commands, and the words that name them.
use Rattle.std.specs.Prelude.{ℕ, ◌≤◌, ◌&&◌, if◌then◌else◌, List, [], ◌∷◌, codes, bytes_eq, Option, None, Some, option_map, Bool, true, false}
use Rattle.std.specs.Int.{is_in_range}
use Rattle.std.specs.Result.{result_ok}
use Rattle.artery_text.specs.Reading.{number_of, word_of}
use Rattle.artery_replay.specs.declared.form.Form.TheVariants as forms
use Rattle.artery_cli.specs.declared.command.Command.{Command}
use Rattle.artery_cli.specs.declared.command.Command.TheVariants.{Show, Whole, Generate}
use Rattle.artery_cli.specs.declared.command.Task.TheVariants.{Replay, Make, CheckControl, CheckJournal, Audit}
use Rattle.artery_cli.specs.Limits.{most_scripts}

-- the commands of one word
abbrev pub command_named : List ℕ → Option Command
command_named word = if bytes_eq word (codes "show") then Some Show
    else if bytes_eq word (codes "make") then Some (Whole Make)
    else if bytes_eq word (codes "replay") then Some (Whole (Replay forms.Plain))
    else if bytes_eq word (codes "audit") then Some (Whole (Audit false))
    else None

-- `check control`, with a manifest that is spelled as a word
abbrev pub check_named : List ℕ → List ℕ → List ℕ → Option Command
check_named word what manifest = if bytes_eq word (codes "check") && bytes_eq what (codes "control")
    then option_map (λ bytes. Whole (CheckControl bytes)) (result_ok (word_of manifest))
    else None

-- `check journal`
abbrev pub check_alone : List ℕ → List ℕ → Option Command
check_alone word what = if bytes_eq word (codes "check") && bytes_eq what (codes "journal") then Some (Whole CheckJournal) else None

-- `audit --merge`
abbrev pub audit_with : List ℕ → List ℕ → Option Command
audit_with word option = if bytes_eq word (codes "audit") && bytes_eq option (codes "--merge") then Some (Whole (Audit true)) else None

-- `replay` in a form that is told by an option
abbrev pub replay_by : List ℕ → Option Command
replay_by option = if bytes_eq option (codes "--bytes") then Some (Whole (Replay forms.Bytes))
    else if bytes_eq option (codes "--moments") then Some (Whole (Replay forms.Stamped))
    else None

-- `replay --bytes` and `replay --moments`
abbrev pub replay_with : List ℕ → List ℕ → Option Command
replay_with word option = if bytes_eq word (codes "replay") then replay_by option else None

-- a number that a script has
abbrev pub as_script : ℕ → Option ℕ
as_script n = if is_in_range 1 most_scripts n then Some n else None

-- the number of a script, where a number was read
abbrev pub script_number : Option ℕ → Option ℕ
script_number None = None
script_number (Some n) = as_script n

-- the number of a script, in its one spelling
abbrev pub number_in : List ℕ → Option ℕ
number_in word = script_number (number_of word)

-- `gen N`
abbrev pub generate_named : List ℕ → List ℕ → Option Command
generate_named word number = if bytes_eq word (codes "gen") then option_map Generate (number_in number) else None

-- the first of two commands that is there
abbrev pub or_else : Option Command → Option Command → Option Command
or_else None other = other
or_else (Some command) other = Some command

-- the commands of two words
abbrev pub pair_named : List ℕ → List ℕ → Option Command
pair_named word what = or_else (check_alone word what) (or_else (audit_with word what) (or_else (replay_with word what) (generate_named word what)))

-- the command that the words name, if they name one: `show`, `make`, `replay`, `replay --bytes`, `replay --moments`, `gen N`, `audit`,
-- `audit --merge`, `check journal`, or `check control M`
abbrev pub command_of : List (List ℕ) → Option Command
command_of [] = None
command_of (word ∷ []) = command_named word
command_of (word ∷ what ∷ []) = pair_named word what
command_of (word ∷ what ∷ manifest ∷ []) = check_named word what manifest
command_of (word ∷ what ∷ manifest ∷ next ∷ words) = None

-- whether a command reads its input: `gen` reads none, and words that name no command read none
abbrev pub reads_input : Option Command → Bool
reads_input None = false
reads_input (Some Show) = true
reads_input (Some (Whole task)) = true
reads_input (Some (Generate number)) = false

-- a command whose number, where it has one, is that of a script
abbrev pub HasScript : Command → Type 0
HasScript Show = Unit {0}
HasScript (Whole task) = Unit {0}
HasScript (Generate number) = (1 ≤ number) × (number ≤ most_scripts)
