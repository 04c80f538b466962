-- A command that words name has a number that a script has, where it has one.
use Rattle.std.proofs.Common.{◌≡◌, ℕ, Bool, true, false, cond, List, [], ◌∷◌, refl, sym, ◌∙◌, subst, arith}
use Rattle.std.specs.Prelude.{Option, None, Some, option_map, codes, bytes_eq, nat_le, ◌&&◌}
use Rattle.std.specs.Result.{result_ok}
use Rattle.std.specs.Int.{is_in_range}
use Rattle.std.proofs.lemmas.Bool.{and_parts}
use Rattle.std.proofs.lemmas.Bool.Decides.{nat_tests}
use Rattle.artery_text.specs.Reading.{number_of, word_of}
use Rattle.artery_cli.specs.declared.command.Command.{Command}
use Rattle.artery_cli.specs.declared.command.Command.TheVariants.{Whole, Generate}
use Rattle.artery_cli.specs.declared.command.Task.TheVariants.{CheckControl}
use Rattle.artery_cli.specs.Limits.{most_scripts}
use Rattle.artery_cli.specs.Command.{HasScript, script_number, command_named, check_alone, check_named, audit_with, replay_with, or_else, pair_named, command_of}

-- a command, if there is one, has such a number
abbrev Good : Option Command → Type 0
Good None = Unit {0}
Good (Some command) = HasScript command

either : (b : Bool) (x y : Option Command) → Good x → Good y → Good (cond b x y)
either true x y h k = h
either false x y h k = k

or_good : (x y : Option Command) → Good x → Good y → Good (or_else x y)
or_good None y h k = k
or_good (Some command) y h k = h

controls_good : (manifest : Option (List ℕ)) → Good (option_map (λ bytes. Whole (CheckControl bytes)) manifest)
controls_good None = tt
controls_good (Some bytes) = tt

in_range : (n : ℕ) → is_in_range 1 most_scripts n ≡ true → HasScript (Generate n)
in_range n h =
    let s = and_parts (nat_le 1 n) (nat_le n most_scripts) h in
    (grind (arith, nat_tests, s.0), grind (arith, nat_tests, s.1))

as_script_good : (n : ℕ) (b : Bool) → is_in_range 1 most_scripts n ≡ b → Good (option_map Generate (cond b (Some n) None))
as_script_good n true h = in_range n h
as_script_good n false h = tt

number_good : (number : Option ℕ) → Good (option_map Generate (script_number number))
number_good None = tt
number_good (Some n) = as_script_good n (is_in_range 1 most_scripts n) refl

one_good : (word : List ℕ) → Good (command_named word)
one_good word =
    either (bytes_eq word (codes "show")) _ _ tt
    (either (bytes_eq word (codes "make")) _ _ tt
    (either (bytes_eq word (codes "replay")) _ _ tt
    (either (bytes_eq word (codes "audit")) _ _ tt tt)))

two_good : (word what : List ℕ) → Good (pair_named word what)
two_good word what =
    or_good (check_alone word what) _ (either (bytes_eq word (codes "check") && bytes_eq what (codes "journal")) _ _ tt tt)
    (or_good (audit_with word what) _ (either (bytes_eq word (codes "audit") && bytes_eq what (codes "--merge")) _ _ tt tt)
    (or_good (replay_with word what) _ (either (bytes_eq word (codes "replay")) _ _ (either (bytes_eq what (codes "--bytes")) _ _ tt (either (bytes_eq what (codes "--moments")) _ _ tt tt)) tt)
    (either (bytes_eq word (codes "gen")) _ _ (number_good (number_of what)) tt)))

three_good : (word what manifest : List ℕ) → Good (check_named word what manifest)
three_good word what manifest = either (bytes_eq word (codes "check") && bytes_eq what (codes "control")) _ _ (controls_good (result_ok (word_of manifest))) tt

good : (words : List (List ℕ)) → Good (command_of words)
good [] = tt
good (word ∷ []) = one_good word
good (word ∷ what ∷ []) = two_good word what
good (word ∷ what ∷ manifest ∷ []) = three_good word what manifest
good (word ∷ what ∷ manifest ∷ next ∷ words) = tt

-- the command that words name
pub has_script : (words : List (List ℕ)) (named : Option Command) (command : Command) → named ≡ command_of words → named ≡ Some command → HasScript command
has_script words named command n c = subst Good (sym n ∙ c) (good words)
