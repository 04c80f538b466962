-- How much of a source a command takes.
use Rattle.std.specs.Prelude.{◌≡◌, ℕ, ◌+◌, ◌≤◌, ◌<◌, List, length, Option, IfSome}
use Rattle.std.specs.Io.KnownBytes.{IsAtEnd}
use Rattle.artery_cli.specs.declared.input.Gathered.{Gathered}
use Rattle.artery_cli.specs.declared.input.Gathered.TheVariants.{Whole, TooLong}
use Rattle.artery_cli.specs.Limits.{most_bytes}

-- what was read is the whole text within the limit, or the text is longer
abbrev pub Gathers : Gathered → List ℕ → Type 0
Gathers (Whole bytes) text = (bytes ≡ text) × (length text ≤ most_bytes)
Gathers TooLong text = most_bytes < length text

-- at most so many bytes were taken from a source, where it tells what is left
abbrev pub ReadsAtMost : ℕ → Option (List ℕ) → Option (List ℕ) → Type 0
ReadsAtMost n old new = IfSome old (λ text. IfSome new (λ rest. length text ≤ n + length rest))

-- an input within the limit was read to its end, where the source tells what is left
abbrev pub ReadsAll : Option (List ℕ) → Option (List ℕ) → Type 0
ReadsAll old new = IfSome old (λ text. length text ≤ most_bytes → IsAtEnd new)

-- what was read whole is within the limit
abbrev pub IsWithin : Gathered → Type 0
IsWithin (Whole bytes) = length bytes ≤ most_bytes
IsWithin TooLong = Unit {0}
