-- Pieces that are read one after the other.
use Rattle.std.proofs.Common.{◌≡◌, ℕ, ◌+◌, ◌≤◌, ◌<◌, List, [], ◌++◌, length, refl, sym, ◌∙◌, ap, append_assoc, append-nil, arith, length-append}
use Rattle.std.specs.Prelude.{Option, None, Some, IfSome}
use Rattle.std.specs.Io.KnownBytes.{Consumes, IsAtEnd}
use Rattle.artery_io.specs.Faults.{Rose}
use Rattle.artery_cli.specs.declared.input.Gathered.TheVariants.{Whole, TooLong}
use Rattle.artery_cli.specs.Limits.{most_bytes}
use Rattle.artery_cli.specs.Reading.{Gathers, ReadsAtMost, ReadsAll}

pub nothing_read : (old : Option (List ℕ)) → Consumes old old []
nothing_read None = tt
nothing_read (Some text) = refl

pub piece_read : (old mid new : Option (List ℕ)) (bytes piece more : List ℕ) → Consumes old mid bytes → Consumes mid new piece → more ≡ bytes ++ piece → Consumes old new more
piece_read None mid new bytes piece more h k e = tt
piece_read (Some a) None new bytes piece more h k e = absurd h
piece_read (Some a) (Some b) None bytes piece more h k e = absurd k
piece_read (Some a) (Some b) (Some c) bytes piece more h k e = h ∙ ap (λ rest. bytes ++ rest) k ∙ sym (append_assoc bytes piece c) ∙ ap (λ front. front ++ c) (sym e)

pub all_read : (old mid new : Option (List ℕ)) (bytes piece : List ℕ) → Consumes old mid bytes → Consumes mid new piece → piece ≡ [] → IsAtEnd new → length bytes ≤ most_bytes → IfSome old (λ text. Gathers (Whole bytes) text)
all_read None mid new bytes piece h k e z l = tt
all_read (Some a) None new bytes piece h k e z l = absurd h
all_read (Some a) (Some b) None bytes piece h k e z l = absurd k
all_read (Some a) (Some b) (Some c) bytes piece h k e z l =
    let none : b ≡ [] = k ∙ ap (λ p. p ++ c) e ∙ z in
    let same : bytes ≡ a = sym (h ∙ ap (λ rest. bytes ++ rest) none ∙ append-nil bytes) in
    (same, (let long : length bytes ≡ length a = ap length same in omega arith))

pub too_much_read : (old new : Option (List ℕ)) (bytes : List ℕ) → Consumes old new bytes → most_bytes < length bytes → IfSome old (λ text. Gathers TooLong text)
too_much_read None new bytes h l = tt
too_much_read (Some a) None bytes h l = absurd h
too_much_read (Some a) (Some b) bytes h l = (let long : length a ≡ length bytes + length b = ap length h ∙ length-append bytes b in omega arith)

-- the source answered that it is at its end
pub read_to_end : (old new : Option (List ℕ)) → IsAtEnd new → ReadsAll old new
read_to_end None new e = tt
read_to_end (Some text) new e = λ _. e

-- more was read than the limit allows
pub read_past_limit : (old new : Option (List ℕ)) (bytes : List ℕ) → Consumes old new bytes → most_bytes < length bytes → ReadsAll old new
read_past_limit None new bytes h l = tt
read_past_limit (Some a) None bytes h l = absurd h
read_past_limit (Some a) (Some b) bytes h l = λ short. absurd (let long : length a ≡ length bytes + length b = ap length h ∙ length-append bytes b in omega (arith, short, l, long))

pub nothing_taken : (n : ℕ) (old : Option (List ℕ)) → ReadsAtMost n old old
nothing_taken n None = tt
nothing_taken n (Some text) = omega arith

pub rose_later : (old mid new : ℕ) → old ≤ mid → Rose mid new → Rose old new
rose_later old mid new h r = omega (arith, r)
