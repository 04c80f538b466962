-- What a reading says of the longer ones.
use Rattle.std.proofs.Common.{◌≡◌, ℕ, List, ◌++◌, subst, Option, Some}
use Rattle.std.specs.Prelude.{IfSome}
use Rattle.artery_frame.specs.declared.stream.Stream.{Stream}
use Rattle.artery_frame.specs.declared.fault.FrameFault.{FrameFault}
use Rattle.artery_frame.specs.Stream.{reading_of, GoesOn}

-- the law of longer bytes, as it is stated of readings
abbrev pub Longer : Type 0
Longer = (bytes more : List ℕ) → GoesOn (reading_of bytes) (reading_of (bytes ++ more))

-- what is said of a known value
known : {X : Type 0} (o : Option X) (x : X) (P : X → Type 0) → IfSome o P → o ≡ Some x → P x
known {X = X} o x P h e = let Q : Option X → Type 0 = λ w. IfSome w P in subst Q e h

pub longer_frames : Longer → (fed piece : List ℕ) → (more : List (List ℕ)) × ((reading_of (fed ++ piece)).frames ≡ (reading_of fed).frames ++ more)
longer_frames longer fed piece = (longer fed piece).frames

pub longer_stream : Longer → (fed piece : List ℕ) (stream : Stream) → (reading_of fed).stream ≡ Some stream → (reading_of (fed ++ piece)).stream ≡ Some stream
longer_stream longer fed piece stream e = known (reading_of fed).stream stream (λ s. (reading_of (fed ++ piece)).stream ≡ Some s) (longer fed piece).stream e

pub longer_fault : Longer → (fed piece : List ℕ) (fault : FrameFault) → (reading_of fed).end ≡ Some fault → reading_of (fed ++ piece) ≡ reading_of fed
longer_fault longer fed piece fault e = known (reading_of fed).end fault (λ _. reading_of (fed ++ piece) ≡ reading_of fed) (longer fed piece).fault e
