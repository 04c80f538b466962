-- What a deframer answers next.
use Rattle.std.specs.Prelude.{◌≡◌, ℕ, List, [], ◌∷◌, Option, None, Some, Result, Ok, Err}
use Rattle.artery_frame.specs.declared.fault.FrameFault.{FrameFault}
use Rattle.artery_core.specs.declared.coming.Next.{Next}
use Rattle.artery_core.specs.declared.coming.Next.TheVariants.{Frame, Nothing, Broken}

-- What an answer gives: a frame, nothing yet, or the fault of the stream.
abbrev pub next_told : Result (Option (List ℕ)) FrameFault → Next
next_told (Ok (Some frame)) = Frame
next_told (Ok None) = Nothing
next_told (Err fault) = Broken fault

-- What came next tells the fault of a stream that gives no frame any more.
abbrev pub TellsFault : Next → Option FrameFault → Type 0
TellsFault Frame fault = Unit {0}
TellsFault Nothing fault = None ≡ fault
TellsFault (Broken told) fault = Some told ≡ fault

-- The frame that an answer gives, if it does.
abbrev pub frame_in : Result (Option (List ℕ)) FrameFault → List (List ℕ)
frame_in (Ok (Some frame)) = frame ∷ []
frame_in (Ok None) = []
frame_in (Err fault) = []
