-- What reading answers: a value, or the first fault.
use Rattle.std.specs.Prelude.{ℕ, Bool, true, false, List, ◌++◌, Result, Ok, Err, if◌then◌else◌}
use Rattle.std.specs.List.{list_all}
use Rattle.artery_control.specs.declared.fault.ControlFault.{ControlFault}
use Rattle.artery_control.specs.declared.fault.ControlFault.TheVariants as faults
use Rattle.artery_control.specs.declared.path.Path.{Path}
use Rattle.artery_control.specs.declared.path.Path.TheVariants as paths

-- the field with this number in what stands at the path
abbrev pub to_field : Path → ℕ → Path
to_field paths.Message k = paths.Field k
to_field (paths.Field a) k = paths.Inner a k
to_field (paths.Inner a b) k = paths.Innermost a b k
to_field (paths.Innermost a b c) k = paths.Innermost a b c

-- the list, where each of it passes the test, else the fault
unfoldable pub each_of : {X : Type 0} → (X → Bool) → ControlFault → List X → Result (List X) ControlFault
each_of test fault xs = if list_all test xs then Ok xs else Err fault

-- the list that is read, behind the list before it; a fault stays
abbrev pub appended : {X : Type 0} → List X → Result (List X) ControlFault → Result (List X) ControlFault
appended before (Ok xs) = Ok (before ++ xs)
appended before (Err e) = Err e

-- whether a fault is want of memory
abbrev pub is_memory : ControlFault → Bool
is_memory faults.NoMemory = true
is_memory _ = false

-- a result, its value seen by a view
abbrev pub seen_by : {X Y : Type 0} → (X → Y) → Result X ControlFault → Result Y ControlFault
seen_by view (Ok x) = Ok (view x)
seen_by view (Err e) = Err e
