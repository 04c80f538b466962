-- The two ends by which connections are found.
use Rattle.std.specs.Prelude.{ℕ, Bool, ◌&&◌, ◌==◌}
use Rattle.artery_connections.specs.declared.end.End.{End}

-- The end of this incarnation, with this number.
abbrev pub end_of : ℕ → ℕ → End
end_of uid number = record { uid = uid; number = number }

-- Whether two ends are of the same incarnation and have the same number.
abbrev pub same_end : End → End → Bool
same_end a b = (a.uid == b.uid) && (a.number == b.number)
