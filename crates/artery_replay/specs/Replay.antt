-- What `replay` tells of a run.
use Rattle.std.specs.Prelude.{ℕ, List, ◌++◌, codes, decimal, map, Option, None, Some}
use Rattle.std.specs.List.{flat_map}
use Rattle.artery_machine.specs.Parts.{Parts}
use Rattle.artery_machine.specs.Ways.{Ways}
use Rattle.artery_machine.specs.Connections.{Connection}
use Rattle.artery_machine.specs.Playing.{Run, Stop}
use Rattle.artery_laws.specs.Network.{Counted, counts_of}
use Rattle.artery_replay.specs.declared.form.Form.{Form}
use Rattle.artery_replay.specs.Texts.{front_text, outcomes_text, stop_text, stop_status}

-- The line of a connection: who dialed it, with which number, and how many of its bytes were written and delivered.
abbrev pub count_line : ℕ → ℕ → ℕ → ℕ → List ℕ
count_line uid dial written delivered =
    codes "bytes " ++ decimal uid ++ codes " " ++ decimal dial ++ codes " " ++ decimal written ++ codes " " ++ decimal delivered ++ codes "\n"

-- The line of what is counted of a connection.
abbrev pub counted_text : Counted → List ℕ
counted_text c = count_line c.uid c.dial c.written c.delivered

-- The lines of connections, in the order made.
abbrev pub counts_text : {W : Ways} → List (Connection W) → List ℕ
counts_text connections = flat_map counted_text (map counts_of connections)

-- What stands behind the outcomes: the lines of all connections, or the line of the event that did not happen or not to its end.
abbrev pub end_text : {P : Parts} {W : Ways} → Run P W → Option Stop → List ℕ
end_text r None = counts_text r.world.connections
end_text r (Some stop) = stop_text stop.line stop.fault

-- All that is told of a run.
abbrev pub run_text : {P : Parts} {W : Ways} → Form → Run P W → List ℕ
run_text form r = front_text form ++ outcomes_text form r.world.outcomes ++ end_text r r.stop

-- The status of a run: 0 where all its events happened.
abbrev pub run_status : Option Stop → ℕ
run_status None = 0
run_status (Some stop) = stop_status stop.fault
