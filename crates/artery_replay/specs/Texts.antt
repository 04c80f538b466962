-- The texts of what comes of a run: outcomes in each form, the bytes of connections, and why a run stopped.
use Rattle.std.specs.Prelude.{ℕ, List, [], ◌++◌, codes, decimal}
use Rattle.std.specs.List.{flat_map}
use Rattle.artery_text.specs.Spelling.{hex_text}
use Rattle.artery_journal.specs.declared.line.Line.{Line}
use Rattle.artery_journal.specs.Texts.{line_text}
use Rattle.artery_machine.specs.declared.world.Outcome.{Outcome}
use Rattle.artery_machine.specs.declared.world.Outcome.TheVariants as outcomes
use Rattle.artery_machine.specs.declared.world.Why.{Why}
use Rattle.artery_machine.specs.declared.world.Why.TheVariants as why
use Rattle.artery_machine.specs.declared.world.WorldFault.{WorldFault}
use Rattle.artery_machine.specs.declared.world.WorldFault.TheVariants as faults
use Rattle.artery_machine.specs.declared.world.WorldLimit.{WorldLimit}
use Rattle.artery_machine.specs.declared.world.WorldLimit.TheVariants as limits
use Rattle.artery_replay.specs.declared.form.Form.{Form}
use Rattle.artery_replay.specs.declared.form.Form.TheVariants.{Plain, Bytes, Stamped}

-- A text with its line feed.
abbrev pub ended : List ℕ → List ℕ
ended text = text ++ codes "\n"

-- What stands before everything else: with moments, that the journal is of form 2.
abbrev pub front_text : Form → List ℕ
front_text Plain = []
front_text Bytes = []
front_text Stamped = codes "journal 2\n"

-- A line of the journal: with moments, its moment stands before it.
abbrev pub told_text : Form → ℕ → Line → List ℕ
told_text Plain moment line = line_text line ++ codes "\n"
told_text Bytes moment line = line_text line ++ codes "\n"
told_text Stamped moment line = decimal moment ++ codes " " ++ line_text line ++ codes "\n"

-- A write: told only with bytes.
abbrev pub write_text : Form → ℕ → ℕ → List ℕ → List ℕ
write_text Plain uid dial bytes = []
write_text Bytes uid dial bytes = codes "write " ++ decimal uid ++ codes " " ++ decimal dial ++ codes " " ++ hex_text bytes ++ codes "\n"
write_text Stamped uid dial bytes = []

-- What came of an event.
abbrev pub outcome_text : Form → Outcome → List ℕ
outcome_text form (outcomes.Line moment line) = told_text form moment line
outcome_text form (outcomes.Wrote uid dial bytes) = write_text form uid dial bytes

-- What came of events, in order.
abbrev pub outcomes_text : Form → List Outcome → List ℕ
outcomes_text form all = flat_map (outcome_text form) all

-- The word for an event that is not allowed.
abbrev pub why_word : Why → List ℕ
why_word why.UsedUid = codes "used-uid"
why_word why.AddressLive = codes "address-live"
why_word why.NotLive = codes "not-live"
why_word why.OwnAddress = codes "own-address"
why_word why.MomentBack = codes "moment-back"
why_word why.NoDial = codes "no-dial"
why_word why.Nobody = codes "nobody"
why_word why.NoConnection = codes "no-connection"
why_word why.FarEnded = codes "far-ended"
why_word why.NearEnded = codes "near-ended"
why_word why.TooMany = codes "too-many"
why_word why.NotStarted = codes "not-started"

-- The word for a limit of a network.
abbrev pub limit_word : WorldLimit → List ℕ
limit_word limits.Nodes = codes "nodes"
limit_word limits.Undelivered = codes "undelivered"
limit_word limits.Connections = codes "connections"

-- The last line of a run that stopped at a line of its script.
abbrev pub stop_text : ℕ → WorldFault → List ℕ
stop_text line (faults.NotAllowed reason) = codes "fault line " ++ decimal line ++ codes " not-allowed " ++ why_word reason ++ codes "\n"
stop_text line (faults.Limit which) = codes "fault line " ++ decimal line ++ codes " limit " ++ limit_word which ++ codes "\n"
stop_text line faults.NoMemory = codes "fault memory\n"

-- The status of such a run: 5 for an event that is not allowed, 6 at a limit.
abbrev pub stop_status : WorldFault → ℕ
stop_status (faults.NotAllowed reason) = 5
stop_status (faults.Limit which) = 6
stop_status faults.NoMemory = 9
