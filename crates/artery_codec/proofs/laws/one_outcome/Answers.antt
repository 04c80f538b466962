use Rattle.artery_codec.proofs.Outcomes.{one_message, one_rule}
use Rattle.artery_codec.proofs.laws.one_outcome.Goals as goal

pub returns-clause-message : goal.returns-clause-message
returns-clause-message c =
    one_message (record { envelope = c.one_reading.ensures.envelope; fault = c.one_reading.ensures.fault })
    (record { found = c.known_numbers_are_found.ensures.found; known = c.known_numbers_are_found.ensures.known })

pub returns-clause-rule : goal.returns-clause-rule
returns-clause-rule c =
    one_rule (record { envelope = c.one_reading.ensures.envelope; fault = c.one_reading.ensures.fault })
    (record { found = c.known_numbers_are_found.ensures.found; known = c.known_numbers_are_found.ensures.known })
