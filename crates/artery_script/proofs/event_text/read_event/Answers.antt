use Rattle.artery_script.specs.Texts.{event_text}
use Rattle.artery_script.specs.Valid.{IsEvent, EventHasBytes}
use Rattle.artery_script.specs.Reading.{event_of}
use Rattle.artery_script.proofs.Found.{found, only}
use Rattle.artery_script.proofs.event_text.read_event.Goals as goal

pub returns-clause-found : goal.returns-clause-found
returns-clause-found c = found event_of event_text IsEvent c.events_are_spelled.ensures.read c.args.line.now c.event_from.result c.event_from.ensures

pub returns-clause-only : goal.returns-clause-only
returns-clause-only c e v b same = only event_of event_text IsEvent EventHasBytes c.events_are_spelled.ensures.told c.args.line.now e c.event_from.result c.event_from.ensures v b same
