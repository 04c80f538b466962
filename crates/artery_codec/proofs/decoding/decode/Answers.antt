use Rattle.artery_codec.specs.Meaning.{meaning_of}
use Rattle.artery_codec.specs.Outcome.{IsMeaning, IsFirstRule}
use Rattle.artery_codec.proofs.Outcomes.{message_shown, rule_shown}
use Rattle.artery_codec.proofs.Meanings.{shows_stands}
use Rattle.artery_codec.proofs.decoding.decode.Goals as goal

pub returns-clause-message : goal.returns-clause-message
returns-clause-message c = λ r s m a b.
    let frame = c.args.frame.now in
    let shows = shows_stands (record { entry = c.keeping_stands.ensures.entry }) frame _ _ r s a b c.meaning_kept.result c.meaning_kept.ensures.kept in
    message_shown (IsMeaning r.story s.story frame m) (meaning_of frame r.story s.story) m c.meaning_kept.result shows
    (c.one_outcome.ensures.message r.story s.story frame m a.story b.story)

pub returns-clause-rule : goal.returns-clause-rule
returns-clause-rule c = λ r s rule a b.
    let frame = c.args.frame.now in
    let shows = shows_stands (record { entry = c.keeping_stands.ensures.entry }) frame _ _ r s a b c.meaning_kept.result c.meaning_kept.ensures.kept in
    rule_shown (IsFirstRule r.story s.story frame rule) (meaning_of frame r.story s.story) rule c.meaning_kept.result shows
    (c.one_outcome.ensures.rule r.story s.story frame rule a.story b.story)
