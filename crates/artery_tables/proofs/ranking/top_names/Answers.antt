use Rattle.std.proofs.Common.{◌∙◌, ap, map}
use Rattle.artery_tables.proofs.Ranks.{first_names}
use Rattle.artery_tables.proofs.ranking.top_names.Goals as goal

pub returns : goal.returns
returns c =
    c.in_ok-names.ensures ∙ ap (map (λ e. e.0.now)) (c.deref.ensures.value ∙ c.truncate.ensures.items) ∙ first_names c.in_ok-ranked.ranked.items c.args.counts.now.entries c.in_ok-ranked.ensures
