use Rattle.std.proofs.Common.{◌≡◌, ◌++◌, ◌∙◌, ap, sym, map, [], append-nil, rules}
use Rattle.artery_tables.specs.TopTable.{ranked}
use Rattle.artery_tables.proofs.Ranks.{sort_by_ranks, map_ranked}
use Rattle.artery_tables.proofs.ranking.ranked_names.Goals as goal

pub returns : goal.returns
returns c =
    let names = c.loop-name.names.items in
    let sorted : c.sort_by.new.self.items ≡ ranked names = sort_by_ranks names _ c.in_ok-sort_by.ensures.sorted c.sort_by.ensures.stable (λ a r f' k. search rules) in
    let past : c.loop-name.name-iterator ≡ [] = search rules in
    let all : map (λ e. (e.0.now, e.1)) names ≡ c.args.counts.now.entries =
    sym (append-nil (map (λ e. (e.0.now, e.1)) names)) ∙ ap (λ l. map (λ e. (e.0.now, e.1)) names ++ l) (sym past) ∙ c.loop-name.invariant in
    ap (map (λ e. (e.0.now, e.1))) sorted ∙ map_ranked (λ b. b.now) names ∙ ap ranked all
