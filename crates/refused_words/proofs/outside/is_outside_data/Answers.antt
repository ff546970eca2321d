use Rattle.std.proofs.Common.{◌≤◌, [], not, ◌∙◌, ap, sym, subst, length, arith}
use Rattle.std.specs.Prelude.{◌↔◌, IsTrue, nat_lt}
use Rattle.std.specs.List.{list_all}
use Rattle.std.specs.Option.{option_map_or}
use Rattle.std.proofs.lemmas.Option.{slice_get_past}
use Rattle.index_spaces.specs.Space.{IsWithin, has_point, points}
use Rattle.graph_terms.specs.Graph.{space_at, data_columns, data_space}
use Rattle.graph_model.proofs.CallLaws.{lies_outside}
use Rattle.refused_words.proofs.UseFacts.{none_within}
use Rattle.refused_words.proofs.outside.is_outside_data.Goals as goal

pub returns-then-column-data_columns : goal.returns-then-column-data_columns
returns-then-column-data_columns c =
    let g = c.args.graph.now in
    let past : length (data_columns g) ≤ c.args.column = omega (arith, c.if-column-data_columns.true, c.data_columns.ensures.number) in
    ap (nat_lt 0) (c.size.ensures.size ∙ ap (λ s. length (points s)) c.space.ensures) ∙ (none_within (points (space_at g c.args.space))
    ∙ ap (λ o. not (list_all (has_point (option_map_or (λ x. space_at g x.space) o [])) (points (space_at g c.args.space)))) (sym (slice_get_past (data_columns g) c.args.column past)))

pub returns : goal.returns
returns c =
    let g = c.args.graph.now in
    lies_outside c.points_are_listed.ensures (space_at g c.args.space) (data_space g c.args.column) c.is_within.result
    (subst (λ t. IsTrue c.is_within.result ↔ IsWithin (space_at g c.args.space) t) c.data_space.ensures
    (subst (λ s. IsTrue c.is_within.result ↔ IsWithin s c.data_space.result.now) c.space-2.ensures c.is_within.ensures))
