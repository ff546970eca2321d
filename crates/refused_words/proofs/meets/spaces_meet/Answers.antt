use Rattle.std.proofs.Common.{◌≡◌, ℕ, ◌≤◌, false, List, [], ◌∷◌, refl, ◌∙◌, ap, sym, subst, length, arith}
use Rattle.std.specs.Prelude.{◌↔◌, IsTrue}
use Rattle.std.specs.List.{list_any}
use Rattle.std.specs.Option.{option_map_or}
use Rattle.std.proofs.lemmas.Option.{slice_get_past}
use Rattle.index_spaces.specs.Space.{Meet, has_point, points}
use Rattle.graph_terms.specs.Graph.{space_at, named_spaces}
use Rattle.graph_model.proofs.CallLaws.{shares_point}
use Rattle.refused_words.proofs.meets.spaces_meet.Goals as goal

no_point : (ps : List ℕ) → false ≡ list_any (has_point []) ps
no_point [] = refl
no_point (p ∷ ps) = no_point ps

pub returns-then-one-spaces : goal.returns-then-one-spaces
returns-then-one-spaces c =
    let g = c.args.graph.now in
    let past : length (named_spaces g) ≤ c.args.one = omega arith in
    no_point (points (space_at g c.args.other)) ∙ ap (λ o. list_any (has_point (option_map_or (λ x. x.1) o [])) (points (space_at g c.args.other))) (sym (slice_get_past (named_spaces g) c.args.one past))

pub returns-then-other-spaces : goal.returns-then-other-spaces
returns-then-other-spaces c =
    let g = c.args.graph.now in
    let past : length (named_spaces g) ≤ c.args.other = omega arith in
    ap (λ o. list_any (has_point (space_at g c.args.one)) (points (option_map_or (λ x. x.1) o []))) (sym (slice_get_past (named_spaces g) c.args.other past))

pub returns : goal.returns
returns c =
    let g = c.args.graph.now in
    shares_point c.points_are_listed.ensures (space_at g c.args.one) (space_at g c.args.other) c.meets.result
    (subst (λ t. IsTrue c.meets.result ↔ Meet (space_at g c.args.one) t) c.space-2.ensures (subst (λ s. IsTrue c.meets.result ↔ Meet s c.space-2.result.now) c.space.ensures c.meets.ensures))
