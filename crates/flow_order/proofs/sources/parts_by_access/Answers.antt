use Rattle.std.proofs.Common.{◌≡◌, ◌<◌, ◌++◌, [], ◌∷◌, not, cond, length, sym, ◌∙◌, ap, subst, rules, arith}
use Rattle.std.specs.Prelude.{Some, slice_get}
use Rattle.std.proofs.lemmas.Option.{slice_get_within}
use Rattle.basics.proofs.ListFacts.{got_contains}
use Rattle.graph_terms.specs.Access.{accesses}
use Rattle.flow_order.specs.SourceParts.{is_large, least, sources_after, tied_by}
use Rattle.flow_order.proofs.LeastSteps.{part_same}
use Rattle.flow_order.proofs.SourceSteps.{part_kept, cond_not}
use Rattle.flow_order.proofs.sources.parts_by_access.Goals as goal

pub loop-k-preserved : goal.loop-k-preserved
loop-k-preserved c =
    let f = c.args.flow.now in
    let n = c.len-line.result in
    let same : length c.args.rows.now.rows.items ≡ c.len-line.result = search rules in
    let at : slice_get (accesses f n) c.loop-k.k ≡ Some c.in-Some.access = sym c.in-Some.ensures in
    let part : c.in_ok-part.part ≡ least (sources_after f c.args.commute n) [] (tied_by f c.args.commute n c.in-Some.access) = subst (λ z. c.in_ok-part.part ≡ least (sources_after f c.args.commute z) [] (tied_by f c.args.commute z c.in-Some.access)) same
    (part_same f c.args.commute (length c.args.rows.now.rows.items) c.in-Some.access c.in_ok-asked.asked c.in_ok-part.part c.in_ok-asked.ensures.asked c.in_ok-part.ensures) in
    let within : c.loop-k.k < length (accesses f n) = slice_get_within (accesses f n) c.loop-k.k c.in-Some.access at in
    record {
      few_left = omega arith;
      large = part_kept f c.args.commute n (is_large f.format) (accesses f n) c.loop-k.k c.in-Some.access c.in_ok-part.part c.loop-k.large.items c.keep_part.new.large.items at part c.loop-k.invariant.large (c.in_ok-keep_part.ensures.large ∙ ap (λ fm. cond (is_large fm c.in_ok-part.part) (c.loop-k.large.items ++ c.in_ok-part.part ∷ []) c.loop-k.large.items) c.format.ensures);
      few = part_kept f c.args.commute n (λ p. not (is_large f.format p)) (accesses f n) c.loop-k.k c.in-Some.access c.in_ok-part.part c.loop-k.few.items c.keep_part.new.few.items at part c.loop-k.invariant.few (c.in_ok-keep_part.ensures.few ∙ (ap (λ fm. cond (is_large fm c.in_ok-part.part) c.loop-k.few.items (c.loop-k.few.items ++ c.in_ok-part.part ∷ [])) c.format.ensures ∙ cond_not f c.args.commute (is_large f.format c.in_ok-part.part) c.loop-k.few.items (c.loop-k.few.items ++ c.in_ok-part.part ∷ [])));
    }

pub asked_by-requires-clause-column : goal.asked_by-requires-clause-column
asked_by-requires-clause-column c =
    (c.accesses_fit.ensures c.args.flow.now c.len-line.result c.in-Some.access c.lines.ensures.is_graph (got_contains (accesses c.args.flow.now c.len-line.result) c.loop-k.k c.in-Some.access (sym c.in-Some.ensures))).column

pub asked_by-requires-clause-space : goal.asked_by-requires-clause-space
asked_by-requires-clause-space c =
    (c.accesses_fit.ensures c.args.flow.now c.len-line.result c.in-Some.access c.lines.ensures.is_graph (got_contains (accesses c.args.flow.now c.len-line.result) c.loop-k.k c.in-Some.access (sym c.in-Some.ensures))).space
