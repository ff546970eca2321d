use Rattle.std.proofs.Common.{◌<◌, not, length, sym, ◌∙◌, ap, subst, arith}
use Rattle.std.specs.Prelude.{Contains, filter, flat_map}
use Rattle.flow_order.specs.Bits.{word_bit}
use Rattle.graph_terms.specs.Access.{accesses}
use Rattle.flow_order.specs.SourceParts.{down_from, is_large, least, sources_after}
use Rattle.flow_order.proofs.AgainSteps.{only_part}
use Rattle.flow_order.proofs.SourceSteps.{large_below, parts_are, parts_below}
use Rattle.flow_order.proofs.sources.parts_of.Goals as goal

pub returns-in-Some : goal.returns-in-Some
returns-in-Some c =
    let none = sym c.as_slice.ensures.value ∙ c.in-Some.ensures.0 in
    only_part c.args.flow.now c.args.commute (length c.args.rows.now.rows.items) _ c.in_ok-large.few.items c.in_ok-large.ensures.large c.in_ok-large.ensures.few none c.in-Some.ensures.1

pub returns : goal.returns
returns c =
    let f = c.args.flow.now in
    let n = length c.args.rows.now.rows.items in
    parts_are f c.args.commute n _ c.as_slice-2.result.now (word_bit c.in_ok-asked.asked) c.in_ok-large.ensures.large (c.as_slice-2.ensures.value ∙ (c.in_default.ensures ∙ c.in_ok-large.ensures.few)) c.in_ok-asked.ensures.bits
    (c.in_ok-small.ensures ∙ ap (λ xs. least (sources_after f c.args.commute n) (flat_map (λ p. p) xs) (filter (word_bit c.in_ok-asked.asked) (down_from n))) c.as_slice-3.ensures.value)

pub least-requires-clause-kept : goal.least-requires-clause-kept
least-requires-clause-kept c =
    let f = c.args.flow.now in
    let n = length c.args.rows.now.rows.items in
    λ i d. large_below f c.args.commute n (accesses f n) i (subst (λ xs. Contains (flat_map (λ p. p) xs) i) (c.as_slice-3.ensures.value ∙ c.in_ok-large.ensures.large) d)

pub asked_among-requires : goal.asked_among-requires
asked_among-requires c =
    let f = c.args.flow.now in
    λ i d. (
    let below : i < length c.args.rows.now.rows.items = parts_below f c.args.commute (λ p. not (is_large c.args.flow.now.format p)) (length c.args.rows.now.rows.items) (accesses f (length c.args.rows.now.rows.items)) i
    (subst (λ xs. Contains (flat_map (λ p. p) xs) i) (c.as_slice-2.ensures.value ∙ (c.in_default.ensures ∙ c.in_ok-large.ensures.few)) d) in
    omega arith)
