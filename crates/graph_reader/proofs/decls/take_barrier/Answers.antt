use Rattle.std.proofs.Common.{ap, sym, ◌∙◌, not, ◌||◌, false}
use Rattle.std.specs.Prelude.{is_some}
use Rattle.graph_terms.specs.declared.decl.Decl.TheVariants as decl
use Rattle.graph_words.specs.Words.{count_of, value_of}
use Rattle.graph_words.specs.Draft.{barrier_with}
use Rattle.graph_reader.proofs.DeclFaults.{done_by, refused_by, barrier_is, barrier_misnumbered, or_yes}
use Rattle.graph_reader.proofs.decls.take_barrier.Goals as goal

pub returns-in_default-count : goal.returns-in_default-count
returns-in_default-count c =
    refused_by (Unit {0}) c.args.graph.now (barrier_with (c.args.graph.now).format c.args.name.now c.args.arrivals.now c.args.op c.args.first.now) _ c.twice_or.result c.twice_or.ensures
    (barrier_misnumbered c.args.graph.now c.args.name.now c.in-Some.new c.args.arrivals.now c.args.first.now c.args.op c.in-Some.ensures.1 c.in-Some.ensures.0
    (ap (λ f. not (is_some (count_of f c.args.arrivals.now)) || (not (is_some (value_of c.args.first.now)) || false)) (sym c.format.ensures) ∙ ap (λ o. not (is_some o) || (not (is_some (value_of c.args.first.now)) || false)) (sym c.in_default-count.ensures)))

pub returns-in_default-value : goal.returns-in_default-value
returns-in_default-value c =
    refused_by (Unit {0}) c.args.graph.now (barrier_with (c.args.graph.now).format c.args.name.now c.args.arrivals.now c.args.op c.args.first.now) _ c.twice_or-in_default-value.result c.twice_or-in_default-value.ensures
    (barrier_misnumbered c.args.graph.now c.args.name.now c.in-Some.new c.args.arrivals.now c.args.first.now c.args.op c.in-Some.ensures.1 c.in-Some.ensures.0
    (ap (λ o. not (is_some (count_of (c.args.graph.now).format c.args.arrivals.now)) || (not (is_some o) || false)) (sym c.in_default-value.ensures) ∙ or_yes _))

pub returns : goal.returns
returns c =
    let b = barrier_is c.args.graph.now c.args.name.now c.in-Some.new c.args.arrivals.now c.args.first.now c.args.op c.in-Some-count.count c.in-Some-value.first c.in-Some.ensures.1 c.in-Some.ensures.0 (ap (λ f. count_of f c.args.arrivals.now) (sym c.format.ensures) ∙ sym c.in-Some-count.ensures) (sym c.in-Some-value.ensures) in
    done_by c.args.graph.now c.offer_decl.new.graph (barrier_with (c.args.graph.now).format c.args.name.now c.args.arrivals.now c.args.op c.args.first.now) (decl.Barrier c.in-Some.new c.in-Some-count.count c.args.op c.in-Some-value.first) _ c.offer_decl.result b.0 b.1 c.offer_decl.ensures
