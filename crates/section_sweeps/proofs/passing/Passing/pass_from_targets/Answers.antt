use Rattle.std.proofs.Common.{inl, inr, refl, sym, ap, ◌∙◌, subst, arith}
use Rattle.std.specs.List.{slice_index_or}
use Rattle.graph_terms.specs.declared.verb.Edge.{Edge}
use Rattle.sweep_base.specs.Bits.{bit_in}
use Rattle.sweep_base.proofs.Public.{or_old, or_new}
use Rattle.sweep_base.proofs.Public.{take_cases, take_whole}
use Rattle.sweep_base.specs.Laws.{no_edge}
use Rattle.section_sweeps.proofs.Edging.{edge_out, target_known, listed_out}
use Rattle.section_sweeps.specs.Passing.{HasEither}
use Rattle.section_sweeps.proofs.PassingSteps.{or_split}
use Rattle.section_sweeps.proofs.passing.Passing.pass_from_targets.Goals as goal

pub bits-word-requires-clause-own : goal.bits-word-requires-clause-own
bits-word-requires-clause-own c =
    let known = target_known c.args.graph.now c.lines.ensures.is_graph c.edges_between_lines.ensures c.args.line c.loop-edge.edge-index c.edges_from-edges.result.now c.edges_from-edges.ensures c.loop-edge-test.true in
    omega (arith, known, c.requires.size.own)

pub bits-word-requires-clause-passed : goal.bits-word-requires-clause-passed
bits-word-requires-clause-passed c =
    let known = target_known c.args.graph.now c.lines.ensures.is_graph c.edges_between_lines.ensures c.args.line c.loop-edge.edge-index c.edges_from-edges.result.now c.edges_from-edges.ensures c.loop-edge-test.true in
    omega (arith, known, c.requires.size.passed)

pub loop-edge-preserved : goal.loop-edge-preserved
loop-edge-preserved c =
    let es = c.edges_from-edges.result.now in
    let e = slice_index_or es c.loop-edge.edge-index no_edge in
    let own = c.args.self.now.own.items in
    let passed = c.args.self.now.passed.items in
    let in' = edge_out c.args.graph.now c.args.line c.loop-edge.edge-index es c.edges_from-edges.ensures c.loop-edge-test.true in
    record {
      is = λ b h. elim (or_split c.loop-edge.word c.bits-word.result b h) [
        | inl old ↦ c.loop-edge.invariant.is b old
        | inr new ↦ (e, in'.0, in'.1, ap (λ z. bit_in z b) (sym c.bits-word.ensures) ∙ new)
      ];
      all = λ d b listed h. elim (take_cases es c.loop-edge.edge-index no_edge d c.loop-edge-test.true listed) [
        | inl before ↦ or_old c.loop-edge.word c.bits-word.result b (c.loop-edge.invariant.all d b before h)
        | inr same ↦ or_new c.loop-edge.word c.bits-word.result b (ap (λ z. bit_in z b) c.bits-word.ensures ∙ subst (λ (z : Edge). HasEither own passed z.to b) (sym same) h)
      ];
    }

pub returns-clause-passed : goal.returns-clause-passed
returns-clause-passed c =
    let es = c.edges_from-edges.result.now in (
      c.loop-edge.word,
      refl,
      record {
        is = c.loop-edge.invariant.is;
        all = λ e b known end h. c.loop-edge.invariant.all e b (take_whole es c.loop-edge.edge-index e (omega (arith, c.loop-edge-test.false)) (listed_out c.args.graph.now c.args.line es c.edges_from-edges.ensures e known end)) h;
      },
    )
