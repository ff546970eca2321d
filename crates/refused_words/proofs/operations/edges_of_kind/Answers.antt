use Rattle.std.proofs.Common.{length, sym, ◌∙◌, ap, subst}
use Rattle.basics.specs.Words.{contents}
use Rattle.graph_terms.specs.Edges.{verb_edges}
use Rattle.graph_words.specs.Draft.{BarrierName}
use Rattle.graph_reader.specs.Kinds.{HasPlaces, kind_verb}
use Rattle.word_meanings.specs.Telling.{named_number}
use Rattle.refused_words.proofs.LimitFacts.{phase_gives}
use Rattle.refused_words.proofs.operations.edges_of_kind.Goals as goal

pub returns-in-Phase-clause-count : goal.returns-in-Phase-clause-count
returns-in-Phase-clause-count c =
    let g = c.args.graph.now in
    let ws = contents c.args.rest.now in
    c.one_if.ensures.one
    ∙ (phase_gives g ws c.see-barrier.result.number c.has_phase.result (subst (λ k. HasPlaces k ws) c.in-Phase.is c.requires) (c.see-barrier.ensures.number ∙ ap (named_number g BarrierName) c.word.ensures) c.has_phase.ensures
    ∙ ap (λ k. length (verb_edges g.lines (length g.lines) (kind_verb g k ws))) (sym c.in-Phase.is))
