use Rattle.std.proofs.Common.{refl, sym, ◌∙◌, ap, not}
use Rattle.std.specs.Prelude.{find}
use Rattle.graph_terms.specs.Graph.{is_merge_ignore, line_passes}
use Rattle.explanations.proofs.SectionFacts.{releases_from}
use Rattle.explain_graph.proofs.RefusalFacts.{stands_on_none}
use Rattle.explain_graph.proofs.reasons.explain_release.Goals as goal

pub returns : goal.returns
returns c =
    let g = c.args.graph.now in
    let first = c.first_faulting.ensures ∙ ap (find (λ m. not (line_passes is_merge_ignore g m))) c.as_slice.ensures in
    record {
      release = refl;
      releases = releases_from g c.args.release c.in-Some.acquire (sym c.in-Some.ensures);
      line = c.line.result.now;
      at = c.line.ensures.line;
      on = first;
      bare = λ none. stands_on_none g c.args.release c.line.result.now c.line.ensures.line c.requires.refused.4.here (sym first ∙ none);
    }
