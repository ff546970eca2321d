use Rattle.std.proofs.Common.{refl, sym, subst}
use Rattle.std.specs.Prelude.{Vec, IfSome}
use Rattle.std.specs.Global.{Global}
use Rattle.graph_terms.specs.declared.verb.Edge.{Edge}
use Rattle.explanations.specs.Paths.{IsShortest}
use Rattle.explain_graph.proofs.RefusalFacts.{acquire_line, releases, differ, not_before, entered_of}
use Rattle.explain_graph.proofs.reasons.explain_section.Goals as goal

pub shortest_path-requires-2-clause-from : goal.shortest_path-requires-2-clause-from
shortest_path-requires-2-clause-from c = acquire_line c.args.graph.now c.args.release c.args.line c.in-Some.acquire (sym c.in-Some.ensures) c.lines.ensures.is_graph

pub returns : goal.returns
returns c =
    let g = c.args.graph.now in
    let i = c.args.release in
    let j = c.args.line in
    let q = c.in-Some.acquire in
    let acquire = sym c.in-Some.ensures in
    let fails = c.requires.refused.2.here in
    record {
      release = refl;
      line = refl;
      releases = releases g i j q acquire;
      path = subst (λ o. IfSome o (λ (p : Vec Edge Global). IsShortest g j i p.items)) c.in-Some-2.is c.in_ok-path.ensures.shortest;
      differ = differ g i j q acquire fails;
      not_before = not_before g i j q acquire fails;
      entered = entered_of g i j q acquire fails c.in_ok-entered.entered c.in_ok-entered.ensures.shortest c.in_ok-entered.ensures.none;
    }
