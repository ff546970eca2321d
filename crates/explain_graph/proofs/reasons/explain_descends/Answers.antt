use Rattle.std.proofs.Common.{refl, sym, subst}
use Rattle.std.specs.Prelude.{Vec, IfSome}
use Rattle.std.specs.Global.{Global}
use Rattle.graph_terms.specs.declared.verb.Edge.{Edge}
use Rattle.explanations.specs.Paths.{IsShortest}
use Rattle.explanations.proofs.SectionFacts.{acquires_from}
use Rattle.explain_graph.proofs.RefusalFacts.{left_there, not_below}
use Rattle.explain_graph.proofs.reasons.explain_descends.Goals as goal

pub unreachable-requires-in_default-3 : goal.unreachable-requires-in_default-3
unreachable-requires-in_default-3 c =
    left_there c.args.graph.now c.args.outer c.args.inner c.in-Some.outer_lock c.in-Some-lock_of.inner_lock c.in-Some-release_of.release c.requires.refused.3.here c.in-Some-release_of.ensures.release.1
    c.lines.ensures.is_graph (c.in_ok-left.ensures.none c.in_default-3.is)

pub returns : goal.returns
returns c =
    let g = c.args.graph.now in
    record {
      outer = refl;
      inner = refl;
      outer_lock = acquires_from g c.args.outer c.in-Some.outer_lock (sym c.in-Some.ensures);
      inner_lock = acquires_from g c.args.inner c.in-Some-lock_of.inner_lock (sym c.in-Some-lock_of.ensures);
      not_below = not_below g c.args.outer c.args.inner c.in-Some.outer_lock c.in-Some-lock_of.inner_lock c.in-Some-release_of.release c.requires.refused.3.here c.in-Some-release_of.ensures.release.1
          (sym c.in-Some.ensures) (sym c.in-Some-lock_of.ensures);
      release = c.in-Some-release_of.ensures.release.1;
      entered = subst (λ o. IfSome o (λ (p : Vec Edge Global). IsShortest g c.args.outer c.args.inner p.items)) c.in-Some-2.is c.in_ok-entered.ensures.shortest;
      left = subst (λ o. IfSome o (λ (p : Vec Edge Global). IsShortest g c.args.inner c.in-Some-release_of.release p.items)) c.in-Some-3.is c.in_ok-left.ensures.shortest;
    }
