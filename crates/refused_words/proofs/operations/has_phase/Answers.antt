use Rattle.std.proofs.Common.{◌≡◌, ◌-◌, ◌≤◌, length, get_or, sym, ◌∙◌, ap, arith}
use Rattle.std.specs.Prelude.{is_some}
use Rattle.std.proofs.lemmas.Option.{get_or_from_slice_get}
use Rattle.graph_terms.specs.declared.verb.Line.{Line}
use Rattle.graph_terms.specs.Graph.{is_phase_of}
use Rattle.graph_terms.proofs.Public.{last_place_here, last_place_below}
use Rattle.refused_words.proofs.operations.has_phase.Goals as goal

pub returns-then-is_phase_of : goal.returns-then-is_phase_of
returns-then-is_phase_of c =
    let ls = (c.args.graph.now).lines in
    let l = c.line.result.now in
    let at : get_or ls (c.loop-i.i - 1) l ≡ l = get_or_from_slice_get ls (c.loop-i.i - 1) l l c.line.ensures.line in
    sym (ap is_some (c.loop-i.invariant.same
    ∙ last_place_here (is_phase_of c.args.barrier) ls c.loop-i.i l (omega arith) c.loop-i.invariant.here (ap (λ (x : Line). is_phase_of c.args.barrier x.verb) at ∙ (sym c.is_phase_of.ensures ∙ c.if-is_phase_of.true))))

pub loop-i-preserved : goal.loop-i-preserved
loop-i-preserved c =
    let ls = (c.args.graph.now).lines in
    let l = c.line.result.now in
    let at : get_or ls (c.loop-i.i - 1) l ≡ l = get_or_from_slice_get ls (c.loop-i.i - 1) l l c.line.ensures.line in
    record {
      here = (let b : c.loop-i.i ≤ length ls = c.loop-i.invariant.here in omega arith);
      same = c.loop-i.invariant.same
          ∙ last_place_below (is_phase_of c.args.barrier) ls c.loop-i.i l (omega arith) c.loop-i.invariant.here (ap (λ (x : Line). is_phase_of c.args.barrier x.verb) at ∙ (sym c.is_phase_of.ensures ∙ c.if-is_phase_of.false));
    }
