use Rattle.std.proofs.Common.{◌≡◌, ◌+◌, cond, get_or, sym, ◌∙◌, ap, arith}
use Rattle.std.proofs.lemmas.Option.{get_or_from_slice_get}
use Rattle.graph_terms.specs.Fits.{is_inst}
use Rattle.refused_words.proofs.LimitFacts.{insts_next}
use Rattle.refused_words.proofs.declared.inst_count.Goals as goal

pub loop-d-preserved : goal.loop-d-preserved
loop-d-preserved c =
    let ds = (c.args.graph.now).decls in
    let d = c.decl.result.now in
    let at : get_or ds c.loop-d.d d ≡ d = get_or_from_slice_get ds c.loop-d.d d d c.decl.ensures.decl in
    let one : c.one_if-count.result ≡ cond (is_inst (get_or ds c.loop-d.d d)) 1 0 = c.one_if-count.ensures.one ∙ (ap (λ b. cond b 1 0) c.is_inst.ensures ∙ ap (λ x. cond (is_inst x) 1 0) (sym at)) in
    record {
      count = ap (λ n. c.loop-d.count + n) one ∙ insts_next ds c.loop-d.d c.loop-d.count d (omega (arith, c.loop-d-test.true, c.decls-d-end.ensures.number)) c.loop-d.invariant.count;
      few = omega (arith, c.loop-d.invariant.few, c.one_if-count.ensures.few);
    }
