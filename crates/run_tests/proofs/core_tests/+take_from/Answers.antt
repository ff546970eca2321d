use Rattle.std.proofs.Common.{length, refl, sym, ap, subst, arith}
use Rattle.graph_terms.specs.Graph.{GraphValue}
use Rattle.run_core.specs.WhatIsOut.{OneMoreOut}
use Rattle.run_tests.proofs.Driving.{same_further, same_untaken, same_after, stays_after}
use Rattle.run_tests.proofs.core_tests.+take_from.Goals as goal

pub returns-in_default : goal.returns-in_default
returns-in_default t c =
    let old = c.args.core.now in
    let tried = same_untaken old c.attempt.new.self c.attempt.result c.attempt.ensures.out c.in_default.not-Taken in
    let others = c.take_from.ensures in
    record {
      few = (let graph = ap (λ (g : GraphValue). length g.lines) tried.graph in omega (arith, graph, others.few));
      out = same_further old c.attempt.new.self c.take_from.new.core tried others.out;
      works = λ w is. others.works w ((c.attempt.ensures.works w.line).work w refl is);
    }

-- the work of the line that was taken is still its work
pub perform-finished-requires : goal.perform-finished-requires
perform-finished-requires t c = record {
  work = (c.take_from-others.new.core, c.is_sound.ensures.sound, sym c.graph-2.ensures, c.take_from-others.ensures.works c.in-Taken.work c.in-Taken.ensures.answer.1.work);
}

pub put_back-requires : goal.put_back-requires
put_back-requires t c = c.perform-finished.ensures.finished c.take_from-others.new.core c.is_sound.ensures.sound (sym c.graph-2.ensures) (c.take_from-others.ensures.works c.in-Taken.work c.in-Taken.ensures.answer.1.work)

pub returns-clause-out : goal.returns-clause-out
returns-clause-out t c =
    let takes = subst (OneMoreOut c.args.core.now c.attempt.new.self) (sym c.perform-finished.ensures.line) c.in-Taken.ensures.out in
    same_after _ _ _ _ _ takes c.take_from-others.ensures.out c.put_back.ensures.out

pub returns-clause-works : goal.returns-clause-works
returns-clause-works t c =
    let takes = subst (OneMoreOut c.args.core.now c.attempt.new.self) (sym c.perform-finished.ensures.line) c.in-Taken.ensures.out in
    stays_after _ _ _ _ _ takes c.take_from-others.ensures.out c.put_back.ensures.out c.in-Taken.ensures.works c.take_from-others.ensures.works c.put_back.ensures.works
