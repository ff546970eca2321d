use Rattle.std.proofs.Common.{ℕ, ◌+◌, ◌<◌, Some, None, length, sym, subst, ap, ◌∙◌, arith, length-set}
use Rattle.std.proofs.lemmas.List.Elements.{All-set}
use Rattle.home_queues.specs.Parts.{IsStealRight}
use Rattle.home_queues.specs.declared.deque.StealRight.{StealRight}
use Rattle.home_queues.proofs.Rights.{is_right, same_deques, weighs_none, weighs_some}
use Rattle.home_queues.proofs.home_hints.steal_any.Goals as goal

pub steal-requires-clause-at : goal.steal-requires-clause-at
steal-requires-clause-at c =
    let r : StealRight = c.index_mut.result.now in
    let h : IsStealRight c.args.lines r = subst (IsStealRight c.args.lines) (sym c.index_mut.ensures.value) (c.loop-k.invariant.2 c.loop-k.k r (omega arith)) in h.at

pub steal-requires-clause-share : goal.steal-requires-clause-share
steal-requires-clause-share c =
    let r : StealRight = c.index_mut.result.now in
    let h : IsStealRight c.args.lines r = subst (IsStealRight c.args.lines) (sym c.index_mut.ensures.value) (c.loop-k.invariant.2 c.loop-k.k r (omega arith)) in omega (arith, h.share)

pub returns-in-Some-clause-deques : goal.returns-in-Some-clause-deques
returns-in-Some-clause-deques c = same_deques c.loop-k.rights.items c.loop-k.k c.index_mut.result.now c.steal.new.right c.index_mut.ensures.value c.steal.ensures.same.0 ∙ c.loop-k.invariant.1

pub returns-in-Some-clause-right : goal.returns-in-Some-clause-right
returns-in-Some-clause-right c =
    let n : ℕ = c.args.lines in let r : StealRight = c.index_mut.result.now in
    let h : IsStealRight n r = subst (IsStealRight n) (sym c.index_mut.ensures.value) (c.loop-k.invariant.2 c.loop-k.k r (omega arith)) in
    All-set (IsStealRight n) c.loop-k.rights.items c.loop-k.k c.steal.new.right (is_right n r c.steal.new.right (Some c.in-Some.line) h c.steal.ensures.same c.in-Some.ensures.taken) c.loop-k.invariant.2

pub returns-in-Some-clause-taken : goal.returns-in-Some-clause-taken
returns-in-Some-clause-taken c =
    let n : ℕ = c.args.lines in let r : StealRight = c.index_mut.result.now in let lt : c.loop-k.k < length c.loop-k.rights.items = omega arith in
    let h : IsStealRight n r = subst (IsStealRight n) (sym c.index_mut.ensures.value) (c.loop-k.invariant.2 c.loop-k.k r lt) in (
      subst (λ (m : ℕ). c.in-Some.line < m) h.lines c.in-Some.ensures.taken.1,
      λ f. weighs_some c.loop-k.rights.items c.loop-k.k r c.steal.new.right c.in-Some.line lt c.index_mut.ensures.value c.in-Some.ensures.taken f ∙ ap (λ (m : ℕ). m + f c.in-Some.line) (c.loop-k.invariant.3 f),
    )

pub loop-k-preserved : goal.loop-k-preserved
loop-k-preserved c =
    let n : ℕ = c.args.lines in let r : StealRight = c.index_mut.result.now in let s : StealRight = c.steal.new.right in let lt : c.loop-k.k < length c.loop-k.rights.items = omega arith in
    let h : IsStealRight n r = subst (IsStealRight n) (sym c.index_mut.ensures.value) (c.loop-k.invariant.2 c.loop-k.k r lt) in (
      omega (arith, length-set {A = StealRight}, c.loop-k.invariant.0),
      same_deques c.loop-k.rights.items c.loop-k.k r s c.index_mut.ensures.value c.steal.ensures.same.0 ∙ c.loop-k.invariant.1,
      All-set (IsStealRight n) c.loop-k.rights.items c.loop-k.k s (is_right n r s None h c.steal.ensures.same c.in-None.ensures.taken) c.loop-k.invariant.2,
      λ f. weighs_none c.loop-k.rights.items c.loop-k.k r s lt c.index_mut.ensures.value c.in-None.ensures.taken f ∙ c.loop-k.invariant.3 f,
    )
