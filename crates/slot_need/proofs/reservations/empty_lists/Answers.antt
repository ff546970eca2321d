use Rattle.std.proofs.Common.{ℕ, ◌+◌, List, [], ◌∷◌, length, length-append, ◌∙◌, ap, subst, arith}
use Rattle.std.specs.Prelude.{Vec}
use Rattle.std.specs.Global.{Global}
use Rattle.slot_need.specs.High.{IsListed}
use Rattle.slot_need.proofs.AcquireLists.{acquires_none, listed_none}
use Rattle.slot_need.proofs.reservations.empty_lists.Goals as goal

pub loop-lock-preserved : goal.loop-lock-preserved
loop-lock-preserved c = record {
  count = ap length c.in_ok-push.ensures.ok ∙ (length-append c.loop-lock.lists.items (c.new.result ∷ []) ∙ ap (λ n. n + 1) c.loop-lock.invariant.count);
  none = λ k i x. listed_none c.loop-lock.lists.items c.new.result c.new.ensures.items c.loop-lock.invariant.none k i (subst (λ (xs : List (Vec ℕ Global)). IsListed xs k i) c.in_ok-push.ensures.ok x);
}

pub returns : goal.returns
returns c = acquires_none c.args.graph.now c.loop-lock.lists.items (omega (arith, c.loop-lock.invariant.count, c.locks-lock-end.ensures.number)) c.loop-lock.invariant.none
