use Rattle.std.proofs.Common.{ℕ, ◌+◌, List, length, ◌∙◌, ap, subst, length-append, [], ◌∷◌}
use Rattle.std.specs.Prelude.{Vec}
use Rattle.std.specs.Global.{Global}
use Rattle.conflict_classes.specs.Classes.{IsNear}
use Rattle.conflict_classes.proofs.Nearness.{near_none}
use Rattle.conflict_classes.proofs.class_conflicts.empty_lists.Goals as goal

pub loop-list-preserved : goal.loop-list-preserved
loop-list-preserved c = record {
  size = ap length c.in_ok-push.ensures.ok ∙ (length-append c.loop-list.lists.items (c.new.result ∷ []) ∙ ap (λ n. n + 1) c.loop-list.invariant.size);
  none = λ a d n. near_none c.loop-list.lists.items c.new.result c.new.ensures.items c.loop-list.invariant.none a d (subst (λ (xs : List (Vec ℕ Global)). IsNear xs a d) c.in_ok-push.ensures.ok n);
}
