use Rattle.std.proofs.Common.{◌≡◌, ℕ, ◌+◌, List, [], ◌∷◌, length, length-append, ◌∙◌, ap, subst}
use Rattle.std.specs.Prelude.{Some, Vec, slice_get}
use Rattle.std.specs.Global.{Global}
use Rattle.column_parts.proofs.Noting.{none_more}
use Rattle.column_parts.proofs.accessed.empty_lists.Goals as goal

pub loop-column-preserved : goal.loop-column-preserved
loop-column-preserved c = record {
  count = ap length c.in_ok-push.ensures.ok ∙ (length-append c.loop-column.lists.items (c.new.result ∷ []) ∙ ap (λ n. n + 1) c.loop-column.invariant.count);
  none = λ k x at. none_more c.loop-column.lists.items c.new.result c.new.ensures.items c.loop-column.invariant.none k x (subst (λ (xs : List (Vec ℕ Global)). slice_get xs k ≡ Some x) c.in_ok-push.ensures.ok at);
}
