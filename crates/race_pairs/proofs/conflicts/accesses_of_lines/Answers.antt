use Rattle.std.proofs.Common.{◌≡◌, ◌+◌, ◌∷◌, [], ℕ, List, length, sym, ap, ◌∙◌, subst, length-append}
use Rattle.std.specs.Prelude.{Some, Vec, slice_get}
use Rattle.std.specs.Global.{Global}
use Rattle.graph_terms.specs.declared.verb.Access.{Access}
use Rattle.graph_terms.specs.Access.{all_accesses}
use Rattle.race_pairs.proofs.AccessLists.{each_pushed}
use Rattle.race_pairs.proofs.conflicts.accesses_of_lines.Goals as goal

pub loop-line-preserved : goal.loop-line-preserved
loop-line-preserved c =
    let g = c.args.graph.now in
    let before = c.loop-line.lists.items in
    let added = c.in_ok-list.list in
    record {
      count = ap length c.in_ok-push.ensures.ok ∙ (length-append before (added ∷ []) ∙ ap (λ n. n + 1) c.loop-line.invariant.count);
      each = subst (λ (xs : List (Vec Access Global)). (k : ℕ) (v : Vec Access Global) → slice_get xs k ≡ Some v → v.items ≡ all_accesses g k) (sym c.in_ok-push.ensures.ok)
          (each_pushed (λ k (v : Vec Access Global). v.items ≡ all_accesses g k) before added c.loop-line.line c.loop-line.invariant.count c.loop-line.invariant.each c.in_ok-list.ensures);
    }
