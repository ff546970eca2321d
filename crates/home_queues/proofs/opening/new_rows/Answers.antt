use Rattle.std.proofs.Common.{◌≡◌, ℕ, ◌+◌, ◌-◌, ◌<◌, All, length, Vec, sym, ap, ◌∙◌, subst, arith, length-append}
use Rattle.std.proofs.lemmas.List.{length-map}
use Rattle.std.proofs.lemmas.List.Elements.{All-push}
use Rattle.std.specs.declared.alloc.Global.{Global}
use Rattle.crossbeam_deque.specs.Handles.{worker_deque}
use Rattle.home_queues.specs.Parts.{Owner}
use Rattle.home_queues.specs.Opening.{IsFresh, IsRow, owner_deques, first_shares}
use Rattle.home_queues.specs.declared.deque.StealRight.{StealRight}
use Rattle.home_queues.proofs.Opened.{first_is}
use Rattle.home_queues.proofs.opening.new_rows.Goals as goal

pub new_row-requires-clause-fresh : goal.new_row-requires-clause-fresh
new_row-requires-clause-fresh c =
    let inv = c.loop-row.invariant in
    let some : 0 < length c.loop-row.owners.items = omega (arith, length-map c.loop-row.owners.items (λ (y : Owner). worker_deque y), length-map c.args.owners.now.items (λ (y : Owner). worker_deque y), ap length inv.deques, c.requires.some) in
    let first : first_shares c.loop-row.owners.items ≡ 9 - c.loop-row._row = first_is c.args.lines (9 - c.loop-row._row) c.loop-row.owners.items some inv.fresh in
    (subst (λ (n : ℕ). All (IsFresh c.args.lines n) c.loop-row.owners.items) (sym first) inv.fresh, omega arith)

pub loop-row-preserved : goal.loop-row-preserved
loop-row-preserved c =
    let inv = c.loop-row.invariant in let new = c.in_ok-new_row.ensures in let row : Vec StealRight Global = c.in_ok-new_row.field-0 in
    let some : 0 < length c.loop-row.owners.items = omega (arith, length-map c.loop-row.owners.items (λ (y : Owner). worker_deque y), length-map c.args.owners.now.items (λ (y : Owner). worker_deque y), ap length inv.deques, c.requires.some) in
    let first : first_shares c.loop-row.owners.items ≡ 9 - c.loop-row._row = first_is c.args.lines (9 - c.loop-row._row) c.loop-row.owners.items some inv.fresh in
    let shares : first_shares c.loop-row.owners.items - 1 ≡ 9 - (c.loop-row._row + 1) = omega arith in
    record {
      deques = new.deques ∙ inv.deques;
      fresh = subst (λ (n : ℕ). All (IsFresh c.args.lines n) c.new_row.new.owners.items) shares new.fresh;
      rows = omega (arith, ap length c.in_ok-push.ensures.items, length-append {A = Vec StealRight Global}, inv.rows);
      each = subst (All (IsRow c.args.lines (owner_deques c.args.owners.now.items))) (sym c.in_ok-push.ensures.items)
          (All-push (IsRow c.args.lines (owner_deques c.args.owners.now.items)) c.loop-row.rows.items row inv.each (subst (λ ds. IsRow c.args.lines ds row) inv.deques new.row));
    }
