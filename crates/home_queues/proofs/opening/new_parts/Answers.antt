use Rattle.std.proofs.Common.{◌≡◌, ℕ, length, ap, refl, sym, ◌∙◌, subst, arith}
use Rattle.home_queues.specs.Counts.{CountsValue}
use Rattle.home_queues.specs.Parts.{Owner}
use Rattle.home_queues.specs.declared.deque_counts.DequeCounts.{DequeCounts}
use Rattle.home_queues.specs.Opening.{IsFresh}
use Rattle.home_queues.proofs.Opened.{drop_first, last_row, new_part, parts_grow, none_left}
use Rattle.home_queues.proofs.opening.new_parts.Goals as goal

pub invariant_of-push : goal.invariant_of-push
invariant_of-push c =
    let n : ℕ = c.args.lines in let o = c.loop-own.invariant in let own : Owner = c.in-Some.own in
    let d = drop_first c.args.owners.items c.loop-own.number own c.next.new.self.rest.items (sym o.rest_is ∙ c.in-Some.ensures.steps.0) in
    let row = last_row n c.loop-own.number c.args.owners.items c.loop-own.own-iterator.rest.items c.loop-own.rows.items c.pop.new.self.items c.loop-own.parts.items c.in-Some-pop.rights o c.in-Some-pop.ensures.items in
    let fresh : IsFresh n 1 own = subst (IsFresh n 1) (sym d.1) (c.requires.owners.1 c.loop-own.number own d.0) in
    new_part c.loop-own.number n c.args.owners.items own c.in-Some-pop.rights c.in_ok-pushed.pushed c.in_ok-taken.taken (omega (arith, d.0, c.requires.owners.0)) c.requires.owners.0 fresh d.1 row c.in_ok-pushed.ensures c.in_ok-taken.ensures

pub loop-own-preserved : goal.loop-own-preserved
loop-own-preserved c =
    let n : ℕ = c.args.lines in let o = c.loop-own.invariant in
    let row = last_row n c.loop-own.number c.args.owners.items c.loop-own.own-iterator.rest.items c.loop-own.rows.items c.pop.new.self.items c.loop-own.parts.items c.in-Some-pop.rights o c.in-Some-pop.ensures.items in
    parts_grow n c.loop-own.number c.args.owners.items c.loop-own.own-iterator.rest.items c.next.new.self.rest.items c.loop-own.rows.items c.pop.new.self.items c.loop-own.parts.items c.push.new.self.items c.in-Some.own c.in-Some-pop.rights _
    o c.requires.owners.0 c.in-Some.ensures.steps.0 c.in-Some-pop.ensures.items c.in_ok-push.ensures.items (record { deques_are = row.deques_are; number = refl; lines = refl })
    (ap (λ (k : CountsValue). k.each) c.in_ok-pushed.ensures, ap (λ (k : CountsValue). k.all) c.in_ok-pushed.ensures, ap (λ (k : CountsValue). k.each) c.in_ok-taken.ensures, ap (λ (k : CountsValue). k.all) c.in_ok-taken.ensures, ap (λ (f : DequeCounts). f.empty) c.none.ensures, ap (λ (f : DequeCounts). f.full) c.none.ensures)

pub returns-clause-list : goal.returns-clause-list
returns-clause-list c =
    let none : length c.loop-own.own-iterator.rest.items ≡ 0 = omega (arith, c.in-None.ensures.steps.0) in none_left _ _ _ _ _ _ c.loop-own.invariant c.requires.owners.0 none
