use Rattle.std.proofs.Common.{◌≡◌, ◌+◌, ◌<◌, ◌≤◌, ◌∷◌, [], length, sym, ◌∙◌, ap, subst, length-append, arith}
use Rattle.std.specs.Prelude.{reverse, Some}
use Rattle.realm_timeline.specs.Plan.{Planned}
use Rattle.realm_timeline.specs.ChainCosts.{IsWalk, before_at}
use Rattle.realm_timeline.proofs.ChainCostFacts.{walk_left, IsPlannedOrNone, walk_starts, walked, walked_more, option_read}
use Rattle.realm_timeline.proofs.critical.ChainCosts.chain_to.Goals as goal

pub loop-next-init : goal.loop-next-init
loop-next-init c =
    let w = walk_starts c.args.graph.now c.args.order.now c.requires.order c.args.self.now.costs.items c.args.self.now.before.items c.requires.chain_costs c.args.top c.requires.top in
    let left : walk_left c.args.order.now c.args.top ≤ length c.args.order.now = w.2 in
    let none : length c.new-lines.result.items ≡ 0 = ap length c.new-lines.ensures.items in
    record {
      walk = subst (λ xs. IsWalk c.args.self.now.before.items c.args.top c.args.top (reverse xs)) (sym c.new-lines.ensures.items) w.0;
      planned = w.1;
      room = omega arith;
    }

pub index-next-requires : goal.index-next-requires
index-next-requires c =
    let planned : Planned c.args.graph.now c.in-Some.line = subst (IsPlannedOrNone c.args.graph.now) c.in-Some.is c.loop-next.invariant.planned in
    let a : c.in-Some.line < length c.args.graph.now.lines = planned.line in
    let b : length c.args.self.now.before.items ≡ length c.args.graph.now.lines = c.requires.chain_costs.before_count in
    omega arith

pub loop-next-preserved : goal.loop-next-preserved
loop-next-preserved c =
    let planned : Planned c.args.graph.now c.in-Some.line = subst (IsPlannedOrNone c.args.graph.now) c.in-Some.is c.loop-next.invariant.planned in
    let walk : IsWalk c.args.self.now.before.items c.args.top (Some c.in-Some.line) (reverse c.loop-next.lines.items) = subst (λ o. IsWalk c.args.self.now.before.items c.args.top o (reverse c.loop-next.lines.items)) c.in-Some.is c.loop-next.invariant.walk in
    let a : c.in-Some.line < length c.args.graph.now.lines = planned.line in
    let b : length c.args.self.now.before.items ≡ length c.args.graph.now.lines = c.requires.chain_costs.before_count in
    let at : before_at c.args.self.now.before.items c.in-Some.line ≡ c.index-next.result.now = option_read c.args.self.now.before.items c.in-Some.line c.index-next.result.now c.index-next.ensures (omega arith) in
    let w = walked c.args.graph.now c.args.order.now c.requires.order c.args.self.now.costs.items c.args.self.now.before.items c.requires.chain_costs c.args.top c.in-Some.line (reverse c.loop-next.lines.items) c.index-next.result.now planned walk at in
    let less : walk_left c.args.order.now c.index-next.result.now < walk_left c.args.order.now (Some c.in-Some.line) = w.2 in
    let same : walk_left c.args.order.now c.loop-next.next ≡ walk_left c.args.order.now (Some c.in-Some.line) = ap (walk_left c.args.order.now) c.in-Some.is in
    let room : length c.loop-next.lines.items + walk_left c.args.order.now c.loop-next.next ≤ length c.args.order.now = c.loop-next.invariant.room in
    let longer : length c.push.new.items.items ≡ length c.loop-next.lines.items + 1 = ap length c.in_ok-push.ensures.ok ∙ length-append c.loop-next.lines.items (c.in-Some.line ∷ []) in
    record {
      walk = walked_more c.args.graph.now c.args.order.now c.requires.order c.args.self.now.costs.items c.args.self.now.before.items c.requires.chain_costs c.args.top c.in-Some.line c.loop-next.lines.items c.push.new.items.items c.index-next.result.now planned walk c.in_ok-push.ensures.ok at;
      planned = w.1;
      room = omega arith;
    }

pub loop-next-smaller : goal.loop-next-smaller
loop-next-smaller c =
    let planned : Planned c.args.graph.now c.in-Some.line = subst (IsPlannedOrNone c.args.graph.now) c.in-Some.is c.loop-next.invariant.planned in
    let walk : IsWalk c.args.self.now.before.items c.args.top (Some c.in-Some.line) (reverse c.loop-next.lines.items) = subst (λ o. IsWalk c.args.self.now.before.items c.args.top o (reverse c.loop-next.lines.items)) c.in-Some.is c.loop-next.invariant.walk in
    let a : c.in-Some.line < length c.args.graph.now.lines = planned.line in
    let b : length c.args.self.now.before.items ≡ length c.args.graph.now.lines = c.requires.chain_costs.before_count in
    let at : before_at c.args.self.now.before.items c.in-Some.line ≡ c.index-next.result.now = option_read c.args.self.now.before.items c.in-Some.line c.index-next.result.now c.index-next.ensures (omega arith) in
    let w = walked c.args.graph.now c.args.order.now c.requires.order c.args.self.now.costs.items c.args.self.now.before.items c.requires.chain_costs c.args.top c.in-Some.line (reverse c.loop-next.lines.items) c.index-next.result.now planned walk at in
    let less : walk_left c.args.order.now c.index-next.result.now < walk_left c.args.order.now (Some c.in-Some.line) = w.2 in
    let same : walk_left c.args.order.now c.loop-next.next ≡ walk_left c.args.order.now (Some c.in-Some.line) = ap (walk_left c.args.order.now) c.in-Some.is in
    omega arith
