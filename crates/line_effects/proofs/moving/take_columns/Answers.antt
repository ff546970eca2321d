use Rattle.std.proofs.Common.{◌<◌, ◌+◌, sym, ◌∙◌, subst}
use Rattle.line_effects.proofs.MoveFacts.{is_new}
use Rattle.line_effects.proofs.MovingFacts.{TakenSoFar, taken_none, next_home, taken_one, taken_skip, taken_all}
use Rattle.line_effects.proofs.moving.take_columns.Goals as goal
use Rattle.line_effects.proofs.moving.take_columns.Goals.{in-Some, in_default}

pub loop-k-init : goal.loop-k-init
loop-k-init c = record { taken = taken_none c.args.graph.now c.args.line c.args.homes.now c.none-held.result c.none-held.ensures }

pub take_column-requires-clause-known : goal.take_column-requires-clause-known
take_column-requires-clause-known c = subst (λ n. c.in-Some.c < n) (sym (c.loop-k.invariant.taken.each ∙ c.requires.each)) c.in-Some.ensures.known

pub take_column-requires-clause-home : goal.take_column-requires-clause-home
take_column-requires-clause-home c =
    let t = c.loop-k.invariant.taken in
    next_home c.columns_differ.ensures c.args.graph.now c.lines.ensures.is_graph c.args.line c.loop-k.k c.in-Some.c c.args.homes.now c.loop-k.homes c.loop-k.held t (sym c.in-Some.ensures.column) c.requires.home

pub take_column-requires-clause-new : goal.take_column-requires-clause-new
take_column-requires-clause-new c = is_new c.columns_differ.ensures c.args.graph.now c.lines.ensures.is_graph c.args.line c.loop-k.k c.in-Some.c c.loop-k.held c.loop-k.invariant.taken.so_far (sym c.in-Some.ensures.column)

pub loop-k-preserved : goal.loop-k-preserved
loop-k-preserved c =
    let g = c.args.graph.now in
    let i = c.args.line in
    let k = c.loop-k.k in
    let t = c.loop-k.invariant.taken in
    let after = TakenSoFar g i (k + 1) c.args.homes.now in
    elim c.match-moved_column.branch [
      | in-Some w ↦ (
          let at = sym w.in-Some.ensures.column in
          let near = subst (λ n. w.in-Some.c < n) (sym (t.each ∙ c.requires.each)) w.in-Some.ensures.known in
          let home = next_home c.columns_differ.ensures g c.lines.ensures.is_graph i k w.in-Some.c c.args.homes.now c.loop-k.homes c.loop-k.held t at c.requires.home in
          record {
            taken = subst (λ h. after h c.match-moved_column.held) (sym w.homes-is) (subst (after w.take_column.new.homes) (sym w.held-is)
                (taken_one c.columns_differ.ensures g c.lines.ensures.is_graph i k w.in-Some.c c.args.homes.now c.loop-k.homes w.take_column.new.homes c.loop-k.held w.take_column.new.held t at near home
                w.take_column.ensures.homes w.take_column.ensures.held w.take_column.ensures.own w.take_column.ensures.number));
          })
      | in_default w ↦ record {
        taken = subst (λ h. after h c.match-moved_column.held) (sym w.homes-is) (subst (after c.loop-k.homes) (sym w.held-is)
            (taken_skip g i k c.args.homes.now c.loop-k.homes c.loop-k.held t (sym w.in_default.ensures.column)));
      }
    ]

pub returns : goal.returns
returns c = taken_all c.args.graph.now c.args.line c.loop-k.k c.args.homes.now c.loop-k.homes c.loop-k.held c.loop-k.invariant.taken c.loop-k-test.false
