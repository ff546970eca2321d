use Rattle.std.proofs.Common.{◌<◌, ◌+◌, sym, ◌∙◌, subst}
use Rattle.line_effects.proofs.MovingFacts.{GivenSoFar, given_none, given_one, given_skip, given_all}
use Rattle.line_effects.proofs.moving.give_columns.Goals as goal
use Rattle.line_effects.proofs.moving.give_columns.Goals.{in-Some, in_default}

pub loop-k-init : goal.loop-k-init
loop-k-init c = record { given = given_none c.args.graph.now c.args.line c.args.held c.args.homes.now c.requires.own }

pub loop-k-preserved : goal.loop-k-preserved
loop-k-preserved c =
    let g = c.args.graph.now in
    let i = c.args.line in
    let k = c.loop-k.k in
    let s = c.loop-k.invariant.given in
    let after = GivenSoFar g i (k + 1) c.args.held c.args.homes.now in
    elim c.match-moved_column.branch [
      | in-Some w ↦ record {
        given = subst (λ h. after h c.match-moved_column.held) (sym w.homes-is) (subst (after w.give.new.self) (sym w.held-is)
            (given_one c.columns_differ.ensures g c.lines.ensures.is_graph i k w.in-Some.c c.args.held c.args.homes.now c.loop-k.homes w.give.new.self c.loop-k.held w.take-column.new.self w.take-column.result s (sym w.in-Some.ensures.column)
            (subst (λ n. w.in-Some.c < n) (sym (s.each ∙ c.requires.each)) w.in-Some.ensures.known) w.take-column.ensures.column w.take-column.ensures.held w.give.ensures));
      }
      | in_default w ↦ record {
        given = subst (λ h. after h c.match-moved_column.held) (sym w.homes-is) (subst (after c.loop-k.homes) (sym w.held-is)
            (given_skip g i k c.args.held c.args.homes.now c.loop-k.homes c.loop-k.held s (sym w.in_default.ensures.column)));
      }
    ]

pub returns : goal.returns
returns c = given_all c.args.graph.now c.args.line c.loop-k.k c.args.held c.args.homes.now c.loop-k.homes c.loop-k.held c.loop-k.invariant.given c.loop-k-test.false
