use Rattle.std.proofs.Common.{◌<◌, ◌+◌, sym, ◌∙◌, subst}
use Rattle.basics.proofs.ListFacts.{got_contains}
use Rattle.graph_terms.specs.Access.{accesses}
use Rattle.lent_columns.proofs.LineFacts.{GivenSoFar, next_may, given_one, given_skip, given_all}
use Rattle.lent_columns.proofs.lines.give_columns.Goals as goal
use Rattle.lent_columns.proofs.lines.give_columns.Goals.{in-Some, in_default}

pub give_column-requires-clause-known : goal.give_column-requires-clause-known
give_column-requires-clause-known c =
    let in_line = got_contains (accesses c.args.graph.now c.args.line) c.loop-k.k c.in-Some.access (sym c.in-Some.ensures) in
    subst (λ n. c.in-Some.access.column < n) (sym (c.loop-k.invariant.given.each_column ∙ c.requires.each)) (c.accesses_fit.ensures c.args.graph.now c.args.line c.in-Some.access c.lines.ensures.is_graph in_line).column

pub give_column-requires-clause-may : goal.give_column-requires-clause-may
give_column-requires-clause-may c =
    let in_line = got_contains (accesses c.args.graph.now c.args.line) c.loop-k.k c.in-Some.access (sym c.in-Some.ensures) in
    next_may c.columns_differ.ensures c.args.graph.now c.lines.ensures.is_graph c.args.line c.loop-k.k c.in-Some.access c.args.held c.loop-k.held c.args.homes.now c.loop-k.homes c.loop-k.invariant.given (sym c.in-Some.ensures)
    (c.requires.may c.in-Some.access in_line)

pub loop-k-preserved : goal.loop-k-preserved
loop-k-preserved c =
    let g = c.args.graph.now in
    let i = c.args.line in
    let k = c.loop-k.k in
    let s = c.loop-k.invariant.given in
    elim c.match-access.branch [
      | in-Some w ↦ record {
        given = subst (λ h. GivenSoFar g i (k + 1) c.args.held c.match-access.held c.args.homes.now h) (sym w.homes-is) (subst (λ h. GivenSoFar g i (k + 1) c.args.held h c.args.homes.now w.give_column.new.homes) (sym w.held-is)
            (given_one c.columns_differ.ensures g c.lines.ensures.is_graph i k w.in-Some.access c.args.held c.loop-k.held w.give_column.new.held c.args.homes.now c.loop-k.homes w.give_column.new.homes s (sym w.in-Some.ensures) w.give_column.ensures));
      }
      | in_default w ↦ record {
        given = subst (λ h. GivenSoFar g i (k + 1) c.args.held c.match-access.held c.args.homes.now h) (sym w.homes-is) (subst (λ h. GivenSoFar g i (k + 1) c.args.held h c.args.homes.now c.loop-k.homes) (sym w.held-is)
            (given_skip g i k c.args.held c.loop-k.held c.args.homes.now c.loop-k.homes s (sym w.in_default.ensures)));
      }
    ]

pub returns : goal.returns
returns c = given_all c.args.graph.now c.args.line c.loop-k.k c.args.held c.loop-k.held c.args.homes.now c.loop-k.homes c.loop-k.invariant.given c.loop-k-test.false
