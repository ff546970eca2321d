use Rattle.std.proofs.Common.{◌<◌, ◌+◌, sym, ◌∙◌, subst}
use Rattle.basics.proofs.ListFacts.{got_contains}
use Rattle.graph_terms.specs.Access.{accesses}
use Rattle.lent_columns.proofs.LineFacts.{TakenSoFar, next_open, taken_one, taken_skip, taken_all}
use Rattle.lent_columns.proofs.lines.take_columns.Goals as goal
use Rattle.lent_columns.proofs.lines.take_columns.Goals.{in-Some, in_default}

pub take_column-requires-clause-known : goal.take_column-requires-clause-known
take_column-requires-clause-known c =
    let in_line = got_contains (accesses c.args.graph.now c.args.line) c.loop-k.k c.in-Some.access (sym c.in-Some.ensures) in
    subst (λ n. c.in-Some.access.column < n) (sym (c.loop-k.invariant.taken.each_column ∙ c.requires.each)) (c.accesses_fit.ensures c.args.graph.now c.args.line c.in-Some.access c.lines.ensures.is_graph in_line).column

pub take_column-requires-clause-open : goal.take_column-requires-clause-open
take_column-requires-clause-open c =
    next_open c.columns_differ.ensures c.args.graph.now c.lines.ensures.is_graph c.args.line c.loop-k.k c.in-Some.access c.args.homes.now c.loop-k.homes c.loop-k.held c.loop-k.invariant.taken (sym c.in-Some.ensures) c.requires.open

pub loop-k-preserved : goal.loop-k-preserved
loop-k-preserved c =
    let g = c.args.graph.now in
    let i = c.args.line in
    let k = c.loop-k.k in
    let s = c.loop-k.invariant.taken in
    elim c.match-access.branch [
      | in-Some w ↦ record {
        taken = subst (λ h. TakenSoFar g i (k + 1) c.args.homes.now h c.match-access.held) (sym w.homes-is) (subst (TakenSoFar g i (k + 1) c.args.homes.now w.take_column.new.homes) (sym w.held-is)
            (taken_one c.columns_differ.ensures g c.lines.ensures.is_graph i k w.in-Some.access c.args.homes.now c.loop-k.homes w.take_column.new.homes c.loop-k.held w.take_column.new.held s (sym w.in-Some.ensures) w.take_column.ensures));
      }
      | in_default w ↦ record {
        taken = subst (λ h. TakenSoFar g i (k + 1) c.args.homes.now h c.match-access.held) (sym w.homes-is) (subst (TakenSoFar g i (k + 1) c.args.homes.now c.loop-k.homes) (sym w.held-is)
            (taken_skip g i k c.args.homes.now c.loop-k.homes c.loop-k.held s (sym w.in_default.ensures)));
      }
    ]

pub returns : goal.returns
returns c = taken_all c.args.graph.now c.args.line c.loop-k.k c.args.homes.now c.loop-k.homes c.loop-k.held c.loop-k.invariant.taken c.loop-k-test.false
