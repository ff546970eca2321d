use Rattle.std.proofs.Common.{◌<◌, sym, ◌∙◌, ap, subst}
use Rattle.basics.proofs.ListFacts.{got_contains}
use Rattle.graph_terms.specs.Access.{accesses}
use Rattle.lent_columns.specs.Lendings.{is_open}
use Rattle.lent_columns.proofs.LineFacts.{open_one, open_skip}
use Rattle.lent_columns.proofs.lines.busy_column.Goals as goal
use Rattle.lent_columns.proofs.lines.busy_column.Goals.{in-Some+else-not-is_open, in_default}

pub is_open-requires : goal.is_open-requires
is_open-requires c =
    let in_line = got_contains (accesses c.args.graph.now c.args.line) c.loop-k.k c.in-Some.access (sym c.in-Some.ensures) in
    subst (λ n. c.in-Some.access.column < n) (sym c.requires.each) (c.accesses_fit.ensures c.args.graph.now c.args.line c.in-Some.access c.lines.ensures.is_graph in_line).column

pub loop-k-preserved : goal.loop-k-preserved
loop-k-preserved c = elim c.match-access.branch [
  | in-Some+else-not-is_open w ↦ record {
    open_yet = open_one c.args.graph.now c.args.line c.loop-k.k c.args.homes.now w.in-Some.access c.loop-k.invariant.open_yet (sym w.in-Some.ensures)
        (ap (is_open c.args.homes.now w.in-Some.access.column) (sym w.is_read.ensures) ∙ (sym w.is_open.ensures ∙ w.if-not-is_open.false));
  }
  | in_default w ↦ record { open_yet = open_skip c.args.graph.now c.args.line c.loop-k.k c.args.homes.now c.loop-k.invariant.open_yet (sym w.in_default.ensures) }
]
