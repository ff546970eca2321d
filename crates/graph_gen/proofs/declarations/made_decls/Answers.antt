use Rattle.graph_gen.proofs.MakeSteps.{columns_more}
use Rattle.graph_gen.proofs.declarations.made_decls.Goals as goal

pub loop-column-preserved : goal.loop-column-preserved
loop-column-preserved c = columns_more _ _ c.in_ok-decl.decl c.loop-column.column c.loop-column.invariant c.in_ok-decl.ensures c.in_ok-push-2.ensures.ok
