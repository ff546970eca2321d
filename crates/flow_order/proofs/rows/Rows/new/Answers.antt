use Rattle.std.proofs.Common.{length, sym, subst}
use Rattle.flow_order.specs.Uses.{AreUses, uses_before}
use Rattle.flow_order.proofs.SourceSteps.{rows_none}
use Rattle.flow_order.proofs.rows.Rows.new.Goals as goal

pub returns-clause-kept : goal.returns-clause-kept
returns-clause-kept c = λ commute. record {
  rows = rows_none c.args.flow.now commute c.new-2.result.items c.new-2.ensures.items;
  uses = subst (λ xs. AreUses c.args.flow.now commute (uses_before c.args.flow.now (length xs)) c.in_ok-uses.uses.columns.items) (sym c.new-2.ensures.items) (c.in_ok-uses.ensures commute);
}
