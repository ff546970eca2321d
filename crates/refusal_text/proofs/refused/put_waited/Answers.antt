use Rattle.std.proofs.Common.{◌∙◌, sym, ap}
use Rattle.std.specs.Prelude.{flat_map}
use Rattle.explain_text.proofs.Public.{puts_as}
use Rattle.refusal_text.specs.Refused.{further_name}
use Rattle.refusal_text.proofs.RefusalFacts.{waited_none, waited_some}
use Rattle.refusal_text.proofs.refused.put_waited.Goals as goal

pub returns-then-is_empty : goal.returns-then-is_empty
returns-then-is_empty c =
    puts_as c.put_names.result _ _ _ _ (ap (flat_map (further_name c.args.graph.now)) (waited_none c.args.acquire c.args.on.now (sym c.is_empty.ensures ∙ c.if-is_empty.true))) c.put_names.ensures

pub returns-else-is_empty : goal.returns-else-is_empty
returns-else-is_empty c =
    puts_as c.put_names-else-is_empty.result _ _ _ _ (ap (flat_map (further_name c.args.graph.now)) (waited_some c.args.acquire c.args.on.now (sym c.is_empty.ensures ∙ c.if-is_empty.false))) c.put_names-else-is_empty.ensures
