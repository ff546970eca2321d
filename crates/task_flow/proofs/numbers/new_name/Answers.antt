use Rattle.std.proofs.Common.{◌≡◌, ◌+◌, ◌∙◌, ap, arith}
use Rattle.graph_terms.specs.Name.{is_name}
use Rattle.task_flow.specs.Construction.{new_name}
use Rattle.task_flow.proofs.Names.{is_made, new_is_name}
use Rattle.task_flow.proofs.numbers.new_name.Goals as goal

pub unwrap-requires : goal.unwrap-requires
unwrap-requires c =
    let text : c.as_bytes.result.now ≡ new_name (c.args.first + c.from.result) = c.as_bytes.ensures.value ∙ c.in-Ok.ensures.ok in
    is_made c.new.result c.as_bytes.result.now (ap is_name text ∙ new_is_name (c.args.first + c.from.result) (omega arith)) c.new.ensures
