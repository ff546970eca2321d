use Rattle.std.proofs.Common.{◌∙◌, ap, sym}
use Rattle.std.specs.List.{list_any}
use Rattle.basics.specs.Words.{contents}
use Rattle.refused_words.specs.Refused.{leaves_column}
use Rattle.refused_words.proofs.UseFacts.{declared_none}
use Rattle.refused_words.proofs.outside.leaves_column.Goals as goal

pub returns-then-not-is_operation : goal.returns-then-not-is_operation
returns-then-not-is_operation c = sym (ap (list_any (leaves_column c.args.graph.now c.args.column)) (declared_none c.args.graph.now (contents c.args.words.now) (sym c.is_operation.ensures ∙ c.if-not-is_operation.true)))
