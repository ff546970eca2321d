use Rattle.std.proofs.Common.{◌∙◌, ap}
use Rattle.std.specs.Prelude.{Some}
use Rattle.line_effects.proofs.Public.{verb_is}
use Rattle.word_parts.proofs.preparing.first_value.Goals as goal

pub barrier-requires : goal.barrier-requires
barrier-requires c = c.phases_fit.ensures c.args.graph.now c.args.line c.in-Phase.barrier c.line.ensures.is_graph (verb_is c.args.graph.now c.args.line c.line.result.now c.line.ensures.line ∙ ap (λ v. Some v) c.in-Phase.is)
