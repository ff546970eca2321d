use Rattle.std.proofs.Common.{sym, ◌∙◌, ap}
use Rattle.std.specs.Prelude.{bytes_eq}
use Rattle.word_meanings.proofs.NumberedNames.{space_numbered}
use Rattle.word_meanings.proofs.recent.is_space_named.Goals as goal

pub returns : goal.returns
returns c h = space_numbered c.args.graph.now c.args.space c.space_name.result c.args.word.now c.decls.ensures.is_graph c.space_name.ensures
    (ap (λ n. bytes_eq n c.args.word.now) (sym c.bytes.ensures.bytes) ∙ (sym c.is_again.ensures ∙ h))
