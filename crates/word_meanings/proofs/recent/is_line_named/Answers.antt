use Rattle.std.proofs.Common.{sym, ◌∙◌, ap}
use Rattle.std.specs.Prelude.{bytes_eq}
use Rattle.word_meanings.proofs.NumberedNames.{line_numbered}
use Rattle.word_meanings.proofs.recent.is_line_named.Goals as goal

pub returns : goal.returns
returns c h = line_numbered c.args.graph.now c.args.line c.line.result.now c.args.word.now c.decls.ensures.is_graph c.line.ensures.line
    (ap (λ n. bytes_eq n c.args.word.now) (sym c.bytes.ensures.bytes) ∙ (sym c.is_again.ensures ∙ h))
