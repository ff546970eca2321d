use Rattle.explain_text.proofs.LineLaws.{tells_own_lines}
use Rattle.explain_text.proofs.laws.told_lines_are_the_texts.Goals as goal

pub returns : goal.returns
returns c = tells_own_lines
