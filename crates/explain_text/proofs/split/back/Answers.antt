use Rattle.explain_text.proofs.Pieces.{back_of}
use Rattle.explain_text.proofs.split.back.Goals as goal

pub returns-then-n-parts : goal.returns-then-n-parts
returns-then-n-parts c = back_of c.args.n c.args.parts.now
