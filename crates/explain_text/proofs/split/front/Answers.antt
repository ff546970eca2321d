use Rattle.explain_text.proofs.Pieces.{front_of}
use Rattle.explain_text.proofs.split.front.Goals as goal

pub returns-then-n-parts : goal.returns-then-n-parts
returns-then-n-parts c = front_of c.args.n c.args.parts.now
