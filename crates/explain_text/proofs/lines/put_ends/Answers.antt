use Rattle.basics.proofs.ListParts.{take_within}
use Rattle.explain_text.proofs.lines.put_ends.Goals as goal

pub put_all_edges-requires : goal.put_all_edges-requires
put_all_edges-requires c = λ e m. c.requires.edges e (take_within 16 c.args.path.now e m)
