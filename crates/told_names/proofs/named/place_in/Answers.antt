use Rattle.std.proofs.Common.{sym}
use Rattle.told_names.proofs.NameSearch.{none_gives}
use Rattle.told_names.proofs.named.place_in.Goals as goal

pub returns-in-None : goal.returns-in-None
returns-in-None c = sym (none_gives c.args.word.now c.args.bytes.now c.in-None.ensures)
