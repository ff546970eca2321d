use Rattle.graph_reader.proofs.BareTexts.{texts_are_bare}
use Rattle.graph_reader.proofs.laws.texts_have_no_comments.Goals as goal

pub returns : goal.returns
returns c = texts_are_bare
