use Rattle.realm_audit.proofs.TraceTexts.{text_tells}
use Rattle.realm_audit.proofs.reading.text_tells_traces_apart.Goals as goal

pub returns : goal.returns
returns c = text_tells
