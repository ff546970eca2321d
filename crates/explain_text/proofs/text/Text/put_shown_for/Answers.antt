use Rattle.explain_text.proofs.WordParts.{tells_word}
use Rattle.explain_text.proofs.text.Text.put_shown_for.Goals as goal

pub returns-then-line-le-MAX_SHOWN-clause-word : goal.returns-then-line-le-MAX_SHOWN-clause-word
returns-then-line-le-MAX_SHOWN-clause-word c = tells_word c.args.word.now c.args.line.now

pub returns-clause-word : goal.returns-clause-word
returns-clause-word c = tells_word c.args.word.now c.args.line.now
