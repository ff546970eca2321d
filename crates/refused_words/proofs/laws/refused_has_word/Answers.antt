use Rattle.refused_words.proofs.StandingFacts.{refused_word}
use Rattle.refused_words.proofs.laws.refused_has_word.Goals as goal

pub returns : goal.returns
returns c = refused_word
