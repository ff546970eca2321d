use Rattle.std.proofs.Common.{◌||◌, ◌∙◌, ap}
use Rattle.std.specs.List.{list_any}
use Rattle.std.specs.Str.{bytes_eq}
use Rattle.refused_words.proofs.RepeatFacts.{key_words, listed_keys, not_twice, put_key}
use Rattle.refused_words.proofs.seen_words.SeenWords.add.Goals as goal

pub returns-clause-there : goal.returns-clause-there
returns-clause-there c = not_twice c.in-Ok.added _ c.in-Ok.ensures.added ∙ (listed_keys c.args.word.now c.self.inside.words.keys ∙ ap (list_any (bytes_eq c.args.word.now)) c.self.view_is)

pub returns-clause-all : goal.returns-clause-all
returns-clause-all c = λ w.
    ap (λ ks. list_any (bytes_eq w) (key_words ks)) c.in-Ok.ensures.keys
    ∙ (put_key c.args.word w c.self.inside.words.keys ∙ ap (λ z. bytes_eq c.args.word.now w || list_any (bytes_eq w) z) c.self.view_is)
