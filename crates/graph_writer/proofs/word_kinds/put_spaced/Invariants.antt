use Rattle.std.proofs.Common.{◌∷◌, drop}
use Rattle.std.specs.List.{flat_map}
use Rattle.graph_writer.specs.WrittenWords.{word_text}
use Rattle.realm_io.specs.Written.{Progress}
use Rattle.graph_writer.proofs.word_kinds.put_spaced.Given as goal

abbrev pub invariant-loop-word : goal.invariant-loop-word
invariant-loop-word g l =
    Progress (g.K.Sink.state l.initial.sink) (g.K.Sink.state l.sink)
    (flat_map (λ w. 32 ∷ word_text w) l.words) (flat_map (λ w. 32 ∷ word_text w) (drop l.word-index l.words))
