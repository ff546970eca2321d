use Rattle.std.proofs.Common.{◌≡◌, ◌+◌, length, arith}
use Rattle.graph_terms.specs.Spelling.{spelled, verb_words, on_words, line_words}
use Rattle.graph_indexes.specs.Counts.{words_size}
use Rattle.graph_model.proofs.CountLaws.{line_words_size}
use Rattle.graph_model.proofs.graph.Graph.line_size.Goals as goal

pub returns-clause-size : goal.returns-clause-size
returns-clause-size c =
    let all : length (spelled (line_words c.args.self.now c.args.line.now)) ≡ (length c.args.line.now.name + 1) + 2 + words_size (verb_words c.args.self.now c.args.line.now.verb) + words_size (on_words c.args.self.now c.args.line.now.on) =
    line_words_size c.args.self.now c.args.line.now in
    omega (arith, all, c.name_size.ensures.size, c.word_size.ensures, c.verb_size.ensures.size, c.on_size.ensures.size)
