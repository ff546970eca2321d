use Rattle.free_engine.proofs.shared_words.WordsSharedWords.end.Goals as goal

pub put_back-requires-clause-finished : goal.put_back-requires-clause-finished
put_back-requires-clause-finished t c = c.perform-finished.ensures.finished c.args.self.now c.requires.work c.graph-graph.ensures
