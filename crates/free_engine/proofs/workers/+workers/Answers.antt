use Rattle.run_words.proofs.Public.{rejoined_both}
use Rattle.free_engine.proofs.workers.+workers.Goals as goal

pub run_workers-returns-clause-back : goal.run_workers-returns-clause-back
run_workers-returns-clause-back t n c =
    rejoined_both c.args.seat c.cut-own.result.0 c.cut-own.result.1 c.run_both-own.result.0 c.run_both-own.result.1 c.joined.result
    c.cut-own.ensures.numbers c.run_both-own.ensures.back.0 c.run_both-own.ensures.back.1 c.joined.ensures.numbers
