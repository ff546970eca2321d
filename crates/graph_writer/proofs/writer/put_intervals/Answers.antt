use Rattle.std.proofs.Common.{◌++◌, get_or, refl}
use Rattle.graph_terms.specs.Spelling.{interval_word}
use Rattle.realm_io.proofs.Public.{stops, goes_on, breaks_off}
use Rattle.graph_writer.proofs.WrittenLists.{comma_put}
use Rattle.graph_writer.proofs.writer.put_intervals.Goals as goal

pub returns-in_err-put_behind : goal.returns-in_err-put_behind
returns-in_err-put_behind g c = stops _ _ _ c.from_residual.result c.from_residual.ensures.0
    (breaks_off _ _ _ _ _ (c.comma.result.now ++ interval_word (get_or c.args.intervals.now c.loop-i.i (0, 0))) _ c.loop-i.invariant (comma_put interval_word c.args.intervals.now c.loop-i.i (0, 0) (get_or c.args.intervals.now c.loop-i.i (0, 0)) c.comma.result.now c.loop-i-test.true refl c.comma.ensures) c.in_err-put_behind.ensures)

pub loop-i-preserved : goal.loop-i-preserved
loop-i-preserved g c = goes_on _ _ _ _ _ (c.comma.result.now ++ interval_word (get_or c.args.intervals.now c.loop-i.i (0, 0))) _ c.loop-i.invariant (comma_put interval_word c.args.intervals.now c.loop-i.i (0, 0) (get_or c.args.intervals.now c.loop-i.i (0, 0)) c.comma.result.now c.loop-i-test.true refl c.comma.ensures) c.in_ok-put_behind.ensures
