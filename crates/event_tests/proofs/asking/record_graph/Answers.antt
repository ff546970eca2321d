use Rattle.realm_session.specs.Sessions.{recorded_by}
use Rattle.event_tests.proofs.Graphs.{lines_of_number, lines_kept, one_more}
use Rattle.event_tests.proofs.asking.record_graph.Goals as goal

pub returns-clause-lines : goal.returns-clause-lines
returns-clause-lines c = lines_of_number (recorded_by c.args.recorder.now) (recorded_by c.enter.new.recorder) c.args.ends.now c.enter.result c.enter.ensures.number c.enter.ensures.added

pub returns-clause-kept : goal.returns-clause-kept
returns-clause-kept c = lines_kept (recorded_by c.args.recorder.now) (recorded_by c.enter.new.recorder) c.args.ends.now c.enter.result c.enter.ensures.added c.enter.ensures.err

pub returns-clause-graphs : goal.returns-clause-graphs
returns-clause-graphs c = one_more (recorded_by c.args.recorder.now) (recorded_by c.enter.new.recorder) c.args.ends.now c.enter.result c.enter.ensures.added c.enter.ensures.err
