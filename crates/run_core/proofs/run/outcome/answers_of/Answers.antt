use Rattle.std.proofs.Common.{◌≡◌, ◌∙◌, length, arith}
use Rattle.run_lists.proofs.Public.{count_pushed}
use Rattle.run_core.proofs.ListsOfLines.{answers_more, answers_all}
use Rattle.run_core.proofs.run.outcome.answers_of.Goals as goal

pub loop-line-preserved : goal.loop-line-preserved
loop-line-preserved c =
    let old = c.loop-line.answers in
    let new = c.push_within.new.items in
    record {
      so_far = answers_more c.args.events.now.handles c.args.events.now.table c.loop-line.line old.items new.items c.answer.result c.shown.result c.loop-line.invariant.so_far c.push_within.ensures.items c.shown.ensures c.answer.ensures;
      number = count_pushed c.shown.result old.items new.items _ _ c.loop-line.line old.ok.0 new.ok.0 c.push_within.ensures.items c.loop-line.invariant.number;
      room = omega (arith, c.loop-line.invariant.room, c.push_within.ensures.capacity);
    }

pub returns : goal.returns
returns c = answers_all c.args.events.now.handles c.args.events.now.table c.loop-line.line c.loop-line.answers.items (c.requires.issued ∙ (let z : length c.args.stages.now ≡ c.loop-line.line = omega (arith, c.loop-line-test.false, c.loop-line.auto.line-end) in z)) c.loop-line.invariant.so_far
