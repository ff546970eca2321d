use Rattle.std.proofs.Common.{Err, ap}
use Rattle.explain_top.proofs.Endings.{by_verdict, too_long, broken_off, usage_never, read_fault_never, complete, complete_flow, all_answered, long_answered}
use Rattle.explain_top.proofs.program.run.Goals as goal

pub returns-in-Ok-clause-answered : goal.returns-in-Ok-clause-answered
returns-in-Ok-clause-answered g c = λ bytes verdict left is.
    by_verdict c.args.ends c.args.all bytes (g.K.Sink.state c.args.sink.now) (g.K.Sink.state c.answer.new.sink) c.answer.result
    (all_answered c.args.ends c.args.all _ _ c.in-Ok.bytes.items c.as_slice.result.now (g.K.Sink.state c.args.sink.now) (g.K.Sink.state c.answer.new.sink) c.answer.result c.in-Ok.ensures.all c.in-Ok.ensures.end c.as_slice.ensures.value c.answer.ensures.answered bytes left) verdict is

pub returns-in-Ok-clause-too_long : goal.returns-in-Ok-clause-too_long
returns-in-Ok-clause-too_long g c = λ is bytes left.
    too_long c.args.ends c.args.all bytes (g.K.Sink.state c.args.sink.now) (g.K.Sink.state c.answer.new.sink) c.answer.result
    (all_answered c.args.ends c.args.all _ _ c.in-Ok.bytes.items c.as_slice.result.now (g.K.Sink.state c.args.sink.now) (g.K.Sink.state c.answer.new.sink) c.answer.result c.in-Ok.ensures.all c.in-Ok.ensures.end c.as_slice.ensures.value c.answer.ensures.answered bytes left) is

pub returns-in-Ok-clause-cut_off : goal.returns-in-Ok-clause-cut_off
returns-in-Ok-clause-cut_off g c = λ is bytes left.
    broken_off c.args.ends c.args.all bytes (g.K.Sink.state c.args.sink.now) (g.K.Sink.state c.answer.new.sink) c.answer.result
    (all_answered c.args.ends c.args.all _ _ c.in-Ok.bytes.items c.as_slice.result.now (g.K.Sink.state c.args.sink.now) (g.K.Sink.state c.answer.new.sink) c.answer.result c.in-Ok.ensures.all c.in-Ok.ensures.end c.as_slice.ensures.value c.answer.ensures.answered bytes left) is

pub returns-in-Ok-clause-complete : goal.returns-in-Ok-clause-complete
returns-in-Ok-clause-complete g c = λ bytes graph left short is acc read_rose write_rose.
    complete c.args.ends c.args.all bytes (g.K.Sink.state c.args.sink.now) (g.K.Sink.state c.answer.new.sink) c.answer.result
    (all_answered c.args.ends c.args.all _ _ c.in-Ok.bytes.items c.as_slice.result.now (g.K.Sink.state c.args.sink.now) (g.K.Sink.state c.answer.new.sink) c.answer.result c.in-Ok.ensures.all c.in-Ok.ensures.end c.as_slice.ensures.value c.answer.ensures.answered bytes left) (c.bytes_have_one_reading.ensures bytes) short graph is acc write_rose

pub returns-in-Ok-clause-complete_flow : goal.returns-in-Ok-clause-complete_flow
returns-in-Ok-clause-complete_flow g c = λ bytes flow left short is fits read_rose write_rose.
    complete_flow c.args.ends c.args.all bytes (g.K.Sink.state c.args.sink.now) (g.K.Sink.state c.answer.new.sink) c.answer.result
    (all_answered c.args.ends c.args.all _ _ c.in-Ok.bytes.items c.as_slice.result.now (g.K.Sink.state c.args.sink.now) (g.K.Sink.state c.answer.new.sink) c.answer.result c.in-Ok.ensures.all c.in-Ok.ensures.end c.as_slice.ensures.value c.answer.ensures.answered bytes left) c.bytes_have_one_reading.ensures short flow is fits write_rose

pub returns-in-Err-TooLong-clause-answered : goal.returns-in-Err-TooLong-clause-answered
returns-in-Err-TooLong-clause-answered g c = λ bytes verdict left is.
    by_verdict c.args.ends c.args.all bytes (g.K.Sink.state c.args.sink.now) (g.K.Sink.state c.put_too_long.new.sink) c.put_too_long.result
    (long_answered c.args.ends c.args.all _ (g.K.Sink.state c.args.sink.now) (g.K.Sink.state c.put_too_long.new.sink) c.put_too_long.result (λ xs old. c.in-Err-TooLong.ensures.was_long xs old (ap (λ e. Err e) c.in-Err-TooLong.field-0-is)) c.put_too_long.ensures bytes left) verdict is

pub returns-in-Err-TooLong-clause-too_long : goal.returns-in-Err-TooLong-clause-too_long
returns-in-Err-TooLong-clause-too_long g c = λ is bytes left.
    too_long c.args.ends c.args.all bytes (g.K.Sink.state c.args.sink.now) (g.K.Sink.state c.put_too_long.new.sink) c.put_too_long.result
    (long_answered c.args.ends c.args.all _ (g.K.Sink.state c.args.sink.now) (g.K.Sink.state c.put_too_long.new.sink) c.put_too_long.result (λ xs old. c.in-Err-TooLong.ensures.was_long xs old (ap (λ e. Err e) c.in-Err-TooLong.field-0-is)) c.put_too_long.ensures bytes left) is

pub returns-in-Err-TooLong-clause-cut_off : goal.returns-in-Err-TooLong-clause-cut_off
returns-in-Err-TooLong-clause-cut_off g c = λ is bytes left.
    broken_off c.args.ends c.args.all bytes (g.K.Sink.state c.args.sink.now) (g.K.Sink.state c.put_too_long.new.sink) c.put_too_long.result
    (long_answered c.args.ends c.args.all _ (g.K.Sink.state c.args.sink.now) (g.K.Sink.state c.put_too_long.new.sink) c.put_too_long.result (λ xs old. c.in-Err-TooLong.ensures.was_long xs old (ap (λ e. Err e) c.in-Err-TooLong.field-0-is)) c.put_too_long.ensures bytes left) is

pub returns-in-Err-TooLong-clause-complete : goal.returns-in-Err-TooLong-clause-complete
returns-in-Err-TooLong-clause-complete g c = λ bytes graph left short is acc read_rose write_rose.
    complete c.args.ends c.args.all bytes (g.K.Sink.state c.args.sink.now) (g.K.Sink.state c.put_too_long.new.sink) c.put_too_long.result
    (long_answered c.args.ends c.args.all _ (g.K.Sink.state c.args.sink.now) (g.K.Sink.state c.put_too_long.new.sink) c.put_too_long.result (λ xs old. c.in-Err-TooLong.ensures.was_long xs old (ap (λ e. Err e) c.in-Err-TooLong.field-0-is)) c.put_too_long.ensures bytes left) (c.bytes_have_one_reading.ensures bytes) short graph is acc write_rose

pub returns-in-Err-TooLong-clause-complete_flow : goal.returns-in-Err-TooLong-clause-complete_flow
returns-in-Err-TooLong-clause-complete_flow g c = λ bytes flow left short is fits read_rose write_rose.
    complete_flow c.args.ends c.args.all bytes (g.K.Sink.state c.args.sink.now) (g.K.Sink.state c.put_too_long.new.sink) c.put_too_long.result
    (long_answered c.args.ends c.args.all _ (g.K.Sink.state c.args.sink.now) (g.K.Sink.state c.put_too_long.new.sink) c.put_too_long.result (λ xs old. c.in-Err-TooLong.ensures.was_long xs old (ap (λ e. Err e) c.in-Err-TooLong.field-0-is)) c.put_too_long.ensures bytes left) c.bytes_have_one_reading.ensures short flow is fits write_rose

pub returns-in-Ok-clause-read_fault : goal.returns-in-Ok-clause-read_fault
returns-in-Ok-clause-read_fault g c = λ is. absurd (read_fault_never c.args.ends c.args.all c.as_slice.result.now (g.K.Sink.state c.args.sink.now) (g.K.Sink.state c.answer.new.sink) c.answer.result c.answer.ensures.answered is)

pub returns-in-Ok-clause-write_fault : goal.returns-in-Ok-clause-write_fault
returns-in-Ok-clause-write_fault g c = λ is. let b = broken_off c.args.ends c.args.all c.as_slice.result.now (g.K.Sink.state c.args.sink.now) (g.K.Sink.state c.answer.new.sink) c.answer.result c.answer.ensures.answered is in (b.3).rose

pub returns-in-Ok-clause-usage : goal.returns-in-Ok-clause-usage
returns-in-Ok-clause-usage g c = λ is. usage_never c.args.ends c.args.all c.as_slice.result.now (g.K.Sink.state c.args.sink.now) (g.K.Sink.state c.answer.new.sink) c.answer.result c.answer.ensures.answered is
