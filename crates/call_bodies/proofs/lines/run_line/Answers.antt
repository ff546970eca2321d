use Rattle.std.proofs.Common.{◌<◌, length, sym, ◌∙◌, subst}
use Rattle.std.proofs.lemmas.Bool.{true≢false}
use Rattle.graph_terms.specs.Graph.{GraphValue}
use Rattle.call_bodies.specs.Driving.{HasRun}
use Rattle.call_bodies.proofs.Cores.{not_taken}
use Rattle.call_bodies.proofs.Driven.{still_goes, ran_goes, ran_less}
use Rattle.call_bodies.proofs.lines.run_line.Goals as goal

pub returns-in_default : goal.returns-in_default
returns-in_default g c =
    let tried = not_taken c.args.core.now c.attempt.new.self c.args.line c.attempt.result c.attempt.ensures.answer c.in_default.not-Taken in
    record {
      goes_on = still_goes c.args.core.now c.attempt.new.self (g.B.Bodies.memory c.args.bodies.now) (g.B.Bodies.does c.args.bodies.now) c.requires.host tried.0;
      moved = λ e. absurd (true≢false (sym e));
      unmoved = λ _. tried;
    }

pub put_back-requires : goal.put_back-requires
put_back-requires g c = c.perform-finished.ensures.finished c.attempt.new.self c.is_sound-2.ensures.sound (c.in-Taken.ensures.out.hosted ∙ c.requires.host.hosted) (sym c.graph.ensures) c.in-Taken.ensures.answer.1.work

pub returns-clause-goes_on : goal.returns-clause-goes_on
returns-clause-goes_on g c =
    let a = c.in-Taken.ensures.answer in
    let f = c.perform-finished in
    let by = g.B.Bodies.does c.args.bodies.now in
    ran_goes c.cancelled_by_kept_ends.ensures c.clock_is_small.ensures c.args.core.now c.attempt.new.self c.put_back.new.self c.in-Taken.work f.result
    (g.B.Bodies.memory c.args.bodies.now) (g.B.Bodies.memory f.new.bodies) by (g.B.Bodies.does f.new.bodies) c.requires.host c.is_sound.ensures.sound c.is_sound-3.ensures.sound
    (subst (λ k. k < length c.args.core.now.graph.lines) (sym a.0) c.requires.line) a.1 f.ensures.line c.put_back.ensures.put c.in-Taken.ensures.out c.put_back.ensures.out
    (subst (λ (h : GraphValue). HasRun h c.in-Taken.work (g.B.Bodies.memory c.args.bodies.now) (by h) f.result (g.B.Bodies.memory f.new.bodies)) c.graph.ensures f.ensures.ran) f.ensures.does

pub returns-clause-moved : goal.returns-clause-moved
returns-clause-moved g c _ =
    let a = c.in-Taken.ensures.answer in
    let f = c.perform-finished in
    let by = g.B.Bodies.does c.args.bodies.now in
    ran_less c.cancelled_by_kept_ends.ensures c.clock_is_small.ensures c.args.core.now c.attempt.new.self c.put_back.new.self c.in-Taken.work f.result
    (g.B.Bodies.memory c.args.bodies.now) (g.B.Bodies.memory f.new.bodies) by (g.B.Bodies.does f.new.bodies) c.requires.host c.is_sound.ensures.sound c.is_sound-3.ensures.sound
    (subst (λ k. k < length c.args.core.now.graph.lines) (sym a.0) c.requires.line) a.1 f.ensures.line c.put_back.ensures.put c.in-Taken.ensures.out c.put_back.ensures.out
    (subst (λ (h : GraphValue). HasRun h c.in-Taken.work (g.B.Bodies.memory c.args.bodies.now) (by h) f.result (g.B.Bodies.memory f.new.bodies)) c.graph.ensures f.ensures.ran) f.ensures.does
