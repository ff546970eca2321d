use Rattle.std.proofs.Common.{sym}
use Rattle.std.proofs.lemmas.Bool.{true≢false}
use Rattle.run_core.proofs.FinishFacts.{not_taken, still_goes, ran_on, ran_less}
use Rattle.run_core.proofs.run.Core.run_line.Goals as goal

pub returns-in_default : goal.returns-in_default
returns-in_default c =
    let old = c.args.self.now in
    let tried = not_taken old c.attempt.new.self c.args.line c.attempt.result c.attempt.ensures.answer c.in_default.not-Taken in
    record {
      goes_on = still_goes old c.attempt.new.self c.requires.nothing_out tried.0 tried.1;
      moved = λ e. absurd (true≢false (sym e));
      unmoved = λ _. (tried.0, tried.2);
    }

pub put_back-requires : goal.put_back-requires
put_back-requires c = c.perform-finished.ensures.finished c.attempt.new.self c.is_sound.ensures.sound (sym c.graph.ensures) c.in-Taken.ensures.answer.1.work

pub returns : goal.returns
returns c =
    let old = c.args.self.now in
    let a = c.in-Taken.ensures.answer in
    let f = c.perform-finished in
    record {
      goes_on = ran_on old c.attempt.new.self c.put_back.new.self c.in-Taken.work f.result c.is_sound.ensures.sound c.requires.nothing_out c.args.line c.requires.line a.0 a.1 f.ensures.line c.put_back.ensures.put;
      moved = λ _. ran_less old c.attempt.new.self c.put_back.new.self c.in-Taken.work f.result c.is_sound.ensures.sound c.requires.nothing_out c.args.line c.requires.line a.0 a.1 f.ensures.line c.put_back.ensures.put;
      unmoved = λ e. absurd (true≢false e);
    }
