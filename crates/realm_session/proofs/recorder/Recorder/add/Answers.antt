use Rattle.std.proofs.Common.{List, length, sym, ap, subst, arith}
use Rattle.realm_session.specs.declared.line.Line.{Line}
use Rattle.realm_session.specs.Recorded.{lines_in, waiting_in, IsRecord}
use Rattle.realm_session.proofs.Adding.{counted, waiting, adds}
use Rattle.realm_session.proofs.recorder.Recorder.add.Goals as goal

pub invariant_of-self : goal.invariant_of-self
invariant_of-self c =
    let s = c.args.self.now in
    let gs = s.graphs.items in
    let new = c.args.lines.items in
    let push = c.push_within.ensures.items in
    record {
      counted = (
        omega (arith, ap (λ (g : List (List Line)). length (lines_in g)) push, counted s.slots gs new s.sound, s.counted.0, c.len.ensures, c.args.lines.ok.0),
        omega (arith, ap (λ (g : List (List Line)). waiting_in (lines_in g)) push, waiting s.slots gs new s.sound, s.counted.1, c.requires.waiting),
      );
      sound = subst (λ (g : List (List Line)). IsRecord (record { slots = s.slots; graphs = g })) (sym push) (adds s.slots gs new s.sound c.requires.new c.requires.few (omega (arith, c.requires.need, c.requires.waiting)));
    }
