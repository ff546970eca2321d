use Rattle.std.proofs.Common.{◌≡◌, List, ◌++◌, map, sym, ap, subst, ◌∙◌, arith}
use Rattle.std.specs.Prelude.{Contains}
use Rattle.basics.specs.Sums.{total}
use Rattle.realm_session.specs.declared.line.Line.{Line}
use Rattle.realm_session.specs.Recorded.{waits, waiting_in, end_in, lines_in, AreNew}
use Rattle.realm_session.specs.Sessions.{HasMade}
use Rattle.realm_session.proofs.Lists.{waiting_append}
use Rattle.realm_session.proofs.Ends.{count_first, waiting_ends, ends_more}
use Rattle.realm_session.proofs.Making.{new_more}
use Rattle.realm_session.proofs.session.Session.record_lines.Goals as goal

pub record_line-requires-clause-need : goal.record_line-requires-clause-need
record_line-requires-clause-need c =
    let i = c.loop-line.invariant in
    let xs = c.loop-line.lines.items in
    let gs = c.args.recorder.now.graphs.items in
    let e : c.loop-line.recorder.graphs.items ≡ gs = cc (i.graphs) in
    omega (arith, ap (λ (g : List (List Line)). waiting_in (lines_in g ++ xs)) e, waiting_append (lines_in gs) xs, waiting_ends xs, ap (total waits) i.ends, count_first c.args.ends.now c.loop-line.line, c.requires.need, i.slots)

pub loop-line-preserved : goal.loop-line-preserved
loop-line-preserved c =
    let i = c.loop-line.invariant in
    let xs = c.loop-line.lines.items in
    let r = c.args.recorder.now in
    let gs = r.graphs.items in
    let e : c.loop-line.recorder.graphs.items ≡ gs = cc (i.graphs) in
    let t = c.record_line.ensures.line in
    let x : Line = record { handle = t.0; end = c.at.result } in
    record {
      made = subst (λ (g : List (List Line)). HasMade c.args.self.now c.record_line.new.recorder (lines_in g ++ c.record_line.new.lines.items)) e c.record_line.ensures.made;
      graphs = c.record_line.ensures.same.0 ∙ i.graphs;
      slots = c.record_line.ensures.same.1 ∙ i.slots;
      ends = ap (map end_in) t.1 ∙ ends_more xs t.0 c.args.ends.now c.loop-line.line c.at.result i.ends c.at.ensures;
      room = omega (arith, i.room, c.record_line.ensures.room);
      new = subst (AreNew r.slots (lines_in gs)) (sym t.1) (new_more r.slots (lines_in gs) xs x i.new (omega (arith, t.2, i.slots)) (λ y d. t.3 y (subst (λ (g : List (List Line)). Contains (lines_in g ++ xs) y) (sym e) d)));
    }
