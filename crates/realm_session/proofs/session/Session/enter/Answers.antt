use Rattle.std.proofs.Common.{◌≡◌, List, [], ◌∷◌, ◌++◌, sym, ap, ◌∙◌}
use Rattle.std.proofs.lemmas.Result.{err_from_is_err_and}
use Rattle.basics.specs.Sums.{total}
use Rattle.realm_session.specs.declared.line.Line.{Line}
use Rattle.realm_session.specs.Recorded.{waits, lines_in}
use Rattle.realm_session.proofs.Lists.{lines_push}
use Rattle.realm_session.proofs.Ends.{waiting_ends}
use Rattle.realm_session.proofs.Making.{made_by_parts}
use Rattle.realm_session.proofs.session.Session.enter.Goals as goal

pub returns-in_err-waiting-clause-slots : goal.returns-in_err-waiting-clause-slots
returns-in_err-waiting-clause-slots c = let p = err_from_is_err_and c.from_residual.result c.from_residual.ensures.1 in rw (p.1, p.2) c.in_err-waiting.ensures.slots

pub returns-in_err-lines-clause-recorder : goal.returns-in_err-lines-clause-recorder
returns-in_err-lines-clause-recorder c = let s = c.make_room.ensures.same in
    made_by_parts c.args.self.now c.args.recorder.now c.make_room.new.self (lines_in c.args.recorder.now.graphs.items) (lines_in c.make_room.new.self.graphs.items) s.0 s.1 s.2 (ap lines_in s.3) c.requires.recorder

pub record_lines-requires-clause-made : goal.record_lines-requires-clause-made
record_lines-requires-clause-made c = let s = c.make_room.ensures.same in
    made_by_parts c.args.self.now c.args.recorder.now c.make_room.new.self (lines_in c.args.recorder.now.graphs.items) (lines_in c.make_room.new.self.graphs.items) s.0 s.1 s.2 (ap lines_in s.3) c.requires.recorder

pub add-requires-clause-waiting : goal.add-requires-clause-waiting
add-requires-clause-waiting c = c.in_ok-waiting.ensures.ok.0 ∙ (sym (ap (total waits) c.record_lines.ensures.ends) ∙ sym (waiting_ends c.record_lines.new.lines.items))

pub returns-clause-recorder : goal.returns-clause-recorder
returns-clause-recorder c =
    let a = c.add.ensures.same in
    let xs = c.record_lines.new.lines.items in
    let gs = c.make_room.new.self.graphs.items in
    let e : c.record_lines.new.recorder.graphs.items ≡ gs = cc (c.record_lines.ensures.same.0) in
    made_by_parts c.args.self.now c.record_lines.new.recorder c.add.new.self (lines_in gs ++ xs) (lines_in c.add.new.self.graphs.items) a.0 a.1 a.2
    (ap lines_in c.add.ensures.added ∙ (ap (λ (g : List (List Line)). lines_in (g ++ xs ∷ [])) e ∙ lines_push gs xs)) c.record_lines.ensures.made
