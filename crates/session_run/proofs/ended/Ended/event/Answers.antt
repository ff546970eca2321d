use Rattle.std.proofs.Common.{◌≡◌, sym, ◌∙◌, ap, subst, arith}
use Rattle.std.proofs.lemmas.Option.{same_Some, slice_get_within}
use Rattle.std.specs.Prelude.{Some}
use Rattle.event_table.specs.EventMap.{answer, IsCreated}
use Rattle.graph_meaning.specs.Evaluation.{eval_end}
use Rattle.realm_session.specs.Recorded.{answer_for}
use Rattle.session_run.specs.declared.running.RanGraph.{RanGraph}
use Rattle.session_run.proofs.Closing.{event_there, same_graph}
use Rattle.session_run.proofs.ended.Ended.event.Goals as goal

pub index-requires : goal.index-requires
index-requires c = (let e = slice_get_within c.args.self.now.graphs.items c.args.place c.requires.line.0 c.requires.line.1 in omega (arith, e, c.args.self.now.graphs.ok))

pub at-handle-requires : goal.at-handle-requires
at-handle-requires c = (let e = event_there c.args.self.now c.args.place c.args.line c.index.result.now c.requires.ended c.requires.line c.index.ensures in slice_get_within c.index.result.now.handles c.args.line e.handle e.is_handle)

pub look-requires : goal.look-requires
look-requires c =
    let e = event_there c.args.self.now c.args.place c.args.line c.index.result.now c.requires.ended c.requires.line c.index.ensures in
    record { created = subst (IsCreated c.args.self.now.left) (same_Some e.handle c.at-handle.result (sym e.is_handle ∙ c.at-handle.ensures)) e.created }

pub returns : goal.returns
returns c = λ x at.
    (let y = c.index.result.now in
    let l = c.requires.line in
    let e = event_there c.args.self.now c.args.place c.args.line y c.requires.ended l c.index.ensures in
    let h : e.handle ≡ c.at-handle.result = same_Some e.handle c.at-handle.result (sym e.is_handle ∙ c.at-handle.ensures) in
    let told : Some c.look.result ≡ Some (answer_for (eval_end y.checked.graph c.args.line)) = sym (c.look.ensures.answer (λ n. e.real (h ∙ n))) ∙ (ap (answer c.args.self.now.left) (sym h) ∙ e.answered) in
    let same : y ≡ x = sym (same_graph c.args.self.now c.args.place c.args.line y l c.index.ensures) ∙ same_Some l.0 x (sym l.1 ∙ at) in
    same_Some c.look.result (answer_for (eval_end y.checked.graph c.args.line)) told ∙ ap (λ (z : RanGraph). answer_for (eval_end z.checked.graph c.args.line)) same)
