use Rattle.std.proofs.Common.{◌≡◌, length, sym, ◌∙◌, ap, subst, Err, rules}
use Rattle.std.specs.Prelude.{Some, slice_get}
use Rattle.std.proofs.lemmas.Result.{err_from_is_err_and}
use Rattle.task_flow.specs.Construction.{lock_of}
use Rattle.task_flow.specs.declared.making.Stop.TheVariants.{Limit}
use Rattle.task_flow.proofs.Growth.{err_same}
use Rattle.task_flow.proofs.AddSteps.{past_over, alone_over, beyond_over, within_over, to_fit, row_some, making_next, wants_true, wants_false}
use Rattle.task_flow.proofs.making.Making.add_next.Goals as goal

pub returns-in_err-make_line-clause-limit : goal.returns-in_err-make_line-clause-limit
returns-in_err-make_line-clause-limit c = λ h.
    let f = c.args.flow.now in
    let n = length c.args.rows.now.rows.items in
    let same : c.len-line.result ≡ length c.args.rows.now.rows.items = search rules in
    let lock : c.lock_of-lock.result ≡ lock_of f c.args.sections.now.commute n = c.lock_of-lock.ensures ∙ ap (λ z. lock_of f c.args.sections.now.commute z) same in
    let at : slice_get f.lines n ≡ Some c.line.result.now = subst (λ z. slice_get f.lines z ≡ Some c.line.result.now) same c.line.ensures.line in
    let p = err_from_is_err_and c.from_residual-in_err-make_line.result c.from_residual-in_err-make_line.ensures.1 in
    past_over f c.args.sections.now.commute c.requires.flow c.requires.sections.few n c.requires.next c.args.self.now c.requires.making c.line.result.now at c.in_ok-parts.parts c.in_ok-parts.ensures c.lock_of-lock.result lock (c.in_err-make_line.ensures.limit (ap (λ e. Err e) (err_same c.from_residual-in_err-make_line.result p.0 c.in_err-make_line.field-0.0 Limit p.1 p.2 h)))

pub make_line-requires : goal.make_line-requires
make_line-requires c = c.requires.flow.uses c.len-line.result c.line.result.now c.line.ensures.line

pub returns-then-wants_names-clause-limit : goal.returns-then-wants_names-clause-limit
returns-then-wants_names-clause-limit c = λ h.
    let f = c.args.flow.now in
    let n = length c.args.rows.now.rows.items in
    let same : c.len-line.result ≡ length c.args.rows.now.rows.items = search rules in
    let lock : c.lock_of-lock.result ≡ lock_of f c.args.sections.now.commute n = c.lock_of-lock.ensures ∙ ap (λ z. lock_of f c.args.sections.now.commute z) same in
    let at : slice_get f.lines n ≡ Some c.line.result.now = subst (λ z. slice_get f.lines z ≡ Some c.line.result.now) same c.line.ensures.line in
    let e = c.in_ok-make_line.ensures in
    let w = wants_true c.make_line.new.self.named (length c.make_line.new.self.row.items) (sym c.wants_names.ensures ∙ c.if-wants_names.true) in
    alone_over f c.args.sections.now.commute c.requires.flow c.requires.sections.few n c.requires.next c.args.self.now c.requires.making c.line.result.now at c.in_ok-parts.parts c.in_ok-parts.ensures c.lock_of-lock.result lock c.make_line.new.self e.ok e.graph e.named w.0 w.1

pub put_row-requires : goal.put_row-requires
put_row-requires c =
    let f = c.args.flow.now in
    let n = length c.args.rows.now.rows.items in
    let same : c.len-line.result ≡ length c.args.rows.now.rows.items = search rules in
    let lock : c.lock_of-lock.result ≡ lock_of f c.args.sections.now.commute n = c.lock_of-lock.ensures ∙ ap (λ z. lock_of f c.args.sections.now.commute z) same in
    let at : slice_get f.lines n ≡ Some c.line.result.now = subst (λ z. slice_get f.lines z ≡ Some c.line.result.now) same c.line.ensures.line in
    let e = c.in_ok-make_line.ensures in
    to_fit f c.args.sections.now.commute c.requires.flow c.requires.sections.few n c.requires.next c.args.self.now c.requires.making c.line.result.now at c.in_ok-parts.parts c.in_ok-parts.ensures c.lock_of-lock.result lock c.make_line.new.self e.ok e.graph e.named (wants_false c.make_line.new.self.named (length c.make_line.new.self.row.items) (sym c.wants_names.ensures ∙ c.if-wants_names.false)) e.few

pub returns-in_err-put_row-clause-limit : goal.returns-in_err-put_row-clause-limit
returns-in_err-put_row-clause-limit c = λ h.
    let f = c.args.flow.now in
    let n = length c.args.rows.now.rows.items in
    let same : c.len-line.result ≡ length c.args.rows.now.rows.items = search rules in
    let lock : c.lock_of-lock.result ≡ lock_of f c.args.sections.now.commute n = c.lock_of-lock.ensures ∙ ap (λ z. lock_of f c.args.sections.now.commute z) same in
    let at : slice_get f.lines n ≡ Some c.line.result.now = subst (λ z. slice_get f.lines z ≡ Some c.line.result.now) same c.line.ensures.line in
    let e = c.in_ok-make_line.ensures in
    let p = err_from_is_err_and c.from_residual-in_err-put_row.result c.from_residual-in_err-put_row.ensures.1 in
    beyond_over f c.args.sections.now.commute c.requires.flow c.requires.sections.few n c.requires.next c.args.self.now c.requires.making c.line.result.now at c.in_ok-parts.parts c.in_ok-parts.ensures c.lock_of-lock.result lock c.make_line.new.self e.ok e.graph e.named (c.in_err-put_row.ensures.limit (ap (λ e. Err e) (err_same c.from_residual-in_err-put_row.result p.0 c.in_err-put_row.field-0.0 Limit p.1 p.2 h)))

pub returns-clause-ok : goal.returns-clause-ok
returns-clause-ok c =
    let f = c.args.flow.now in
    let n = length c.args.rows.now.rows.items in
    let same : c.len-line.result ≡ length c.args.rows.now.rows.items = search rules in
    let lock : c.lock_of-lock.result ≡ lock_of f c.args.sections.now.commute n = c.lock_of-lock.ensures ∙ ap (λ z. lock_of f c.args.sections.now.commute z) same in
    let at : slice_get f.lines n ≡ Some c.line.result.now = subst (λ z. slice_get f.lines z ≡ Some c.line.result.now) same c.line.ensures.line in
    let e = c.in_ok-make_line.ensures in
    let single = wants_false c.make_line.new.self.named (length c.make_line.new.self.row.items) (sym c.wants_names.ensures ∙ c.if-wants_names.false) in
    let put = c.in_ok-put_row.ensures in
    record {
      rows_are = c.in_ok-add_row.ensures.rows;
      count = c.in_ok-add_row.ensures.more;
      making = making_next f c.args.sections.now.commute c.requires.flow c.requires.sections.few n c.requires.next c.args.self.now c.requires.making c.line.result.now at c.in_ok-parts.parts c.in_ok-parts.ensures c.lock_of-lock.result lock c.make_line.new.self e.ok e.graph e.named single c.put_row.new.self put.ok put.row put.made put.named;
      within = within_over f c.args.sections.now.commute c.requires.flow c.requires.sections.few n c.requires.next c.args.self.now c.requires.making c.line.result.now at c.in_ok-parts.parts c.in_ok-parts.ensures c.lock_of-lock.result lock c.make_line.new.self e.ok e.graph e.named single (put.within (row_some f c.args.sections.now.commute c.requires.flow c.requires.sections.few n c.requires.next c.args.self.now c.requires.making c.line.result.now at c.in_ok-parts.parts c.in_ok-parts.ensures c.lock_of-lock.result lock c.make_line.new.self e.ok e.graph e.named single));
    }
