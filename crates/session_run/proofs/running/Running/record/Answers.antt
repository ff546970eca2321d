use Rattle.std.proofs.Common.{◌≡◌, length, sym, ◌∙◌, ap, arith}
use Rattle.graph_terms.specs.declared.outcome.Outcome.{Outcome}
use Rattle.session_run.proofs.Recording.{ends_count, graphs_count, lines_count, need_for, one_more}
use Rattle.session_run.proofs.Refusals.{failed, same_failed, same_slots, ok_no_fault, no_memory_fault}
use Rattle.session_run.proofs.running.Running.record.Goals as goal

pub enter_lines-requires-clause-graphs : goal.enter_lines-requires-clause-graphs
enter_lines-requires-clause-graphs c = (let e = graphs_count c.args.self.recorder.graphs.items c.args.self.graphs.items c.requires.running.ends in omega (arith, e, c.requires.running.few))

pub enter_lines-requires-clause-few : goal.enter_lines-requires-clause-few
enter_lines-requires-clause-few c =
    (let e = lines_count c.args.self.recorder.graphs.items c.args.self.graphs.items c.requires.running.ends in
    let n : length c.args.outcome.ends ≡ length c.args.checked.graph.lines = ap (λ (o : Outcome). length o.ends) c.requires.outcome ∙ ends_count c.args.checked.graph in
    omega (arith, e, n, c.requires.few))

pub returns-in-Err-clause-short : goal.returns-in-Err-clause-short
returns-in-Err-clause-short c = λ n. same_slots _ _ c.enter_lines.result _ _ n _ _ (need_for c.args.self c.args.name c.args.checked.graph c.args.outcome c.requires.running c.requires.outcome)
    (λ e. same_failed _ _ c.in-Err.fault n (sym c.in-Err.is ∙ e)) (λ e. c.in-Err.is ∙ same_failed _ _ c.in-Err.fault n e) (c.enter_lines.ensures.short n)

pub returns-in-Ok-keep-clause-running : goal.returns-in-Ok-keep-clause-running
returns-in-Ok-keep-clause-running c = one_more c.args.self c.enter_lines.new.recorder c.keep.new.graphs _ c.requires.running c.requires.outcome c.requires.graphs c.enter_lines.ensures.recorder c.in-Ok.ensures.entered c.in-Ok-keep.ensures.ok

pub returns-in-Ok-keep-clause-short : goal.returns-in-Ok-keep-clause-short
returns-in-Ok-keep-clause-short c = λ n. same_slots _ _ c.enter_lines.result _ _ n _ _ (need_for c.args.self c.args.name c.args.checked.graph c.args.outcome c.requires.running c.requires.outcome)
    (λ e. absurd (ok_no_fault _ c.in-Ok.handles n (sym c.in-Ok.is ∙ e))) (λ e. absurd (ok_no_fault _ _ n e)) (c.enter_lines.ensures.short n)

pub returns-in-Err-keep-clause-short : goal.returns-in-Err-keep-clause-short
returns-in-Err-keep-clause-short c = λ n. same_slots _ _ c.enter_lines.result _ _ n _ _ (need_for c.args.self c.args.name c.args.checked.graph c.args.outcome c.requires.running c.requires.outcome)
    (λ e. absurd (ok_no_fault _ c.in-Ok.handles n (sym c.in-Ok.is ∙ e))) (λ e. absurd (no_memory_fault _ n (ap (failed _) (sym c.in-Err-keep.ensures.err) ∙ e))) (c.enter_lines.ensures.short n)
