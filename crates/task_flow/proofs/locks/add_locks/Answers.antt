use Rattle.std.proofs.Common.{◌≡◌, ◌+◌, sym, ◌∙◌, ap, arith}
use Rattle.graph_terms.specs.Limits.{limits}
use Rattle.graph_terms.specs.Name.{is_name_in}
use Rattle.task_flow.specs.Construction.{new_name}
use Rattle.task_flow.proofs.Names.{new_is_name, in_each}
use Rattle.task_flow.proofs.LockSteps.{lock_stops, lock_goes, locks_whole}
use Rattle.task_flow.proofs.locks.add_locks.Goals as goal

pub returns-then-is_some-clause-limit : goal.returns-then-is_some-clause-limit
returns-then-is_some-clause-limit c = λ h.
    let g = c.args.graph.now in
    lock_stops g.format g.decls (c.args.first + (limits g.format).lines) c.args.columns.now c.loop-k.k (let n = c.len-k-end.ensures in let t = c.loop-k-test.true in omega (arith, n, t)) c.loop-k.graph c.loop-k.invariant c.in_ok-name.name (c.in_ok-name.ensures ∙ ap new_name (let is : c.most_lines-lines.result ≡ (limits g.format).lines = c.most_lines-lines.ensures.lines ∙ ap (λ fm. (limits fm).lines) c.format.ensures in let e : c.args.first + (c.most_lines-lines.result + c.loop-k.k) ≡ c.args.first + (limits g.format).lines + c.loop-k.k = omega arith in e)) (c.requires.free c.loop-k.k (let n = c.len-k-end.ensures in let t = c.loop-k-test.true in omega (arith, n, t))) c.decl_fault.result c.decl_fault.ensures (sym c.is_some.ensures ∙ c.if-is_some.true)

pub add_decl-requires-clause-named : goal.add_decl-requires-clause-named
add_decl-requires-clause-named c =
    let t = c.loop-k-test.true in
    let n = c.len-k-end.ensures in
    ap (is_name_in c.loop-k.graph.format) c.in_ok-name.ensures ∙ in_each c.loop-k.graph.format _ (new_is_name _ (omega (arith, c.requires.first, c.requires.few, c.most_lines-lines.ensures.few, n, t)))

pub loop-k-preserved : goal.loop-k-preserved
loop-k-preserved c =
    let g = c.args.graph.now in
    lock_goes g.format g.decls (c.args.first + (limits g.format).lines) c.args.columns.now c.loop-k.k (let n = c.len-k-end.ensures in let t = c.loop-k-test.true in omega (arith, n, t)) c.loop-k.graph c.loop-k.invariant c.in_ok-name.name (c.in_ok-name.ensures ∙ ap new_name (let is : c.most_lines-lines.result ≡ (limits g.format).lines = c.most_lines-lines.ensures.lines ∙ ap (λ fm. (limits fm).lines) c.format.ensures in let e : c.args.first + (c.most_lines-lines.result + c.loop-k.k) ≡ c.args.first + (limits g.format).lines + c.loop-k.k = omega arith in e)) (c.requires.free c.loop-k.k (let n = c.len-k-end.ensures in let t = c.loop-k-test.true in omega (arith, n, t))) c.add_decl.new.self c.in_ok-add_decl.ensures.ok

pub returns-clause-ok : goal.returns-clause-ok
returns-clause-ok c =
    let g = c.args.graph.now in
    locks_whole g.format g.decls (c.args.first + (limits g.format).lines) c.args.columns.now c.loop-k.k c.loop-k.graph (let n = c.len-k-end.ensures in let t = c.loop-k-test.false in omega (arith, n, t)) c.loop-k.invariant
