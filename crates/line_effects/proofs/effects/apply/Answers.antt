use Rattle.std.proofs.Common.{sym, refl}
use Rattle.graph_terms.specs.declared.verb.Mode.TheVariants.{Read, Write}
use Rattle.graph_terms.specs.declared.verb.Verb.TheVariants.{Fill, Copy, Reduce, Task}
use Rattle.graph_terms.specs.declared.outcome.Verdict.TheVariants.{Fine}
use Rattle.graph_terms.specs.Graph.{space_at}
use Rattle.graph_terms.specs.Access.{access}
use Rattle.graph_meaning.specs.Effect.{verb_changes}
use Rattle.line_effects.proofs.EffectFacts.{reduced_mode, reduces_from, reduces_into, reduces_changed, space_known, over_access, own_access, columns_apart, made, same_held, unchanged, fits_held, has_cells}
use Rattle.line_effects.proofs.effects.apply.Goals as goal

pub space-requires : goal.space-requires
space-requires c = space_known c.accesses_fit.ensures c.args.graph.now c.line.ensures.is_graph c.args.line 0 c.line.result.now (Fill c.in-Fill.target c.in-Fill.space c.in-Fill.value) (access c.in-Fill.target c.in-Fill.space Write) c.line.ensures.line c.in-Fill.is refl

pub fill-requires-clause-target : goal.fill-requires-clause-target
fill-requires-clause-target c =
    over_access c.accesses_fit.ensures c.args.graph.now c.line.ensures.is_graph c.args.line 0 c.line.result.now (Fill c.in-Fill.target c.in-Fill.space c.in-Fill.value) (access c.in-Fill.target c.in-Fill.space Write) c.line.ensures.line c.in-Fill.is refl
    c.requires.shown.0 c.args.held.now c.space.result.now c.requires.shown.1 c.requires.moved c.space.ensures

pub fill-requires-clause-own : goal.fill-requires-clause-own
fill-requires-clause-own c =
    own_access c.args.graph.now c.args.line 0 c.line.result.now (Fill c.in-Fill.target c.in-Fill.space c.in-Fill.value) (access c.in-Fill.target c.in-Fill.space Write) c.line.ensures.line c.in-Fill.is refl c.args.held.now c.requires.own refl

pub returns-in-Fill-clause-same : goal.returns-in-Fill-clause-same
returns-in-Fill-clause-same c = same_held c.args.held.now c.fill.new.held (λ cells. verb_changes (space_at c.args.graph.now) cells (Fill c.in-Fill.target c.in-Fill.space c.in-Fill.value)) (c.fill.ensures (space_at c.args.graph.now) c.in-Fill.space (sym c.space.ensures))

pub returns-in-Fill-clause-lendings : goal.returns-in-Fill-clause-lendings
returns-in-Fill-clause-lendings c = (c.fill.ensures (space_at c.args.graph.now) c.in-Fill.space (sym c.space.ensures)).lendings

pub returns-in-Fill-clause-effect : goal.returns-in-Fill-clause-effect
returns-in-Fill-clause-effect c = λ cells shown. made c.columns_of_changes.ensures c.args.graph.now c.args.line c.line.result.now (Fill c.in-Fill.target c.in-Fill.space c.in-Fill.value) cells Fine c.args.held.now c.fill.new.held c.line.ensures.line c.in-Fill.is refl (c.fill.ensures (space_at c.args.graph.now) c.in-Fill.space (sym c.space.ensures)) shown

pub space-requires-in-Copy : goal.space-requires-in-Copy
space-requires-in-Copy c = space_known c.accesses_fit.ensures c.args.graph.now c.line.ensures.is_graph c.args.line 0 c.line.result.now (Copy c.in-Copy.source c.in-Copy.target c.in-Copy.space) (access c.in-Copy.source c.in-Copy.space Read) c.line.ensures.line c.in-Copy.is refl

pub copy-requires-clause-source : goal.copy-requires-clause-source
copy-requires-clause-source c =
    over_access c.accesses_fit.ensures c.args.graph.now c.line.ensures.is_graph c.args.line 0 c.line.result.now (Copy c.in-Copy.source c.in-Copy.target c.in-Copy.space) (access c.in-Copy.source c.in-Copy.space Read) c.line.ensures.line c.in-Copy.is refl
    c.requires.shown.0 c.args.held.now c.space-in-Copy.result.now c.requires.shown.1 c.requires.moved c.space-in-Copy.ensures

pub copy-requires-clause-target : goal.copy-requires-clause-target
copy-requires-clause-target c =
    over_access c.accesses_fit.ensures c.args.graph.now c.line.ensures.is_graph c.args.line 1 c.line.result.now (Copy c.in-Copy.source c.in-Copy.target c.in-Copy.space) (access c.in-Copy.target c.in-Copy.space Write) c.line.ensures.line c.in-Copy.is refl
    c.requires.shown.0 c.args.held.now c.space-in-Copy.result.now c.requires.shown.1 c.requires.moved c.space-in-Copy.ensures

pub copy-requires-clause-distinct : goal.copy-requires-clause-distinct
copy-requires-clause-distinct c = columns_apart c.columns_differ.ensures c.args.graph.now c.line.ensures.is_graph c.args.line c.line.result.now (Copy c.in-Copy.source c.in-Copy.target c.in-Copy.space) (access c.in-Copy.source c.in-Copy.space Read) (access c.in-Copy.target c.in-Copy.space Write) c.line.ensures.line c.in-Copy.is refl refl

pub copy-requires-clause-own : goal.copy-requires-clause-own
copy-requires-clause-own c =
    own_access c.args.graph.now c.args.line 1 c.line.result.now (Copy c.in-Copy.source c.in-Copy.target c.in-Copy.space) (access c.in-Copy.target c.in-Copy.space Write) c.line.ensures.line c.in-Copy.is refl c.args.held.now c.requires.own refl

pub returns-in-Copy-clause-same : goal.returns-in-Copy-clause-same
returns-in-Copy-clause-same c = same_held c.args.held.now c.copy.new.held (λ cells. verb_changes (space_at c.args.graph.now) cells (Copy c.in-Copy.source c.in-Copy.target c.in-Copy.space)) (c.copy.ensures (space_at c.args.graph.now) c.in-Copy.space (sym c.space-in-Copy.ensures))

pub returns-in-Copy-clause-lendings : goal.returns-in-Copy-clause-lendings
returns-in-Copy-clause-lendings c = (c.copy.ensures (space_at c.args.graph.now) c.in-Copy.space (sym c.space-in-Copy.ensures)).lendings

pub returns-in-Copy-clause-effect : goal.returns-in-Copy-clause-effect
returns-in-Copy-clause-effect c = λ cells shown. made c.columns_of_changes.ensures c.args.graph.now c.args.line c.line.result.now (Copy c.in-Copy.source c.in-Copy.target c.in-Copy.space) cells Fine c.args.held.now c.copy.new.held c.line.ensures.line c.in-Copy.is refl (c.copy.ensures (space_at c.args.graph.now) c.in-Copy.space (sym c.space-in-Copy.ensures)) shown

pub space-requires-in-Reduce : goal.space-requires-in-Reduce
space-requires-in-Reduce c = space_known c.accesses_fit.ensures c.args.graph.now c.line.ensures.is_graph c.args.line 0 c.line.result.now (Reduce c.in-Reduce.op c.in-Reduce.source c.in-Reduce.target c.in-Reduce.space) (access c.in-Reduce.source c.in-Reduce.space Read) c.line.ensures.line c.in-Reduce.is (reduces_from c.args.graph.now.format c.in-Reduce.op c.in-Reduce.source c.in-Reduce.target c.in-Reduce.space)

pub reduce-requires-clause-source : goal.reduce-requires-clause-source
reduce-requires-clause-source c =
    over_access c.accesses_fit.ensures c.args.graph.now c.line.ensures.is_graph c.args.line 0 c.line.result.now (Reduce c.in-Reduce.op c.in-Reduce.source c.in-Reduce.target c.in-Reduce.space) (access c.in-Reduce.source c.in-Reduce.space Read) c.line.ensures.line c.in-Reduce.is (reduces_from c.args.graph.now.format c.in-Reduce.op c.in-Reduce.source c.in-Reduce.target c.in-Reduce.space)
    c.requires.shown.0 c.args.held.now c.space-in-Reduce.result.now c.requires.shown.1 c.requires.moved c.space-in-Reduce.ensures

pub reduce-requires-clause-target : goal.reduce-requires-clause-target
reduce-requires-clause-target c =
    over_access c.accesses_fit.ensures c.args.graph.now c.line.ensures.is_graph c.args.line 1 c.line.result.now (Reduce c.in-Reduce.op c.in-Reduce.source c.in-Reduce.target c.in-Reduce.space) (access c.in-Reduce.target c.in-Reduce.space (reduced_mode c.args.graph.now.format c.in-Reduce.op)) c.line.ensures.line c.in-Reduce.is (reduces_into c.args.graph.now.format c.in-Reduce.op c.in-Reduce.source c.in-Reduce.target c.in-Reduce.space)
    c.requires.shown.0 c.args.held.now c.space-in-Reduce.result.now c.requires.shown.1 c.requires.moved c.space-in-Reduce.ensures

pub reduce-requires-clause-distinct : goal.reduce-requires-clause-distinct
reduce-requires-clause-distinct c = columns_apart c.columns_differ.ensures c.args.graph.now c.line.ensures.is_graph c.args.line c.line.result.now (Reduce c.in-Reduce.op c.in-Reduce.source c.in-Reduce.target c.in-Reduce.space) (access c.in-Reduce.source c.in-Reduce.space Read) (access c.in-Reduce.target c.in-Reduce.space (reduced_mode c.args.graph.now.format c.in-Reduce.op)) c.line.ensures.line c.in-Reduce.is (reduces_from c.args.graph.now.format c.in-Reduce.op c.in-Reduce.source c.in-Reduce.target c.in-Reduce.space) (reduces_into c.args.graph.now.format c.in-Reduce.op c.in-Reduce.source c.in-Reduce.target c.in-Reduce.space)

pub reduce-requires-clause-own : goal.reduce-requires-clause-own
reduce-requires-clause-own c =
    own_access c.args.graph.now c.args.line 1 c.line.result.now (Reduce c.in-Reduce.op c.in-Reduce.source c.in-Reduce.target c.in-Reduce.space) (access c.in-Reduce.target c.in-Reduce.space (reduced_mode c.args.graph.now.format c.in-Reduce.op)) c.line.ensures.line c.in-Reduce.is (reduces_into c.args.graph.now.format c.in-Reduce.op c.in-Reduce.source c.in-Reduce.target c.in-Reduce.space) c.args.held.now c.requires.own (reduces_changed c.args.graph.now.format c.in-Reduce.op)

pub returns-in-Reduce-clause-same : goal.returns-in-Reduce-clause-same
returns-in-Reduce-clause-same c = same_held c.args.held.now c.reduce.new.held (λ cells. verb_changes (space_at c.args.graph.now) cells (Reduce c.in-Reduce.op c.in-Reduce.source c.in-Reduce.target c.in-Reduce.space)) (c.reduce.ensures (space_at c.args.graph.now) c.in-Reduce.space (sym c.space-in-Reduce.ensures))

pub returns-in-Reduce-clause-lendings : goal.returns-in-Reduce-clause-lendings
returns-in-Reduce-clause-lendings c = (c.reduce.ensures (space_at c.args.graph.now) c.in-Reduce.space (sym c.space-in-Reduce.ensures)).lendings

pub returns-in-Reduce-clause-effect : goal.returns-in-Reduce-clause-effect
returns-in-Reduce-clause-effect c = λ cells shown. made c.columns_of_changes.ensures c.args.graph.now c.args.line c.line.result.now (Reduce c.in-Reduce.op c.in-Reduce.source c.in-Reduce.target c.in-Reduce.space) cells Fine c.args.held.now c.reduce.new.held c.line.ensures.line c.in-Reduce.is refl (c.reduce.ensures (space_at c.args.graph.now) c.in-Reduce.space (sym c.space-in-Reduce.ensures)) shown

pub run_kernel-requires : goal.run_kernel-requires
run_kernel-requires c =
    fits_held c.accesses_fit.ensures c.columns_differ.ensures c.args.graph.now c.line.ensures.is_graph c.args.line c.line.result.now c.in-Task.kernel c.requires.shown.0 c.args.held.now c.line.ensures.line c.in-Task.is c.requires.shown.1 c.requires.moved c.requires.own

pub returns-in-Task-clause-same : goal.returns-in-Task-clause-same
returns-in-Task-clause-same c = same_held c.args.held.now c.run_kernel.new.held (λ cells. verb_changes (space_at c.args.graph.now) cells (Task c.in-Task.kernel)) c.run_kernel.ensures.changes

pub returns-in-Task-clause-lendings : goal.returns-in-Task-clause-lendings
returns-in-Task-clause-lendings c = c.run_kernel.ensures.changes.lendings

pub returns-in-Task-clause-effect : goal.returns-in-Task-clause-effect
returns-in-Task-clause-effect c = λ cells shown. made c.columns_of_changes.ensures c.args.graph.now c.args.line c.line.result.now (Task c.in-Task.kernel) cells c.run_kernel.result c.args.held.now c.run_kernel.new.held c.line.ensures.line c.in-Task.is
    (c.run_kernel.ensures.verdict cells (has_cells c.args.graph.now cells c.args.held.now shown)) c.run_kernel.ensures.changes shown

pub returns-in_default : goal.returns-in_default
returns-in_default c = record {
  same = λ column. refl;
  lendings = λ column. refl;
  effect = λ cells shown. unchanged c.args.graph.now c.args.line c.line.result.now cells c.args.held.now c.line.ensures.line c.in_default.not-Fill c.in_default.not-Copy c.in_default.not-Reduce c.in_default.not-Task shown;
}
