use Rattle.std.proofs.Common.{◌≡◌, Err, None, Some, sym, subst, ◌∙◌, ap}
use Rattle.index_spaces.specs.declared.limits.SpaceLimits.{SpaceLimits}
use Rattle.index_spaces.specs.declared.space.SpaceFault.TheVariants as spaces
use Rattle.index_spaces.specs.SpaceFault.{space_fault_in}
use Rattle.graph_terms.specs.declared.decl.Decl.TheVariants as decl
use Rattle.graph_terms.specs.declared.limits.Limits.{Limits}
use Rattle.graph_terms.specs.Limits.{limits}
use Rattle.graph_reader.specs.Reading.{IsDoneBy, space_reason}
use Rattle.graph_reader.proofs.DeclFaults.{space_ok, space_err}
use Rattle.graph_reader.proofs.decls.take_intervals.Goals as goal

pub returns-in-Ok : goal.returns-in-Ok
returns-in-Ok c =
    let m : (c.of.result).space ≡ (limits (c.args.graph.now).format).space = ap (λ (x : Limits). x.space) (c.of.ensures ∙ ap limits c.format.ensures) in
    space_ok c.args.graph.now c.offer_decl.new.graph c.args.name c.args.pairs.now c.in-Ok.space c.offer_decl.result c.in-Ok.ensures.intervals (subst (λ (x : SpaceLimits). space_fault_in x c.args.pairs.now ≡ None) m c.in-Ok.ensures.faultless) c.offer_decl.ensures

pub returns-in-Err : goal.returns-in-Err
returns-in-Err c =
    let m : (c.of.result).space ≡ (limits (c.args.graph.now).format).space = ap (λ (x : Limits). x.space) (c.of.ensures ∙ ap limits c.format.ensures) in
    subst (λ x. IsDoneBy {T = Unit {0}} c.args.graph.now (space_reason c.args.graph.now c.args.name c.args.pairs.now) (decl.Space c.args.name c.args.pairs.now) c.args.graph.now (Err x)) (sym c.space_error.ensures)
    (space_err c.args.graph.now c.args.name c.args.pairs.now c.in-Err.fault c.requires.some
    (subst (λ (x : SpaceLimits). (c.in-Err.fault ≡ spaces.NoMemory → ⊥) → space_fault_in x c.args.pairs.now ≡ Some c.in-Err.fault) m c.in-Err.ensures.fault))
