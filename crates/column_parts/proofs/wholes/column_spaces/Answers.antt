use Rattle.std.proofs.Common.{ap, ◌∙◌, sym, map, ◌++◌, arith}
use Rattle.std.specs.Prelude.{flat_map}
use Rattle.graph_terms.specs.declared.decl.ColumnInfo.{ColumnInfo}
use Rattle.graph_terms.specs.Graph.{columns_of}
use Rattle.std.proofs.lemmas.List.{take_all}
use Rattle.column_parts.proofs.ColumnSpaces.{spaces_step}
use Rattle.column_parts.proofs.wholes.column_spaces.Goals as goal

pub loop-d-preserved : goal.loop-d-preserved
loop-d-preserved c =
    c.in_ok-add_column_spaces.ensures ∙ (ap (λ xs. xs ++ map (λ (x : ColumnInfo). x.space) (columns_of c.decl.result.now)) c.loop-d.invariant
    ∙ sym (spaces_step c.args.graph.now.decls c.loop-d.d c.decl.result.now c.decl.ensures.decl))

pub returns : goal.returns
returns c = c.loop-d.invariant ∙ ap (λ ds. map (λ (x : ColumnInfo). x.space) (flat_map columns_of ds)) (take_all c.loop-d.d c.args.graph.now.decls (omega (arith, c.loop-d-test.false, c.decls-d-end.ensures.number, c.loop-d.auto.d-end)))
