use Rattle.std.proofs.Common.{◌≡◌, ◌∙◌, sym, ap, map, length, replicate, ◌++◌, arith}
use Rattle.graph_terms.specs.declared.decl.ColumnInfo.{ColumnInfo}
use Rattle.graph_terms.specs.Graph.{columns_of}
use Rattle.column_parts.proofs.ColumnSpaces.{fields_spaces}
use Rattle.column_parts.proofs.wholes.add_column_spaces.Goals as goal

pub returns-after-loop-k : goal.returns-after-loop-k
returns-after-loop-k c =
    let all : c.loop-k.k ≡ length c.in-Inst.fields = omega (arith, c.loop-k-test.false, c.len-k-end.ensures, c.loop-k.auto.k-end) in
    c.loop-k.invariant ∙ ap (λ xs. c.args.spaces.now.items ++ xs)
    (ap (λ n. replicate n c.in-Inst.space) all ∙ (sym (fields_spaces c.in-Inst.name c.in-Inst.space c.in-Inst.fields) ∙ sym (ap (λ d. map (λ (x : ColumnInfo). x.space) (columns_of d)) c.in-Inst.is)))
