use Rattle.std.proofs.Common.{length, ◌≡◌, ap, sym, ◌∙◌, suc, arith}
use Rattle.graph_terms.specs.Fits.{is_used}
use Rattle.graph_words.specs.Draft.{columns_with}
use Rattle.graph_reader.specs.Reading.{spelled_columns}
use Rattle.graph_words.proofs.Public.{some_pieces}
use Rattle.graph_reader.proofs.DeclFaults.{done_by, columns_is}
use Rattle.graph_reader.proofs.decls.take_columns.Goals as goal

pub take_named-requires-clause-some : goal.take_named-requires-clause-some
take_named-requires-clause-some c = λ e. let p = some_pieces 44 c.args.word.now in
    absurd (let n : 0 ≡ suc (length p.1) = ap length (sym e ∙ (c.in_ok-fields.ensures.0 ∙ p.2)) in omega arith)

pub returns : goal.returns
returns c =
    let i = columns_is c.args.graph.now c.args.hosted c.args.name.now c.in-Some.new c.args.space_word.now c.args.word.now c.in_ok-fields.fields.items c.in-Some.ensures.1 c.in-Some.ensures.0 (sym c.if-not-is_name.ensures) c.in_ok-fields.ensures.1 c.in_ok-fields.ensures.0 (ap (is_used c.args.graph.now) (sym c.in-Some.ensures.0) ∙ (c.stands_for.ensures.used ∙ sym c.if-is_some.ensures)) in
    done_by c.args.graph.now c.take_named.new.graph (columns_with c.args.graph.now c.args.hosted c.args.name.now c.args.space_word.now c.args.word.now) (spelled_columns c.args.graph.now c.args.hosted c.in-Some.new c.args.space_word.now c.in_ok-fields.fields.items) _ c.take_named.result i.0 i.1 c.take_named.ensures
