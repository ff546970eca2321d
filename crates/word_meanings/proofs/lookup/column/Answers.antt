use Rattle.std.proofs.Common.{sym, subst, ◌∙◌, ap}
use Rattle.std.specs.Prelude.{position}
use Rattle.std.proofs.lemmas.Bool.{and_left, and_right}
use Rattle.graph_terms.specs.Name.{is_name_in}
use Rattle.graph_terms.specs.Names.{is_column_named}
use Rattle.graph_words.specs.Words.{pieces}
use Rattle.word_meanings.specs.Lookups.{kept_columns, NameOf}
use Rattle.word_meanings.proofs.ColumnWords.{place_of_two, place_of_misnamed}
use Rattle.word_meanings.proofs.lookup.column.Goals as goal

pub returns-in_default-inst : goal.returns-in_default-inst
returns-in_default-inst c = sym (place_of_misnamed c.args.graph.now c.args.hosted (pieces 46 c.args.word.now) c.in-Some.inst.now c.in-Some.field.now c.decls.ensures.is_graph c.in-Some.ensures
    (and_left (is_name_in (c.args.graph.now).format c.in-Some.inst.now) _ (subst (NameOf (c.args.graph.now).format c.in-Some.inst.now) c.in_default-inst.is c.name_in-inst.ensures)))

pub returns-in_default-field : goal.returns-in_default-field
returns-in_default-field c = sym (place_of_misnamed c.args.graph.now c.args.hosted (pieces 46 c.args.word.now) c.in-Some.inst.now c.in-Some.field.now c.decls.ensures.is_graph c.in-Some.ensures
    (and_right (is_name_in (c.args.graph.now).format c.in-Some.inst.now) _ (subst (NameOf (c.args.graph.now).format c.in-Some.field.now) c.in_default-field.is c.name_in-field.ensures)))

pub returns : goal.returns
returns c =
    let inst = subst (NameOf (c.args.graph.now).format c.in-Some.inst.now) c.in-Some-inst.is c.name_in-inst.ensures in
    let field = subst (NameOf (c.args.graph.now).format c.in-Some.field.now) c.in-Some-field.is c.name_in-field.ensures in
    c.find_column.ensures
    ∙ (ap (λ x. position (is_column_named x c.in-Some-field.field) (kept_columns c.args.hosted c.args.graph.now)) inst.0
    ∙ (ap (λ y. position (is_column_named c.in-Some.inst.now y) (kept_columns c.args.hosted c.args.graph.now)) field.0
    ∙ sym (place_of_two c.args.graph.now c.args.hosted (pieces 46 c.args.word.now) c.in-Some.inst.now c.in-Some.field.now c.in-Some.ensures)))
