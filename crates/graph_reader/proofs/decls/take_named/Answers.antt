use Rattle.std.proofs.Common.{◌≡◌, refl, subst, sym, ◌∙◌, ap, arith}
use Rattle.std.specs.Str.{bytes_eq}
use Rattle.graph_terms.specs.declared.limits.Limits.{Limits}
use Rattle.graph_terms.specs.Limits.{limits}
use Rattle.graph_terms.specs.Fits.{repeats}
use Rattle.graph_reader.specs.Reading.{IsDeclOffered}
use Rattle.graph_reader.proofs.DeclFaults.{columns_unlike, columns_ok, columns_many}
use Rattle.graph_reader.proofs.decls.take_named.Goals as goal

pub returns-in_default : goal.returns-in_default
returns-in_default c = (columns_unlike c.args.graph.now c.args.hosted c.args.name c.args.space_word.now c.args.fields.items (ap (repeats bytes_eq) (sym c.deref.ensures.value) ∙ (sym c.in-Ok-false.ensures ∙ c.in-Ok-false.field-0-test)) (c.look_up.ensures.found.used ∙ c.if-is_none.ensures) (sym c.in_default.ensures), refl)

pub returns-then-len-of : goal.returns-then-len-of
returns-then-len-of c =
    let m : (c.of.result).columns ≡ (limits (c.args.graph.now).format).columns = ap (λ (x : Limits). x.columns) (c.of.ensures ∙ ap limits c.format.ensures) in
    (columns_many c.args.graph.now c.args.hosted c.args.name c.args.space_word.now c.args.fields.items c.in-Some.space c.requires.there c.requires.new (ap (repeats bytes_eq) (sym c.deref.ensures.value) ∙ (sym c.in-Ok-false.ensures ∙ c.in-Ok-false.field-0-test)) (c.look_up.ensures.found.used ∙ c.if-is_none.ensures) (sym c.in-Some.ensures) (omega arith), refl)

pub returns : goal.returns
returns c =
    columns_ok c.args.graph.now c.offer_decl.new.graph c.args.hosted c.args.name c.args.space_word.now c.args.fields.items c.in-Some.space c.offer_decl.result (ap (repeats bytes_eq) (sym c.deref.ensures.value) ∙ (sym c.in-Ok-false.ensures ∙ c.in-Ok-false.field-0-test)) (c.look_up.ensures.found.used ∙ c.if-is_none.ensures) (sym c.in-Some.ensures) (subst (λ d. IsDeclOffered c.args.graph.now d c.offer_decl.new.graph c.offer_decl.result) c.columns_decl.ensures c.offer_decl.ensures)
