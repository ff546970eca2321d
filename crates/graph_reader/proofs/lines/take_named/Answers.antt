use Rattle.std.proofs.Common.{List, ℕ, Bor, map, sym, ◌∙◌, ap, subst}
use Rattle.std.specs.Prelude.{find}
use Rattle.graph_terms.specs.declared.table.TheConstants.{KINDS}
use Rattle.graph_words.specs.Draft.{form_of, is_of_form}
use Rattle.graph_reader.specs.Reading.{IsDoneOf}
use Rattle.basics.proofs.TestedLists.{found_passes}
use Rattle.graph_reader.proofs.KnownForms.{kind_found}
use Rattle.graph_reader.proofs.lines.take_named.Goals as goal

pub kind_line-requires : goal.kind_line-requires
kind_line-requires c = record {
  recent = c.requires;
  form = found_passes (λ k. is_of_form (c.args.graph.now).format (map (λ (w : Bor (List ℕ)). w.now) c.args.words.now) (form_of k)) KINDS c.in-Some.kind
      (ap (λ fm. find (λ k. is_of_form fm (map (λ (w : Bor (List ℕ)). w.now) c.args.words.now) (form_of k)) KINDS) (sym c.format.ensures) ∙ sym c.in-Some.ensures);
}

pub returns-in-Some-clause-done : goal.returns-in-Some-clause-done
returns-in-Some-clause-done c =
    subst (λ d. IsDoneOf c.args.graph.now d c.kind_line.new.graph c.kind_line.result)
    (sym (kind_found c.args.graph.now c.args.name.now (map (λ (w : Bor (List ℕ)). w.now) c.args.words.now) c.in-Some.kind
    (ap (λ fm. find (λ k. is_of_form fm (map (λ (w : Bor (List ℕ)). w.now) c.args.words.now) (form_of k)) KINDS) (sym c.format.ensures) ∙ sym c.in-Some.ensures))) c.kind_line.ensures.done

pub other_line-requires : goal.other_line-requires
other_line-requires c = ap (λ fm. find (λ k. is_of_form fm (map (λ (w : Bor (List ℕ)). w.now) c.args.words.now) (form_of k)) KINDS) (sym c.format.ensures) ∙ sym c.in-None.ensures
