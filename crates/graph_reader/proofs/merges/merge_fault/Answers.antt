use Rattle.std.proofs.Common.{List, ℕ, Bor, map, sym, ◌∙◌, ap}
use Rattle.std.specs.Prelude.{bytes_eq}
use Rattle.std.proofs.lemmas.Bool.{or_from}
use Rattle.graph_terms.specs.Fits.{repeats}
use Rattle.graph_reader.proofs.MergeFaults.{kind_left}
use Rattle.graph_reader.proofs.merges.merge_fault.Goals as goal

pub returns : goal.returns
returns c =
    let named = rw c.in-Some.is at c.in_ok-names.ensures in
    kind_left c.args.graph.now c.args.name.now (map (λ (w : Bor (List ℕ)). w.now) c.args.words.now) named.1
    (or_from _ _ (c.stands_for.ensures.used ∙ sym c.if-is_some.ensures) (ap (repeats bytes_eq) (sym named.0 ∙ sym c.deref.ensures.value) ∙ (sym c.in_ok-repeated.ensures ∙ c.if-repeated.false)))
    (sym c.any_unknown.ensures ∙ c.if-any_unknown.false) c.requires
