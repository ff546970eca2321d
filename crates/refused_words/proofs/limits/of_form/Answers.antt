use Rattle.std.proofs.Common.{List, ℕ, Bor, length, drop, map, sym, ◌∙◌, ap, subst}
use Rattle.std.specs.Prelude.{Some}
use Rattle.std.proofs.lemmas.List.{length-map}
use Rattle.refused_words.specs.Limits.{limit_in}
use Rattle.graph_reader.specs.Kinds.{HasPlaces, kind_draft}
use Rattle.graph_reader.proofs.Public.{places_there}
use Rattle.refused_words.proofs.limits.of_form.Goals as goal

pub of_kind-requires : goal.of_kind-requires
of_kind-requires c = subst (HasPlaces c.args.kind) (sym (c.behind.ensures ∙ ap (λ n. drop n (map (λ (w : Bor (List ℕ)). w.now) c.args.words.now)) (sym (length-map c.words.result.now _) ∙ ap length c.words.ensures))) (places_there (c.args.graph.now).format c.args.kind (map (λ (w : Bor (List ℕ)). w.now) c.args.words.now) c.requires)

pub returns : goal.returns
returns c = λ name. c.of_kind.ensures name ∙ ap (λ ws. limit_in c.args.graph.now (Some (kind_draft c.args.graph.now c.args.kind name ws))) (c.behind.ensures ∙ ap (λ n. drop n (map (λ (w : Bor (List ℕ)). w.now) c.args.words.now)) (sym (length-map c.words.result.now _) ∙ ap length c.words.ensures))
