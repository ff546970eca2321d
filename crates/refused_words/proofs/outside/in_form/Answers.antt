use Rattle.std.proofs.Common.{List, ℕ, Bor, length, drop, map, sym, ◌∙◌, ap, subst}
use Rattle.std.proofs.lemmas.List.{length-map}
use Rattle.graph_reader.specs.Kinds.{HasPlaces}
use Rattle.graph_reader.proofs.Public.{places_there}
use Rattle.refused_words.proofs.outside.in_form.Goals as goal

pub in_places-requires : goal.in_places-requires
in_places-requires c = subst (HasPlaces c.args.kind) (sym (c.behind.ensures ∙ ap (λ n. drop n (map (λ (w : Bor (List ℕ)). w.now) c.args.words.now)) (sym (length-map c.words.result.now _) ∙ ap length c.words.ensures))) (places_there (c.args.graph.now).format c.args.kind (map (λ (w : Bor (List ℕ)). w.now) c.args.words.now) c.requires)
