use Rattle.std.proofs.Common.{◌≡◌, true, List, ℕ, Bor, length, drop, map, sym, ◌∙◌, ap, subst, arith}
use Rattle.std.proofs.lemmas.List.{length-map}
use Rattle.basics.specs.Words.{contents}
use Rattle.graph_words.specs.Draft.{form_of, has_room}
use Rattle.graph_reader.specs.Kinds.{HasPlaces, kind_draft}
use Rattle.graph_reader.specs.Reading.{IsDone, IsTakable}
use Rattle.graph_reader.proofs.LineShapes.{fixed_there, places_there, room_there}
use Rattle.graph_reader.proofs.TakenLines.{takable_form}
use Rattle.graph_reader.proofs.lines.kind_line.Goals as goal

pub behind-rest-requires : goal.behind-rest-requires
behind-rest-requires c =
    let fixed = fixed_there (c.args.graph.now).format c.args.kind (map (λ (w : Bor (List ℕ)). w.now) c.args.words.now) c.requires.form in
    omega (arith, fixed, length-map c.args.words.now (λ (w : Bor (List ℕ)). w.now), sym (length-map c.words.result.now (λ (w : Bor (List ℕ)). w.now)) ∙ ap length c.words.ensures)

pub take_form-requires : goal.take_form-requires
take_form-requires c =
    let ws : List (List ℕ) = (map (λ (w : Bor (List ℕ)). w.now) c.args.words.now) in
    let e : contents c.behind-rest.result.now ≡ drop (length (form_of c.args.kind).words) ws = c.behind-rest.ensures ∙ ap (λ n. drop n ws) (sym (length-map c.words.result.now _) ∙ ap length c.words.ensures) in
    record {
      recent = c.requires.recent;
      there = subst (HasPlaces c.args.kind) (sym e) (places_there (c.args.graph.now).format c.args.kind ws c.requires.form);
      room = subst (λ xs. has_room (c.args.graph.now).format (form_of c.args.kind) xs ≡ true) (sym e) (room_there (c.args.graph.now).format c.args.kind ws c.requires.form);
      takable = subst (λ xs. IsTakable c.args.graph.now (kind_draft c.args.graph.now c.args.kind c.args.name.now xs)) (sym e) (takable_form c.args.graph.now c.args.name.now ws c.args.kind c.requires.form);
    }

pub returns-clause-done : goal.returns-clause-done
returns-clause-done c =
    let ws : List (List ℕ) = (map (λ (w : Bor (List ℕ)). w.now) c.args.words.now) in
    subst (λ xs. IsDone c.args.graph.now (kind_draft c.args.graph.now c.args.kind c.args.name.now xs) c.take_form.new.graph c.take_form.result)
    (c.behind-rest.ensures ∙ ap (λ n. drop n ws) (sym (length-map c.words.result.now _) ∙ ap length c.words.ensures)) c.take_form.ensures.done
