use Rattle.std.proofs.Common.{◌≤◌, List, ℕ, Bor, length, drop, map, sym, subst, arith}
use Rattle.std.proofs.lemmas.List.{length-map}
use Rattle.graph_words.specs.Draft.{merge_with}
use Rattle.graph_reader.specs.Merges.{merge_verb}
use Rattle.graph_reader.specs.Reading.{IsDone, IsDoneOf, IsTakable}
use Rattle.graph_reader.proofs.LineShapes.{merge_shape}
use Rattle.graph_reader.proofs.TakenLines.{takable_merge}
use Rattle.graph_reader.proofs.lines.merge_line.Goals as goal

pub take_merge-requires : goal.take_merge-requires
take_merge-requires c =
    let l : 2 ≤ length (map (λ (w : Bor (List ℕ)). w.now) c.args.words.now) = omega (arith, length-map c.args.words.now (λ (w : Bor (List ℕ)). w.now)) in
    subst (λ es. IsTakable c.args.graph.now (merge_with c.args.graph.now c.args.name.now (merge_verb c.args.ignores) es)) (sym c.behind.ensures)
    (takable_merge c.args.graph.now c.args.name.now c.args.ignores (drop 1 (map (λ (w : Bor (List ℕ)). w.now) c.args.words.now)) _ (merge_shape c.args.graph.now c.args.name.now (merge_verb c.args.ignores) (map (λ (w : Bor (List ℕ)). w.now) c.args.words.now) l))

pub returns : goal.returns
returns c =
    let l : 2 ≤ length (map (λ (w : Bor (List ℕ)). w.now) c.args.words.now) = omega (arith, length-map c.args.words.now (λ (w : Bor (List ℕ)). w.now)) in
    subst (λ d. IsDoneOf c.args.graph.now d c.take_merge.new.graph c.take_merge.result) (sym (merge_shape c.args.graph.now c.args.name.now (merge_verb c.args.ignores) (map (λ (w : Bor (List ℕ)). w.now) c.args.words.now) l))
    (subst (λ es. IsDone c.args.graph.now (merge_with c.args.graph.now c.args.name.now (merge_verb c.args.ignores) es) c.take_merge.new.graph c.take_merge.result) c.behind.ensures c.take_merge.ensures)
