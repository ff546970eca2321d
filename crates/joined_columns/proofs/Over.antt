-- The columns that a graph of pieces gives are over the spaces of the pieces.
use Rattle.std.proofs.Common.{◌≡◌, ℕ, ◌+◌, ◌<◌, List, [], ◌∷◌, length, map, refl, sym, ◌∙◌, ap, arith}
use Rattle.std.specs.Prelude.{slice_get}
use Rattle.std.specs.Option.{option_map_or}
use Rattle.std.proofs.lemmas.Option.{slice_get-get_or}
use Rattle.std.proofs.lemmas.List.{length-map, get_or-map, same_lists}
use Rattle.std.proofs.lemmas.List.FromFn.{get_or-map-range_with_len, length-map-range_with_len}
use Rattle.std.proofs.lemmas.Simd.{map-map}
use Rattle.basics.specs.Lists.{numbers_below}
use Rattle.basics.proofs.ListFacts.{map_same}
use Rattle.index_spaces.specs.Column.{ColumnValue}
use Rattle.graph_terms.specs.declared.decl.ColumnInfo.{ColumnInfo}
use Rattle.graph_terms.specs.Graph.{GraphValue, columns, column_space, space_at}
use Rattle.graph_meaning.specs.Effect.{Cells}
use Rattle.graph_meaning.specs.Evaluation.{cells_of, evaluation, column_of}
use Rattle.column_pieces.specs.Pieces.{Unions, piece_space, graph_of_pieces}
use Rattle.column_pieces.specs.declared.pieces.Piece.{Piece}
use Rattle.column_pieces.proofs.Public.{pieces_keep_spaces, columns_are_pieces}
use Rattle.joined_columns.specs.Over.{OutcomesAreOver}

-- what stands at each number of a list, read in order, is the list
read_all : {X Y : Type 0} (f : X → Y) (e : Y) (d : X) (xs : List X) → map (λ k. option_map_or f (slice_get xs k) e) (numbers_below (length xs)) ≡ map f xs
read_all f e d xs =
    let r = λ (k : ℕ). option_map_or f (slice_get xs k) e in
    let long = length-map-range_with_len r 0 (length xs) in
    same_lists (map r (numbers_below (length xs))) (map f xs) (long ∙ sym (length-map xs f)) (λ k b below.
    let within : k < length xs = omega (arith, long) in
    get_or-map-range_with_len r 0 (length xs) k k b within (let z : 0 + k ≡ k = omega arith in z)
    ∙ (ap (λ o. option_map_or f o e) (slice_get-get_or xs k d within)
    ∙ sym (get_or-map f xs k d b within)))

spaces_mapped : (g : GraphValue) (cells : Cells) (ks : List ℕ) → map (λ (x : ColumnValue). x.space) (map (column_of g cells) ks) ≡ map (column_space g) ks
spaces_mapped g cells [] = refl
spaces_mapped g cells (k ∷ ks) = ap (λ ys. column_space g k ∷ ys) (spaces_mapped g cells ks)

module _ (g : GraphValue) (us : Unions) (pieces : List Piece) where
  abbrev h : GraphValue
  h = graph_of_pieces g us pieces

  are_over : (cells : Cells) → map (λ (x : ColumnValue). x.space) (map (column_of h cells) (numbers_below (length (columns h)))) ≡ map (λ (x : Piece). piece_space g us x.space) pieces
  are_over cells =
      spaces_mapped h cells (numbers_below (length (columns h)))
      ∙ (read_all (λ (y : ColumnInfo). space_at h y.space) [] (record { inst = []; field = []; space = 0 }) (columns h)
      ∙ (map_same (λ (y : ColumnInfo). space_at h y.space) (λ (y : ColumnInfo). piece_space g us y.space) (columns h) (λ y. pieces_keep_spaces g us pieces y.space)
      ∙ (sym (map-map (piece_space g us) (λ (y : ColumnInfo). y.space) (columns h))
      ∙ (ap (map (piece_space g us)) (columns_are_pieces g us pieces)
      ∙ map-map (piece_space g us) (λ (x : Piece). x.space) pieces))))

pub outcomes_are_over : OutcomesAreOver
outcomes_are_over g us pieces trace = are_over g us pieces (cells_of (evaluation (graph_of_pieces g us pieces)))
