-- Small graphs, on which the definitions are tried; the cells are computed by hand.
use Rattle.std.proofs.Common.{◌≡◌, ℕ, ◌+◌, true, false, ◌⊎◌, subst, arith, inl, inr, List, [], ◌∷◌, refl}
use Rattle.std.specs.Prelude.{Contains, codes}
use Rattle.std.proofs.lemmas.Bool.{cases_Bool}
use Rattle.std.proofs.lemmas.Bool.Decides.{nat_tests}
use Rattle.basics.proofs.ListFacts.{contains_cases, contains_one}
use Rattle.index_spaces.specs.Space.{has_point}
use Rattle.index_spaces.specs.Column.{ColumnValue}
use Rattle.graph_terms.specs.declared.format.Format.TheVariants.{One}
use Rattle.graph_terms.specs.declared.decl.Decl.{Decl}
use Rattle.graph_terms.specs.declared.verb.Line.{Line}
use Rattle.graph_terms.specs.declared.verb.Verb.{Verb}
use Rattle.graph_terms.specs.declared.decl.Decl.TheVariants.{Space, Inst}
use Rattle.graph_terms.specs.declared.outcome.Outcome.{Outcome}
use Rattle.graph_terms.specs.declared.verb.Verb.TheVariants.{Merge, Fill, Copy, Task}
use Rattle.graph_terms.specs.declared.verb.Mode.TheVariants.{Read}
use Rattle.graph_terms.specs.declared.table.Kernel.TheVariants.{Iota, Stencil, Scan}
use Rattle.graph_terms.specs.Graph.{GraphValue}
use Rattle.graph_meaning.specs.Evaluation.{outcome}
use Rattle.column_pieces.specs.Joined.{joined}
use Rattle.column_pieces.specs.Pieces.{Unions, Linked, one, piece_space, piece_decls, cut_of, graph_of_pieces, ArePieces, IsConnected, IsWhole}
use Rattle.column_pieces.specs.declared.pieces.Piece.{Piece}
use Rattle.column_pieces.proofs.Components.{connected_by_point}
use Rattle.column_pieces.proofs.PiecesTable.{connected_by, pieces_by_computing}

abbrev line : List ℕ → Verb → List ℕ → Line
line name verb on = record { «name» = name; «verb» = verb; «on» = on }

abbrev graph : List Decl → List Line → GraphValue
graph decls lines = record { format = One; «decls» = decls; «lines» = lines }

abbrev piece : ℕ → ℕ → Piece
piece c s = record { column = c; space = s }

abbrev columns_of : Outcome → List ColumnValue
columns_of o = o.columns

abbrev over : List (ℕ × ℕ) → List ℕ → ColumnValue
over s xs = record { space = s; cells = xs }

-- two tiles: each line is of one of them, so that each column has two pieces
abbrev tiles : GraphValue
tiles = graph (Space (codes "all") ((0, 5) ∷ []) ∷ Space (codes "left") ((0, 2) ∷ []) ∷ Space (codes "right") ((3, 5) ∷ []) ∷ Inst (codes "a") 0 (codes "x" ∷ codes "y" ∷ []) ∷ [])
    (line (codes "f") (Fill 0 1 4) [] ∷ line (codes "g") (Task (Iota 0 2 1)) [] ∷ line (codes "c") (Copy 0 1 1) (0 ∷ []) ∷ line (codes "e") (Task (Scan 0 1 2)) (1 ∷ []) ∷ [])

abbrev four : List Piece
four = piece 0 1 ∷ piece 0 2 ∷ piece 1 1 ∷ piece 1 2 ∷ []

tiles-pieces : ArePieces tiles [] four
tiles-pieces = pieces_by_computing tiles [] four refl refl
    (λ x k. by_piece x (contains_cases (piece 0 1) (piece 0 2 ∷ piece 1 1 ∷ piece 1 2 ∷ []) x k)) (λ k below. absurd (omega (arith, below)))
  where
    by_piece : (x : Piece) → (piece 0 1 ≡ x) ⊎ Contains (piece 0 2 ∷ piece 1 1 ∷ piece 1 2 ∷ []) x → IsConnected tiles x.column (piece_space tiles [] x.space) ⊎ IsWhole tiles x.column (piece_space tiles [] x.space)
    by_piece x (inl first) = inl (subst (λ (y : Piece). IsConnected tiles y.column (piece_space tiles [] y.space)) first (connected_by tiles (piece 0 1) refl))
    by_piece x (inr rest) = elim (contains_cases (piece 0 2) (piece 1 1 ∷ piece 1 2 ∷ []) x rest) [
      | inl second ↦ inl (subst (λ (y : Piece). IsConnected tiles y.column (piece_space tiles [] y.space)) second (connected_by tiles (piece 0 2) refl))
      | inr more ↦ elim (contains_cases (piece 1 1) (piece 1 2 ∷ []) x more) [
        | inl third ↦ inl (subst (λ (y : Piece). IsConnected tiles y.column (piece_space tiles [] y.space)) third (connected_by tiles (piece 1 1) refl))
        | inr last ↦ inl (subst (λ (y : Piece). IsConnected tiles y.column (piece_space tiles [] y.space)) (contains_one (piece 1 2) x last) (connected_by tiles (piece 1 2) refl))
      ]
    ]

-- the tiles in the order of their spaces: those of one space share an instance
abbrev by_tiles : List Piece
by_tiles = piece 0 1 ∷ piece 1 1 ∷ piece 0 2 ∷ piece 1 2 ∷ []

tiles-shared : piece_decls 0 by_tiles ≡ Inst (codes "Piece_aaaa") 1 (codes "Piece_aaaa" ∷ codes "Piece_aaab" ∷ []) ∷ Inst (codes "Piece_aaac") 2 (codes "Piece_aaac" ∷ codes "Piece_aaad" ∷ []) ∷ []
tiles-shared = refl

four-cells : columns_of (outcome (graph_of_pieces tiles [] four) []) ≡ over ((0, 2) ∷ []) (4 ∷ 4 ∷ 4 ∷ []) ∷ over ((3, 5) ∷ []) (1 ∷ 2 ∷ 3 ∷ []) ∷ over ((0, 2) ∷ []) (4 ∷ 4 ∷ 4 ∷ []) ∷ over ((3, 5) ∷ []) (1 ∷ 3 ∷ 6 ∷ []) ∷ []
four-cells = refl

tiles-cells : columns_of (joined tiles (cut_of tiles [] four) (outcome (graph_of_pieces tiles [] four) [])) ≡ over ((0, 5) ∷ []) (4 ∷ 4 ∷ 4 ∷ 1 ∷ 2 ∷ 3 ∷ []) ∷ over ((0, 5) ∷ []) (4 ∷ 4 ∷ 4 ∷ 1 ∷ 3 ∷ 6 ∷ []) ∷ []
tiles-cells = refl

-- halos join two tiles of the column that is read, and a third one lies apart: it has two pieces, the first over a union, and the other column has three
abbrev halos : GraphValue
halos = graph (Space (codes "all") ((0, 8) ∷ []) ∷ Space (codes "left") ((0, 2) ∷ []) ∷ Space (codes "right") ((3, 5) ∷ []) ∷ Space (codes "low") ((0, 3) ∷ []) ∷ Space (codes "high") ((2, 5) ∷ []) ∷ Space (codes "end") ((6, 8) ∷ [])
    ∷ Inst (codes "a") 0 (codes "x" ∷ codes "y" ∷ []) ∷ [])
    (line (codes "f") (Fill 0 1 4) [] ∷ line (codes "g") (Task (Iota 0 2 1)) [] ∷ line (codes "m") (Merge (0 ∷ 1 ∷ [])) []
    ∷ line (codes "c") (Task (Stencil 0 1 3 1)) (2 ∷ []) ∷ line (codes "e") (Task (Stencil 0 1 4 2)) (2 ∷ []) ∷ line (codes "h") (Fill 0 5 7) [] ∷ line (codes "k") (Copy 0 1 5) (5 ∷ []) ∷ [])

abbrev joins : Unions
joins = ((0, 5) ∷ []) ∷ []

abbrev five : List Piece
five = piece 0 6 ∷ piece 0 5 ∷ piece 1 1 ∷ piece 1 2 ∷ piece 1 5 ∷ []

-- each point of the union is linked with 2, which both halos have
links : (p : ℕ) → has_point ((0, 5) ∷ []) p ≡ true → Linked halos 0 p 2 × Linked halos 0 2 p
links p h = elim (cases_Bool (has_point ((0, 3) ∷ []) p)) [
  | inl low ↦ (one 3 (record { column = 0; space = 3; mode = Read }) (0, omega arith, refl) refl low refl, one 3 (record { column = 0; space = 3; mode = Read }) (0, omega arith, refl) refl refl low)
  | inr not_low ↦ (
      let high : has_point ((2, 5) ∷ []) p ≡ true = else_high p h not_low in
      (one 4 (record { column = 0; space = 4; mode = Read }) (0, omega arith, refl) refl high refl, one 4 (record { column = 0; space = 4; mode = Read }) (0, omega arith, refl) refl refl high))
]
  where
    else_high : (p : ℕ) → has_point ((0, 5) ∷ []) p ≡ true → has_point ((0, 3) ∷ []) p ≡ false → has_point ((2, 5) ∷ []) p ≡ true
    else_high p h n = grind (arith, nat_tests)

halos-joined : IsConnected halos 0 ((0, 5) ∷ [])
halos-joined = connected_by_point halos 0 3 2 ((0, 5) ∷ []) (3, record { column = 0; space = 3; mode = Read }, (0, omega arith, refl), refl, refl) (λ p h. wider p h) links
  where
    wider : (p : ℕ) → has_point ((0, 3) ∷ []) p ≡ true → has_point ((0, 5) ∷ []) p ≡ true
    wider p h = grind (arith, nat_tests)

abbrev Hangs : Piece → Type 0
Hangs x = IsConnected halos x.column (piece_space halos joins x.space) ⊎ IsWhole halos x.column (piece_space halos joins x.space)

halos-pieces : ArePieces halos joins five
halos-pieces = pieces_by_computing halos joins five refl refl (λ x k. by_piece x (contains_cases (piece 0 6) (piece 0 5 ∷ piece 1 1 ∷ piece 1 2 ∷ piece 1 5 ∷ []) x k))
    (λ k below. (piece 0 6, (0, omega arith, refl), (let e : 6 ≡ 6 + k = omega (arith, below) in e)))
  where
    by_rest : (x : Piece) → Contains (piece 1 1 ∷ piece 1 2 ∷ piece 1 5 ∷ []) x → Hangs x
    by_rest x k = elim (contains_cases (piece 1 1) (piece 1 2 ∷ piece 1 5 ∷ []) x k) [
      | inl one_one ↦ subst Hangs one_one (inl (connected_by halos (piece 1 1) refl))
      | inr more ↦ elim (contains_cases (piece 1 2) (piece 1 5 ∷ []) x more) [
        | inl one_two ↦ subst Hangs one_two (inl (connected_by halos (piece 1 2) refl))
        | inr last ↦ subst Hangs (contains_one (piece 1 5) x last) (inl (connected_by halos (piece 1 5) refl))
      ]
    ]

    by_piece : (x : Piece) → (piece 0 6 ≡ x) ⊎ Contains (piece 0 5 ∷ piece 1 1 ∷ piece 1 2 ∷ piece 1 5 ∷ []) x → Hangs x
    by_piece x (inl first) = subst Hangs first (inl halos-joined)
    by_piece x (inr rest) = elim (contains_cases (piece 0 5) (piece 1 1 ∷ piece 1 2 ∷ piece 1 5 ∷ []) x rest) [
      | inl second ↦ subst Hangs second (inl (connected_by halos (piece 0 5) refl))
      | inr more ↦ by_rest x more
    ]

halos-cells : columns_of (joined halos (cut_of halos joins five) (outcome (graph_of_pieces halos joins five) [])) ≡
    over ((0, 8) ∷ []) (4 ∷ 4 ∷ 4 ∷ 1 ∷ 2 ∷ 3 ∷ 7 ∷ 7 ∷ 7 ∷ []) ∷ over ((0, 8) ∷ []) (8 ∷ 12 ∷ 9 ∷ 7 ∷ 6 ∷ 5 ∷ 7 ∷ 7 ∷ 7 ∷ []) ∷ []
halos-cells = refl
