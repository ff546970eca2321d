-- Cells after changes, and vectors that slices were written over.
use Rattle.std.proofs.Common.{◌≡◌, ℕ, ◌&&◌, List, [], ◌∷◌, ◌++◌, length, map, take, drop, refl, ◌∙◌, ap}
use Rattle.std.specs.Prelude.{◌≢◌, ◌==◌, Contains}
use Rattle.std.proofs.lemmas.Bool.{ne_eqb}
use Rattle.std.proofs.Math.Seq.{take-append_seam}
use Rattle.graph_meaning.specs.Effect.{Cells, CellChange, cell_after_if, cells_after_one, cells_after}
use Rattle.basics.proofs.ListFacts.{contains_here, contains_there}

pub cells_after-append : (cells : Cells) (xs ys : List CellChange) → cells_after cells (xs ++ ys) ≡ cells_after (cells_after cells xs) ys
cells_after-append cells [] ys = refl
cells_after-append cells (x ∷ xs) ys = cells_after-append (cells_after_one cells x) xs ys

-- changes of other columns leave a column
pub other_cells : (cells : Cells) (xs : List CellChange) (c : ℕ) → ((x : CellChange) → Contains xs x → c ≢ x.column) → (q : ℕ) → cells_after cells xs c q ≡ cells c q
other_cells cells [] c h q = refl
other_cells cells (x ∷ xs) c h q =
    other_cells (cells_after_one cells x) xs c (λ y k. h y (contains_there x xs y k)) q ∙ ap (λ b. cell_after_if (b && (q == x.point)) x.change (cells c q)) (ne_eqb c x.column (h x (contains_here x xs)))

-- functions that agree at each element of a list
pub map_agree : {X : Type 0} (f h : ℕ → X) (xs : List ℕ) → ((x : ℕ) → f x ≡ h x) → map f xs ≡ map h xs
map_agree f h [] e = refl
map_agree f h (x ∷ xs) e = ap (λ y. y ∷ map f xs) (e x) ∙ ap (λ ys. h x ∷ ys) (map_agree f h xs e)

-- a vector that a slice of its length was written over
pub written_whole : {X : Type 0} (new old : List X) (n : ℕ) → n ≡ length new → take n (new ++ drop (length new) old) ≡ new
written_whole new old n e = ap (λ m. take m (new ++ drop (length new) old)) e ∙ take-append_seam new (drop (length new) old)
