-- In a quiet state the columns are those of the evaluation.
use Rattle.std.proofs.Common.{◌≡◌, ℕ, Bool, true, false, cond, List, [], ◌∷◌, ◌++◌, length, refl, sym, ◌∙◌, ap}
use Rattle.std.specs.Prelude.{Contains, filter, flat_map}
use Rattle.std.proofs.lemmas.Bool.{true≢false, false_from_ne_true}
use Rattle.index_spaces.specs.Space.{points}
use Rattle.graph_terms.specs.Graph.{GraphValue, column_space}
use Rattle.graph_meaning.specs.Effect.{Cells, zero_cells, cells_after, effect, touches, Untouched, Effects}
use Rattle.graph_meaning.specs.Evaluation.{evaluation, evaluation_with, order_with, changes_with, cells_with, cells_by, cells_of_lines_with, column_of}
use Rattle.basics.proofs.ListFacts.{contains_here, contains_there, map_same}
use Rattle.graph_meaning.proofs.Public.{cells_after_at, cells_after-append, cells_after_untouched, cells_by_all_lines}
use Rattle.run_state.specs.Run.{Run, Place, Home, Had, is_listed, stage_at, place_at, list_at}
use Rattle.run_state.specs.Sound.{home_cells_with, SoundWith}
use Rattle.run_state.specs.Quiet.{QuietWith}
use Rattle.run_state.proofs.Lists.{ended_over}
use Rattle.run_state.proofs.Started.{changed_back}
use Rattle.run_state.proofs.Quiet.{evaluation_ended}
use Rattle.run_state.proofs.Stuck.{stuck_home}
use Rattle.run_state.proofs.Evaluated.{listed_iff_ended_with}

-- lines left out that do not change a cell may as well be in
left_out_by : (does : Effects) (g : GraphValue) (put : ℕ → Bool) (c p : ℕ) (cells : Cells) (k : ℕ) (ks : List ℕ) (b : Bool) → put k ≡ b → (put k ≡ false → Untouched c p (changes_with does zero_cells g k)) →
    ((cells : Cells) → cells_after cells (flat_map (changes_with does zero_cells g) (filter put ks)) c p ≡ cells_after cells (flat_map (changes_with does zero_cells g) ks) c p) →
    cells_after cells (flat_map (changes_with does zero_cells g) (cond b (k ∷ filter put ks) (filter put ks))) c p ≡ cells_after cells (changes_with does zero_cells g k ++ flat_map (changes_with does zero_cells g) ks) c p
left_out_by does g put c p cells k ks true e h again = ap (λ (f : Cells). f c p) (cells_after-append cells (changes_with does zero_cells g k) (flat_map (changes_with does zero_cells g) (filter put ks)))
    ∙ (again (cells_after cells (changes_with does zero_cells g k)) ∙ ap (λ (f : Cells). f c p) (sym (cells_after-append cells (changes_with does zero_cells g k) (flat_map (changes_with does zero_cells g) ks))))
left_out_by does g put c p cells k ks false e h again = again cells
    ∙ (cells_after_at cells (cells_after cells (changes_with does zero_cells g k)) (flat_map (changes_with does zero_cells g) ks) c p (sym (cells_after_untouched cells (changes_with does zero_cells g k) c p (h e)))
    ∙ ap (λ (f : Cells). f c p) (sym (cells_after-append cells (changes_with does zero_cells g k) (flat_map (changes_with does zero_cells g) ks))))

pub left_out : (does : Effects) (g : GraphValue) (put : ℕ → Bool) (c p : ℕ) (ks : List ℕ) → ((k : ℕ) → Contains ks k → put k ≡ false → Untouched c p (changes_with does zero_cells g k)) → (cells : Cells) →
    cells_after cells (flat_map (changes_with does zero_cells g) (filter put ks)) c p ≡ cells_after cells (flat_map (changes_with does zero_cells g) ks) c p
left_out does g put c p [] h cells = refl
left_out does g put c p (k ∷ ks) h cells = left_out_by does g put c p cells k ks (put k) refl (h k (contains_here k ks)) (left_out does g put c p ks (λ m r. h m (contains_there k ks m r)))

place_home : (p : Place) → ((k : ℕ) → p ≡ Had k → ⊥) → (xs : List ℕ) × (p ≡ Home xs)
place_home (Home xs) h = (xs, refl)
place_home (Had k) h = absurd (h k refl)

-- each column is at home, with the cells of the evaluation
pub quiet_column : {does : Effects} (g : GraphValue) (run : Run) → SoundWith does g run → QuietWith does g run → (c : ℕ) → place_at run.places c ≡ Home (column_of g (cells_with zero_cells (evaluation_with does zero_cells g)) c).cells
quiet_column {does} g run s q c =
    let at = place_home (place_at run.places c) (stuck_home g run s (length g.lines) q c) in
    let same : home_cells_with does g (list_at run.back c) c ≡ (column_of g (cells_with zero_cells (evaluation_with does zero_cells g)) c).cells =
    map_same (cells_of_lines_with does zero_cells g (is_listed (list_at run.back c)) c) (cells_with zero_cells (evaluation_with does zero_cells g) c) (points (column_space g c))
    (λ p. left_out does g (is_listed (list_at run.back c)) c p (order_with does zero_cells g)
    (λ k hk out x hx. false_from_ne_true (touches c p x) (λ t. true≢false (sym
    (changed_back s c p k (ended_over (stage_at run.stages k) (evaluation_ended g run s q k ((listed_iff_ended_with does zero_cells g k).0 hk))) x hx t) ∙ out)))
    zero_cells
    ∙ ap (λ (f : Cells). f c p) (sym (cells_by_all_lines does zero_cells g))) in
    at.1 ∙ ap Home (s.on_columns.cells c at.0 at.1 ∙ same)
