-- The columns of a graph, moved out for a line, changed by its effect and put back.
use Rattle.std.proofs.Common.{◌≡◌, ℕ, ◌<◌, List, length, refl, sym, ◌∙◌, ap, arith}
use Rattle.std.specs.Prelude.{◌≢◌, Option, Some, None, IsSome, is_some, slice_get, slice_index_or, Contains}
use Rattle.std.proofs.lemmas.Bool.{false≢true}
use Rattle.std.proofs.lemmas.Option.{none-some, same_Some}
use Rattle.std.proofs.lemmas.List.FromFn.{fill_by_all, get_or-map-range_with_len, length-map-range_with_len}
use Rattle.index_spaces.specs.Space.{points}
use Rattle.index_spaces.specs.Column.{ColumnValue}
use Rattle.index_spaces.specs.Held.{HeldList, held_at}
use Rattle.graph_terms.specs.Fits.{IsGraph}
use Rattle.graph_terms.specs.Graph.{GraphValue, columns, column_space}
use Rattle.graph_meaning.specs.LineLaws.{AccessesFit}
use Rattle.graph_meaning.specs.Effect.{Cells, effect, cells_after}
use Rattle.graph_meaning.specs.Evaluation.{column_of}
use Rattle.graph_meaning.specs.Laws.{ChangesWithinAccesses}
use Rattle.line_effects.specs.Homes.{all_home}
use Rattle.line_effects.specs.Moved.{moves, HeldShow, OwnsChanged, AreMoved, AreBack}
use Rattle.line_effects.proofs.Public.{move_of, move_known}
use Rattle.plain_eval.proofs.CellFacts.{other_cells, map_agree}

pub count_home : (g : GraphValue) (cells : Cells) (homes : List (Option ColumnValue)) → homes ≡ all_home g cells → length homes ≡ length (columns g)
count_home g cells homes home = ap length home ∙ length-map-range_with_len (λ c. Some (column_of g cells c)) 0 (length (columns g))

pub home_at : (g : GraphValue) (cells : Cells) (homes : List (Option ColumnValue)) → homes ≡ all_home g cells → (c : ℕ) → c < length (columns g) → slice_index_or homes c None ≡ Some (column_of g cells c)
home_at g cells homes home c b = ap (λ xs. slice_index_or xs c None) home ∙ get_or-map-range_with_len (λ d. Some (column_of g cells d)) 0 (length (columns g)) c c None b (omega arith)

pub is_home : AccessesFit → (g : GraphValue) → IsGraph g → (i : ℕ) (cells : Cells) (homes : List (Option ColumnValue)) → homes ≡ all_home g cells → (k c : ℕ) → slice_get (moves g i) k ≡ Some c → IsSome (slice_index_or homes c None)
is_home fits g is i cells homes home k c at = ap is_some (home_at g cells homes home c (move_known fits g is i k c at))

-- what is held is all of its own
pub owns_moved : (g : GraphValue) (i : ℕ) (homes mid : List (Option ColumnValue)) (held : HeldList) → AreMoved g i homes mid held → OwnsChanged g i held
owns_moved g i homes mid held m a listed changes = let at = move_of g i a listed in m.own at.0 a.column at.1

module _ (fits : AccessesFit) (g : GraphValue) (is : IsGraph g) (i : ℕ) (cells : Cells) (homes mid : List (Option ColumnValue)) (held : HeldList) (home : homes ≡ all_home g cells) (m : AreMoved g i homes mid held) where
  is_held : (k c : ℕ) → slice_get (moves g i) k ≡ Some c → held_at held c ≡ Some (column_of g cells c)
  is_held k c at = m.has k c at ∙ home_at g cells homes home c (move_known fits g is i k c at)

  pub all_held : (k c : ℕ) → slice_get (moves g i) k ≡ Some c → IsSome (held_at held c)
  all_held k c at = ap is_some (is_held k c at)

  pub held_shown : HeldShow g cells held
  held_shown c x h = let at = m.only c x h in same_Some x (column_of g cells c) (sym h ∙ is_held at.0 c at.1)

  -- after the effect, the same columns are held
  pub still_held : (new : HeldList) → ((c : ℕ) → is_some (held_at new c) ≡ is_some (held_at held c)) → (k c : ℕ) → slice_get (moves g i) k ≡ Some c → IsSome (held_at new c)
  still_held new same k c at = same c ∙ all_held k c at

  -- and put back, all columns have the cells after the effect
  pub all_back : ChangesWithinAccesses → (new : HeldList) (after : List (Option ColumnValue)) → ((c : ℕ) → is_some (held_at new c) ≡ is_some (held_at held c)) → HeldShow g (cells_after cells (effect g i cells).changes) new → AreBack g i new mid after →
      after ≡ all_home g (cells_after cells (effect g i cells).changes)
  all_back law new after same shown b = fill_by_all (λ c. Some (column_of g (cells_after cells (effect g i cells).changes) c)) after (length (columns g)) None (b.each ∙ (m.each ∙ count_home g cells homes home)) (λ c below. by_held c below (held_at held c) refl)
    where
      not_moved : (c : ℕ) → held_at held c ≡ None → (k : ℕ) → slice_get (moves g i) k ≢ Some c
      not_moved c free k at = none-some (column_of g cells c) (sym free ∙ is_held k c at)

      not_used : (c : ℕ) → held_at held c ≡ None → (x : _) → Contains (effect g i cells).changes x → c ≢ x.column
      not_used c free x k e =
          let a = law g i cells x k in
          let at = move_of g i a.access a.listed in
          not_moved c free at.0 (at.1 ∙ ap (λ d. Some d) (a.column ∙ sym e))

      by_new : (c : ℕ) (o : Option ColumnValue) → held_at new c ≡ o → IsSome o → o ≡ Some (column_of g (cells_after cells (effect g i cells).changes) c)
      by_new c None e some = absurd (false≢true some)
      by_new c (Some x) e some = ap (λ y. Some y) (shown c x e)

      by_held : (c : ℕ) → c < length (columns g) → (o : Option ColumnValue) → held_at held c ≡ o → slice_index_or after c None ≡ Some (column_of g (cells_after cells (effect g i cells).changes) c)
      by_held c below None e =
          b.others c (not_moved c e) ∙ (m.others c (not_moved c e) ∙ (home_at g cells homes home c below ∙ ap (λ ys. Some (record { space = column_space g c; «cells» = ys }))
          (map_agree (cells c) (cells_after cells (effect g i cells).changes c) (points (column_space g c)) (λ q. sym (other_cells cells (effect g i cells).changes c (not_used c e) q)))))
      by_held c below (Some x) e =
          let at = m.only c x e in
          b.home at.0 c at.1 ∙ by_new c (held_at new c) refl (still_held new same at.0 c at.1)
