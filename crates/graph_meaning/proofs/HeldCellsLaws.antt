-- Changes of one column, point by point.
use Rattle.std.proofs.Common.{◌≡◌, ◌≢◌, ℕ, suc, ◌+◌, ◌<◌, ◌≤◌, ◌==◌, true, cond, inl, inr, List, [], ◌∷◌, length, get_or, map, Option, Some, None, option_map, refl, sym, ◌∙◌, ap, arith}
use Rattle.std.specs.Prelude.{Contains}
use Rattle.std.specs.List.Sorted.{IsStrictlyIncreasing}
use Rattle.std.proofs.lemmas.Bool.{cases_eq, cases_Bool, eq-eqb, ne_eqb, and_from, and_left, and_right, cond-true, cond-false, false≢true}
use Rattle.std.proofs.lemmas.Option.{none-some, same_Some}
use Rattle.std.proofs.lemmas.List.{length-map, get_or-map, get_or_default, same_lists}
use Rattle.index_spaces.specs.Space.{has_point, points, space_size, rank, point_at, IsSpace}
use Rattle.index_spaces.specs.Column.{ColumnValue, cell_of}
use Rattle.index_spaces.specs.Held.{held_at, lending_at}
use Rattle.index_spaces.specs.Laws.{PointsAreListed, PointsAscend, PointOfRank, RankOfPoint}
use Rattle.graph_terms.specs.Graph.{column_space}
use Rattle.graph_meaning.specs.Effect.{Cells, Change, CellChange, cell_after, cell_after_if, cells_after_one, cells_after, changes_at, Untouched}
use Rattle.graph_meaning.specs.Evaluation.{column_of}
use Rattle.graph_meaning.specs.HeldCells.{HasCells, CellsByPoint, ChangesByPoint, ColumnsOfChanges}
use Rattle.basics.proofs.ListFacts.{contains_none, contains_cases, map_contains, map_agree}
use Rattle.graph_meaning.proofs.Changes.{cells_after_untouched}

-- points that ascend from low
abbrev Rising : ℕ → List ℕ → Type 0
Rising low [] = Unit {0}
Rising low (q ∷ ps) = (low ≤ q) × Rising (q + 1) ps

rising_from : (low q : ℕ) (ps : List ℕ) → low ≤ q → IsStrictlyIncreasing (q ∷ ps) → Rising low (q ∷ ps)
rising_from low q [] le up = (le, tt)
rising_from low q (r ∷ ps) le up = (
  le,
  rising_from (q + 1) r ps (let h : q < r = up 0 (omega arith) in omega arith) (λ k h. let e : suc k + 1 ≡ suc (k + 1) = omega arith in rw e at (up (suc k) (omega arith))),
)

rising : (ps : List ℕ) → IsStrictlyIncreasing ps → Rising 0 ps
rising [] up = tt
rising (q ∷ ps) up = rising_from 0 q ps (omega arith) up

above : (low : ℕ) (ps : List ℕ) (p : ℕ) → Rising low ps → Contains ps p → low ≤ p
above low [] p r c = absurd (contains_none p c)
above low (q ∷ ps) p r c =
    let le : low ≤ q = r.0 in
    elim (contains_cases q ps p c) [
      | inl e ↦ omega arith
      | inr t ↦ (let rest = above (q + 1) ps p r.1 t in omega arith)
    ]

-- changes of one column leave the others
other_column : (f : ℕ → Change) (t c : ℕ) (ps : List ℕ) (p : ℕ) → c ≢ t → Untouched c p (changes_at f t ps)
other_column f t c ps p n x h =
    let m = map_contains (λ p. record { column = t; point = p; change = f p }) ps x h in
    and_left (c == x.column) (p == x.point) (ne_eqb c x.column (λ e. n (e ∙ sym (ap (λ (y : CellChange). y.column) m.2))))

other_point : (f : ℕ → Change) (t c : ℕ) (ps : List ℕ) (p : ℕ) → (Contains ps p → ⊥) → Untouched c p (changes_at f t ps)
other_point f t c ps p n x h =
    let m = map_contains (λ p. record { column = t; point = p; change = f p }) ps x h in
    and_right (c == x.column) (p == x.point) (ne_eqb p x.point (λ e.
    let same : m.0 ≡ p = ap (λ (y : CellChange). y.point) m.2 ∙ sym e in
    n (rw same at m.1)))

-- a change at each of some points that ascend
changed_in : (cells : Cells) (f : ℕ → Change) (t low : ℕ) (ps : List ℕ) (p : ℕ) → Rising low ps → Contains ps p → cells_after cells (changes_at f t ps) t p ≡ cell_after (f p) (cells t p)
changed_in cells f t low [] p r c = absurd (contains_none p c)
changed_in cells f t low (q ∷ ps) p r c =
    let first : CellChange = record { column = t; point = q; change = f q } in
    let next = cells_after_one cells first in
    elim (contains_cases q ps p c) [
      | inl e ↦ (
          cells_after_untouched next (changes_at f t ps) t p (other_point f t t ps p (λ d. let low = above (q + 1) ps p r.1 d in absurd (omega arith)))
          ∙ ap (λ b. cell_after_if b (f q) (cells t p)) (and_from (t == t) (p == q) (eq-eqb t t refl) (eq-eqb p q (sym e)))
          ∙ ap (λ x. cell_after (f x) (cells t p)) e
          )
      | inr d ↦ (
          let low = above (q + 1) ps p r.1 d in
          changed_in next f t (q + 1) ps p r.1 d
          ∙ ap (λ b. cell_after (f p) (cell_after_if b (f q) (cells t p))) (and_right (t == t) (p == q) (ne_eqb p q (λ e. omega arith)))
          )
    ]

changed_at : PointsAreListed → PointsAscend → (cells : Cells) (f : ℕ → Change) (t : ℕ) (s : List (ℕ × ℕ)) (p : ℕ) → IsSpace s →
    cells_after cells (changes_at f t (points s)) t p ≡ cond (has_point s p) (cell_after (f p) (cells t p)) (cells t p)
changed_at listed ascend cells f t s p a =
    elim (cases_Bool (has_point s p)) [
      | inl h ↦ changed_in cells f t 0 (points s) p (rising (points s) (ascend s a)) ((listed s p).1 h) ∙ sym (cond-true (has_point s p) (cell_after (f p) (cells t p)) (cells t p) h)
      | inr h ↦ (
          cells_after_untouched cells (changes_at f t (points s)) t p (other_point f t t (points s) p (λ c. false≢true (sym h ∙ (listed s p).0 c)))
          ∙ sym (cond-false (has_point s p) (cell_after (f p) (cells t p)) (cells t p) h)
          )
    ]

pub cells_by_point : PointOfRank → CellsByPoint
cells_by_point of_rank held cells c x p has is a h =
    let at = of_rank x.space p a h in
    ap (λ ys. get_or ys (rank x.space p) 0) (has c x is)
    ∙ get_or-map (cells c) (points x.space) (rank x.space p) 0 0 at.0
    ∙ ap (cells c) at.1

-- a column of which each cell is known by its point
by_point : RankOfPoint → (x : ColumnValue) (f : ℕ → ℕ) → IsSpace x.space → length x.cells ≡ space_size x.space → ((p : ℕ) → has_point x.space p ≡ true → cell_of x p ≡ f p) → x.cells ≡ map f (points x.space)
by_point of_point x f a full h =
    same_lists _ _ (full ∙ sym (length-map (points x.space) f)) (λ k d l.
    let within : k < space_size x.space = omega (arith, full) in
    let at = of_point x.space k a within in
    get_or_default x.cells k d 0 l
    ∙ ap (λ r. get_or x.cells r 0) (sym at.1)
    ∙ h (point_at x.space k) at.0
    ∙ sym (get_or-map f (points x.space) k 0 d within))

pub changes_by_point : PointsAreListed → PointsAscend → PointOfRank → RankOfPoint → ChangesByPoint
changes_by_point listed ascend of_rank of_point old new target before after s value change a b is holds lending number full write same =
    let space = write.space in
    let each : (cells : Cells) → HasCells old cells → (p : ℕ) → has_point before.space p ≡ true → cell_of after p ≡ cond (has_point s p) (cell_after (change cells p) (cells target p)) (cells target p) =
    λ cells has p h. elim (cases_Bool (has_point s p)) [
      | inl e ↦ write.inside p e ∙ same cells has p e ∙ sym (cond-true (has_point s p) (cell_after (change cells p) (cells target p)) (cells target p) e)
      | inr e ↦ write.outside p h e ∙ cells_by_point of_rank old cells target before p has is b h ∙ sym (cond-false (has_point s p) (cell_after (change cells p) (cells target p)) (cells target p) e)
    ] in
    record {
      number = number;
      spaces = λ c. elim (cases_eq c target) [
        | inl e ↦ (
            ap (λ k. option_map (λ (x : ColumnValue). x.space) (held_at new k)) e
            ∙ ap (option_map (λ (x : ColumnValue). x.space)) holds.here
            ∙ ap Some space
            ∙ ap (option_map (λ (x : ColumnValue). x.space)) (sym is)
            ∙ ap (λ k. option_map (λ (x : ColumnValue). x.space) (held_at old k)) (sym e)
            )
        | inr n ↦ ap (option_map (λ (x : ColumnValue). x.space)) (holds.others c n)
      ];
      lendings = λ c. elim (cases_eq c target) [
        | inl e ↦ ap (lending_at new) e ∙ lending ∙ ap (lending_at old) (sym e)
        | inr n ↦ holds.lendings c n
      ];
      cells = λ cells has c x there. elim (cases_eq c target) [
        | inl e ↦ (
            let same : after ≡ x = same_Some after x (sym holds.here ∙ ap (held_at new) (sym e) ∙ there) in
            let f = cells_after cells (changes_at (change cells) target (points s)) in
            let own : after.cells ≡ map (f target) (points after.space) =
            by_point of_point after (f target) (rw space b) full
            (λ p h. each cells has p (ap (λ t. has_point t p) (sym space) ∙ h) ∙ sym (changed_at listed ascend cells (change cells) target s p a)) in
            rw (e, ← same) own
            )
        | inr n ↦ (
            let f = cells_after cells (changes_at (change cells) target (points s)) in
            has c x (sym (holds.others c n) ∙ there)
            ∙ map_agree (cells c) (f c) (points x.space) (λ p k. sym (cells_after_untouched cells (changes_at (change cells) target (points s)) c p (other_column (change cells) target c (points s) p n)))
            )
      ];
    }

-- the column that one of the same space was
same_space : (o : Option ColumnValue) (s : List (ℕ × ℕ)) → Some s ≡ option_map (λ (x : ColumnValue). x.space) o → (y : ColumnValue) × (o ≡ Some y) × (s ≡ y.space)
same_space None s e = absurd (none-some s (sym e))
same_space (Some y) s e = (y, refl, same_Some s y.space e)

same_column : (x y : ColumnValue) → x.space ≡ y.space → x.cells ≡ y.cells → x ≡ y
same_column x y e f = λ i. record { space = e i; cells = f i }

pub columns_of_changes : ColumnsOfChanges
columns_of_changes g old new changes cells made are c x there =
    let has : HasCells old cells = λ k y is. let e = are k y is in rw e refl in
    let was = same_space (held_at old c) x.space (ap (option_map (λ (y : ColumnValue). y.space)) (sym there) ∙ made.spaces c) in
    let over : x.space ≡ column_space g c = was.2 ∙ ap (λ (y : ColumnValue). y.space) (are c was.0 was.1) in
    let after = cells_after cells (changes cells) in
    same_column x (column_of g after c) over (made.cells cells has c x there ∙ ap (λ s. map (after c) (points s)) over)
