-- The places of lines, and that edges and paths lead to later ones.
use Rattle.std.proofs.Common.{◌≡◌, ℕ, ◌<◌, inl, inr, List, length, sym, ◌∙◌, ap, subst, arith}
use Rattle.std.specs.Prelude.{slice_index}
use Rattle.std.proofs.lemmas.Bool.{cases_order}
use Rattle.graph_terms.specs.Graph.{GraphValue}
use Rattle.graph_terms.specs.Fits.{IsGraph}
use Rattle.graph_meaning.specs.Laws.{EdgesBetweenLines}
use Rattle.graph_meaning.specs.Path.{HasPath, last, first}
use Rattle.sweep_base.specs.Placed.{IsOrder, IsPlaced, ArePlaces}
use Rattle.section_sweeps.specs.Table.{ArePlaced, AreForward}

pub order_placed : (g : GraphValue) (order : List ℕ) → IsOrder g order → length order ≡ length g.lines → IsPlaced g order
order_placed g order o count = record { count = count; within = o.within; each = o.each; distinct = o.distinct; forward = o.forward }

same_place : (g : GraphValue) (order : List ℕ) → IsOrder g order → (p q : ℕ) → p < length order → q < length order → slice_index order p ≡ slice_index order q → p ≡ q
same_place g order o p q hp hq e = elim (cases_order p q) [
  | inl same ↦ same
  | inr (inl before) ↦ absurd (o.distinct p q before hq e)
  | inr (inr behind) ↦ absurd (o.distinct q p behind hp (sym e))
]

pub are_placed : (g : GraphValue) (order lines places : List ℕ) → IsOrder g order → length order ≡ length g.lines → lines ≡ order → ArePlaces order places → ArePlaced (length g.lines) lines places
are_placed g order lines places o count is at = subst (λ xs. ArePlaced (length g.lines) xs places) (sym is) (record {
  lines_size = count;
  places_size = at.size ∙ count;
  line = λ x h. (
      let known = o.within x (omega arith) in
      let p = at.place (slice_index order x) (let s : length places ≡ length order = at.size in omega arith) in
      (known, same_place g order o (slice_index places (slice_index order x)) x p.0 (omega arith) p.1));
  place = λ i h. (let p = at.place i (let s : length places ≡ length order = at.size in omega arith) in (omega (arith, p.0), p.1));
})

pub are_forward : (g : GraphValue) → IsGraph g → EdgesBetweenLines → (order places : List ℕ) → IsOrder g order → length order ≡ length g.lines → ArePlaces order places → AreForward g places
are_forward g f between order places o count at = record {
  known = λ e c. between g e f c;
  later = λ e c. (
      let k = between g e f c in
      let s : length places ≡ length order = at.size in
      let a = at.place e.from (omega (arith, k.0)) in
      let b = at.place e.to (omega (arith, k.1)) in
      o.forward e (slice_index places e.from) (slice_index places e.to) c a.0 b.0 a.1 b.1);
}

-- a path leads to a later place
pub path_later : (g : GraphValue) (places : List ℕ) → AreForward g places → (i j : ℕ) → HasPath g i j → slice_index places i < slice_index places j
path_later g places f i j (last e c from to) = subst (λ z. slice_index places z < slice_index places j) from (subst (λ z. slice_index places e.from < slice_index places z) to (f.later e c))
path_later g places f i j (first e c from p) =
    let a : slice_index places e.from < slice_index places e.to = f.later e c in
    let b : slice_index places e.to < slice_index places j = path_later g places f e.to j p in
    subst (λ z. slice_index places z < slice_index places j) from (omega arith)

-- the line at a place is the only one there
pub line_at : (n : ℕ) (lines places : List ℕ) → ArePlaced n lines places → (i x : ℕ) → i < n → slice_index places i ≡ x → slice_index lines x ≡ i
line_at n lines places p i x h e = ap (slice_index lines) (sym e) ∙ (p.place i h).1
