-- What the rows and the tables of a graph give at a number.
use Rattle.std.proofs.Common.{◌≡◌, ℕ, ◌+◌, ◌*◌, ◌^◌, ◌<◌, ◌≤◌, false, List, [], length, refl, sym, ◌∙◌, ap, subst, arith, get_or}
use Rattle.std.specs.Prelude.{Option, Some, None, nat_lt, not, option_map, slice_get}
use Rattle.std.specs.Option.{option_map_or}
use Rattle.std.proofs.lemmas.Option.{get_or_from_slice_get, slice_get_read}
use Rattle.graph_indexes.specs.declared.mark.Mark.{Mark}
use Rattle.graph_terms.specs.declared.verb.Edge.{Edge}
use Rattle.graph_terms.specs.declared.verb.Line.{Line}
use Rattle.graph_terms.specs.declared.verb.Verb.{Verb}
use Rattle.graph_terms.specs.declared.verb.Verb.TheVariants.{User, Phase}
use Rattle.graph_terms.specs.Graph.{GraphValue, arrival_weight, barriers, barrier_count, verb_at, never_comes, never_comes_as}
use Rattle.graph_terms.specs.declared.decl.BarrierInfo.{BarrierInfo}
use Rattle.graph_terms.specs.Edges.{edges_into, edges_out_of}
use Rattle.graph_terms.specs.Fits.{IsGraph, line_fault}
use Rattle.graph_indexes.specs.Rows.{RowsValue, mark_at, mark_of, AreRowsOf}
use Rattle.graph_model.proofs.RowLaws.{few_arrivals, line_weight_few}
use Rattle.graph_terms.proofs.Public.{barrier_known}

-- a line of a graph has a row
pub row_is : (g now : GraphValue) (rows : RowsValue) (i : ℕ) → g ≡ now → AreRowsOf g rows → i < length now.lines → i < length rows.marks
row_is g now rows i same a h = (let k : i < length g.lines = subst (λ (x : GraphValue). i < length x.lines) (sym same) h in let c : length rows.marks ≡ length g.lines = a.mark_count in omega arith)

pub into_read : (g now : GraphValue) (rows : RowsValue) (i : ℕ) (es : List Edge) → g ≡ now → AreRowsOf g rows → slice_get rows.into i ≡ Some es → es ≡ edges_into now i
into_read g now rows i es same a h = sym (get_or_from_slice_get rows.into i es [] h) ∙ (a.into i ∙ ap (λ x. edges_into x i) same)

pub from_read : (g now : GraphValue) (rows : RowsValue) (i : ℕ) (es : List Edge) → g ≡ now → AreRowsOf g rows → slice_get rows.from i ≡ Some es → es ≡ edges_out_of now i
from_read g now rows i es same a h = sym (get_or_from_slice_get rows.from i es [] h) ∙ (a.from i ∙ ap (λ x. edges_out_of x i) same)

pub few_marked : (g : GraphValue) (rows : RowsValue) (l : Line) → IsGraph g → AreRowsOf g rows → length g.lines ≤ 65536 → line_fault g l ≡ None → (i : ℕ) → (mark_at rows.marks i).arrivals + arrival_weight i l.verb < 2 ^ 64
few_marked g rows l f a h fits i =
    let same : (mark_at rows.marks i).arrivals ≡ (mark_of g i).arrivals = ap (λ (m : Mark). m.arrivals) (a.mark i) in
    let few : (mark_of g i).arrivals ≤ length g.lines * 65536 = few_arrivals g f i in
    let more : arrival_weight i l.verb ≤ 65536 = line_weight_few g l i fits in
    omega arith

-- the verb of a line that is read
pub verb_read : (g now : GraphValue) (i : ℕ) (l : Line) → g ≡ now → i < length now.lines → l ≡ get_or g.lines i l → verb_at now i ≡ Some l.verb
verb_read g now i l same h is =
    let k : i < length g.lines = subst (λ (x : GraphValue). i < length x.lines) (sym same) h in
    subst (λ (x : GraphValue). verb_at x i ≡ Some l.verb) same (ap (option_map (λ (x : Line). x.verb)) (slice_get_read g.lines (length g.lines) i l refl k is))

-- a line of a verb that never comes, by the test of that verb
pub never_of : (g : GraphValue) (i : ℕ) (v : Verb) → verb_at g i ≡ Some v → never_comes g i ≡ never_comes_as g i v
never_of g i v e = ap (λ o. option_map_or (never_comes_as g i) o false) e

-- a line never comes by its verb and its mark
pub never_user : (g now : GraphValue) (i : ℕ) (l : Line) (m : Mark) → g ≡ now → i < length now.lines → l ≡ get_or g.lines i l → l.verb ≡ User → m ≡ mark_of g i → not m.ended ≡ never_comes now i
never_user g now i l m same h is v e =
    let at : verb_at g i ≡ Some User = verb_read g g i l refl (subst (λ (x : GraphValue). i < length x.lines) (sym same) h) is ∙ ap (λ w. Some w) v in
    subst (λ (x : GraphValue). not m.ended ≡ never_comes x i) same (ap (λ (x : Mark). not x.ended) e ∙ sym (never_of g i User at))

pub never_phase : (g now : GraphValue) (i b : ℕ) (l : Line) (m : Mark) (info : BarrierInfo) → g ≡ now → i < length now.lines → l ≡ get_or g.lines i l → l.verb ≡ Phase b → m ≡ mark_of g i → slice_get (barriers g) b ≡ Some info → nat_lt m.arrivals info.count ≡ never_comes now i
never_phase g now i b l m info same h is v e at_b =
    let at : verb_at g i ≡ Some (Phase b) = verb_read g g i l refl (subst (λ (x : GraphValue). i < length x.lines) (sym same) h) is ∙ ap (λ w. Some w) v in
    let count : barrier_count g b ≡ info.count = ap (λ (o : Option BarrierInfo). option_map_or (λ (x : BarrierInfo). x.count) o 0) at_b in
    subst (λ (x : GraphValue). nat_lt m.arrivals info.count ≡ never_comes x i) same
    (ap (λ (x : Mark). nat_lt x.arrivals info.count) e ∙ (ap (λ n. nat_lt (mark_of g i).arrivals n) (sym count) ∙ sym (never_of g i (Phase b) at)))

comes_as : (g : GraphValue) (i : ℕ) (v : Verb) → (v ≡ User → ⊥) → ((b : ℕ) → v ≡ Phase b → ⊥) → never_comes_as g i v ≡ false
comes_as g i User u p = absurd (u refl)
comes_as g i (Phase b) u p = absurd (p b refl)
comes_as g i v u p = refl

pub never_other : (g now : GraphValue) (i : ℕ) (l : Line) → g ≡ now → i < length now.lines → l ≡ get_or g.lines i l → (l.verb ≡ User → ⊥) → ((b : ℕ) → l.verb ≡ Phase b → ⊥) → false ≡ never_comes now i
never_other g now i l same h is u p = sym (never_of now i l.verb (verb_read g now i l same h is) ∙ comes_as now i l.verb u p)

pub phase_known : (g now : GraphValue) (i b : ℕ) (l : Line) → g ≡ now → IsGraph g → i < length now.lines → l ≡ get_or g.lines i l → l.verb ≡ Phase b → b < length (barriers g)
phase_known g now i b l same f h is v = barrier_known g f i b l (slice_get_read g.lines (length g.lines) i l refl (subst (λ (x : GraphValue). i < length x.lines) (sym same) h) is) v
