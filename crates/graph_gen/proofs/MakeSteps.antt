-- What each step of the making leaves.
use Rattle.std.proofs.Common.{◌≡◌, ℕ, ◌+◌, ◌-◌, ◌<◌, ◌≤◌, ◌^◌, List, [], ◌∷◌, ◌++◌, length, map, sym, ◌∙◌, ap, ap₂, subst, codes, arith}
use Rattle.std.proofs.lemmas.List.FromFn.{map-range_with_len_more}
use Rattle.basics.specs.Lists.{numbers_below}
use Rattle.graph_terms.specs.declared.format.Format.{Format}
use Rattle.graph_terms.specs.declared.format.Format.TheVariants.{One}
use Rattle.graph_terms.specs.declared.decl.Decl.{Decl}
use Rattle.graph_terms.specs.declared.decl.Decl.TheVariants.{Space}
use Rattle.graph_terms.specs.declared.verb.Line.{Line}
use Rattle.graph_terms.specs.Graph.{GraphValue}
use Rattle.graph_terms.specs.Fits.{LinesFit}
use Rattle.graph_gen.specs.declared.draw.Row.{Row}
use Rattle.graph_gen.specs.declared.draw.Draw.{Draw}
use Rattle.graph_gen.specs.MadeGraph.{column_decl, made_decls, next_state, draw_of, row_taken, row_lines, Made, one_more, after_draws, made_graph}
use Rattle.graph_gen.proofs.Draws.{Kept, kept_draws, drawn_fits, drawn_grows, one_more_is, full_is_made}

-- one more column
pub columns_more : (old new : List Decl) (d : Decl) (k : ℕ) → old ≡ Space (codes "s") ((0, 63) ∷ []) ∷ map column_decl (numbers_below k) → d ≡ column_decl k → new ≡ old ++ d ∷ [] →
    new ≡ Space (codes "s") ((0, 63) ∷ []) ∷ map column_decl (numbers_below (k + 1))
columns_more old new d k a b e =
    e ∙ (ap₂ (λ x y. x ++ y ∷ []) a b ∙ ap (λ xs. Space (codes "s") ((0, 63) ∷ []) ∷ xs) (sym (map-range_with_len_more column_decl 0 k k (let z : 0 + k ≡ k = omega arith in z))))

-- what is kept after some draws
pub kept_by : (size : ℕ) (m : Made) → size ≤ 8192 → (seed n : ℕ) → seed < 2 ^ 64 → m ≡ after_draws seed size n → Kept size m
kept_by size m k seed n h e = subst (Kept size) (sym e) ((kept_draws seed size h k n).0)

-- the lines of the row that is taken fit
pub row_fits_here : (size : ℕ) (m : Made) (fm : Format) (decls : List Decl) (ls : List Line) (row : Row) (d : Draw) (x begin : ℕ) → size ≤ 8192 → Kept size m → length m.lines < size → fm ≡ One → decls ≡ made_decls → x ≡ next_state m.state → d ≡ draw_of x → begin ≡ length m.lines →
    row ≡ row_taken d m.lasts (size - begin) → ls ≡ row_lines row d m.lasts begin → LinesFit fm decls m.lines ls
row_fits_here size m fm decls ls row d x begin most kept left fe de xe dd be re le =
    let dx : d ≡ draw_of (next_state m.state) = dd ∙ ap draw_of xe in
    let rx : row ≡ row_taken (draw_of (next_state m.state)) m.lasts (size - length m.lines) = re ∙ ap₂ (λ y f. row_taken y m.lasts (size - f)) dx be in
    let lx = le ∙ (ap₂ (λ r y. row_lines r y m.lasts begin) rx dx ∙ ap (λ f. row_lines (row_taken (draw_of (next_state m.state)) m.lasts (size - length m.lines)) (draw_of (next_state m.state)) m.lasts f) be) in
    subst (λ z. LinesFit z decls m.lines ls) (sym fe) (subst (λ z. LinesFit One z m.lines ls) (sym de) (subst (LinesFit One made_decls m.lines) (sym lx) (drawn_fits size most m kept left).lines))

-- a draw that is made while fewer lines stand than the size adds a line
pub grows : (seed size n count : ℕ) (m k : Made) → seed < 2 ^ 64 → size ≤ 8192 → m ≡ after_draws seed size n → count ≡ length m.lines → count < size → k ≡ one_more size m → length m.lines + 1 ≤ length k.lines
grows seed size n count m k h most e is less made =
    let kept = kept_by size m most seed n h e in
    let left : length m.lines < size = omega arith in
    subst (λ (z : Made). length m.lines + 1 ≤ length z.lines) (sym (made ∙ one_more_is size most m kept left)) (drawn_grows size most m kept left)

-- where all lines stand, the graph is the one that was to be made
pub whole : (seed size n : ℕ) (m : Made) (g : GraphValue) → seed < 2 ^ 64 → size ≤ 8192 → m ≡ after_draws seed size n → n ≤ length m.lines → size ≤ length m.lines → g.format ≡ One → g.decls ≡ made_decls → g.lines ≡ m.lines → g ≡ made_graph seed size
whole seed size n m g h most e b full fe de le =
    let kept = kept_by size m most seed n h e in
    let few = kept.few in
    let same = full_is_made seed size n (omega arith) (subst (λ (z : Made). size ≤ length z.lines) e full) in
    ap₂ (λ fm ds. record { format = fm; decls = ds; lines = g.lines }) fe de ∙ ap (λ ls. record { format = One; decls = made_decls; lines = ls }) (le ∙ ap (λ (z : Made). z.lines) (e ∙ sym same))
