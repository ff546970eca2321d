-- What is kept from draw to draw, and the graph that comes of as many draws as lines.
use Rattle.std.proofs.Common.{◌≡◌, ℕ, zero, suc, ◌+◌, ◌-◌, ◌^◌, ◌<◌, ◌≤◌, Bool, true, false, cond, ◌⊎◌, inl, inr, List, [], ◌∷◌, ◌++◌, length, refl, sym, ◌∙◌, ap, subst, append_assoc, append-nil, length-append, arith, lit≤, lit<}
use Rattle.std.specs.Prelude.{Option, Some, None, nat_lt, replicate}
use Rattle.std.specs.Fmt.{digits}
use Rattle.std.proofs.lemmas.Bool.{lt-ltb, ltb-true, ltb-false}
use Rattle.std.proofs.lemmas.Option.{none-some}
use Rattle.graph_terms.specs.declared.format.Format.{Format}
use Rattle.graph_terms.specs.declared.format.Format.TheVariants.{One}
use Rattle.graph_terms.specs.declared.verb.Line.{Line}
use Rattle.graph_terms.specs.declared.decl.Decl.{Decl}
use Rattle.graph_terms.specs.Fits.{DeclsFit, LinesFit, IsGraph}
use Rattle.graph_gen.specs.declared.draw.Row.{Row}
use Rattle.graph_gen.specs.declared.draw.Row.TheVariants.{Fill}
use Rattle.graph_gen.specs.declared.draw.Draw.{Draw}
use Rattle.graph_gen.specs.MadeGraph.{made_decls, next_state, draw_of, last_of, is_open, row_taken, row_lines, Made, unmade, drawn, one_more, after_draws, made_graph}
use Rattle.graph_gen.proofs.Standing.{not_less, Standing, RowFits}
use Rattle.graph_gen.proofs.Rows.{LastsStand, row_size, row_fits, row_lasts}

-- what holds between two draws
pub record Kept (size : ℕ) (m : Made) : Type 0 where
  pub standing : Standing m.lines
  pub fits : LinesFit One made_decls [] m.lines
  pub lasts : LastsStand m.lasts (length m.lines)
  pub wide : length m.lasts ≡ 8
  pub state : m.state < 2 ^ 64
  pub few : length m.lines ≤ size

none_stands : (n c : ℕ) (e : ℕ) → last_of (replicate 8 None) c ≡ Some e → e < n
none_stands n zero e h = absurd (none-some e h)
none_stands n (suc zero) e h = absurd (none-some e h)
none_stands n (suc (suc zero)) e h = absurd (none-some e h)
none_stands n (suc (suc (suc zero))) e h = absurd (none-some e h)
none_stands n (suc (suc (suc (suc zero)))) e h = absurd (none-some e h)
none_stands n (suc (suc (suc (suc (suc zero))))) e h = absurd (none-some e h)
none_stands n (suc (suc (suc (suc (suc (suc zero)))))) e h = absurd (none-some e h)
none_stands n (suc (suc (suc (suc (suc (suc (suc zero))))))) e h = absurd (none-some e h)
none_stands n (suc (suc (suc (suc (suc (suc (suc (suc k)))))))) e h = absurd (none-some e h)

unmade_kept : (seed size : ℕ) → seed < 2 ^ 64 → Kept size (unmade seed)
unfolding digits
unmade_kept seed size h = record {
  standing = record { numbered = tt; ended = λ k b. refl; released = λ k b. refl; text = lit≤ tt; few_edges = lit≤ tt };
  fits = tt;
  lasts = none_stands 0;
  wide = refl;
  state = h;
  few = omega arith;
}

lines_join : (fm : Format) (decls : List Decl) (a b c : List Line) → LinesFit fm decls a b → LinesFit fm decls (a ++ b) c → LinesFit fm decls a (b ++ c)
lines_join fm decls a [] c f g = subst (λ x. LinesFit fm decls x c) (append-nil a) g
lines_join fm decls a (l ∷ b) c f g = (f.0, f.1, lines_join fm decls (a ++ l ∷ []) b c f.2 (subst (λ x. LinesFit fm decls x c) (sym (append_assoc a (l ∷ []) b)) g), f.3)

-- the row that is taken is open
taken_open : (d : Draw) (lasts : List (Option ℕ)) (left : ℕ) → is_open (row_taken d lasts left) d lasts left ≡ true
taken_open d lasts left = chosen (is_open d.row d lasts left) refl
  where
    chosen : (b : Bool) → is_open d.row d lasts left ≡ b → is_open (cond b d.row Fill) d lasts left ≡ true
    chosen true h = h
    chosen false h = refl

-- the draw that comes next, the row that it takes, and that its columns are there
abbrev pub next_draw : Made → Draw
next_draw m = draw_of (next_state m.state)

abbrev pub next_row : ℕ → Made → Row
next_row size m = row_taken (next_draw m) m.lasts (size - length m.lines)

pub draw_column : (m : Made) → (next_draw m).column < 8
draw_column m = omega arith

pub draw_other : (m : Made) → (next_draw m).other < 8
draw_other m = omega arith

module _ (size : ℕ) (most : size ≤ 8192) (m : Made) (kept : Kept size m) (left : length m.lines < size) where
  abbrev x : ℕ
  x = next_state m.state

  abbrev d : Draw
  d = next_draw m

  abbrev row : Row
  row = next_row size m

  small : x < 2 ^ 64
  small = omega arith

  draw_value : d.value < 65536
  draw_value = let s : x < 2 ^ 64 = small in omega arith

  pub drawn_fits : RowFits m.lines (row_lines row d m.lasts (length m.lines))
  drawn_fits = row_fits d (draw_column m) (draw_other m) draw_value m.lasts m.lines kept.standing kept.lasts (size - length m.lines) (omega arith) (omega arith) row (taken_open d m.lasts (size - length m.lines))

  sizes : (1 ≤ length (row_lines row d m.lasts (length m.lines))) × (length (row_lines row d m.lasts (length m.lines)) ≤ size - length m.lines)
  sizes = row_size row d m.lasts (size - length m.lines) (length m.lines) (taken_open d m.lasts (size - length m.lines)) (omega arith)

  all : length (m.lines ++ row_lines row d m.lasts (length m.lines)) ≡ length m.lines + length (row_lines row d m.lasts (length m.lines))
  all = length-append m.lines (row_lines row d m.lasts (length m.lines))

  pub drawn_grows : length m.lines + 1 ≤ length (drawn size d x m).lines
  drawn_grows = let one = sizes.0 in let e = all in omega arith

  pub drawn_kept : Kept size (drawn size d x m)
  drawn_kept =
      let lasts = row_lasts row d m.lasts (length m.lines) (draw_column m) (draw_other m) kept.wide kept.lasts in
      record {
        standing = drawn_fits.standing;
        fits = lines_join One made_decls [] m.lines (row_lines row d m.lasts (length m.lines)) kept.fits drawn_fits.lines;
        lasts = subst (λ k. LastsStand (drawn size d x m).lasts k) (sym all) lasts.0;
        wide = lasts.1;
        state = small;
        few = (let two = sizes.1 in let e = all in omega arith);
      }

  pub one_more_is : one_more size m ≡ drawn size d x m
  one_more_is = ap (λ b. cond b (drawn size d x m) m) (lt-ltb (length m.lines) size left)

-- where the size stands, no draw changes anything
pub stays : (size : ℕ) (m : Made) → size ≤ length m.lines → one_more size m ≡ m
stays size m h = ap (λ b. cond b (drawn size (draw_of (next_state m.state)) (next_state m.state) m) m) (not_less (length m.lines) size h)

order : (a b : ℕ) → (a < b) ⊎ (b ≤ a)
order a b = elim (nat_cases (nat_lt a b) refl) [ inl t ↦ inl (ltb-true a b t) | inr f ↦ inr (ltb-false a b f) ]
  where
    nat_cases : (t : Bool) → nat_lt a b ≡ t → (nat_lt a b ≡ true) ⊎ (nat_lt a b ≡ false)
    nat_cases true e = inl e
    nat_cases false e = inr e

pub kept_draws : (seed size : ℕ) → seed < 2 ^ 64 → size ≤ 8192 → (n : ℕ) → Kept size (after_draws seed size n) × ((n ≤ length (after_draws seed size n).lines) ⊎ (size ≤ length (after_draws seed size n).lines))
kept_draws seed size h k zero = (unmade_kept seed size h, inl (omega arith))
kept_draws seed size h k (suc n) =
    let m : Made = after_draws seed size n in
    let so = kept_draws seed size h k n in
    elim (order (length m.lines) size) [
      | inl left ↦ (let e = one_more_is size k m so.0 left in (
        subst (Kept size) (sym e) (drawn_kept size k m so.0 left),
        subst (λ (z : Made). (suc n ≤ length z.lines) ⊎ (size ≤ length z.lines)) (sym e)
            (elim so.1 [ inl a ↦ inl (let g = drawn_grows size k m so.0 left in omega arith) | inr b ↦ absurd (omega arith) ]),
      ))
      | inr full ↦ (let e = stays size m full in
          (subst (Kept size) (sym e) so.0, inr (subst (λ (z : Made). size ≤ length z.lines) (sym e) full)))
    ]

pub decls_fit : DeclsFit One [] made_decls
unfolding digits
decls_fit = ((refl, (lit< tt, (lit≤ tt, lit≤ tt, lit< tt, tt))), refl, ((refl, lit< tt, (refl, tt)), refl, ((refl, lit< tt, (refl, tt)), refl, ((refl, lit< tt, (refl, tt)), refl, ((refl, lit< tt, (refl, tt)), refl, ((refl, lit< tt, (refl, tt)), refl, ((refl, lit< tt, (refl, tt)), refl, ((refl, lit< tt, (refl, tt)), refl, ((refl, lit< tt, (refl, tt)), refl, ((refl, lit< tt, (refl, tt)), refl, (refl, refl, tt, refl), refl), refl), refl), refl), refl), refl), refl), refl), refl), refl)

pub made_size : (seed size : ℕ) → seed < 2 ^ 64 → size ≤ 8192 → length (made_graph seed size).lines ≡ size
made_size seed size h k =
    let so = kept_draws seed size h k size in
    let few = so.0.few in
    elim so.1 [ inl a ↦ omega arith | inr b ↦ omega arith ]

pub made_is_graph : (seed size : ℕ) → seed < 2 ^ 64 → size ≤ 8192 → IsGraph (made_graph seed size)
made_is_graph seed size h k = record { decls = decls_fit; lines = (kept_draws seed size h k size).0.fits }

-- more draws than are needed change nothing
full_after : (seed size n k : ℕ) → size ≤ length (after_draws seed size n).lines → after_draws seed size (k + n) ≡ after_draws seed size n
full_after seed size n zero h = ap (after_draws seed size) (let e : 0 + n ≡ n = omega arith in e)
full_after seed size n (suc k) h =
    let so = full_after seed size n k h in
    ap (after_draws seed size) (let e : suc k + n ≡ suc (k + n) = omega arith in e) ∙ (ap (one_more size) so ∙ stays size (after_draws seed size n) h)

pub full_is_made : (seed size n : ℕ) → n ≤ size → size ≤ length (after_draws seed size n).lines → after_draws seed size size ≡ after_draws seed size n
full_is_made seed size n b h = ap (after_draws seed size) (let e : size ≡ (size - n) + n = omega arith in e) ∙ full_after seed size n (size - n) h
