-- A generated graph is accepted.
use Rattle.std.proofs.Common.{◌≡◌, ℕ, zero, suc, ◌+◌, ◌^◌, ◌<◌, ◌≤◌, true, false, ◌&&◌, ◌⊎◌, inl, inr, List, [], ◌∷◌, ◌++◌, length, map, refl, sym, ◌∙◌, ap, ap₂, subst, append-nil, arith}
use Rattle.std.specs.Prelude.{Contains, Option, Some, None, slice_get, option_map}
use Rattle.std.specs.Option.{option_map_or}
use Rattle.std.proofs.lemmas.Bool.{true≢false, eq-eqb, and_left}
use Rattle.std.proofs.lemmas.Option.{same_Some}
use Rattle.graph_terms.specs.declared.format.Format.TheVariants.{One}
use Rattle.graph_terms.specs.declared.verb.Access.{Access}
use Rattle.graph_terms.specs.declared.verb.Edge.{Edge}
use Rattle.graph_terms.specs.declared.verb.EdgeKind.TheVariants.{Passes, Ignores}
use Rattle.graph_terms.specs.declared.verb.Line.{Line}
use Rattle.graph_terms.specs.declared.verb.Mode.TheVariants as mode
use Rattle.graph_terms.specs.declared.verb.Verb.{Verb}
use Rattle.graph_terms.specs.declared.verb.Verb.TheVariants as verb
use Rattle.graph_terms.specs.Graph.{GraphValue, is_phase, is_acquire_of, is_shared, is_release_of, is_merge_ignore, line_passes}
use Rattle.graph_meaning.specs.Path.{Path, HasPath, last, first}
use Rattle.graph_terms.specs.Access.{access, modes_clash, AccessesConflict, call_accesses, behind_columns, all_accesses}
use Rattle.graph_terms.specs.Edges.{edge}
use Rattle.graph_terms.specs.Fits.{format_lacks, LinesFit}
use Rattle.graph_terms.specs.Reservations.{Releases}
use Rattle.graph_meaning.specs.Rules.{Section, modes_commute, Exempt, NoCycleAt, ReleasedAt, SectionAt, DescendsAt, stands_on_merges, ReleaseFaultAt, RaceAt, Everywhere, EverywhereTwice, Accepted}
use Rattle.basics.proofs.ListFacts.{contains_cases, contains_none}
use Rattle.graph_meaning.proofs.Public.{path_append}
use Rattle.graph_terms.proofs.Public.{fit_at, kind_fits}
use Rattle.graph_gen.specs.MadeGraph.{made_decls, next_state, row_lines, total_column, made_line, Made, unmade, drawn, after_draws, made_graph}
use Rattle.graph_gen.proofs.Standing.{lined}
use Rattle.graph_gen.proofs.Draws.{next_draw, next_row, draw_column, draw_other, Kept, kept_draws, one_more_is, stays}
use Rattle.graph_gen.proofs.AddedLines.{verb_in, uses_of, uses_in, edges_in, old_or_new, UpTo, last_edge}
use Rattle.graph_gen.proofs.Shapes.{weight, Held, Shape, shape_more}
use Rattle.graph_gen.proofs.RowShapes.{row_shape}
use Rattle.graph_gen.proofs.Columns.{Ordered, row_ordered}

-- no verb of format 1 is a call
no_calls : (v : Verb) → format_lacks One v ≡ false → call_accesses v ≡ []
no_calls (verb.Call call) e = absurd (true≢false e)
no_calls v e = refl

-- so lines that fit access columns with cells alone
cells_alone : (ls : List Line) → LinesFit One made_decls [] ls → (i : ℕ) → all_accesses (lined ls) i ≡ uses_in ls i
cells_alone ls fit i = ap (λ given. uses_in ls i ++ map (behind_columns (lined ls)) given) (by_line (slice_get ls i) refl) ∙ append-nil (uses_in ls i)
  where
    by_line : (o : Option Line) → slice_get ls i ≡ o → option_map_or call_accesses (option_map (λ (l : Line). l.verb) o) [] ≡ []
    by_line None e = refl
    by_line (Some l) e =
        let fits = fit_at One made_decls [] ls fit i l e in
        no_calls l.verb (kind_fits (record { format = One; decls = made_decls; lines = fits.0 }) l fits.1).2

module _ (ls : List Line) (shape : Shape ls) (fit : LinesFit One made_decls [] ls) where
  abbrev g : GraphValue
  g = lined ls

  path_rises : {i j : ℕ} → Path (edges_in ls) i j → weight ls i < weight ls j
  path_rises {i} {j} (last e c p q) = subst (λ x. weight ls x < weight ls j) p (subst (λ x. weight ls e.from < weight ls x) q (shape.rises e c))
  path_rises {i} {j} (first e c p r) =
      let one : weight ls e.from < weight ls e.to = shape.rises e c in
      let rest : weight ls e.to < weight ls j = path_rises r in
      subst (λ x. weight ls x < weight ls j) p (omega arith)

  no_cycle : Everywhere (NoCycleAt g)
  no_cycle i p = let h : weight ls i < weight ls i = path_rises p in omega arith

  -- a line with a path to the end of the only edge into a line
  back_one : (a b j : ℕ) → ((e : Edge) → Contains (edges_in ls) e → e.to ≡ b → e.from ≡ a) → Path (edges_in ls) j b → UpTo (edges_in ls) j a
  back_one a b j into p = let s = last_edge p in subst (UpTo (edges_in ls) j) (into s.0 s.1 s.2) s.3

  -- what has a path to the release of a section
  before_release : (q j : ℕ) → Held ls q → Path (edges_in ls) j (q + 3) → (j ≡ q) ⊎ (Path (edges_in ls) j q ⊎ ((j ≡ q + 1) ⊎ (j ≡ q + 2)))
  before_release q j h p = elim (back_one (q + 2) (q + 3) j h.into_release p) [
    | inl e ↦ inr (inr (inr e))
    | inr r ↦ elim (back_one (q + 1) (q + 2) j h.into_merge r) [
      | inl e ↦ inr (inr (inl e))
      | inr s ↦ elim (back_one q (q + 1) j h.into_sum s) [ inl e ↦ inl e | inr t ↦ inr (inl t) ]
    ]
  ]

  path_to_sum : (q : ℕ) → Held ls q → HasPath g q (q + 1)
  path_to_sum q h = last (edge q (q + 1) Passes) h.to_sum refl refl

  path_to_merge : (q : ℕ) → Held ls q → HasPath g q (q + 2)
  path_to_merge q h = first (edge q (q + 1) Passes) h.to_sum refl (last (edge (q + 1) (q + 2) Ignores) h.to_merge refl refl)

  path_from_sum : (q : ℕ) → Held ls q → HasPath g (q + 1) (q + 3)
  path_from_sum q h = first (edge (q + 1) (q + 2) Ignores) h.to_merge refl (last (edge (q + 2) (q + 3) Passes) h.to_release refl refl)

  released_by : (q : ℕ) → Held ls q → Releases g (q + 3) q
  released_by q h = ap (λ (o : Option Line). option_map_or (is_release_of q) (option_map (λ (l : Line). l.verb) o) false) h.release ∙ eq-eqb q q refl

  released : Everywhere (ReleasedAt g)
  released q l a = let h = shape.acquires q l a in (q + 3, released_by q h, path_append (path_to_sum q h) (path_from_sum q h))

  sections : EverywhereTwice (SectionAt g)
  sections i j q r p =
      let at = shape.releases i q r in
      let h = at.1 in
      elim (before_release q j h (subst (HasPath g j) at.0 p)) [
        | inl e ↦ inl e
        | inr (inl b) ↦ inr (inl b)
        | inr (inr (inl e)) ↦ inr (inr (subst (HasPath g q) (sym e) (path_to_sum q h), λ phase never. true≢false (sym phase ∙ (ap (line_passes is_phase g) e ∙ ap (λ v. option_map_or is_phase v false) h.sum))))
        | inr (inr (inr e)) ↦ inr (inr (subst (HasPath g q) (sym e) (path_to_merge q h), λ phase never. true≢false (sym phase ∙ (ap (line_passes is_phase g) e ∙ ap (λ v. option_map_or is_phase v false) h.merge))))
      ]

  descends : EverywhereTwice (DescendsAt g)
  descends i j l k s a =
      let at = shape.releases s.release i s.releases in
      let h = at.1 in
      elim (before_release i j h (subst (HasPath g j) at.0 s.left)) [
        | inl e ↦ absurd (no_cycle i (subst (HasPath g i) e s.entered))
        | inr (inl b) ↦ absurd (no_cycle i (path_append s.entered b))
        | inr (inr (inl e)) ↦ absurd (true≢false (sym a ∙ (ap (line_passes (is_acquire_of k) g) e ∙ ap (λ v. option_map_or (is_acquire_of k) v false) h.sum)))
        | inr (inr (inr e)) ↦ absurd (true≢false (sym a ∙ (ap (line_passes (is_acquire_of k) g) e ∙ ap (λ v. option_map_or (is_acquire_of k) v false) h.merge)))
      ]

  release_faults : Everywhere (ReleaseFaultAt g)
  release_faults i q l at r =
      let s = shape.releases i q (ap (λ (o : Option Line). option_map_or (is_release_of q) (option_map (λ (x : Line). x.verb) o) false) at ∙ r) in
      let h = s.1 in
      let same : l ≡ made_line (q + 3) (verb.Release q) (Some (q + 2)) = same_Some l (made_line (q + 3) (verb.Release q) (Some (q + 2))) (sym at ∙ (ap (slice_get ls) s.0 ∙ h.release)) in
      ap (λ (x : Line). stands_on_merges g x.on) same ∙ ap (λ v. option_map_or is_merge_ignore v false && true) h.merge

  -- what the sum of a section uses
  sum_uses : (q i : ℕ) (a : Access) → Held ls q → i ≡ q + 1 → Contains (uses_in ls i) a → ((a.mode ≡ mode.Read) × (a.column < 8)) ⊎ ((a.mode ≡ mode.Sum) × (a.column ≡ 8))
  sum_uses q i a h at c =
      elim (contains_cases (access h.column 0 mode.Read) (access total_column 0 mode.Sum ∷ []) a (subst (λ v. Contains (uses_of v) a) (ap (verb_in ls) at ∙ h.sum) c)) [
        | inl e ↦ inl (ap (λ (x : Access). x.mode) (sym e), subst (λ (x : Access). x.column < 8) e h.small)
        | inr r ↦ elim (contains_cases (access total_column 0 mode.Sum) [] a r) [ inl e ↦ inr (ap (λ (x : Access). x.mode) (sym e), ap (λ (x : Access). x.column) (sym e)) | inr none ↦ absurd (contains_none a none) ]
      ]

  in_section : (q i : ℕ) → Held ls q → i ≡ q + 1 → Section g 0 q i
  in_section q i h at = record {
    acquires = ap (λ v. option_map_or (is_acquire_of 0) v false) h.acquire;
    entered = subst (HasPath g q) (sym at) (path_to_sum q h);
    release = q + 3;
    releases = released_by q h;
    left = subst (λ x. HasPath g x (q + 3)) (sym at) (path_from_sum q h);
  }

  commute : (q r i j : ℕ) → Held ls q → i ≡ q + 1 → Held ls r → j ≡ r + 1 → (a b : Access) → Contains (uses_in ls i) a → Contains (uses_in ls j) b → AccessesConflict g a b → modes_commute a.mode b.mode ≡ true
  commute q r i j h e k f a b c d x =
      let same : a.column ≡ b.column = x.column in
      elim (sum_uses q i a h e c) [
        | inl m ↦ elim (sum_uses r j b k f d) [
          | inl n ↦ absurd (true≢false (sym x.clash ∙ ap₂ modes_clash m.0 n.0))
          | inr n ↦ absurd (let p : a.column < 8 = m.1 in let s : b.column ≡ 8 = n.1 in omega arith)
        ]
        | inr m ↦ elim (sum_uses r j b k f d) [
          | inl n ↦ absurd (let p : a.column ≡ 8 = m.1 in let s : b.column < 8 = n.1 in omega arith)
          | inr n ↦ ap₂ modes_commute m.0 n.0
        ]
      ]

  -- what a line uses is of a column with cells
  use_of : (i : ℕ) (a : Access) → Contains (all_accesses g i) a → Contains (uses_in ls i) a
  use_of i a c = subst (λ given. Contains given a) (cells_alone ls fit i) c

  exempt : (q r i j : ℕ) → Held ls q → i ≡ q + 1 → Held ls r → j ≡ r + 1 → i < j → Exempt g i j
  exempt q r i j h e k f less = record {
    commute = λ a b c d x. commute q r i j h e k f a b (use_of i a c) (use_of j b d) x;
    lock = 0;
    one = q;
    other = r;
    different = λ s. omega arith;
    apart = and_left (line_passes is_shared g q) (line_passes is_shared g r) (ap (λ (o : Option Verb). option_map_or is_shared o false) h.acquire);
    one_section = in_section q i h e;
    other_section = in_section r j k f;
  }

  module _ (lasts : List (Option ℕ)) (ordered : Ordered ls lasts) where
    races : EverywhereTwice (RaceAt g)
    races i j less c = elim (shape.uses i c.one (use_of i c.one c.one_in)) [
      | inl small ↦ inl (ordered.paths c.one.column i j small (c.one, use_of i c.one c.one_in, refl) (c.other, use_of j c.other c.other_in, sym c.conflict.column) less)
      | inr one ↦ elim (shape.uses j c.other (use_of j c.other c.other_in)) [
        | inl small ↦ inl (ordered.paths c.other.column i j small (c.one, use_of i c.one c.one_in, c.conflict.column) (c.other, use_of j c.other c.other_in, refl) less)
        | inr other ↦ inr (inr (exempt one.0 other.0 i j one.2 one.1 other.2 other.1 less))
      ]
    ]

    pub accepted_lines : Accepted g
    accepted_lines = record { acyclic = no_cycle; released = released; sections = sections; descends = descends; release_faults = release_faults; races = races }

-- what is kept from draw to draw
record Sound (m : Made) : Type 0 where
  shape : Shape m.lines
  ordered : Ordered m.lines m.lasts

unmade_sound : (seed : ℕ) → Sound (unmade seed)
unmade_sound seed = record {
  shape = record {
    within = λ e c. absurd (contains_none e c);
    rises = λ e c. absurd (contains_none e c);
    light = λ i h. absurd (let b : i < 0 = h in omega arith);
    acquires = λ q l h. absurd (true≢false (sym h));
    releases = λ r q h. absurd (true≢false (sym h));
    uses = λ i a c. absurd (contains_none a c);
  };
  ordered = record {
    known = λ c i small t. absurd (contains_none t.0 t.1);
    paths = λ c i j small t u less. absurd (contains_none t.0 t.1);
  };
}

module _ (size : ℕ) (m : Made) (kept : Kept size m) (sound : Sound m) where
  drawn_sound : Sound (drawn size (next_draw m) (next_state m.state) m)
  drawn_sound = record {
    shape = shape_more m.lines (row_lines (next_row size m) (next_draw m) m.lasts (length m.lines)) (row_shape (next_draw m) (draw_column m) (draw_other m) m.lasts m.lines kept.lasts sound.shape (next_row size m)) sound.shape;
    ordered = row_ordered (next_draw m) (draw_column m) (draw_other m) m.lasts kept.wide m.lines (next_row size m) sound.ordered;
  }

sound_draws : (seed size : ℕ) → seed < 2 ^ 64 → size ≤ 8192 → (n : ℕ) → Sound (after_draws seed size n)
sound_draws seed size h k zero = unmade_sound seed
sound_draws seed size h k (suc n) =
    let m : Made = after_draws seed size n in
    let sound = sound_draws seed size h k n in
    let kept = (kept_draws seed size h k n).0 in
    elim (old_or_new size (length m.lines)) [
      | inl left ↦ subst Sound (sym (one_more_is size k m kept left)) (drawn_sound size m kept sound)
      | inr full ↦ subst Sound (sym (stays size m (let e : length m.lines ≡ size + full.0 = full.1 in omega arith))) sound
    ]

pub made_accepted : (seed size : ℕ) → seed < 2 ^ 64 → size ≤ 8192 → Accepted (made_graph seed size)
made_accepted seed size h k = let sound = sound_draws seed size h k size in accepted_lines (after_draws seed size size).lines sound.shape (kept_draws seed size h k size).0.fits (after_draws seed size size).lasts sound.ordered
