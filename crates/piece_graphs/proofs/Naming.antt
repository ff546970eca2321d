-- The piece that the code finds for a column of a line is the one that the line names.
use Rattle.std.proofs.Common.{◌≡◌, ℕ, ◌+◌, Bool, true, List, [], length, map, refl, sym, ◌∙◌, ap, subst}
use Rattle.std.specs.Prelude.{◌==◌, Option, Some, None, Contains, slice_get, position, find, option_map}
use Rattle.std.specs.Option.{option_map_or}
use Rattle.std.proofs.lemmas.Bool.{true≢false, and_from, eq-eqb, eqb-true}
use Rattle.basics.proofs.Choices.{some_is}
use Rattle.basics.proofs.ListFacts.{find_is, find_none, got_contains, passes_some}
use Rattle.basics.proofs.TestedLists.{position_any}
use Rattle.index_spaces.specs.declared.Op.{Op}
use Rattle.index_spaces.specs.declared.Op.TheVariants.{Sum, Min, Max}
use Rattle.index_spaces.specs.Space.{has_point, point_at}
use Rattle.graph_terms.specs.declared.format.Format.{Format}
use Rattle.graph_terms.specs.declared.verb.Access.{Access}
use Rattle.graph_terms.specs.declared.verb.Line.{Line}
use Rattle.graph_terms.specs.declared.verb.Mode.TheVariants as mode
use Rattle.graph_terms.specs.declared.verb.Verb.{Verb}
use Rattle.graph_terms.specs.declared.verb.Verb.TheVariants.{User, Trigger, Cancel, Merge, MergeIgnore, Phase, Arrive, Acquire, Release, Fill, Copy, Reduce, Task, Call}
use Rattle.graph_terms.specs.declared.table.Kernel.{Kernel}
use Rattle.graph_terms.specs.declared.table.Kernel.TheVariants.{Iota, Axpy, Stencil, Scan, Hist, Dot, Expect, Gather}
use Rattle.graph_terms.specs.Graph.{GraphValue, space_at}
use Rattle.graph_terms.specs.Fits.{IsGraph}
use Rattle.graph_terms.specs.Access.{access, accesses, in_format, verb_accesses}
use Rattle.graph_meaning.proofs.Public.{accesses_fit}
use Rattle.column_pieces.specs.Cut.{kernel_on, verb_on, line_on}
use Rattle.column_pieces.specs.Pieces.{Unions, piece_space, has_cell, piece_at, named_at, ArePieces}
use Rattle.column_pieces.specs.declared.pieces.Piece.{Piece}
use Rattle.piece_graphs.specs.Naming.{place_of, name_of}
use Rattle.column_parts.proofs.Public.{first_point}

-- VERBS
-- two ways to name columns that agree on what a verb accesses give the same verb
module _ (f : Format) (r s : ℕ → ℕ) where
  abbrev Agree : Verb → Type 0
  Agree v = (k : ℕ) (a : Access) → slice_get (map (in_format f) (verb_accesses v)) k ≡ Some a → r a.column ≡ s a.column

  same_kernel : (kernel : Kernel) → Agree (Task kernel) → kernel_on r kernel ≡ kernel_on s kernel
  same_kernel (Iota x p value) h = ap (λ c. Iota c p value) (h 0 (in_format f (access x p mode.Write)) refl)
  same_kernel (Axpy x y p factor) h = ap (λ c. Axpy c (r y) p factor) (h 0 (in_format f (access x p mode.Read)) refl) ∙ ap (λ c. Axpy (s x) c p factor) (h 1 (in_format f (access y p mode.Sum)) refl)
  same_kernel (Stencil x y b p) h = ap (λ c. Stencil c (r y) b p) (h 0 (in_format f (access x b mode.Read)) refl) ∙ ap (λ c. Stencil (s x) c b p) (h 1 (in_format f (access y p mode.Write)) refl)
  same_kernel (Scan x y p) h = ap (λ c. Scan c (r y) p) (h 0 (in_format f (access x p mode.Read)) refl) ∙ ap (λ c. Scan (s x) c p) (h 1 (in_format f (access y p mode.Write)) refl)
  same_kernel (Hist x y p t) h = ap (λ c. Hist c (r y) p t) (h 0 (in_format f (access x p mode.Read)) refl) ∙ ap (λ c. Hist (s x) c p t) (h 1 (in_format f (access y t mode.Sum)) refl)
  same_kernel (Dot x y z p t) h =
      ap (λ c. Dot c (r y) (r z) p t) (h 0 (in_format f (access x p mode.Read)) refl)
      ∙ (ap (λ c. Dot (s x) c (r z) p t) (h 1 (in_format f (access y p mode.Read)) refl) ∙ ap (λ c. Dot (s x) (s y) c p t) (h 2 (in_format f (access z t mode.Sum)) refl))
  same_kernel (Expect x p low high) h = ap (λ c. Expect c p low high) (h 0 (in_format f (access x p mode.Read)) refl)
  same_kernel (Gather x y z p t) h =
      ap (λ c. Gather c (r y) (r z) p t) (h 0 (in_format f (access x p mode.Read)) refl)
      ∙ (ap (λ c. Gather (s x) c (r z) p t) (h 1 (in_format f (access y t mode.Read)) refl) ∙ ap (λ c. Gather (s x) (s y) c p t) (h 2 (in_format f (access z p mode.Write)) refl))

  same_verb : (v : Verb) → Agree v → verb_on r v ≡ verb_on s v
  same_verb (Fill target p value) h = ap (λ c. Fill c p value) (h 0 (in_format f (access target p mode.Write)) refl)
  same_verb (Copy source target p) h = ap (λ c. Copy c (r target) p) (h 0 (in_format f (access source p mode.Read)) refl) ∙ ap (λ c. Copy (s source) c p) (h 1 (in_format f (access target p mode.Write)) refl)
  same_verb (Reduce Sum source target p) h = ap (λ c. Reduce Sum c (r target) p) (h 0 (in_format f (access source p mode.Read)) refl) ∙ ap (λ c. Reduce Sum (s source) c p) (h 1 (in_format f (access target p mode.Sum)) refl)
  same_verb (Reduce Min source target p) h = ap (λ c. Reduce Min c (r target) p) (h 0 (in_format f (access source p mode.Read)) refl) ∙ ap (λ c. Reduce Min (s source) c p) (h 1 (in_format f (access target p mode.Least)) refl)
  same_verb (Reduce Max source target p) h = ap (λ c. Reduce Max c (r target) p) (h 0 (in_format f (access source p mode.Read)) refl) ∙ ap (λ c. Reduce Max (s source) c p) (h 1 (in_format f (access target p mode.Most)) refl)
  same_verb (Task kernel) h = ap (λ k. Task k) (same_kernel kernel h)
  same_verb User h = refl
  same_verb (Trigger u) h = refl
  same_verb (Cancel u) h = refl
  same_verb (Merge es) h = refl
  same_verb (MergeIgnore es) h = refl
  same_verb (Phase b) h = refl
  same_verb (Arrive p value weight) h = refl
  same_verb (Acquire l shared) h = refl
  same_verb (Release q) h = refl
  same_verb (Call call) h = refl

-- a verb without columns of instances stays
pub stays : (r : ℕ → ℕ) (v : Verb) → ((t p x : ℕ) → v ≡ Fill t p x → ⊥) → ((x t p : ℕ) → v ≡ Copy x t p → ⊥) → ((o : Op) (x t p : ℕ) → v ≡ Reduce o x t p → ⊥) → ((k : Kernel) → v ≡ Task k → ⊥) → v ≡ verb_on r v
stays r (Fill t p x) fill copy reduce task = absurd (fill t p x refl)
stays r (Copy x t p) fill copy reduce task = absurd (copy x t p refl)
stays r (Reduce o x t p) fill copy reduce task = absurd (reduce o x t p refl)
stays r (Task k) fill copy reduce task = absurd (task k refl)
stays r v fill copy reduce task = refl

-- PLACES
pub some_place : (t : Piece → Bool) (pieces : List Piece) (x : Piece) → Contains pieces x → t x ≡ true → (k : ℕ) × (position t pieces ≡ Some k)
some_place t pieces x c h = some_is (position t pieces) (sym (position_any t pieces) ∙ passes_some t pieces x c h)

module _ (g : GraphValue) (us : Unions) (pieces : List Piece) (fits : IsGraph g) (are : ArePieces g us pieces) where
  -- the piece of an access
  placed : (i : ℕ) (a : Access) → Contains (accesses g i) a → place_of g us pieces a.column (point_at (space_at g a.space) 0) ≡ piece_at g us pieces a.column (point_at (space_at g a.space) 0)
  placed i a c =
      let x = are.covers i a c in
      let p : ℕ = point_at (space_at g a.space) 0 in
      let h : has_point (space_at g a.space) p ≡ true = first_point (space_at g a.space) (accesses_fit g i a fits c).is_space in
      let at : has_cell g us a.column p x.0 ≡ true = and_from (x.0.column == a.column) (has_point (piece_space g us x.0.space) p) (eq-eqb x.0.column a.column x.2) (x.3 p h) in
      let k = some_place (has_cell g us a.column p) pieces x.0 x.1 at in
      ap (λ o. option_map_or (λ (j : ℕ). j) o a.column) k.1 ∙ sym (ap (λ o. option_map_or (λ (j : ℕ). j) o (length pieces + a.column)) k.1)

  named_by : (i : ℕ) (a : Access) → Contains (accesses g i) a → (o : Option Access) → find (λ (b : Access). b.column == a.column) (accesses g i) ≡ o →
      option_map_or (λ (b : Access). place_of g us pieces a.column (point_at (space_at g b.space) 0)) o a.column
      ≡ option_map_or (λ (b : Access). piece_at g us pieces a.column (point_at (space_at g b.space) 0)) o (length pieces + a.column)
  named_by i a c None e = absurd (true≢false (sym (eq-eqb a.column a.column refl) ∙ find_none (λ (b : Access). b.column == a.column) (accesses g i) e a c))
  named_by i a c (Some b) e =
      let f = find_is (λ (x : Access). x.column == a.column) (accesses g i) b e in
      let same : b.column ≡ a.column = eqb-true b.column a.column f.1 in
      subst (λ d. place_of g us pieces d (point_at (space_at g b.space) 0) ≡ piece_at g us pieces d (point_at (space_at g b.space) 0)) same (placed i b f.0)

  same_name : (i : ℕ) (a : Access) → Contains (accesses g i) a → name_of g us pieces i a.column ≡ named_at g us pieces i a.column
  same_name i a c = named_by i a c (find (λ (b : Access). b.column == a.column) (accesses g i)) refl

  -- the verb of a line
  pub verb_named : (i : ℕ) (l : Line) → slice_get g.lines i ≡ Some l → verb_on (name_of g us pieces i) l.verb ≡ verb_on (named_at g us pieces i) l.verb
  verb_named i l at = same_verb g.format (name_of g us pieces i) (named_at g us pieces i) l.verb (λ k a got. same_name i a (got_contains (accesses g i) k a (there k a got)))
    where
      there : (k : ℕ) (a : Access) → slice_get (map (in_format g.format) (verb_accesses l.verb)) k ≡ Some a → slice_get (accesses g i) k ≡ Some a
      there k a got = ap (λ (o : Option Line). slice_get (map (in_format g.format) (option_map_or verb_accesses (option_map (λ (x : Line). x.verb) o) [])) k) at ∙ got

  -- and the line
  pub line_named : (i : ℕ) (l copy line : Line) → slice_get g.lines i ≡ Some l → copy ≡ l → line ≡ record { name = copy.name; verb = verb_on (name_of g us pieces i) copy.verb; «on» = copy.on } → line ≡ line_on (named_at g us pieces i) l
  line_named i l copy line at same made =
      made ∙ (ap (λ (x : Line). record { name = x.name; verb = verb_on (name_of g us pieces i) x.verb; «on» = x.on }) same
      ∙ ap (λ (v : Verb). record { name = l.name; verb = v; «on» = l.on }) (verb_named i l at))
