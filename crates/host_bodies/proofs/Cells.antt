-- Which cells a line uses, may change and reduces into, by its accesses.
use Rattle.std.proofs.Common.{◌≡◌, ℕ, true, false, refl, sym, ◌∙◌, ap, subst}
use Rattle.std.specs.Prelude.{Contains, ◌==◌, not, ◌&&◌, ◌≢◌}
use Rattle.std.proofs.lemmas.Bool.{true≢false, and_parts, not-true, eqb-true, eq-eqb, false_from_ne_true}
use Rattle.index_spaces.specs.Space.{has_point}
use Rattle.graph_terms.specs.declared.verb.Access.{Access}
use Rattle.graph_terms.specs.declared.verb.Mode.{Mode}
use Rattle.graph_terms.specs.declared.verb.Mode.TheVariants.{Read, Write, Sum, Least, Most}
use Rattle.graph_terms.specs.Graph.{GraphValue, space_at}
use Rattle.graph_terms.specs.Access.{all_accesses, is_read, is_reduction, modes_clash, Conflict}
use Rattle.graph_meaning.specs.Effect.{Change, Effects, Cells, touches, Untouched}
use Rattle.graph_meaning.specs.Laws.{FitsMode, KeepsToAccesses}
use Rattle.basics.proofs.ListFacts.{some_passes, passes_some}
use Rattle.host_bodies.specs.Host.{covers, uses, may_change, reduces}

-- an access of a line that covers a cell
pub record Covered (g : GraphValue) (k c p : ℕ) (a : Access) : Type 0 where
  pub listed : Contains (all_accesses g k) a
  pub column : a.column ≡ c
  pub point : has_point (space_at g a.space) p ≡ true

abbrev covered : {g : GraphValue} {k c p : ℕ} (a : Access) → Contains (all_accesses g k) a → covers g c p a ≡ true → Covered g k c p a
covered {g} {k} {c} {p} a listed e =
    let parts = and_parts (a.column == c) (has_point (space_at g a.space) p) e in
    record { listed = listed; column = eqb-true a.column c parts.0; point = parts.1 }

covers_by : {g : GraphValue} {k c p : ℕ} (a : Access) → Covered g k c p a → covers g c p a ≡ true
covers_by {g} {k} {c} {p} a v = ap (λ b. b && has_point (space_at g a.space) p) (eq-eqb a.column c v.column) ∙ v.point

pub used_by : (g : GraphValue) (k c p : ℕ) → uses g k c p ≡ true → (a : Access) × Covered g k c p a
used_by g k c p e = let s = some_passes (covers g c p) (all_accesses g k) e in (s.0, covered s.0 s.1 s.2)

pub changed_by : (g : GraphValue) (k c p : ℕ) → may_change g k c p ≡ true → (a : Access) × Covered g k c p a × (is_read a.mode ≡ false)
changed_by g k c p e =
    let s = some_passes (λ (a : Access). not (is_read a.mode) && covers g c p a) (all_accesses g k) e in
    let parts = and_parts (not (is_read s.0.mode)) (covers g c p s.0) s.2 in
    (s.0, covered s.0 s.1 parts.1, not-true (is_read s.0.mode) parts.0)

pub is_used : (g : GraphValue) (k c p : ℕ) (a : Access) → Covered g k c p a → uses g k c p ≡ true
is_used g k c p a v = passes_some (covers g c p) (all_accesses g k) a v.listed (covers_by a v)

pub is_changed : (g : GraphValue) (k c p : ℕ) (a : Access) → Covered g k c p a → is_read a.mode ≡ false → may_change g k c p ≡ true
is_changed g k c p a v r = passes_some (λ (b : Access). not (is_read b.mode) && covers g c p b) (all_accesses g k) a v.listed (ap (λ b. not b && covers g c p a) r ∙ covers_by a v)

pub is_reduced : (g : GraphValue) (k c p : ℕ) (a : Access) → Covered g k c p a → is_reduction a.mode ≡ true → reduces g k c p ≡ true
is_reduced g k c p a v r = passes_some (λ (b : Access). is_reduction b.mode && covers g c p b) (all_accesses g k) a v.listed (ap (λ b. b && covers g c p a) r ∙ covers_by a v)

-- a cell that a line may change it uses
pub changed_is_used : (g : GraphValue) (k c p : ℕ) → may_change g k c p ≡ true → uses g k c p ≡ true
changed_is_used g k c p e = let x = changed_by g k c p e in is_used g k c p x.0 x.1

-- CONFLICTS
pub clash_if : (m n : Mode) → is_read n ≡ false → modes_clash m n ≡ true
clash_if Read Read e = absurd (true≢false e)
clash_if Read Write e = refl
clash_if Read Sum e = refl
clash_if Read Least e = refl
clash_if Read Most e = refl
clash_if Write n e = refl
clash_if Sum n e = refl
clash_if Least n e = refl
clash_if Most n e = refl

-- two lines use one cell, and the second does more than read it
abbrev pub conflict_by : (g : GraphValue) (i j c p : ℕ) (a b : Access) → i ≢ j → Covered g i c p a → Covered g j c p b → is_read b.mode ≡ false → Conflict g i j
conflict_by g i j c p a b ne va vb r = record {
  different = ne;
  one = a;
  other = b;
  one_in = va.listed;
  other_in = vb.listed;
  conflict = record { column = va.column ∙ sym vb.column; meet = (p, va.point, vb.point); clash = clash_if a.mode b.mode r };
}

-- CHANGES. A change that fits a mode is by no reader
fits_no_read : (m : Mode) (x : Change) → FitsMode m x → is_read m ≡ false
fits_no_read Read x f = absurd f
fits_no_read Write x f = refl
fits_no_read Sum x f = refl
fits_no_read Least x f = refl
fits_no_read Most x f = refl

-- a line changes no cell but those that it may
pub changes_only : (g : GraphValue) (does : Effects) → KeepsToAccesses g does → (i : ℕ) (cells : Cells) (c p : ℕ) → may_change g i c p ≡ false → Untouched c p (does i cells).changes
changes_only g does keeps i cells c p e x listed = false_from_ne_true (touches c p x) (λ t.
    let w = keeps.within i cells x listed in
    let parts = and_parts (c == x.column) (p == x.point) t in
    true≢false (sym (is_changed g i c p w.access
    (record { listed = w.listed; column = w.column ∙ sym (eqb-true c x.column parts.0); point = subst (λ q. has_point (space_at g w.access.space) q ≡ true) (sym (eqb-true p x.point parts.1)) w.point })
    (fits_no_read w.access.mode x.change w.mode)) ∙ e))
