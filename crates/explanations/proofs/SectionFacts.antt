-- Sections of a line, by what two searches from it found.
use Rattle.std.proofs.Common.{◌≡◌, ℕ, ◌+◌, ◌<◌, inl, inr, List, [], ◌∷◌, ◌++◌, length, refl, sym, ap, subst, arith}
use Rattle.std.specs.Prelude.{Contains, Option, Some, None, IsSome, slice_index}
use Rattle.std.specs.Option.{option_and_then}
use Rattle.std.proofs.lemmas.Bool.{cases_lt}
use Rattle.std.proofs.lemmas.Option.{none-some, same_Some}
use Rattle.std.proofs.lemmas.List.Elements.{Contains-append_left, Contains-push, Contains-push_cases}
use Rattle.basics.proofs.ListFacts.{contains_here, contains_cases, contains_none}
use Rattle.graph_terms.specs.declared.verb.Verb.{Verb}
use Rattle.graph_terms.specs.declared.verb.Verb.TheVariants.{Acquire, Release}
use Rattle.graph_terms.specs.Graph.{GraphValue, verb_at, is_release_of}
use Rattle.graph_terms.specs.Edges.{edges}
use Rattle.graph_meaning.specs.Path.{HasPath}
use Rattle.graph_terms.specs.Reservations.{taken_by, freed_by, lock_at, acquire_at, Acquires, Releases}
use Rattle.graph_meaning.specs.Rules.{Section, NoCycleAt}
use Rattle.graph_terms.proofs.Public.{acquire_is, release_is, is_acquire_from, is_release_from, passes_below}
use Rattle.explanations.specs.declared.search.Way.TheVariants.{Back}
use Rattle.explanations.specs.Paths.{Leads, path_edges}
use Rattle.explanations.specs.Search.{near_end, far_end, origin_at, AreCounts, AreOrigins, IsFound}
use Rattle.explanations.proofs.PathFacts.{is_path, paths_listed}
use Rattle.explanations.proofs.MeetingFacts.{path_there, count_of_path}
use Rattle.explanations.proofs.ReachFacts.{from_origin, counts_along}

-- line r releases the acquire q, which was found before a line, and r after it
pub record IsSectionBy (g : GraphValue) (before after : List ℕ) (line q r : ℕ) : Type 0 where
  pub release : acquire_at g r ≡ Some q
  pub lock : IsSome (lock_at g q)
  pub entered : IsFound before line q
  pub left : IsFound after line r

freed_from : (q : ℕ) (o : Option Verb) → option_and_then freed_by o ≡ Some q → o ≡ Some (Release q)
freed_from q None h = absurd (none-some q h)
freed_from q (Some (Release k)) h = ap (λ x. Some (Release x)) (same_Some k q h)
freed_from q (Some v) h = absurd (none-some q h)

pub releases_from : (g : GraphValue) (r q : ℕ) → acquire_at g r ≡ Some q → Releases g r q
releases_from g r q e = is_release_from g r q (freed_from q (verb_at g r) e)

pub releases_is : (g : GraphValue) (r q : ℕ) → Releases g r q → acquire_at g r ≡ Some q
releases_is g r q h = ap (option_and_then freed_by) (release_is g r q h)

taken_from : (l : ℕ) (o : Option Verb) → option_and_then taken_by o ≡ Some l → (s : _) × (o ≡ Some (Acquire l s))
taken_from l None h = absurd (none-some l h)
taken_from l (Some (Acquire k s)) h = (s, ap (λ x. Some (Acquire x s)) (same_Some k l h))
taken_from l (Some v) h = absurd (none-some l h)

pub acquires_from : (g : GraphValue) (q l : ℕ) → lock_at g q ≡ Some l → Acquires g q l
acquires_from g q l e = let t = taken_from l (verb_at g q) e in is_acquire_from g q l t.0 t.1

pub lock_is : (g : GraphValue) (q l : ℕ) → Acquires g q l → lock_at g q ≡ Some l
lock_is g q l a = ap (option_and_then taken_by) (acquire_is g q l a)

some_of : (o : Option ℕ) → IsSome o → (l : ℕ) × (o ≡ Some l)
some_of None h = absurd (cc)
some_of (Some l) h = (l, refl)

some_from : (o : Option ℕ) (l : ℕ) → o ≡ Some l → IsSome o
some_from None l e = absurd (none-some l e)
some_from (Some k) l e = refl

-- a release is a line
pub release_line : (g : GraphValue) (r q : ℕ) → Releases g r q → r < length g.lines
release_line g r q h = passes_below (is_release_of q) g r h

-- the acquires of the first releases, with one more
pub found_more : (S : ℕ → ℕ → Type 0) (n q : ℕ) (xs ys : List ℕ) → ys ≡ xs ++ q ∷ [] → S q n → ((p : ℕ) → Contains xs p → (r : ℕ) × S p r) → (p : ℕ) → Contains ys p → (r : ℕ) × S p r
found_more S n q xs ys more s sound p c = elim (Contains-push_cases xs q p (subst (λ zs. Contains zs p) more c)) [ inl b ↦ sound p b | inr e ↦ subst (λ z. (r : ℕ) × S z r) e (n, s) ]

pub found_all : (S : ℕ → ℕ → Type 0) (n q : ℕ) (xs ys : List ℕ) → ys ≡ xs ++ q ∷ [] → ((p : ℕ) → S p n → p ≡ q) → ((p r : ℕ) → r < n → S p r → Contains xs p) → (p r : ℕ) → r < n + 1 → S p r → Contains ys p
found_all S n q xs ys more one complete p r b s = subst (λ zs. Contains zs p) (sym more) (elim (cases_lt r n) [
  | inl l ↦ Contains-append_left xs (q ∷ []) p (complete p r l s)
  | inr up ↦ (let e : r ≡ n = omega arith in subst (λ z. Contains (xs ++ q ∷ []) z) (sym (one p (subst (λ z. S p z) e s))) (Contains-push xs q))
])

pub found_skip : (S : ℕ → ℕ → Type 0) (n : ℕ) (xs : List ℕ) → ((p : ℕ) → S p n → ⊥) → ((p r : ℕ) → r < n → S p r → Contains xs p) → (p r : ℕ) → r < n + 1 → S p r → Contains xs p
found_skip S n xs none complete p r b s = elim (cases_lt r n) [ inl l ↦ complete p r l s | inr up ↦ absurd (let e : r ≡ n = omega arith in none p (subst (λ z. S p z) e s)) ]

module _ (g : GraphValue) (line : ℕ) (before after : List ℕ) (origins : _) (b : AreCounts (edges g) (near_end Back) (far_end Back) (Contains (line ∷ [])) (slice_index before))
    (a : AreCounts (edges g) (λ e. e.from) (λ e. e.to) (Contains (line ∷ [])) (slice_index after)) (o : AreOrigins (edges g) (λ e. e.from) (λ e. e.to) (line ∷ []) after origins) where
  -- a line that was found after this one
  path_after : (r : ℕ) → IsFound after line r → HasPath g line r
  path_after r f =
      let p = from_origin (edges g) (line ∷ []) after origins a o (slice_index after r) r (omega arith) f.1 in
      let start : line ≡ (origin_at origins r).start = elim (contains_cases line [] (origin_at origins r).start p.4) [ inl e ↦ e | inr n ↦ absurd (contains_none (origin_at origins r).start n) ] in
      by_list p.0 (subst (λ z. Leads (edges g) z r p.0) (sym start) p.1)
    where
      by_list : (q : List _) → Leads (edges g) line r q → HasPath g line r
      by_list [] l = absurd (f.0 (sym l))
      by_list (x ∷ q) l = (paths_listed.each g line r (x ∷ q) (record { some = omega arith; leads = l })).0

  pub is_section : (q r : ℕ) → IsSectionBy g before after line q r → (l : ℕ) × Section g l q line
  is_section q r s =
      let l = some_of (lock_at g q) s.lock in (
        l.0,
        record {
          acquires = acquires_from g q l.0 l.1;
          entered = path_there g line (slice_index before) b q s.entered.0 s.entered.1;
          release = r;
          releases = releases_from g r q s.release;
          left = path_after r s.left;
        },
      )

  pub section_by : NoCycleAt g line → (l q : ℕ) (s : Section g l q line) → IsSectionBy g before after line q s.release
  section_by acyclic l q s = record {
    release = releases_is g s.release q s.releases;
    lock = some_from (lock_at g q) l (lock_is g q l s.acquires);
    entered = (λ e. acyclic (subst (λ z. HasPath g z line) e s.entered), (count_of_path g line (slice_index before) b q (path_edges s.entered) (is_path g q line s.entered)).0);
    left = (
      λ e. acyclic (subst (λ z. HasPath g line z) e s.left),
      (let one : slice_index after line ≡ 1 = a.starts line (contains_here line []) in
          (counts_along (edges g) (line ∷ []) after origins a o line s.release (path_edges s.left) (let h : 0 < slice_index after line = omega arith in h) (is_path g line s.release s.left).leads).0),
    );
  }
