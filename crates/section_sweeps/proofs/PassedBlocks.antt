-- What is listed of a block of 64 lines, and what is passed on of it.
use Rattle.std.proofs.Common.{◌≡◌, ℕ, ◌+◌, ◌-◌, ◌<◌, ◌≤◌, ◌⊎◌, inl, inr, List, [], ◌∷◌, ◌++◌, length, sym, ◌∙◌, ap, subst, arith, length-append}
use Rattle.std.specs.Prelude.{Option, Some, None, MatchOption, option_and_then}
use Rattle.std.specs.List.{slice_index_or}
use Rattle.std.proofs.lemmas.Bool.{cases_lt}
use Rattle.std.proofs.lemmas.List.{get_or_append_left, get_or_past}
use Rattle.std.proofs.lemmas.Option.{none-some, same_Some}
use Rattle.std.proofs.Math.Seq.{get_or-append_seam}
use Rattle.graph_terms.specs.Graph.{GraphValue}
use Rattle.graph_terms.specs.Edges.{edges}
use Rattle.graph_terms.specs.Reservations.{Releases, freed_by, acquire_at}
use Rattle.graph_meaning.proofs.Public.{path_below}
use Rattle.graph_terms.proofs.Public.{release_is}
use Rattle.section_sweeps.specs.Blocks.{IsLineOf}
use Rattle.section_sweeps.specs.Group.{AreOwn}
use Rattle.section_sweeps.specs.Passing.{AreFromBefore, AreFromBehind, ArePassedUp, ArePassedDown, IsSized}
use Rattle.section_sweeps.specs.Table.{IsTable}
use Rattle.section_sweeps.specs.declared.passing.Passing.{Passing}
use Rattle.section_sweeps.specs.declared.lookups.Table.{Table}
use Rattle.section_sweeps.specs.PassedBlocks.{AreListed, ArePassedOn, ArePassedBack}

-- lists of a block
pub listed_none : (P : ℕ → ℕ → Type 0) (first : ℕ) → AreListed P first first []
listed_none P first = record {
  size = omega arith;
  is = λ b i h. absurd (none-some i h);
  all = λ b i h p. absurd (omega arith);
}

pub line_within : (of : List (Option ℕ)) (b i : ℕ) → IsLineOf of b i → b < length of
line_within of b i h = elim (cases_lt b (length of)) [ inl l ↦ l | inr up ↦ absurd (none-some i (sym (get_or_past of b None up) ∙ h)) ]

pub listed_more : (P : ℕ → ℕ → Type 0) (first n : ℕ) (of : List (Option ℕ)) (o : Option ℕ) → first ≤ n → ((i : ℕ) → o ≡ Some i → P n i) → ((i : ℕ) → P n i → o ≡ Some i) → AreListed P first n of → AreListed P first (n + 1) (of ++ o ∷ [])
listed_more P first n of o begins is all before =
    let size : length of ≡ n - first = before.size in
    let longer : length (of ++ o ∷ []) ≡ length of + 1 = length-append of (o ∷ []) in
    let seam : slice_index_or (of ++ o ∷ []) (length of) None ≡ o = get_or-append_seam of o [] None in
    record {
      size = omega (arith, size, longer, begins);
      is = λ b i h. (
          let within : b < length (of ++ o ∷ []) = line_within (of ++ o ∷ []) b i h in
          elim (cases_lt b (length of)) [
            | inl low ↦ before.is b i (sym (get_or_append_left of (o ∷ []) None b low) ∙ h)
            | inr up ↦ (
                let here : length of ≡ b = omega (arith, within, longer, up) in
                let at : n ≡ first + b = omega (arith, size, here, begins) in
                subst (λ z. P z i) at (is i (sym seam ∙ subst (λ z. slice_index_or (of ++ o ∷ []) z None ≡ Some i) (sym here) h)))
          ]);
      all = λ b i h p. elim (cases_lt b (length of)) [
        | inl low ↦ get_or_append_left of (o ∷ []) None b low ∙ before.all b i (omega (arith, low, size, begins)) p
        | inr up ↦ (
            let here : length of ≡ b = omega (arith, h, size, up, begins) in
            let at : first + b ≡ n = omega (arith, size, here, begins) in
            subst (λ z. slice_index_or (of ++ o ∷ []) z None ≡ Some i) here (seam ∙ all i (subst (λ z. P z i) at p)))
      ];
    }

-- an item that is the one that a line has, where it has one
pub matched : (P : ℕ → ℕ → Type 0) (n : ℕ) (o : Option ℕ) → ((i k : ℕ) → P n i → P n k → i ≡ k) → MatchOption o ((i : ℕ) → P n i → ⊥) (P n) → ((i : ℕ) → o ≡ Some i → P n i) × ((i : ℕ) → P n i → o ≡ Some i)
matched P n None one h = ((λ i e. absurd (none-some i e)), (λ i p. absurd (h i p)))
matched P n (Some k) one h = ((λ i e. subst (P n) (same_Some k i e) h), (λ i p. ap Some (one k i h p)))

-- the acquire of a release
pub releases_acquire : (g : GraphValue) (r q : ℕ) → Releases g r q → acquire_at g r ≡ Some q
releases_acquire g r q h = ap (option_and_then freed_by) (release_is g r q h)

pub acquire_is : (g : GraphValue) (n : ℕ) (o : Option ℕ) → MatchOption o ((q : ℕ) → Releases g n q → ⊥) (λ q. Releases g n q × (q < length g.lines)) → ((q : ℕ) → o ≡ Some q → Releases g n q) × ((q : ℕ) → Releases g n q → o ≡ Some q)
acquire_is g n None h = ((λ i e. absurd (none-some i e)), (λ i p. absurd (h i p)))
acquire_is g n (Some k) h = ((λ i e. subst (Releases g n) (same_Some k i e) h.0), (λ i p. releases_same g n k i h.0 p))
  where
    releases_same : (g : GraphValue) (n k i : ℕ) → Releases g n k → Releases g n i → Some k ≡ Some i
    releases_same g n k i a b = sym (releases_acquire g n k a) ∙ releases_acquire g n i b

-- what a list of a block has
pub few_listed : (P : ℕ → ℕ → Type 0) (first end : ℕ) (of : List (Option ℕ)) → end ≤ first + 64 → AreListed P first end of → length of ≤ 64
few_listed P first end of few listed = let size : length of ≡ end - first = listed.size in omega arith

pub lines_known : (n first end : ℕ) (of : List (Option ℕ)) → end ≤ n → AreListed (λ q i. q ≡ i) first end of → (b i : ℕ) → IsLineOf of b i → i < n
lines_known n first end of low listed b i h =
    let at : first + b ≡ i = listed.is b i h in
    let few : b < length of = line_within of b i h in
    let size : length of ≡ end - first = listed.size in omega arith

-- the bits of a block
module _ (g : GraphValue) (t : Table) (is : IsTable g t) (P : ℕ → ℕ → Type 0) (first end : ℕ) (of : List (Option ℕ)) (listed : AreListed P first end of)
    (within : (b : ℕ) → b < 64 → first + b < length g.lines → first + b < end) (p : Passing) (size : IsSized (length g.lines) p) (own : AreOwn (IsLineOf of) p.own.items (length of)) where
  own_has : (b i : ℕ) → b < 64 → first + b < length g.lines → P (first + b) i → AreOwn (IsLineOf of) p.own.items (length of) → (b < length of) × IsLineOf of b i
  own_has b i few low here o = let at = listed.all b i (within b few low) here in (line_within of b i at, at)

  pub passed_on : (high : ℕ) → length g.lines ≤ high → AreFromBefore g p.own.items p.passed.items → ArePassedUp g t.places.items p.own.items p.passed.items high → ArePassedOn g P first p
  passed_on high all from up = record {
    own_size = size.own;
    size = size.passed;
    is = λ j b h. (let f = from j b h in (f.0, listed.is b f.0 (own.is f.0 b f.1).1, f.2));
    all = λ j b i few low here path. (
        let at = own_has b i few low here own in
        let known : j < length g.lines = (path_below (edges g) (length g.lines) is.forward.known path).1 in
        let place = (is.placed.place j known).0 in
        up i j b (own.all i b at.0 at.1) path (omega (arith, place, all)));
  }

  pub passed_back : AreFromBehind g p.own.items p.passed.items → ArePassedDown g t.places.items p.own.items p.passed.items 0 → ArePassedBack g P first p
  passed_back from down = record {
    own_size = size.own;
    size = size.passed;
    own_is = λ i b h. listed.is b i (own.is i b h).1;
    own_all = λ i b few low here. (let at = own_has b i few low here own in own.all i b at.0 at.1);
    is = λ j b h. (let f = from j b h in (f.0, listed.is b f.0 (own.is f.0 b f.1).1, f.2));
    all = λ j b i few low here path. (let at = own_has b i few low here own in down j i b (own.all i b at.0 at.1) path (omega arith));
  }
