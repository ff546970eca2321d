-- The acquires that hold their reservations, found one after another by their releases.
use Rattle.std.proofs.Common.{◌≡◌, ℕ, ◌+◌, ◌<◌, ◌≤◌, true, false, inl, inr, List, length, sym, subst, arith}
use Rattle.std.specs.Prelude.{slice_set}
use Rattle.std.proofs.lemmas.Bool.{cases_eq, false_from_ne_true}
use Rattle.graph_terms.specs.Graph.{GraphValue, is_release_of}
use Rattle.graph_terms.specs.Fits.{IsGraph}
use Rattle.graph_meaning.specs.Rules.{Accepted}
use Rattle.graph_terms.specs.Reservations.{Releases}
use Rattle.graph_terms.proofs.Public.{passes_below, release_one, acquire_one, one_release}
use Rattle.run_state.specs.Run.{is_listed, list_at}
use Rattle.run_state.specs.Moves.{inserted}
use Rattle.run_state.specs.WholeLine.{lock_of, holders_with}
use Rattle.run_state.proofs.Locks.{with_holder, holder_more, holder_new, holder_cases}
use Rattle.run_state.proofs.Public.{acquires_lock}
use Rattle.run_core.specs.Resumed.{HoldsNow, AreBeside, FoundBelow}
use Rattle.run_lists.specs.Holders.{HasLock}
use Rattle.run_parts.specs.declared.states.LineState.{LineState}

-- before the first release none is found, and each acquire has a release, so at last all are
pub none_found : (g : GraphValue) (lines : List LineState) (holders : List (List ℕ)) → ((l q : ℕ) → is_listed (list_at holders l) q ≡ true → ⊥) → FoundBelow g lines holders 0
none_found g lines holders free = record {
  only = λ l q h. absurd (free l q h);
  all = λ l q r below. absurd (omega (arith, below));
}

pub all_found : (g : GraphValue) → Accepted g → (lines : List LineState) (holders : List (List ℕ)) (n : ℕ) → length g.lines ≤ n → FoundBelow g lines holders n → (l q : ℕ) → HoldsNow g lines q l → is_listed (list_at holders l) q ≡ true
all_found g accepted lines holders n many found l q h =
    let r = accepted.released q l h.acquires in
    found.all l q r.0 (let b = passes_below (is_release_of q) g r.0 r.1 in omega (arith, b, many)) r.1 h

-- a line that releases none that holds
pub found_no_more : (g : GraphValue) (lines : List LineState) (holders : List (List ℕ)) (i : ℕ) → FoundBelow g lines holders i → ((q l : ℕ) → Releases g i q → HoldsNow g lines q l → ⊥) → FoundBelow g lines holders (i + 1)
found_no_more g lines holders i found none = record {
  only = λ l q h. (let o = found.only l q h in (o.0, o.1, (let b = o.2 in omega (arith, b)), o.3));
  all = λ l q r before frees h. elim (cases_eq r i) [
    | inl is ↦ absurd (none q l (subst (λ z. Releases g z q) is frees) h)
    | inr ne ↦ found.all l q r (omega (arith, before, ne)) frees h
  ];
}

-- a release of one that holds
module _ (g : GraphValue) (is : IsGraph g) (lines : List LineState) (holders : List (List ℕ)) (i : ℕ) (found : FoundBelow g lines holders i) (q l : ℕ) (rel : Releases g i q) (h : HoldsNow g lines q l) where
  not_yet : (k : ℕ) → is_listed (list_at holders k) q ≡ true → ⊥
  not_yet k e =
      let o = found.only k q e in
      let same : o.1 ≡ i = one_release g is q o.1 i o.3 rel in
      let below : o.1 < i = o.2 in
      omega (arith, below, same)

  pub may_hold : AreBeside g lines → HasLock g holders q
  may_hold beside m acq k e =
      beside m q k (subst (HoldsNow g lines q) (acquire_one g q l m h.acquires acq) h) (found.only m k e).0 (λ s. not_yet m (subst (λ z. is_listed (list_at holders m) z ≡ true) (sym s) e))

  pub not_found : (k : ℕ) → is_listed (list_at holders k) q ≡ false
  not_found k = false_from_ne_true (is_listed (list_at holders k) q) (not_yet k)

  found_with : l < length holders → FoundBelow g lines (slice_set holders l (inserted q (list_at holders l))) (i + 1)
  unfolding with_holder
  found_with near = record {
    only = λ m k e. elim (holder_cases holders l q near m k e) [
      | inl s ↦ (subst (λ z. HoldsNow g lines z m) (sym s.1) (subst (HoldsNow g lines q) (sym s.0) h), i, omega (arith), subst (Releases g i) (sym s.1) rel)
      | inr old ↦ (let o = found.only m k old in (o.0, o.1, (let b = o.2 in omega (arith, b)), o.3))
    ];
    all = λ m k r before frees e. elim (cases_eq r i) [
      | inl s ↦ (
          let same : k ≡ q = release_one g i k q (subst (λ z. Releases g z k) s frees) rel in
          let lock : m ≡ l = acquire_one g q m l (subst (λ z. HoldsNow g lines z m) same e).acquires h.acquires in
          subst (λ z. is_listed (list_at (slice_set holders l (inserted q (list_at holders l))) m) z ≡ true) (sym same)
          (subst (λ z. is_listed (list_at (slice_set holders l (inserted q (list_at holders l))) z) q ≡ true) (sym lock) (holder_new holders l q near)))
      | inr ne ↦ holder_more holders l q near m k (found.all m k r (omega (arith, before, ne)) frees e)
    ];
  }

  pub found_more : l < length holders → FoundBelow g lines (holders_with holders q (lock_of g q)) (i + 1)
  found_more near = subst (λ o. FoundBelow g lines (holders_with holders q o) (i + 1)) (sym (acquires_lock g q l h.acquires)) (found_with near)
