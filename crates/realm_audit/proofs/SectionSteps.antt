-- Which sections are open, place by place.
use Rattle.std.proofs.Common.{◌≡◌, ℕ, ◌+◌, ◌<◌, Bool, true, false, inl, inr, List, sym, ◌∙◌, ap, subst, arith}
use Rattle.std.specs.Prelude.{Option, Some, slice_get}
use Rattle.std.proofs.lemmas.Bool.{true≢false, cases_eq, false_from_ne_true}
use Rattle.graph_terms.specs.declared.verb.Verb.{Verb}
use Rattle.graph_terms.specs.declared.verb.Verb.TheVariants.{Acquire, Release}
use Rattle.graph_terms.specs.Graph.{GraphValue, line_passes, is_shared}
use Rattle.graph_terms.specs.Fits.{IsGraph}
use Rattle.graph_meaning.specs.Path.{HasPath}
use Rattle.graph_terms.specs.Reservations.{Acquires, Releases}
use Rattle.graph_meaning.specs.Rules.{Accepted}
use Rattle.graph_meaning.specs.Laws.{OrderListsEnded}
use Rattle.graph_terms.proofs.Public.{acquire_is, release_is, release_one, one_release}
use Rattle.realm_audit.specs.Lawful.{StandsEarlier, IsOpenAt, IsSoundBefore}
use Rattle.realm_audit.specs.Prefix.{Takes, AreOpen, OpensSection, stands_in}
use Rattle.realm_audit.proofs.Earlier.{earlier_none, earlier_by, earlier_more, earlier_here, earlier_cases}
use Rattle.realm_audit.proofs.Closed.{path_earlier}

-- an acquire is no release
acquire_frees_none : (g : GraphValue) (i l q : ℕ) → Acquires g i l → Releases g i q → ⊥
acquire_frees_none g i l q a r = (let e : ◌≡◌ {A = Option Verb} (Some (Acquire l (line_passes is_shared g i))) (Some (Release q)) = sym (acquire_is g i l a) ∙ release_is g i q r in cc)

-- a release of an acquire whose section is not open ends no section
pub ends_no_other : (g : GraphValue) (i q : ℕ) (opened : ℕ → Bool) → Releases g i q → opened q ≡ false → (p : ℕ) → opened p ≡ true → Releases g i p → ⊥
ends_no_other g i q opened rel shut p is frees = true≢false (sym is ∙ (ap opened (release_one g i p q frees rel) ∙ shut))

-- no section is open at the first place
pub none_open : (g : GraphValue) (trace : List ℕ) (opened : ℕ → Bool) → ((q : ℕ) → opened q ≡ false) → AreOpen g trace 0 opened
none_open g trace opened none q = ((λ e. absurd (true≢false (sym e ∙ none q))), (λ h. absurd (earlier_none trace q h.2.0)))

-- line i stands at place k, and no place up to it has a fault
module _ (law : OrderListsEnded) (g : GraphValue) (fits : IsGraph g) (ok : Accepted g) (trace : List ℕ) (k i : ℕ) (at : slice_get trace k ≡ Some i) (sound : IsSoundBefore g trace (k + 1)) where
  -- a section that i does not end stays open
  stays_open : (q : ℕ) → (Releases g i q → ⊥) → IsOpenAt g trace k q → IsOpenAt g trace (k + 1) q
  stays_open q keeps o = (earlier_more trace k q o.0, (λ r rel s. elim (earlier_cases trace k i r at s) [ inl same ↦ keeps (subst (λ z. Releases g z q) (sym same) rel) | inr before ↦ o.1 r rel before ]))

  was_open : (q : ℕ) → (i ≡ q → ⊥) → IsOpenAt g trace (k + 1) q → IsOpenAt g trace k q
  was_open q other o = (
    elim (earlier_cases trace k i q at o.0) [ inl same ↦ absurd (other same) | inr before ↦ before ],
    (λ r rel s. o.1 r rel (earlier_more trace k r s)),
  )

  not_twice : StandsEarlier trace k i → ⊥
  not_twice s = (sound k (omega arith)).once (i, at, s)

  -- an acquire at this place opens its section
  opens : (l : ℕ) → Acquires g i l → IsOpenAt g trace (k + 1) i
  opens l a = (earlier_here trace k i at, later)
    where
      later : (r : ℕ) → Releases g r i → StandsEarlier trace (k + 1) r → ⊥
      later r rel s = elim (earlier_cases trace k i r at s) [
        | inl same ↦ acquire_frees_none g i l i a (subst (λ z. Releases g z i) (sym same) rel)
        | inr before ↦ (let own = ok.released i l a in
            let path : HasPath g i r = subst (λ z. HasPath g i z) (one_release g fits i own.0 r own.1 rel) own.2 in
            let b : before.0 < k = before.1 in
            not_twice (earlier_by trace before.0 k i (omega arith) (path_earlier law g trace (k + 1) sound path before.0 (omega arith) before.2)))
      ]

  pub not_open : (opened : ℕ → Bool) → AreOpen g trace k opened → opened i ≡ false
  not_open opened are = false_from_ne_true (opened i) (λ e. not_twice ((are i).0 e).2.0)

  pub open_begun : (l : ℕ) (old new : List Bool) → Takes g i l → AreOpen g trace k (stands_in old) → OpensSection old new i → AreOpen g trace (k + 1) (stands_in new)
  open_begun l old new takes are o q = elim (cases_eq q i) [
    | inl same ↦ (
      (λ e. subst (λ z. (m : ℕ) × Takes g z m × IsOpenAt g trace (k + 1) z) (sym same) (l, takes, opens l takes.0)),
      (λ h. ap (stands_in new) same ∙ o.opened),
    )
    | inr apart ↦ (
      (λ e. (let h = (are q).0 (sym (o.others q apart) ∙ e) in (h.0, h.1, stays_open q (acquire_frees_none g i l q takes.0) h.2))),
      (λ h. o.others q apart ∙ (are q).1 (h.0, h.1, was_open q (λ is. apart (sym is)) h.2)),
    )
  ]

  pub open_ended : (q : ℕ) (old new : List Bool) → Releases g i q → AreOpen g trace k (stands_in old) → OpensSection new old q → AreOpen g trace (k + 1) (stands_in new)
  open_ended q old new rel are o p = elim (cases_eq p q) [
    | inl same ↦ (
      (λ e. absurd (true≢false (sym e ∙ (ap (stands_in new) same ∙ o.closed)))),
      (λ h. absurd (h.2.1 i (subst (λ z. Releases g i z) (sym same) rel) (earlier_here trace k i at))),
    )
    | inr apart ↦ (
      (λ e. (let h = (are p).0 (o.others p apart ∙ e) in (h.0, h.1, stays_open p (λ frees. apart (release_one g i p q frees rel)) h.2))),
      (λ h. sym (o.others p apart) ∙ (are p).1 (h.0, h.1, was_open p (λ is. acquire_frees_none g p h.0 q h.1.0 (subst (λ z. Releases g z q) is rel)) h.2)),
    )
  ]

  pub open_same : (opened : ℕ → Bool) → ((l : ℕ) → Takes g i l → ⊥) → ((q : ℕ) → opened q ≡ true → Releases g i q → ⊥) → AreOpen g trace k opened → AreOpen g trace (k + 1) opened
  open_same opened takes_none ends_none are q = (
    (λ e. (let h = (are q).0 e in (h.0, h.1, stays_open q (ends_none q e) h.2))),
    (λ h. (are q).1 (h.0, h.1, was_open q (λ is. takes_none h.0 (subst (λ z. Takes g z h.0) (sym is) h.1)) h.2)),
  )
