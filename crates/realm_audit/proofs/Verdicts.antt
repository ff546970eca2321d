-- A trace without a fault is lawful, and one with a fault is not.
use Rattle.std.proofs.Common.{◌≡◌, ℕ, ◌<◌, ◌⊎◌, inl, inr, List, length, refl, sym, ◌∙◌, ap, subst, arith}
use Rattle.std.specs.Prelude.{◌≢◌, ◌↔◌, Contains, IsTrue, Some, slice_get}
use Rattle.std.proofs.lemmas.Bool.{cases_order}
use Rattle.std.proofs.lemmas.Option.{same_Some, slice_get_within}
use Rattle.basics.proofs.ListFacts.{got_contains}
use Rattle.graph_terms.specs.Graph.{GraphValue}
use Rattle.graph_terms.specs.Fits.{IsGraph}
use Rattle.graph_terms.specs.Reservations.{Releases}
use Rattle.graph_meaning.specs.Rules.{Accepted}
use Rattle.graph_meaning.specs.Evaluation.{eval_end, is_ended}
use Rattle.graph_meaning.specs.Trace.{StandsBefore, ListsEnded, IsLawful, HaveSections}
use Rattle.graph_meaning.specs.Laws.{OrderListsEnded, SectionsNeverOverlap}
use Rattle.graph_terms.proofs.Public.{both_shared_swap, one_release}
use Rattle.realm_audit.specs.declared.refusal.AuditRefusal.{AuditRefusal}
use Rattle.realm_audit.specs.declared.refusal.AuditRefusal.TheVariants.{Repeat, Waits, Source, Overlap, Missing, NoMemory}
use Rattle.realm_audit.specs.Lawful.{StandsEarlier, IsSoundBefore, IsRefusal, IsMissing}
use Rattle.realm_audit.proofs.EndFacts.{ended_from, ended_not_waiting, source_edge}
use Rattle.realm_audit.proofs.Earlier.{earlier_or_not, earlier_listed, listed_earlier}
use Rattle.realm_audit.proofs.Closed.{stands_once, stands_ended, source_earlier}

module _ (law : OrderListsEnded) (g : GraphValue) (fits : IsGraph g) (ok : Accepted g) (trace : List ℕ) (sound : IsSoundBefore g trace (length trace)) (whole : (j : ℕ) → IsMissing g trace j → ⊥) where
  ended_iff : (i : ℕ) → Contains trace i ↔ IsTrue (is_ended (eval_end g i))
  ended_iff i = (
    (λ c. (let s = listed_earlier trace i c in ended_from (eval_end g i) (stands_ended g trace s.0 i (sound s.0 s.1) s.2))),
    (λ h. elim (earlier_or_not trace (length trace) i) [
      | inl s ↦ earlier_listed trace (length trace) i s
      | inr none ↦ absurd (whole i (ended_not_waiting (eval_end g i) h, (λ c. none (listed_earlier trace i c))))
    ]),
  )

  lists_ended : ListsEnded g trace
  lists_ended = record {
    ended = ended_iff;
    once = λ k m i ek em. stands_once g trace (length trace) sound k m i (slice_get_within trace k i ek) (slice_get_within trace m i em) ek em;
    sources = λ e c listed. (let s = listed_earlier trace e.to listed in let f = source_earlier law g trace s.0 (sound s.0 s.1) e c s.2 in (f.0, s.0, f.2, s.2, f.1));
  }

  -- of two sections the first has its release before the second
  released_before : (l q p a b : ℕ) → HaveSections g l q p → slice_get trace a ≡ Some q → slice_get trace b ≡ Some p → a < b → (r : ℕ) × Releases g r q × StandsBefore trace r p
  released_before l q p a b h at_q at_p less =
      let own = ok.released q l h.acquires.0 in
      elim (earlier_or_not trace b own.0) [
        | inl s ↦ (own.0, own.1, (s.0, b, s.2, at_p, s.1))
        | inr none ↦ absurd ((sound b (slice_get_within trace b p at_p)).sections q (p, at_p, (l, h), ((a, less, at_q), (λ r rel s. none (subst (λ z. StandsEarlier trace b z) (one_release g fits q r own.0 rel own.1) s)))))
      ]

  sections_apart : (l q p : ℕ) → HaveSections g l q p → HaveSections g l p q → ((r : ℕ) × Releases g r q × StandsBefore trace r p) ⊎ ((r : ℕ) × Releases g r p × StandsBefore trace r q)
  sections_apart l q p h back =
      let s = listed_earlier trace q ((ended_iff q).1 (ap is_ended h.done.0)) in
      let t = listed_earlier trace p ((ended_iff p).1 (ap is_ended h.done.1)) in
      elim (cases_order s.0 t.0) [
        | inl same ↦ absurd (h.differ (same_Some q p (sym s.2 ∙ (ap (slice_get trace) same ∙ t.2))))
        | inr (inl below) ↦ inl (released_before l q p s.0 t.0 h s.2 t.2 below)
        | inr (inr above) ↦ inr (released_before l p q t.0 s.0 back t.2 s.2 above)
      ]

  pub sound_is_lawful : IsLawful g trace
  sound_is_lawful = record {
    lists = lists_ended;
    sections = λ l q p a b differ apart dq dp.
        sections_apart l q p (record { acquires = (a, b); differ = differ; apart = apart; done = (dq, dp) }) (record { acquires = (b, a); differ = λ e. differ (sym e); apart = both_shared_swap g p q ∙ apart; done = (dp, dq) });
  }

-- what stands before a line in a lawful trace stands before its place
before_earlier : (g : GraphValue) (trace : List ℕ) → IsLawful g trace → (i j k : ℕ) → slice_get trace k ≡ Some j → StandsBefore trace i j → StandsEarlier trace k i
before_earlier g trace t i j k at s =
    let same : s.1 ≡ k = t.lists.once s.1 k j s.3 at in
    let less : s.0 < s.1 = s.4 in (s.0, omega arith, s.2)

pub refusal_is_unlawful : SectionsNeverOverlap → (g : GraphValue) → IsGraph g → Accepted g → (trace : List ℕ) (e : AuditRefusal) → IsRefusal g trace e → e ≢ NoMemory → IsLawful g trace → ⊥
refusal_is_unlawful law g fits ok trace (Repeat k) h ne t =
    let r = h.1 in let s = r.2 in
    let same : s.0 ≡ k = t.lists.once s.0 k r.0 s.2 r.1 in
    let less : s.0 < k = s.1 in absurd (omega arith)
refusal_is_unlawful law g fits ok trace (Waits k) h ne t =
    let w = h.2 in ended_not_waiting (eval_end g w.0) ((t.lists.ended w.0).0 (got_contains trace k w.0 w.1)) w.2
refusal_is_unlawful law g fits ok trace (Source k j) h ne t =
    let f = h.3.here in
    let e = source_edge g f.0 j f.2 in
    let before = t.lists.sources e.0 e.1 (subst (λ z. Contains trace z) (sym e.3) (got_contains trace k f.0 f.1)) in
    f.4 (subst (λ z. StandsEarlier trace k z) e.2 (before_earlier g trace t e.0.from e.0.to k (f.1 ∙ ap Some (sym e.3)) before))
refusal_is_unlawful law g fits ok trace (Overlap k q) h ne t =
    let f = h.4.here in
    let sections = f.2.1 in
    let own = ok.released q f.2.0 sections.acquires.0 in
    let s = f.3.0 in
    let before = (law g trace fits ok t).released f.2.0 q f.0 own.0 sections own.1 (s.0, k, s.2, f.1, s.1) in
    f.3.1 own.0 own.1 (before_earlier g trace t own.0 f.0 k f.1 before)
refusal_is_unlawful law g fits ok trace (Missing j) h ne t =
    let m = h.1.here in m.1 ((t.lists.ended j).1 (ended_from (eval_end g j) m.0))
refusal_is_unlawful law g fits ok trace NoMemory h ne t = ne refl
