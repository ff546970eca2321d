-- A plan that is valid and greedy so far, with one more line.
use Rattle.std.proofs.Common.{◌≡◌, ℕ, ◌+◌, ◌<◌, ◌≤◌, Bool, true, ◌⊎◌, inl, inr, List, length, sym, ◌∙◌, ap, subst, arith}
use Rattle.std.specs.Prelude.{Contains, Option, Some, slice_set}
use Rattle.std.proofs.lemmas.Bool.{cases_lt, cases_eq}
use Rattle.std.proofs.lemmas.List.{length-set}
use Rattle.std.proofs.lemmas.Option.{same_Some}
use Rattle.graph_terms.specs.declared.verb.Edge.{Edge}
use Rattle.graph_terms.specs.Graph.{GraphValue}
use Rattle.graph_terms.specs.Edges.{edges}
use Rattle.graph_terms.proofs.Public.{both_shared_swap}
use Rattle.realm_timeline.specs.declared.slot.Slot.{Slot}
use Rattle.realm_timeline.specs.Plan.{cost, Planned, HasSlot, IsPartialPlan, FinishedBy, ReleasedBy, Exclude, IsValid, IsMoment, IsReadyAt, IsFreeFor, MayStart}
use Rattle.realm_timeline.specs.State.{MayStartNow, IsGreedyUpTo}
use Rattle.realm_timeline.specs.Columns.{Collide, AreApart}
use Rattle.realm_timeline.proofs.Hindering.{collide_swapped}
use Rattle.realm_timeline.proofs.SlotFacts.{takes_time}
use Rattle.realm_timeline.proofs.ConsistentStart.{slot_here, slot_there}

pub excludes_swapped : (g : GraphValue) (i k : ℕ) → Exclude g i k → Exclude g k i
excludes_swapped g i k r = record { different = λ e. r.different (sym e); apart = both_shared_swap g k i ∙ r.apart; lock = r.lock; one = r.other; other = r.one }

-- a line that runs on a processor at time t, and is below another where it starts then
pub record RunsBelow (plan : List (Option Slot)) (t r line : ℕ) : Type 0 where
  pub other : ℕ
  pub slot : Slot
  pub has : HasSlot plan other slot
  pub on : slot.processor ≡ r
  pub since : slot.start ≤ t
  pub until : t < slot.finish
  pub lower : slot.start ≡ t → other < line

module _ (g : GraphValue) (b : Bool) (p : ℕ) (plan : List (Option Slot)) (t : ℕ) (sf : IsGreedyUpTo g b p plan t) (line : ℕ) (x : Slot) (no_slot : (y : Slot) → HasSlot plan line y → ⊥) (below : line < length plan) (starts : x.start ≡ t) (finishes : x.finish ≡ t + cost g line) where
  next : List (Option Slot)
  next = slice_set plan line (Some x)

  pub more : (i : ℕ) (y : Slot) → HasSlot plan i y → HasSlot (slice_set plan line (Some x)) i y
  more i y h = slot_there plan line x i (λ e. no_slot y (subst (λ z. HasSlot plan z y) e h)) ∙ h

  here : HasSlot (slice_set plan line (Some x)) line x
  here = slot_here plan line x below

  slot_case : (i : ℕ) (y : Slot) → HasSlot (slice_set plan line (Some x)) i y → ((i ≡ line) × (y ≡ x)) ⊎ HasSlot plan i y
  slot_case i y h = elim (cases_eq i line) [
    | inl at ↦ inl (at, same_Some y x (sym (subst (λ z. HasSlot (slice_set plan line (Some x)) z y) at h) ∙ here))
    | inr apart ↦ inr (sym (slot_there plan line x i apart) ∙ h)
  ]

  start_of : (y : Slot) → y ≡ x → y.start ≡ t
  start_of y e = ap (λ (z : Slot). z.start) e ∙ starts

  finish_of : (y : Slot) → y ≡ x → t < y.finish
  finish_of y e = let a : y.finish ≡ x.finish = ap (λ (z : Slot). z.finish) e in let b : x.finish ≡ t + cost g line = finishes in omega arith

  finished_more : (u i : ℕ) → FinishedBy plan u i → FinishedBy (slice_set plan line (Some x)) u i
  finished_more u i f = (f.0, more i f.0 f.1, f.2)

  pub finished_fewer : (u i : ℕ) → u ≤ t → FinishedBy (slice_set plan line (Some x)) u i → FinishedBy plan u i
  finished_fewer u i early f = elim (slot_case i f.0 f.1) [
    | inl new ↦ (let a : t < f.0.finish = finish_of f.0 new.1 in let b : f.0.finish ≤ u = f.2 in absurd (omega arith))
    | inr old ↦ (f.0, old, f.2)
  ]

  released_more : (u i : ℕ) → ReleasedBy g plan u i → ReleasedBy g (slice_set plan line (Some x)) u i
  released_more u i r = (r.0, r.1, finished_more u r.0 r.2)

  released_fewer : (u i : ℕ) → u ≤ t → ReleasedBy g (slice_set plan line (Some x)) u i → ReleasedBy g plan u i
  released_fewer u i early r = (r.0, r.1, finished_fewer u r.0 early r.2)

  moment_more : (u : ℕ) → IsMoment plan u → IsMoment (slice_set plan line (Some x)) u
  moment_more u (inl e) = inl e
  moment_more u (inr m) = inr (m.0, m.1, more m.0 m.1 m.2, m.3)

  moment_fewer : (u : ℕ) → u ≤ t → IsMoment (slice_set plan line (Some x)) u → IsMoment plan u
  moment_fewer u early (inl e) = inl e
  moment_fewer u early (inr m) = elim (slot_case m.0 m.1 m.2) [
    | inl new ↦ (let a : t < m.1.finish = finish_of m.1 new.1 in let b : m.1.finish ≡ u = m.3 in absurd (omega arith))
    | inr old ↦ inr (m.0, m.1, old, m.3)
  ]

  ready_fewer : (u i : ℕ) → u ≤ t → IsReadyAt g (slice_set plan line (Some x)) u i → IsReadyAt g plan u i
  ready_fewer u i early r = record {
    planned = r.planned;
    waits = λ y h. r.waits y (more i y h);
    sources = λ e c to. finished_fewer u e.from early (r.sources e c to);
    unheld = λ k excludes y h before. released_fewer u k early (r.unheld k excludes y (more k y h) before);
  }

  free_fewer : (u i q : ℕ) → IsFreeFor (slice_set plan line (Some x)) u i q → IsFreeFor plan u i q
  free_fewer u i q f = record {
    before = λ k y h. f.before k y (more k y h);
    beside = λ k y h. f.beside k y (more k y h);
  }

  may_fewer : (u i : ℕ) → MayStart g p (slice_set plan line (Some x)) u i → MayStart g p plan u i
  may_fewer u i m = record {
    processor = m.processor;
    known = m.known;
    free = free_fewer u i m.processor m.free;
    first = λ k excludes lower y h. m.first k excludes lower y (more k y h);
  }

  now_fewer : (u i : ℕ) → u ≤ t → MayStartNow g b p (slice_set plan line (Some x)) u i → MayStartNow g b p plan u i
  now_fewer u i early m = record {
    ready = ready_fewer u i early m.ready;
    may = may_fewer u i m.may;
    free = λ on k c y h. m.free on k c y (more k y h);
    first = λ on k c lower y h. m.first on k c lower y (more k y h);
  }

  module _ (planned : Planned g line) (known : x.processor < p) (sources : (e : Edge) → Contains (edges g) e → e.to ≡ line → FinishedBy plan t e.from) (released : (i : ℕ) (y : Slot) → Exclude g i line → HasSlot plan i y → ReleasedBy g plan t i)
      (columns : b ≡ true → (i : ℕ) (y : Slot) → Collide g i line → HasSlot plan i y → y.finish ≤ t) (free : (i : ℕ) (y : Slot) → HasSlot plan i y → y.processor ≡ x.processor → y.finish ≤ t) (busy : (r : ℕ) → r < x.processor → RunsBelow plan t r line) where
    some_more : IsPartialPlan g p (slice_set plan line (Some x))
    some_more = record {
      each_line = simp length-set sf.some.each_line;
      planned = λ i y h. elim (slot_case i y h) [ inl new ↦ subst (Planned g) (sym new.0) planned | inr old ↦ sf.some.planned i y old ];
      processor = λ i y h. elim (slot_case i y h) [ inl new ↦ subst (λ (z : Slot). z.processor < p) (sym new.1) known | inr old ↦ sf.some.processor i y old ];
      finish = λ i y h. elim (slot_case i y h) [
        | inl new ↦ (
            let a : y.start ≡ t = start_of y new.1 in
            let b : y.finish ≡ x.finish = ap (λ (z : Slot). z.finish) new.1 in
            let c : x.finish ≡ t + cost g line = finishes in
            let d : cost g i ≡ cost g line = ap (cost g) new.0 in
            let e : y.finish ≡ y.start + cost g i = omega arith in e)
        | inr old ↦ sf.some.finish i y old
      ];
    }

    processor_of : (y : Slot) → y ≡ x → y.processor ≡ x.processor
    processor_of y e = ap (λ (z : Slot). z.processor) e

    valid_more : IsValid g (slice_set plan line (Some x))
    valid_more = record {
      apart = λ i k y z hy hz different same. elim (slot_case i y hy) [
        | inl new ↦ elim (slot_case k z hz) [
          | inl also ↦ absurd (different (new.0 ∙ sym also.0))
          | inr old ↦ (let a : z.finish ≤ t = free k z old (sym same ∙ processor_of y new.1) in let b : y.start ≡ t = start_of y new.1 in inr (omega arith))
        ]
        | inr old ↦ elim (slot_case k z hz) [
          | inl new ↦ (let a : y.finish ≤ t = free i y old (same ∙ processor_of z new.1) in let b : z.start ≡ t = start_of z new.1 in inl (omega arith))
          | inr also ↦ sf.valid.apart i k y z old also different same
        ]
      ];
      sources = λ e c y hy. elim (slot_case e.to y hy) [
        | inl new ↦ subst (λ u. FinishedBy (slice_set plan line (Some x)) u e.from) (sym (start_of y new.1)) (finished_more t e.from (sources e c new.0))
        | inr old ↦ finished_more y.start e.from (sf.valid.sources e c y old)
      ];
      sections = λ i k excludes y z hy hz. elim (slot_case i y hy) [
        | inl new ↦ elim (slot_case k z hz) [
          | inl also ↦ absurd (excludes.different (new.0 ∙ sym also.0))
          | inr old ↦ inr (subst (λ u. ReleasedBy g (slice_set plan line (Some x)) u k) (sym (start_of y new.1)) (released_more t k (released k z (subst (Exclude g k) new.0 (excludes_swapped g i k excludes)) old)))
        ]
        | inr old ↦ elim (slot_case k z hz) [
          | inl new ↦ inl (subst (λ u. ReleasedBy g (slice_set plan line (Some x)) u i) (sym (start_of z new.1)) (released_more t i (released i y (subst (Exclude g i) new.0 excludes) old)))
          | inr also ↦ elim (sf.valid.sections i k excludes y z old also) [ inl a ↦ inl (released_more z.start i a) | inr b ↦ inr (released_more y.start k b) ]
        ]
      ];
    }

    apart_more : b ≡ true → AreApart g (slice_set plan line (Some x))
    apart_more on i k c y z hy hz = elim (slot_case i y hy) [
      | inl new ↦ elim (slot_case k z hz) [
        | inl also ↦ absurd (c.different (new.0 ∙ sym also.0))
        | inr old ↦ (let a : z.finish ≤ t = columns on k z (subst (Collide g k) new.0 (collide_swapped g i k c)) old in let s : y.start ≡ t = start_of y new.1 in inr (omega arith))
      ]
      | inr old ↦ elim (slot_case k z hz) [
        | inl new ↦ (let a : y.finish ≤ t = columns on i y (subst (Collide g i) new.0 c) old in let s : z.start ≡ t = start_of z new.1 in inl (omega arith))
        | inr also ↦ sf.apart on i k c y z old also
      ]
    ]

    free_of_new : IsFreeFor (slice_set plan line (Some x)) t line x.processor
    free_of_new = record {
      before = λ k y h on before. elim (slot_case k y h) [
        | inl new ↦ (let a : y.start ≡ t = start_of y new.1 in absurd (omega arith))
        | inr old ↦ free k y old on
      ];
      beside = λ k y h on at. elim (slot_case k y h) [
        | inl new ↦ (let a : k ≡ line = new.0 in omega arith)
        | inr old ↦ (let a : y.finish ≤ t = free k y old on in let b : y.start < y.finish = takes_time g p plan sf.some k y old in absurd (omega arith))
      ];
    }

    free_of_old : (i : ℕ) (y : Slot) → HasSlot plan i y → IsFreeFor (slice_set plan line (Some x)) y.start i y.processor
    free_of_old i y h =
        let early : y.start ≤ t = sf.early i y h in
        let takes : y.start < y.finish = takes_time g p plan sf.some i y h in
        record {
          before = λ k z hz on before. elim (slot_case k z hz) [
            | inl new ↦ (let a : z.start ≡ t = start_of z new.1 in absurd (omega arith))
            | inr old ↦ (sf.free i y h).before k z old on before
          ];
          beside = λ k z hz on at. elim (slot_case k z hz) [
            | inl new ↦ (let a : z.start ≡ t = start_of z new.1 in let b : y.finish ≤ t = free i y h (sym on ∙ processor_of z new.1) in absurd (omega arith))
            | inr old ↦ (sf.free i y h).beside k z old on at
          ];
        }

    lowest_of_new : (r : ℕ) → IsFreeFor (slice_set plan line (Some x)) t line r → x.processor ≤ r
    lowest_of_new r f = elim (cases_lt r x.processor) [
      | inl lower ↦ (
          let b : RunsBelow plan t r line = busy r lower in
          let until : t < b.slot.finish = b.until in
          let since : b.slot.start ≤ t = b.since in
          elim (cases_lt b.slot.start t) [
            | inl before ↦ (let d : b.slot.finish ≤ t = f.before b.other b.slot (more b.other b.slot b.has) b.on before in absurd (omega arith))
            | inr at ↦ (
                let e : b.slot.start ≡ t = omega arith in
                let d : line ≤ b.other = f.beside b.other b.slot (more b.other b.slot b.has) b.on e in
                let l : b.other < line = b.lower e in absurd (omega arith))
          ])
      | inr above ↦ above
    ]

    pub up_to_now_more : IsGreedyUpTo g b p (slice_set plan line (Some x)) t
    up_to_now_more = record {
      some = some_more;
      valid = valid_more;
      apart = apart_more;
      moments = λ i y h. elim (slot_case i y h) [
        | inl new ↦ subst (IsMoment (slice_set plan line (Some x))) (sym (start_of y new.1)) (moment_more t sf.moment)
        | inr old ↦ moment_more y.start (sf.moments i y old)
      ];
      free = λ i y h. elim (slot_case i y h) [
        | inl new ↦ subst (λ (z : Slot). IsFreeFor (slice_set plan line (Some x)) z.start i z.processor) (sym new.1)
            (subst (λ j. IsFreeFor (slice_set plan line (Some x)) x.start j x.processor) (sym new.0) (subst (λ u. IsFreeFor (slice_set plan line (Some x)) u line x.processor) (sym starts) free_of_new))
        | inr old ↦ free_of_old i y old
      ];
      lowest = λ i y h r f. elim (slot_case i y h) [
        | inl new ↦ subst (λ (z : Slot). z.processor ≤ r) (sym new.1)
            (lowest_of_new r (subst (λ u. IsFreeFor (slice_set plan line (Some x)) u line r) (start_of y new.1) (subst (λ j. IsFreeFor (slice_set plan line (Some x)) y.start j r) new.0 f)))
        | inr old ↦ sf.lowest i y old r (free_fewer y.start i r f)
      ];
      early = λ i y h. elim (slot_case i y h) [
        | inl new ↦ (let a : y.start ≡ t = start_of y new.1 in omega arith)
        | inr old ↦ sf.early i y old
      ];
      moment = moment_more t sf.moment;
      greedy = λ u before moment i may. (
          let early : u ≤ t = omega arith in
          let r = sf.greedy u before (moment_fewer u early moment) i (now_fewer u i early may) in
          (r.0, more i r.0 r.1, r.2));
    }
