-- At most one plan of a graph is valid and greedy.
use Rattle.std.proofs.Common.{◌≡◌, ℕ, zero, suc, ◌+◌, ◌<◌, ◌≤◌, inl, inr, List, [], ◌∷◌, length, refl, sym, ◌∙◌, ap, subst, arith}
use Rattle.std.specs.Prelude.{Option, Some, None}
use Rattle.std.proofs.lemmas.Bool.{cases_lt}
use Rattle.graph_terms.specs.Graph.{GraphValue}
use Rattle.graph_meaning.specs.Rules.{Accepted}
use Rattle.graph_terms.specs.Fits.{IsGraph}
use Rattle.realm_timeline.specs.declared.slot.Slot.{Slot}
use Rattle.realm_timeline.specs.Plan.{cost, slot_at, HasSlot, IsPartialPlan, IsPlan, FinishedBy, ReleasedBy, IsValid, IsMoment, IsReadyAt, IsFreeFor, MayStart, StartsAt, IsGreedy}
use Rattle.realm_timeline.proofs.SlotFacts.{takes_time, ready_at_start}

-- a plan that is valid and greedy
record IsValidAndGreedy (g : GraphValue) (processors : ℕ) (plan : List (Option Slot)) : Type 0 where
  is_plan : IsPlan g processors plan
  valid : IsValid g plan
  greedy : IsGreedy g processors plan

-- two plans have the same slots from before time t, and at t for the lines below i
abbrev SameBefore : List (Option Slot) → List (Option Slot) → ℕ → Type 0
SameBefore a b t = (k : ℕ) (s : Slot) → HasSlot a k s → s.start < t → HasSlot b k s

abbrev SameBeside : List (Option Slot) → List (Option Slot) → ℕ → ℕ → Type 0
SameBeside a b t i = (k : ℕ) (s : Slot) → HasSlot a k s → s.start ≡ t → k < i → HasSlot b k s

record AgreeUpTo (a b : List (Option Slot)) (t i : ℕ) : Type 0 where
  before : SameBefore a b t
  back : SameBefore b a t
  beside : SameBeside a b t i
  beside_back : SameBeside b a t i

swapped : {a b : List (Option Slot)} {t i : ℕ} → AgreeUpTo a b t i → AgreeUpTo b a t i
swapped s = record { before = s.back; back = s.before; beside = s.beside_back; beside_back = s.beside }

-- slots with the same numbers are one
slot_same : (s t : Slot) → s.processor ≡ t.processor → s.start ≡ t.start → s.finish ≡ t.finish → s ≡ t
slot_same s t p a f =
    let one : s ≡ record { processor = t.processor; start = s.start; finish = s.finish } = ap (λ x. record s { processor = x }) p in
    let two : record { processor = t.processor; start = s.start; finish = s.finish } ≡ record { processor = t.processor; start = t.start; finish = s.finish } = ap (λ x. record t { start = x; finish = s.finish }) a in
    let three : record { processor = t.processor; start = t.start; finish = s.finish } ≡ t = ap (λ x. record t { finish = x }) f in
    one ∙ (two ∙ three)

module _ (g : GraphValue) (processors : ℕ) (graph : IsGraph g) (accepted : Accepted g) where
  finished_too : (a b : List (Option Slot)) (t k : ℕ) → IsPartialPlan g processors a → SameBefore a b t → FinishedBy a t k → FinishedBy b t k
  finished_too a b t k is same f =
      let takes : f.0.start < f.0.finish = takes_time g processors a is k f.0 f.1 in
      let within : f.0.finish ≤ t = f.2 in
      (f.0, same k f.0 f.1 (omega arith), within)

  released_too : (a b : List (Option Slot)) (t k : ℕ) → IsPartialPlan g processors a → SameBefore a b t → ReleasedBy g a t k → ReleasedBy g b t k
  released_too a b t k is same r = (r.0, r.1, finished_too a b t r.0 is same r.2)

  moment_too : (a b : List (Option Slot)) (t : ℕ) → IsPartialPlan g processors a → SameBefore a b t → IsMoment a t → IsMoment b t
  moment_too a b t is same (inl e) = inl e
  moment_too a b t is same (inr m) =
      let takes : m.1.start < m.1.finish = takes_time g processors a is m.0 m.1 m.2 in
      let at : m.1.finish ≡ t = m.3 in
      inr (m.0, m.1, same m.0 m.1 m.2 (omega arith), at)

  ready_too : (a b : List (Option Slot)) (t i : ℕ) → IsPartialPlan g processors a → SameBefore a b t → SameBefore b a t → IsReadyAt g a t i → IsReadyAt g b t i
  ready_too a b t i is same back r = record {
    planned = r.planned;
    waits = λ s h. elim (cases_lt s.start t) [
      | inl before ↦ (let w : t ≤ s.start = r.waits s (back i s h before) in w)
      | inr since ↦ since
    ];
    sources = λ e c to. finished_too a b t e.from is same (r.sources e c to);
    unheld = λ k excludes s h before. released_too a b t k is same (r.unheld k excludes s (back k s h before) before);
  }

  free_too : (a b : List (Option Slot)) (t i q : ℕ) → SameBefore b a t → SameBeside b a t i → IsFreeFor a t i q → IsFreeFor b t i q
  free_too a b t i q back beside f = record {
    before = λ k s h on before. f.before k s (back k s h before) on before;
    beside = λ k s h on at. elim (cases_lt k i) [
      | inl below ↦ f.beside k s (beside k s h at below) on at
      | inr above ↦ above
    ];
  }

  may_too : (a b : List (Option Slot)) (t i : ℕ) → SameBefore b a t → SameBeside b a t i → MayStart g processors a t i → MayStart g processors b t i
  may_too a b t i back beside m = record {
    processor = m.processor;
    known = m.known;
    free = free_too a b t i m.processor back beside m.free;
    first = λ k excludes below s h at. m.first k excludes below s (beside k s h at below) at;
  }

  -- a line that one plan starts, the other starts too, in the same slot
  starts_too : (a b : List (Option Slot)) (t i : ℕ) → IsValidAndGreedy g processors a → IsValidAndGreedy g processors b → AgreeUpTo a b t i → (s : Slot) → HasSlot a i s → s.start ≡ t → HasSlot b i s
  starts_too a b t i sa sb agree s h at =
      let moment : IsMoment a t = subst (IsMoment a) at (sa.greedy.moments i s h) in
      let ready : IsReadyAt g a t i = subst (λ x. IsReadyAt g a x i) at (ready_at_start g processors a graph accepted sa.is_plan.some sa.valid i s h) in
      let may : MayStart g processors a t i = (sa.greedy.each t i moment ready).0 (s, h, at) in
      let other : StartsAt b t i = (sb.greedy.each t i (moment_too a b t sa.is_plan.some agree.before moment) (ready_too a b t i sa.is_plan.some agree.before agree.back ready)).1
      (may_too a b t i agree.back agree.beside_back may) in
      let free_a : IsFreeFor a t i s.processor = subst (λ x. IsFreeFor a x i s.processor) at (sa.greedy.free i s h) in
      let free_b : IsFreeFor b t i other.0.processor = subst (λ x. IsFreeFor b x i other.0.processor) other.2 (sb.greedy.free i other.0 other.1) in
      let free_ab : IsFreeFor b other.0.start i s.processor = subst (λ x. IsFreeFor b x i s.processor) (sym other.2) (free_too a b t i s.processor agree.back agree.beside_back free_a) in
      let free_ba : IsFreeFor a s.start i other.0.processor = subst (λ x. IsFreeFor a x i other.0.processor) (sym at) (free_too b a t i other.0.processor agree.before agree.beside free_b) in
      let below : s.processor ≤ other.0.processor = sa.greedy.lowest i s h other.0.processor free_ba in
      let above : other.0.processor ≤ s.processor = sb.greedy.lowest i other.0 other.1 s.processor free_ab in
      let at_b : other.0.start ≡ t = other.2 in
      let fin_a : s.finish ≡ s.start + cost g i = sa.is_plan.some.finish i s h in
      let fin_b : other.0.finish ≡ other.0.start + cost g i = sb.is_plan.some.finish i other.0 other.1 in
      let same : s ≡ other.0 = slot_same s other.0 (omega arith) (omega arith) (omega arith) in
      subst (HasSlot b i) (sym same) other.1

  beside_more : (a b : List (Option Slot)) (t i : ℕ) → SameBeside a b t i → ((s : Slot) → HasSlot a i s → s.start ≡ t → HasSlot b i s) → SameBeside a b t (suc i)
  beside_more a b t i same here k s h at below = elim (cases_lt k i) [
    | inl lower ↦ same k s h at lower
    | inr since ↦ (let e : k ≡ i = omega arith in subst (λ x. HasSlot b x s) (sym e) (here s (subst (λ x. HasSlot a x s) e h) at))
  ]

  agree_beside : (a b : List (Option Slot)) (t : ℕ) → IsValidAndGreedy g processors a → IsValidAndGreedy g processors b → SameBefore a b t → SameBefore b a t → (i : ℕ) → AgreeUpTo a b t i
  agree_beside a b t sa sb same back zero = record {
    before = same;
    back = back;
    beside = λ k s h at below. absurd (omega arith);
    beside_back = λ k s h at below. absurd (omega arith);
  }
  agree_beside a b t sa sb same back (suc i) =
      let agree : AgreeUpTo a b t i = agree_beside a b t sa sb same back i in
      record {
        before = same;
        back = back;
        beside = beside_more a b t i agree.beside (starts_too a b t i sa sb agree);
        beside_back = beside_more b a t i agree.beside_back (starts_too b a t i sb sa (swapped agree));
      }

  before_more : (a b : List (Option Slot)) (t : ℕ) → SameBefore a b t → ((i : ℕ) → SameBeside a b t i) → SameBefore a b (suc t)
  before_more a b t same beside k s h before = elim (cases_lt s.start t) [
    | inl lower ↦ same k s h lower
    | inr since ↦ beside (suc k) k s h (omega arith) (omega arith)
  ]

  agree_before : (a b : List (Option Slot)) → IsValidAndGreedy g processors a → IsValidAndGreedy g processors b → (t : ℕ) → SameBefore a b t × SameBefore b a t
  agree_before a b sa sb zero = (λ k s h before. absurd (omega arith), λ k s h before. absurd (omega arith))
  agree_before a b sa sb (suc t) =
      let same = agree_before a b sa sb t in (
        before_more a b t same.0 (λ i. (agree_beside a b t sa sb same.0 same.1 i).beside),
        before_more b a t same.1 (λ i. (agree_beside a b t sa sb same.0 same.1 i).beside_back),
      )

  same_at : (a b : List (Option Slot)) → ((k : ℕ) (s : Slot) → HasSlot a k s → HasSlot b k s) → ((k : ℕ) (s : Slot) → HasSlot b k s → HasSlot a k s) → (k : ℕ) (o p : Option Slot) → slot_at a k ≡ o → slot_at b k ≡ p → o ≡ p
  same_at a b to from k None None e f = refl
  same_at a b to from k (Some s) p e f = sym (to k s e) ∙ f
  same_at a b to from k None (Some s) e f = sym e ∙ from k s f

  same_plans : (a b : List (Option Slot)) → length a ≡ length b → ((k : ℕ) → slot_at a k ≡ slot_at b k) → a ≡ b
  same_plans [] [] e h = refl
  same_plans [] (y ∷ b) e h = absurd (omega arith)
  same_plans (x ∷ a) [] e h = absurd (omega arith)
  same_plans (x ∷ a) (y ∷ b) e h =
      let rest : a ≡ b = same_plans a b (omega arith) (λ k. h (suc k)) in
      ap (λ z. z ∷ a) (h zero) ∙ ap (λ zs. y ∷ zs) rest

  greedy_plan_is_one : (a b : List (Option Slot)) → IsPlan g processors a → IsValid g a → IsGreedy g processors a → IsPlan g processors b → IsValid g b → IsGreedy g processors b → a ≡ b
  greedy_plan_is_one a b pa va ga pb vb gb =
      let sa : IsValidAndGreedy g processors a = record { is_plan = pa; valid = va; greedy = ga } in
      let sb : IsValidAndGreedy g processors b = record { is_plan = pb; valid = vb; greedy = gb } in
      same_plans a b (pa.some.each_line ∙ sym pb.some.each_line)
      (λ k. same_at a b
      (λ k s h. (agree_before a b sa sb (suc s.start)).0 k s h (omega arith))
      (λ k s h. (agree_before a b sa sb (suc s.start)).1 k s h (omega arith))
      k (slot_at a k) (slot_at b k) refl refl)

pub one_greedy_plan : (g : GraphValue) (processors : ℕ) (one other : List (Option Slot)) → IsGraph g → Accepted g →
    IsPlan g processors one → IsValid g one → IsGreedy g processors one → IsPlan g processors other → IsValid g other → IsGreedy g processors other → one ≡ other
one_greedy_plan g processors one other graph accepted = greedy_plan_is_one g processors graph accepted one other
