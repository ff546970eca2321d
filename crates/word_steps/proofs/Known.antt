-- What the seats know together, as one of them steps.
use Rattle.std.proofs.Common.{◌≡◌, ◌≢◌, ℕ, zero, suc, ◌-◌, ◌≤◌, Bool, true, false, cond, ◌⊎◌, inl, inr, List, [], ◌∷◌, ◌++◌, set, refl, sym, ◌∙◌, ap, subst, arith, ⊎_elim}
use Rattle.std.specs.Prelude.{nat_lt, Contains, Option, Some, None}
use Rattle.std.proofs.lemmas.Bool.{true≢false, cases_eq, ltb-true}
use mathlib.Core.Option.{some, some-injective, some-ne-none}
use lib.ListN.{get_elem?}
use Rattle.atomic_table.proofs.Lists.{set_else, at_longer}
use Rattle.graph_terms.specs.declared.outcome.End.{End}
use Rattle.event_table.specs.declared.handle.Handle.{Handle}
use Rattle.basics.proofs.ListFacts.{contains_none, contains_one, contains_here}
use Rattle.run_state.specs.Run.{LineStage, Unissued, Issued, Out, Ending, Ended, Run, stage_at, time_at, stage_ended, issued}
use Rattle.word_steps.specs.declared.view.View.{View}
use Rattle.word_steps.specs.Claims.{Ground}
use Rattle.word_steps.specs.Plays.{with_time, end_of_code, ended_by}
use Rattle.word_steps.specs.Rule.{HasEndedAt, OfSome, HasHandles, IsKnown}

-- ONE OF THE SEATS
pub at_put : {X : Type 0} (xs : List X) (i : ℕ) (v p : X) → get_elem? xs i ≡ some v → get_elem? (set xs i p) i ≡ some p
at_put [] i v p at = absurd (some-ne-none v (sym at))
at_put (x ∷ xs) zero v p at = refl
at_put (x ∷ xs) (suc i) v p at = at_put xs i v p at

at_once : {X : Type 0} (xs : List X) (i j : ℕ) (v u : X) → j ≡ i → get_elem? xs i ≡ some v → get_elem? xs j ≡ some u → u ≡ v
at_once xs i j v u q me at = some-injective u v (sym at ∙ (ap (get_elem? xs) q ∙ me))

-- it changes, and knows what it knew
pub of_set : (P : View → Type 0) (vs : List View) (id : ℕ) (v w : View) → get_elem? vs id ≡ some v → w.mine ≡ v.mine → (P v → P w) → OfSome vs P → OfSome (set vs id w) P
of_set P vs id v w me em on (j, u, at, own, has) = elim (cases_eq j id) [
  | inl q ↦ (let same = at_once vs id j v u q me at in (id, w, at_put vs id v w me, (λ n. own (ap (λ (x : View). x.mine) same ∙ (sym em ∙ n))), on (subst P same has)))
  | inr n ↦ (j, u, set_else vs id j w n ∙ at, own, has)
]

-- it changes, and knows this
pub of_new : (P : View → Type 0) (vs : List View) (id : ℕ) (v w : View) → get_elem? vs id ≡ some v → w.mine ≢ [] → P w → OfSome (set vs id w) P
of_new P vs id v w me own has = (id, w, at_put vs id v w me, own, has)

-- others come
pub of_longer : (P : View → Type 0) (vs us : List View) → OfSome vs P → OfSome (vs ++ us) P
of_longer P vs us (j, u, at, own, has) = (j, u, at_longer vs us j u at, own, has)

-- two are joined
pub of_joined : (P : View → Type 0) (vs : List View) (id other : ℕ) (v w both spent : View) → get_elem? vs id ≡ some v → get_elem? vs other ≡ some w → (other ≡ id → ⊥) → both.mine ≢ [] → (P v → P both) → (P w → P both) → OfSome vs P → OfSome (set (set vs id both) other spent) P
of_joined P vs id other v w both spent me there apart whole left right (j, u, at, own, has) =
    let here : get_elem? (set (set vs id both) other spent) id ≡ some both = set_else (set vs id both) other id spent (λ q. apart (sym q)) ∙ at_put vs id v both me in
    elim (cases_eq j id) [
      | inl q ↦ (id, both, here, whole, left (subst P (at_once vs id j v u q me at) has))
      | inr n ↦ elim (cases_eq j other) [
        | inl q ↦ (id, both, here, whole, right (subst P (at_once vs other j w u q there at) has))
        | inr far ↦ (j, u, set_else (set vs id both) other j spent far ∙ (set_else vs id j both n ∙ at), own, has)
      ]
    ]

-- only one has a number
pub of_last : (P : View → Type 0) (vs : List View) (id : ℕ) (v : View) → get_elem? vs id ≡ some v → ((j : ℕ) (u : View) → (j ≡ id → ⊥) → get_elem? vs j ≡ some u → u.mine ≡ []) → OfSome vs P → P v
of_last P vs id v me others (j, u, at, own, has) = elim (cases_eq j id) [
  | inl q ↦ subst P (at_once vs id j v u q me at) has
  | inr n ↦ absurd (own (others j u n at))
]

-- what is known stays so where others come
pub longer_known : {run : Run} {handles : List Handle} (vs us : List View) → IsKnown run handles vs → IsKnown run handles (vs ++ us)
longer_known {handles = handles} vs us k = record {
  issued = λ j h. of_longer (λ (u : View). Contains u.issued j) vs us (k.issued j h);
  ended = λ j x h. of_longer (λ (u : View). Contains u.ended (j, x)) vs us (k.ended j x h);
  times = λ j t h. of_longer (λ (u : View). Contains u.times (j, t)) vs us (k.times j t h);
  named = ⊎_elim (λ n. inl n) (λ h. inr (of_longer (HasHandles handles) vs us h)) k.named;
}

-- ENDS AND TIMES
ended_is : (s : LineStage) → stage_ended s ≡ true → (x : End) × (s ≡ Ended x)
ended_is Unissued h = absurd (true≢false (sym h))
ended_is Issued h = absurd (true≢false (sym h))
ended_is Out h = absurd (true≢false (sym h))
ended_is (Ending x) h = absurd (true≢false (sym h))
ended_is (Ended x) h = (x, refl)

-- a line that has ended in one of two runs with the same times, and so has in the other
pub times_on : (run after : Run) → after.times ≡ run.times → ((j : ℕ) (x : End) → stage_at run.stages j ≡ Ended x → stage_at after.stages j ≡ Ended x) → (j t : ℕ) → HasEndedAt run j t → HasEndedAt after j t
times_on run after same on j t h = let s = ended_is (stage_at run.stages j) h.over in record {
  over = ap stage_ended (on j s.0 s.1);
  at = ap (λ ts. time_at ts j) same ∙ h.at;
}

pub time_is : (i : ℕ) (o : Option ℕ) (j t : ℕ) → Contains (with_time i o) (j, t) → (i ≡ j) × (o ≡ Some t)
time_is i None j t c = absurd (contains_none {X = ℕ × ℕ} (j, t) c)
time_is i (Some s) j t c = let q : (i, s) ≡ (j, t) = contains_one {X = ℕ × ℕ} (i, s) (j, t) c in (ap (λ (p : ℕ × ℕ). p.0) q, ap (λ (p : ℕ × ℕ). Some p.1) q)

pub time_in : (i : ℕ) (o : Option ℕ) (t : ℕ) → o ≡ Some t → Contains (with_time i o) (i, t)
time_in i o t q = subst (λ (x : Option ℕ). Contains (with_time i x) (i, t)) (sym q) (contains_here {X = ℕ × ℕ} (i, t) [])

-- WHAT A STEP OF ONE SEAT DOES TO IT. The seat forgets nothing
pub record Remembers (v w : View) : Type 0 where
  pub issued : (j : ℕ) → Contains v.issued j → Contains w.issued j
  pub ended : (j : ℕ) (x : End) → Contains v.ended (j, x) → Contains w.ended (j, x)
  pub times : (j t : ℕ) → Contains v.times (j, t) → Contains w.times (j, t)

-- and what is new in the run it knows
pub record Learns (run after : Run) (handles then : List Handle) (v w : View) : Type 0 where
  pub keeps : Remembers v w
  pub new_issued : (j : ℕ) → issued after.stages j ≡ true → (issued run.stages j ≡ true) ⊎ ((w.mine ≢ []) × Contains w.issued j)
  pub new_ended : (j : ℕ) (x : End) → stage_at after.stages j ≡ Ended x → (stage_at run.stages j ≡ Ended x) ⊎ ((w.mine ≢ []) × Contains w.ended (j, x))
  pub new_times : (j t : ℕ) → HasEndedAt after j t → HasEndedAt run j t ⊎ ((w.mine ≢ []) × Contains w.times (j, t))
  pub new_handles : ((then ≡ handles) × (HasHandles handles v → HasHandles handles w)) ⊎ ((w.mine ≢ []) × HasHandles then w)

pub known_on : {run after : Run} {handles then : List Handle} (vs : List View) (id : ℕ) (v w : View) → get_elem? vs id ≡ some v → w.mine ≡ v.mine → Learns run after handles then v w → IsKnown run handles vs → IsKnown after then (set vs id w)
known_on {handles = handles} {then = then} vs id v w me em l k = record {
  issued = λ j h. ⊎_elim (λ q. of_set (λ (u : View). Contains u.issued j) vs id v w me em (l.keeps.issued j) (k.issued j q)) (λ (q : (w.mine ≢ []) × Contains w.issued j). of_new (λ (u : View). Contains u.issued j) vs id v w me q.0 q.1) (l.new_issued j h);
  ended = λ j x h. ⊎_elim (λ q. of_set (λ (u : View). Contains u.ended (j, x)) vs id v w me em (l.keeps.ended j x) (k.ended j x q)) (λ (q : (w.mine ≢ []) × Contains w.ended (j, x)). of_new (λ (u : View). Contains u.ended (j, x)) vs id v w me q.0 q.1) (l.new_ended j x h);
  times = λ j t h. ⊎_elim (λ q. of_set (λ (u : View). Contains u.times (j, t)) vs id v w me em (l.keeps.times j t) (k.times j t q)) (λ (q : (w.mine ≢ []) × Contains w.times (j, t)). of_new (λ (u : View). Contains u.times (j, t)) vs id v w me q.0 q.1) (l.new_times j t h);
  named = ⊎_elim
      (λ (q : (then ≡ handles) × (HasHandles handles v → HasHandles handles w)). subst (λ (hs : List Handle). (hs ≡ []) ⊎ OfSome (set vs id w) (HasHandles hs)) (sym q.0) (⊎_elim (λ n. inl n) (λ h. inr (of_set (HasHandles handles) vs id v w me em q.1 h)) k.named))
      (λ (q : (w.mine ≢ []) × HasHandles then w). inr (of_new (HasHandles then) vs id v w me q.0 q.1))
      l.new_handles;
}

-- nothing is new
pub nothing_new : (run after : Run) (handles : List Handle) (v w : View) → after.times ≡ run.times → ((j : ℕ) → issued after.stages j ≡ true → issued run.stages j ≡ true) → ((j : ℕ) (x : End) → stage_at after.stages j ≡ Ended x → stage_at run.stages j ≡ Ended x) → Remembers v w → (HasHandles handles v → HasHandles handles w) → Learns run after handles handles v w
nothing_new run after handles v w same issued_back ended_back keeps named = record {
  keeps = keeps;
  new_issued = λ j h. inl (issued_back j h);
  new_ended = λ j x h. inl (ended_back j x h);
  new_times = λ j t h. inl (times_on after run (sym same) ended_back j t h);
  new_handles = inl (refl, named);
}

pub still : (run : Run) (handles : List Handle) (v w : View) → Remembers v w → (HasHandles handles v → HasHandles handles w) → Learns run run handles handles v w
still run handles v w = nothing_new run run handles v w refl (λ j h. h) (λ j x h. h)

-- BY ITS KEYS, which are one
pub has_key : (l : List Ground) (x : Ground) → l ≡ x ∷ [] → Contains l x
has_key l x q = subst (λ k. Contains k x) (sym q) (contains_here x [])

-- BY A LOAD that found a line ended
by_bool : (b : Bool) → (b ≡ true) ⊎ (b ≡ false)
by_bool true = inl refl
by_bool false = inr refl

pub ended_shown : (j r : ℕ) → 8 ≤ r → Contains (ended_by j r) (j, end_of_code (r - 8))
ended_shown j r h = ⊎_elim
    (λ (q : nat_lt r 8 ≡ true). let less = ltb-true r 8 q in absurd (omega (arith, h, less)))
    (λ (q : nat_lt r 8 ≡ false). subst (λ b. Contains {X = ℕ × End} (cond b [] ((j, end_of_code (r - 8)) ∷ [])) (j, end_of_code (r - 8))) (sym q) (contains_here {X = ℕ × End} (j, end_of_code (r - 8)) []))
    (by_bool (nat_lt r 8))
