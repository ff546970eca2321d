-- The steps of reservations keep the state sound.
use Rattle.std.proofs.Common.{◌≡◌, ℕ, ◌<◌, true, ◌⊎◌, inl, inr, List, [], ◌∷◌, length, refl, sym, ◌∙◌, ap, subst, length-set}
use Rattle.std.specs.Prelude.{◌≢◌, slice_set}
use Rattle.std.proofs.lemmas.Bool.{true≢false, cases_eq}
use Rattle.std.proofs.lemmas.List.{get_or-set_same}
use Rattle.graph_terms.specs.declared.outcome.End.TheVariants.{Done, Cancelled}
use Rattle.graph_terms.specs.Graph.{GraphValue}
use Rattle.graph_terms.specs.Reservations.{Acquires, Releases, both_shared}
use Rattle.graph_meaning.specs.Evaluation.{end_with}
use Rattle.run_state.specs.Run.{Run, is_listed, stage_at, list_at, started, over, ended, timed}
use Rattle.run_state.specs.Sound.{SoundLocksWith, SoundWith}
use Rattle.run_state.specs.Moves.{inserted, hold, without, let_go, free}
use Rattle.run_state.proofs.Lists.{each_set, inserted_here, inserted_there, inserted_cases, listed_here, listed_there, listed_cases, listed_without, without_listed, out_started, out_not_ended}
use Rattle.graph_terms.proofs.Public.{release_one, acquire_one, both_shared_swap, acquired_lock_known}
use Rattle.run_state.proofs.SoundParts.{with_locks}
use Rattle.run_state.specs.Premises.{MayHoldWith, MayLetGo, MayFreeWith}
use Rattle.graph_meaning.specs.Effect.{Effects, zero_cells}

-- one number more in one of the lists
module _ (lists : List (List ℕ)) (l q : ℕ) (there : l < length lists) where
  unfoldable pub with_holder : List (List ℕ)
  with_holder = slice_set lists l (inserted q (list_at lists l))

  pub holder_more : (m k : ℕ) → is_listed (list_at lists m) k ≡ true → is_listed (list_at with_holder m) k ≡ true
  unfolding with_holder
  holder_more = each_set (λ m ks. (k : ℕ) → is_listed (list_at lists m) k ≡ true → is_listed ks k ≡ true) lists [] l (inserted q (list_at lists l)) there
      (λ k h. inserted_there q k (list_at lists l) h) (λ m ne k h. h)

  pub holder_new : is_listed (list_at with_holder l) q ≡ true
  unfolding with_holder
  holder_new = subst (λ ks. is_listed ks q ≡ true) (sym (get_or-set_same lists l (inserted q (list_at lists l)) [] there)) (inserted_here q (list_at lists l))

  pub holder_cases : (m k : ℕ) → is_listed (list_at with_holder m) k ≡ true → ((m ≡ l) × (k ≡ q)) ⊎ (is_listed (list_at lists m) k ≡ true)
  unfolding with_holder
  holder_cases = each_set (λ m ks. (k : ℕ) → is_listed ks k ≡ true → ((m ≡ l) × (k ≡ q)) ⊎ (is_listed (list_at lists m) k ≡ true)) lists [] l (inserted q (list_at lists l)) there
      (λ k h. elim (inserted_cases q k (list_at lists l) h) [ inl e ↦ inl (refl, e) | inr r ↦ inr r ]) (λ m ne k h. inr h)

-- one number fewer in one of the lists
module _ (lists : List (List ℕ)) (l q : ℕ) (there : l < length lists) where
  unfoldable pub less_one : List (List ℕ)
  less_one = slice_set lists l (without q (list_at lists l))

  pub one_less : (m k : ℕ) → is_listed (list_at less_one m) k ≡ true → (is_listed (list_at lists m) k ≡ true) × (m ≡ l → k ≡ q → ⊥)
  unfolding less_one
  one_less = each_set (λ m ks. (k : ℕ) → is_listed ks k ≡ true → (is_listed (list_at lists m) k ≡ true) × (m ≡ l → k ≡ q → ⊥)) lists [] l (without q (list_at lists l)) there
      (λ k h. let w = listed_without q k (list_at lists l) h in (w.0, λ e. w.1)) (λ m ne k h. (h, λ e x. ne e))

  pub one_stays : (m k : ℕ) → is_listed (list_at lists m) k ≡ true → (m ≡ l → k ≡ q → ⊥) → is_listed (list_at less_one m) k ≡ true
  unfolding less_one
  one_stays = each_set (λ m ks. (k : ℕ) → is_listed (list_at lists m) k ≡ true → (m ≡ l → k ≡ q → ⊥) → is_listed ks k ≡ true) lists [] l (without q (list_at lists l)) there
      (λ k h ne. without_listed q k (list_at lists l) h (ne refl)) (λ m ne k h x. h)

-- a reservation that is acquired is one of the graph
lock_there : {does : Effects} {g : GraphValue} {run : Run} → SoundWith does g run → (l q : ℕ) → Acquires g q l → l < length run.holders
lock_there {does} {g} {run} s l q a = subst (λ n. l < n) (sym s.on_locks.each_lock) (acquired_lock_known g s.graph q l a)

hold_locks : {does : Effects} {g : GraphValue} {run : Run} → SoundWith does g run → (l q : ℕ) → MayHoldWith does g run l q → SoundLocksWith does g run.stages run.times (slice_set run.holders l (inserted q (list_at run.holders l))) run.freed
unfolding with_holder
hold_locks {does} {g} {run} s l q m =
    let t = s.on_locks in
    let there = lock_there s l q m.acquires in
    let beside : (j k : ℕ) → j ≡ l → is_listed (list_at run.holders j) k ≡ true → both_shared g q k ≡ true = λ j k e h. m.is_free k (subst (λ x. is_listed (list_at run.holders x) k ≡ true) e h) in
    record {
      each_lock = length-set run.holders l (inserted q (list_at run.holders l)) ∙ t.each_lock;
      holder_acquires = λ j k h. elim (holder_cases run.holders l q there j k h) [ inl e ↦ subst (λ x. Acquires g k x) (sym e.0) (subst (λ x. Acquires g x l) (sym e.1) m.acquires) | inr r ↦ t.holder_acquires j k r ];
      holder_started = λ j k h. elim (holder_cases run.holders l q there j k h) [ inl e ↦ ap (started run.stages) e.1 ∙ out_started (stage_at run.stages q) m.is_out | inr r ↦ t.holder_started j k r ];
      holder_not_cancelled = λ j k h. elim (holder_cases run.holders l q there j k h) [ inl e ↦ subst (λ x. end_with does zero_cells g x ≢ Cancelled) (sym e.1) m.not_cancelled | inr r ↦ t.holder_not_cancelled j k r ];
      holder_alone = λ j a b ha hb ne. elim (holder_cases run.holders l q there j a ha) [
        | inl ea ↦ elim (holder_cases run.holders l q there j b hb) [
          | inl eb ↦ absurd (ne (ea.1 ∙ sym eb.1))
          | inr rb ↦ subst (λ x. both_shared g x b ≡ true) (sym ea.1) (beside j b ea.0 rb)
        ]
        | inr ra ↦ elim (holder_cases run.holders l q there j b hb) [
          | inl eb ↦ subst (λ x. both_shared g a x ≡ true) (sym eb.1) (both_shared_swap g a q ∙ beside j a eb.0 ra)
          | inr rb ↦ t.holder_alone j a b ra rb ne
        ]
      ];
      timed_holds = λ j k a h n. elim (t.timed_holds j k a h n) [ inl held ↦ inl (holder_more run.holders l q there j k held) | inr f ↦ inr f ];
      freed_over = t.freed_over;
      freed_ended = t.freed_ended;
      freed_done = t.freed_done;
      freed_gone = λ j k r rel f h. elim (holder_cases run.holders l q there j k h) [
        | inl e ↦ true≢false (sym (t.freed_ended r k rel f) ∙ (ap (ended run.stages) e.1 ∙ out_not_ended (stage_at run.stages q) m.is_out))
        | inr old ↦ t.freed_gone j k r rel f old
      ];
      ended_freed = t.ended_freed;
    }

-- a reservation taken
pub hold-sound : {does : Effects} {g : GraphValue} {run : Run} → SoundWith does g run → (l q : ℕ) → MayHoldWith does g run l q → SoundWith does g (hold run l q)
hold-sound {does} {g} {run} s l q m = with_locks s (slice_set run.holders l (inserted q (list_at run.holders l))) run.freed (hold_locks s l q m)

-- one holder fewer
less_locks : {does : Effects} {g : GraphValue} {run : Run} → SoundWith does g run → (l q : ℕ) → Acquires g q l → (freed : List ℕ)
    → ((j k : ℕ) → Acquires g k j → timed run.times k ≡ true → end_with does zero_cells g k ≢ Cancelled → (is_listed (list_at (slice_set run.holders l (without q (list_at run.holders l))) j) k ≡ true) ⊎ ((r : ℕ) × Releases g r k × (is_listed freed r ≡ true)))
    → ((r : ℕ) → is_listed freed r ≡ true → over run.stages r ≡ true) → ((r k : ℕ) → Releases g r k → is_listed freed r ≡ true → ended run.stages k ≡ true) → ((r k : ℕ) → Releases g r k → is_listed freed r ≡ true → end_with does zero_cells g k ≡ Done)
    → ((j k r : ℕ) → Releases g r k → is_listed freed r ≡ true → is_listed (list_at (slice_set run.holders l (without q (list_at run.holders l))) j) k ≡ true → ⊥)
    → ((r k : ℕ) → Releases g r k → ended run.stages r ≡ true → end_with does zero_cells g k ≡ Done → is_listed freed r ≡ true)
    → SoundLocksWith does g run.stages run.times (slice_set run.holders l (without q (list_at run.holders l))) freed
unfolding less_one
less_locks {does} {g} {run} s l q a freed timed_holds freed_over freed_ended freed_done freed_gone ended_freed =
    let t = s.on_locks in
    let was : (j k : ℕ) → is_listed (list_at (slice_set run.holders l (without q (list_at run.holders l))) j) k ≡ true → is_listed (list_at run.holders j) k ≡ true = λ j k h. (one_less run.holders l q (lock_there s l q a) j k h).0 in
    record {
      each_lock = length-set run.holders l (without q (list_at run.holders l)) ∙ t.each_lock;
      holder_acquires = λ j k h. t.holder_acquires j k (was j k h);
      holder_started = λ j k h. t.holder_started j k (was j k h);
      holder_not_cancelled = λ j k h. t.holder_not_cancelled j k (was j k h);
      holder_alone = λ j k i hk hi ne. t.holder_alone j k i (was j k hk) (was j i hi) ne;
      timed_holds = timed_holds;
      freed_over = freed_over;
      freed_ended = freed_ended;
      freed_done = freed_done;
      freed_gone = freed_gone;
      ended_freed = ended_freed;
    }

-- an acquire holds its reservation no more
let_go_locks : {does : Effects} {g : GraphValue} {run : Run} → SoundWith does g run → (l q : ℕ) → MayLetGo g run l q → SoundLocksWith does g run.stages run.times (slice_set run.holders l (without q (list_at run.holders l))) run.freed
unfolding less_one
let_go_locks {does} {g} {run} s l q m =
    let t = s.on_locks in
    let there = lock_there s l q m.acquires in
    less_locks s l q m.acquires run.freed
    (λ j k a h n. elim (t.timed_holds j k a h n) [
      | inl held ↦ inl (one_stays run.holders l q there j k held (λ ej ek. true≢false (sym h ∙ (ap (timed run.times) ek ∙ m.untimed))))
      | inr f ↦ inr f
    ])
    t.freed_over t.freed_ended t.freed_done (λ j k r rel f h. t.freed_gone j k r rel f (one_less run.holders l q there j k h).0) t.ended_freed

-- a reservation let go
pub let_go-sound : {does : Effects} {g : GraphValue} {run : Run} → SoundWith does g run → (l q : ℕ) → MayLetGo g run l q → SoundWith does g (let_go run l q)
let_go-sound {does} {g} {run} s l q m = with_locks s (slice_set run.holders l (without q (list_at run.holders l))) run.freed (let_go_locks s l q m)

free_locks : {does : Effects} {g : GraphValue} {run : Run} → SoundWith does g run → (r l q : ℕ) → MayFreeWith does g run r l q → SoundLocksWith does g run.stages run.times (slice_set run.holders l (without q (list_at run.holders l))) (r ∷ run.freed)
unfolding less_one
free_locks {does} {g} {run} s r l q m =
    let t = s.on_locks in
    let there = lock_there s l q m.acquires in
    let this_one : (k a : ℕ) → k ≡ r → Releases g k a → a ≡ q = λ k a e rel. release_one g r a q (subst (λ x. Releases g x a) e rel) m.releases in
    less_locks s l q m.acquires (r ∷ run.freed)
    (λ j k a h n. elim (t.timed_holds j k a h n) [
      | inl held ↦ elim (cases_eq k q) [
        | inl same ↦ inr (r, subst (λ x. Releases g r x) (sym same) m.releases, listed_here r run.freed)
        | inr ne ↦ inl (one_stays run.holders l q there j k held (λ ej ek. ne ek))
      ]
      | inr f ↦ inr (f.0, f.1, listed_there r f.0 run.freed f.2)
    ])
    (λ k h. elim (listed_cases r k run.freed h) [ inl e ↦ ap (over run.stages) e ∙ m.is_over | inr old ↦ t.freed_over k old ])
    (λ k a rel h. elim (listed_cases r k run.freed h) [ inl e ↦ ap (ended run.stages) (this_one k a e rel) ∙ m.acquire_ended | inr old ↦ t.freed_ended k a rel old ])
    (λ k a rel h. elim (listed_cases r k run.freed h) [ inl e ↦ ap (end_with does zero_cells g) (this_one k a e rel) ∙ m.acquire_done | inr old ↦ t.freed_done k a rel old ])
    (λ j a k rel f h. let w = one_less run.holders l q there j a h in elim (listed_cases r k run.freed f) [
      | inl e ↦ (let same : a ≡ q = this_one k a e rel in w.1 (acquire_one g q j l (subst (λ x. Acquires g x j) same (t.holder_acquires j a w.0)) m.acquires) same)
      | inr old ↦ t.freed_gone j a k rel old w.0
    ])
    (λ k a rel h d. listed_there r k run.freed (t.ended_freed k a rel h d))

-- a reservation freed
pub free-sound : {does : Effects} {g : GraphValue} {run : Run} → SoundWith does g run → (r l q : ℕ) → MayFreeWith does g run r l q → SoundWith does g (free run r l q)
free-sound {does} {g} {run} s r l q m = with_locks s (slice_set run.holders l (without q (list_at run.holders l))) (r ∷ run.freed) (free_locks s r l q m)
