-- What the answers of a map become by its steps.
use Rattle.std.proofs.Common.{◌≡◌, ◌≢◌, ℕ, ◌<◌, ◌≤◌, ◌⊎◌, Bool, true, false, cond, List, [], ◌∷◌, ◌++◌, length, get_or, sym, refl, ap, ◌∙◌, subst, inl, inr, ⊎_elim, arith, eqb, eq-eqb, ne_eqb, get_or-set_same, get_or-set_other, Option, Some, None, length-append}
use Rattle.std.specs.Prelude.{Contains, ◌&&◌, is_some}
use Rattle.std.proofs.lemmas.Bool.{lt-ltb, le-ltb, false≢true}
use Rattle.std.proofs.lemmas.List.{get_or_append_left, get_or_past}
use Rattle.std.proofs.Math.Seq.{get_or-append_seam}
use Rattle.std.proofs.lemmas.List.Elements.{Contains-append_cases}
use mathlib.Core.Logic.{dite}
use native.Mathlib.Decide.{ℕ_discrete, dec_le}
use Rattle.event_table.specs.EventMap.{EventMap, SlotLife, unused, life_at, answer_in, answer, answer_of, with_life, next_handle, created_at, placed_on, ended_with, all_on, IsCreated, IsFree, IsPlaced, MayServe, KeepsCreated, KeepsFree}
use Rattle.event_table.specs.declared.handle.Handle.{Handle}
use Rattle.event_table.specs.declared.handle.Fate.{Fate}
use Rattle.event_table.specs.declared.handle.Fate.TheVariants.{Ok, Poison}
use Rattle.event_table.specs.declared.handle.Answer.{Answer}
use Rattle.event_table.specs.declared.handle.Answer.TheVariants.{Pending, Triggered, Poisoned}
use Rattle.basics.proofs.ListFacts.{contains_cases, contains_none, contains_here, contains_there}
use Rattle.basics.proofs.Choices.{by_test}
use Rattle.event_table.specs.Laws.{NoFateIsPending, PendingIsNow, HandlesByCases, HandleOfParts, AnsweredHandleHasSlot}
use Rattle.event_table.specs.Maps.{IsNow}

abbrev some_in : Option Answer → Answer
some_in None = Pending
some_in (Some a) = a

pub some_same : (a b : Answer) → Some a ≡ Some b → a ≡ b
some_same a b e = ap some_in e

pub none_some : (a : Answer) → None ≡ Some a → ⊥
none_some a e = false≢true (ap is_some e)

pub handle_eq : HandleOfParts
handle_eq h k a b = λ t. record { slot = a t; gen_ = b t }

-- The answers of one slot
module _ (life : SlotLife) (g : ℕ) where
  pub in_ended : g < length life.fates → answer_in life g ≡ Some (answer_of (get_or life.fates g Ok))
  in_ended l = ap (λ b. cond b (Some (answer_of (get_or life.fates g Ok))) (cond (life.is_pending && eqb g (length life.fates)) (Some Pending) None)) (lt-ltb g (length life.fates) l)

  pub in_last : length life.fates ≤ g → answer_in life g ≡ cond (life.is_pending && eqb g (length life.fates)) (Some Pending) None
  in_last l = ap (λ b. cond b (Some (answer_of (get_or life.fates g Ok))) (cond (life.is_pending && eqb g (length life.fates)) (Some Pending) None)) (le-ltb g (length life.fates) l)

  pub in_pending : life.is_pending ≡ true → g ≡ length life.fates → answer_in life g ≡ Some Pending
  in_pending p e = in_last (omega arith) ∙ ap (λ b. cond (b && eqb g (length life.fates)) (Some Pending) None) p ∙ ap (λ b. cond b (Some Pending) None) (eq-eqb g (length life.fates) e)

  pub in_idle : life.is_pending ≡ false → length life.fates ≤ g → answer_in life g ≡ None
  in_idle p l = in_last l ∙ ap (λ b. cond (b && eqb g (length life.fates)) (Some Pending) None) p

  pub in_above : length life.fates < g → answer_in life g ≡ None
  in_above l = by_test life.is_pending
      (λ p. in_last (omega arith) ∙ ap (λ b. cond (b && eqb g (length life.fates)) (Some Pending) None) p ∙ ap (λ b. cond b (Some Pending) None) (ne_eqb g (length life.fates) (λ e. omega arith)))
      (λ p. in_idle p (omega arith))

  pub in_cases : (a : Answer) → answer_in life g ≡ Some a → ((g < length life.fates) × (a ≡ answer_of (get_or life.fates g Ok))) ⊎ ((life.is_pending ≡ true) × (g ≡ length life.fates) × (a ≡ Pending))
  in_cases a e = dite (dec_le (length life.fates) g)
      (λ l. by_test life.is_pending
      (λ p. dite (ℕ_discrete g (length life.fates)) (λ same. inr (p, same, some_same a Pending (sym e ∙ in_pending p same))) (λ ne. absurd (none_some a (sym (in_above (omega arith)) ∙ e))))
      (λ p. absurd (none_some a (sym (in_idle p l) ∙ e))))
      (λ n. let l : g < length life.fates = omega arith in inl (l, some_same a (answer_of (get_or life.fates g Ok)) (sym e ∙ in_ended l)))

-- One slot changes
module _ (m : EventMap) (i : ℕ) (life : SlotLife) where
  pub life_here : i < length m.slots → life_at (with_life m i life) i ≡ life
  life_here l = get_or-set_same m.slots i life unused l

  pub life_there : (j : ℕ) → j ≢ i → life_at (with_life m i life) j ≡ life_at m j
  life_there j n = get_or-set_other m.slots i j life unused n

  pub answer_here : (h : Handle) → h.slot ≡ i → i < length m.slots → answer (with_life m i life) h ≡ answer_in life h.gen_
  answer_here h e l = ap (λ j. answer_in (life_at (with_life m i life) j) h.gen_) e ∙ ap (λ s. answer_in s h.gen_) (life_here l)

  pub answer_there : (h : Handle) → h.slot ≢ i → answer (with_life m i life) h ≡ answer m h
  answer_there h n = ap (λ s. answer_in s h.gen_) (life_there h.slot n)

keeps_some : (m n : EventMap) → ((h : Handle) (a : Answer) → answer m h ≡ Some a → (b : Answer) × (answer n h ≡ Some b)) → KeepsCreated m n
keeps_some m n f h c = record { created = ⊎_elim inl (λ t. inr (f h t.0 t.1)) c.created }

pub keeps_answers : (m n : EventMap) → ((h : Handle) → answer n h ≡ answer m h) → KeepsCreated m n
keeps_answers m n f = keeps_some m n (λ h a e. (a, f h ∙ e))

pub near_some : AnsweredHandleHasSlot
near_some m h a e = dite (dec_le (length m.slots) h.slot)
    (λ l. absurd (none_some a (sym (ap (λ s. answer_in s h.gen_) (get_or_past m.slots h.slot unused l) ∙ in_idle unused h.gen_ refl (omega arith)) ∙ e)))
    (λ n. omega arith)

abbrev IsOpen : Answer → Type 0
IsOpen Pending = Unit {0}
IsOpen Triggered = ⊥
IsOpen Poisoned = ⊥

pub answer_apart : NoFateIsPending
answer_apart Ok e = subst IsOpen e tt
answer_apart Poison e = subst IsOpen e tt

pub is_now : PendingIsNow
is_now m h e = ⊎_elim (λ t. absurd (answer_apart (get_or (life_at m h.slot).fates h.gen_ Ok) t.1)) (λ t. record { pending = t.0; last = t.1; near = near_some m h Pending e }) (in_cases (life_at m h.slot) h.gen_ Pending e)

module _ (m : EventMap) (h : Handle) (o : IsNow m h) where
  pub now_pending : answer m h ≡ Some Pending
  now_pending = in_pending (life_at m h.slot) h.gen_ o.pending o.last

-- Two handles are the same, or of two slots, or of two generations of one slot
pub split_handle : {P : Type 0} → HandlesByCases P
split_handle h k same slots gens = dite (ℕ_discrete h.slot k.slot) (λ e. dite (ℕ_discrete h.gen_ k.gen_) (λ f. same (handle_eq h k e f)) (gens e)) slots

-- what is at one slot but its pending generation
pub off_last : (life : SlotLife) (b : Bool) (w : List ℕ) (g : ℕ) → g ≢ length life.fates → answer_in (record { fates = life.fates; is_pending = b; waiting = w }) g ≡ answer_in life g
off_last life b w g n = let new : SlotLife = record { fates = life.fates; is_pending = b; waiting = w } in
    dite (dec_le (length life.fates) g) (λ l. in_above new g (omega arith) ∙ sym (in_above life g (omega arith))) (λ l. in_ended new g (omega arith) ∙ sym (in_ended life g (omega arith)))

-- CREATE
module _ (m : EventMap) (i : ℕ) (o : MayServe m i) where
  pub created_pending : answer (created_at m i) (next_handle m i) ≡ Some Pending
  created_pending = answer_here m i (record { fates = (life_at m i).fates; is_pending = true; waiting = (life_at m i).waiting }) (next_handle m i) refl o.near
      ∙ in_pending (record { fates = (life_at m i).fates; is_pending = true; waiting = (life_at m i).waiting }) (length (life_at m i).fates) refl refl

  pub created_before : answer m (next_handle m i) ≡ None
  created_before = in_idle (life_at m i) (length (life_at m i).fates) o.idle (omega arith)

  pub created_others : (k : Handle) → k ≢ next_handle m i → answer (created_at m i) k ≡ answer m k
  created_others k n = let new : SlotLife = record { fates = (life_at m i).fates; is_pending = true; waiting = (life_at m i).waiting } in
      split_handle k (next_handle m i) (λ e. absurd (n e)) (λ d. answer_there m i new k d)
      (λ e d. answer_here m i new k e o.near ∙ off_last (life_at m i) true (life_at m i).waiting k.gen_ d ∙ sym (ap (λ j. answer_in (life_at m j) k.gen_) e))

  pub created_keeps : KeepsCreated m (created_at m i)
  created_keeps = keeps_some m (created_at m i) (λ h a e. split_handle h (next_handle m i)
      (λ s. absurd (none_some a (sym created_before ∙ (ap (answer m) (sym s) ∙ e))))
      (λ d. (a, created_others h (λ s. d (ap (λ (y : Handle). y.slot) s)) ∙ e))
      (λ _ d. (a, created_others h (λ s. d (ap (λ (y : Handle). y.gen_) s)) ∙ e)))

  pub created_is : IsCreated (created_at m i) (next_handle m i)
  created_is = record { created = inr (Pending, created_pending) }

-- who waits at each slot
pub free_from : (m n : EventMap) → n.waiters ≡ m.waiters → ((i k : ℕ) → Contains (life_at n i).waiting k → Contains (life_at m i).waiting k) → ((k : ℕ) (h : Handle) → Contains n.caught (k, h) → Contains m.caught (k, h)) → KeepsFree m n
free_from m n e f g = λ k o. record { number = subst (λ w. k < w) (sym e) o.number; unplaced = λ i c. o.unplaced i (f i k c); uncaught = λ h c. o.uncaught h (g k h c) }

pub at_slot : (m : EventMap) (i : ℕ) (life : SlotLife) (P : ℕ → SlotLife → Type 0) (near : i < length m.slots) → P i life → ((j : ℕ) → j ≢ i → P j (life_at m j)) → (j : ℕ) → P j (life_at (with_life m i life) j)
at_slot m i life P near here there j = dite (ℕ_discrete j i)
    (λ e. subst (λ x. P x (life_at (with_life m i life) x)) (sym e) (subst (P i) (sym (life_here m i life near)) here))
    (λ n. subst (P j) (sym (life_there m i life j n)) (there j n))

pub created_free : (m : EventMap) (i : ℕ) → MayServe m i → KeepsFree m (created_at m i)
created_free m i o = free_from m (created_at m i) refl
    (λ j k. at_slot m i (record { fates = (life_at m i).fates; is_pending = true; waiting = (life_at m i).waiting }) (λ x s. Contains s.waiting k → Contains (life_at m x).waiting k) o.near (λ c. c) (λ x n c. c) j)
    (λ k h c. c)

-- PLACE
module _ (m : EventMap) (h : Handle) (k : ℕ) (near : h.slot < length m.slots) where
  pub placed_answers : (x : Handle) → answer (placed_on m h k) x ≡ answer m x
  placed_answers x = let new : SlotLife = record { fates = (life_at m h.slot).fates; is_pending = (life_at m h.slot).is_pending; waiting = k ∷ (life_at m h.slot).waiting } in
      at_slot m h.slot new (λ j s. answer_in s x.gen_ ≡ answer_in (life_at m j) x.gen_) near refl (λ j n. refl) x.slot

  pub placed_stands : answer m h ≡ Some Pending → IsPlaced (placed_on m h k) k h
  placed_stands p = record {
    pending = placed_answers h ∙ p;
    stands = subst (λ (s : SlotLife). Contains s.waiting k) (sym (life_here m h.slot (record { fates = (life_at m h.slot).fates; is_pending = (life_at m h.slot).is_pending; waiting = k ∷ (life_at m h.slot).waiting }) near)) (contains_here k (life_at m h.slot).waiting);
  }

  pub placed_free : (j : ℕ) → j ≢ k → IsFree m j → IsFree (placed_on m h k) j
  placed_free j n o = record {
    number = o.number;
    unplaced = λ i. at_slot m h.slot (record { fates = (life_at m h.slot).fates; is_pending = (life_at m h.slot).is_pending; waiting = k ∷ (life_at m h.slot).waiting }) (λ _ s. Contains s.waiting j → ⊥) near
        (λ c. ⊎_elim (λ e. n (sym e)) (o.unplaced h.slot) (contains_cases k (life_at m h.slot).waiting j c)) (λ x _. o.unplaced x) i;
    uncaught = o.uncaught;
  }

-- END
pub all_in : (h : Handle) (ks : List ℕ) (k : ℕ) (x : Handle) → Contains (all_on h ks) (k, x) → Contains ks k
all_in h [] k x c = absurd (contains_none {X = ℕ × Handle} (k, x) c)
all_in h (j ∷ js) k x c = ⊎_elim (λ e. subst (Contains (j ∷ js)) (ap (λ (p : ℕ × Handle). p.0) e) (contains_here j js)) (λ d. contains_there j js k (all_in h js k x d)) (contains_cases {X = ℕ × Handle} (j, h) (all_on h js) (k, x) c)

module _ (m : EventMap) (h : Handle) (f : Fate) (o : IsNow m h) where
  pub ended_is : answer (ended_with m h f) h ≡ Some (answer_of f)
  ended_is = let new : SlotLife = record { fates = (life_at m h.slot).fates ++ f ∷ []; is_pending = false; waiting = [] } in
      let size = length-append (life_at m h.slot).fates (f ∷ []) in let last = o.last in
      answer_here m h.slot new h refl o.near ∙ in_ended new h.gen_ (omega arith)
      ∙ ap (λ x. Some (answer_of x)) (ap (λ g. get_or ((life_at m h.slot).fates ++ f ∷ []) g Ok) o.last ∙ get_or-append_seam (life_at m h.slot).fates f [] Ok)

  pub ended_others : (k : Handle) → k ≢ h → answer (ended_with m h f) k ≡ answer m k
  ended_others k n = let old : SlotLife = life_at m h.slot in let new : SlotLife = record { fates = old.fates ++ f ∷ []; is_pending = false; waiting = [] } in
      let size = length-append old.fates (f ∷ []) in
      split_handle k h (λ e. absurd (n e)) (λ d. answer_there m h.slot new k d)
      (λ e d. answer_here m h.slot new k e o.near ∙ dite (dec_le (length old.fates) k.gen_)
      (λ l. let ne : k.gen_ ≢ length old.fates = λ z. d (z ∙ sym o.last) in in_idle new k.gen_ refl (omega arith) ∙ sym (in_above old k.gen_ (omega arith)))
      (λ l. in_ended new k.gen_ (omega arith) ∙ ap (λ x. Some (answer_of x)) (get_or_append_left old.fates (f ∷ []) Ok k.gen_ (omega arith)) ∙ sym (in_ended old k.gen_ (omega arith)))
      ∙ sym (ap (λ j. answer_in (life_at m j) k.gen_) e))

  pub ended_keeps : KeepsCreated m (ended_with m h f)
  ended_keeps = keeps_some m (ended_with m h f) (λ k a e. split_handle k h
      (λ s. (answer_of f, ap (answer (ended_with m h f)) s ∙ ended_is))
      (λ d. (a, ended_others k (λ s. d (ap (λ (y : Handle). y.slot) s)) ∙ e))
      (λ _ d. (a, ended_others k (λ s. d (ap (λ (y : Handle). y.gen_) s)) ∙ e)))

  pub ended_free : KeepsFree m (ended_with m h f)
  ended_free k c = record {
    number = c.number;
    unplaced = λ i. at_slot m h.slot (record { fates = (life_at m h.slot).fates ++ f ∷ []; is_pending = false; waiting = [] }) (λ _ s. Contains s.waiting k → ⊥) o.near (contains_none k) (λ x _. c.unplaced x) i;
    uncaught = λ x d. ⊎_elim (λ y. c.unplaced h.slot (all_in h (life_at m h.slot).waiting k x y)) (c.uncaught x) (Contains-append_cases {X = ℕ × Handle} (all_on h (life_at m h.slot).waiting) m.caught (k, x) d);
  }

-- what creating tells
pub record CreateTells (m n : EventMap) (h : Handle) : Type 0 where
  pub pending : answer n h ≡ Some Pending
  pub before : answer m h ≡ None
  pub others : (k : Handle) → k ≢ h → answer n k ≡ answer m k
  pub keeps : KeepsCreated m n
  pub is : IsCreated n h
  pub free : KeepsFree m n

pub create_tells : (m n : EventMap) (i : ℕ) (h : Handle) → n ≡ created_at m i → h ≡ next_handle m i → MayServe m i → CreateTells m n h
create_tells m n i h a b may = subst (λ (x : EventMap). CreateTells m x h) (sym a) (subst (CreateTells m (created_at m i)) (sym b) (record {
  pending = created_pending m i may;
  before = created_before m i may;
  others = created_others m i may;
  keeps = created_keeps m i may;
  is = created_is m i may;
  free = created_free m i may;
}))

-- what ending tells
pub record EndTells (m n : EventMap) (h : Handle) (f : Fate) : Type 0 where
  pub ended : answer n h ≡ Some (answer_of f)
  pub others : (k : Handle) → k ≢ h → answer n k ≡ answer m k
  pub keeps : KeepsCreated m n
  pub free : KeepsFree m n

pub end_tells : (m n : EventMap) (h : Handle) (f : Fate) → n ≡ ended_with m h f → IsNow m h → EndTells m n h f
end_tells m n h f a now = subst (λ (x : EventMap). EndTells m x h f) (sym a) (record { ended = ended_is m h f now; others = ended_others m h f now; keeps = ended_keeps m h f now; free = ended_free m h f now })

-- what placing tells
pub record PlaceTells (m n : EventMap) (h : Handle) (k : ℕ) : Type 0 where
  pub placed : IsPlaced n k h
  pub answers : (x : Handle) → answer n x ≡ answer m x
  pub keeps : KeepsCreated m n
  pub free : (j : ℕ) → j ≢ k → IsFree m j → IsFree n j

pub place_tells : (m n : EventMap) (h : Handle) (k : ℕ) → n ≡ placed_on m h k → answer m h ≡ Some Pending → PlaceTells m n h k
place_tells m n h k a p = let near = near_some m h Pending p in subst (λ (x : EventMap). PlaceTells m x h k) (sym a) (record {
  placed = placed_stands m h k near p;
  answers = placed_answers m h k near;
  keeps = keeps_answers m (placed_on m h k) (placed_answers m h k near);
  free = placed_free m h k near;
})
