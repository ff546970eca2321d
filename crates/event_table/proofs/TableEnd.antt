-- Ending a pending handle of a one-thread table.
use Rattle.std.proofs.Common.{◌≡◌, ◌≢◌, ℕ, ◌+◌, ◌-◌, ◌*◌, ◌%◌, ◌<◌, ◌≤◌, false, cond, List, [], ◌∷◌, ◌++◌, length, get_or, set, sym, refl, ap, ◌∙◌, subst, arith, get_or-set_same, get_or-set_other, length-append, Some}
use Rattle.std.specs.Prelude.{nat_lt}
use Rattle.std.proofs.lemmas.Bool.{lt-ltb, le-ltb, false≢true}
use Rattle.std.proofs.lemmas.List.{get_or_append_left, length-set}
use Rattle.std.proofs.Math.Seq.{get_or-append_seam}
use mathlib.Core.Logic.{dite}
use native.Mathlib.Decide.{ℕ_discrete, dec_le}
use Rattle.basics.specs.Sums.{total}
use Rattle.event_table.specs.Words.{mark, mark_word, fate_code, code, Shows, Follows, handle_at}
use Rattle.event_table.specs.EventMap.{EventMap, SlotLife, unused, life_at, with_life, answer, ended_with, all_on, MayServe}
use Rattle.event_table.specs.Kept.{map_in, IsSlot, AreFree, AreKept, IsSized, IsMarked}
use Rattle.event_table.specs.declared.handle.Handle.{Handle}
use Rattle.event_table.specs.declared.handle.Fate.{Fate}
use Rattle.event_table.specs.declared.handle.Fate.TheVariants.{Ok}
use Rattle.event_table.specs.declared.handle.Answer.TheVariants.{Pending}
use Rattle.event_table.specs.declared.handle.Shape.{Shape}
use Rattle.event_table.specs.declared.chain.Chain.{Chain}
use Rattle.basics.proofs.Sums.{total-put, total-append, entry_le, below-one}
use Rattle.event_table.proofs.Marks.{marks_low, places_apart, mark_beside}
use Rattle.event_table.proofs.ChainSteps.{linked_all, at_default}
use Rattle.event_table.proofs.Reading.{total-all_on, map_read, as_read}
use Rattle.event_table.proofs.MapAnswers.{at_slot, is_now}
use Rattle.event_table.specs.Maps.{IsNow}
use Rattle.event_table.proofs.TablePlace.{pending_word}
use Rattle.event_table.proofs.TableSteps.{linked_same, slot_same, caught_same, more_chains, chains_few, caught_low, free_same, free_more, free_room}

one_at_least : (c : List ℕ) → 0 < code c → 0 < total (λ _. 1) c
one_at_least [] l = l
one_at_least (k ∷ ks) l = omega arith

-- the word after a generation g shows g + 1 of them
pub next_shows : (last g n next : ℕ) → n ≡ g + 1 → g ≤ last → Follows last g next → Shows last (2 * n + 0) [] next
next_shows last g n next e l follows = let a = follows.0 in let b = follows.1 in record {
  few = omega arith;
  free = λ _ z. let w = a (omega arith) in omega arith;
  pending = λ z. absurd (omega arith);
  retired = λ z. b (omega arith);
  bare = λ _. refl;
}

module _ (key : Shape) (words free : List ℕ) (cs : List Chain) (m : EventMap) (h : Handle) (f : Fate) (o : AreKept key words free cs m) (now : IsNow m h) where
  pub end_near : h.slot < key.slots
  end_near = omega (arith, now.near, o.shown.high)

  pub end_word : (get_or words h.slot 0 ≡ length (life_at m h.slot).fates * 4294967296 + 1 + code (life_at m h.slot).waiting) × (code (life_at m h.slot).waiting ≤ key.waiters) × (length (life_at m h.slot).fates ≤ key.last_gen)
  end_word = pending_word key words h.slot (life_at m h.slot) (o.shown.each h.slot end_near) now.pending

  pub end_low : h.gen_ ≤ key.last_gen
  end_low = let w = end_word.2 in omega (arith, now.last)

  pub end_was : MayServe m h.slot → ⊥
  end_was s = false≢true (sym s.idle ∙ now.pending)

  -- there is room among the free slots, and among the chains where there is a waiter
  pub end_free : length free < key.slots
  end_free = free_room m h.slot unused key.slots free now.near o.frees end_near end_was

  pub end_room : 0 < code (life_at m h.slot).waiting → length cs < key.waiters
  end_room l =
      let few = chains_few key words cs m.caught o.shown.chains in
      let all = o.shown.once (λ _. 1) in
      let ones = below-one key.waiters in
      let here = entry_le (λ (s : SlotLife). total (λ _. 1) s.waiting) m.slots h.slot unused now.near in
      let some : 0 < total (λ _. 1) (life_at m h.slot).waiting = one_at_least (life_at m h.slot).waiting l in
      omega arith

  module _ (marked : List ℕ) (next : ℕ) (is : IsMarked key words marked h f) (follows : Follows key.last_gen h.gen_ next) where
    high : key.slots + key.waiters ≤ mark_word key h
    high = omega arith

    there : (j : ℕ) → j < key.slots → j ≢ h.slot → get_or (set marked h.slot next) j 0 ≡ get_or words j 0
    there j l n = let t = high in get_or-set_other marked h.slot j next 0 n ∙ is.others j (λ e. omega arith)

    word_here : get_or (set marked h.slot next) h.slot 0 ≡ next
    word_here = let l = end_near in get_or-set_same marked h.slot next 0 (omega (arith, o.shown.wide, is.size))

    links : (k : ℕ) → k < key.waiters → get_or (set marked h.slot next) (key.slots + k) 0 ≡ get_or words (key.slots + k) 0
    links k w = let l = end_near in let t = high in get_or-set_other marked h.slot (key.slots + k) next 0 (λ e. omega arith) ∙ is.others (key.slots + k) (λ e. omega arith)

    low_mark : (x : Handle) → mark key (set marked h.slot next) x ≡ mark key marked x
    low_mark x = let l = end_near in marks_low key marked h.slot next x (omega arith)

    mark_now : mark key (set marked h.slot next) h ≡ fate_code f
    mark_now = low_mark h ∙ is.here

    mark_else : (x : Handle) → x.gen_ ≤ key.last_gen → ((x.slot ≡ h.slot) × (x.gen_ ≡ h.gen_) → ⊥) → mark key (set marked h.slot next) x ≡ mark key words x
    mark_else x l n = low_mark x ∙ mark_beside key words marked h f x is (λ e. n (places_apart key.last_gen x h l end_low e))

    pub ended_kept : AreKept key (set marked h.slot next) (cond (nat_lt h.gen_ key.last_gen) (free ++ h.slot ∷ []) free) (cond (nat_lt 0 (code (life_at m h.slot).waiting)) (cs ++ record { handle = h; first = code (life_at m h.slot).waiting - 1 } ∷ []) cs) (ended_with m h f)
    ended_kept =
        let i : ℕ = h.slot in
        let old : SlotLife = life_at m h.slot in
        let new : SlotLife = record { fates = (life_at m h.slot).fates ++ f ∷ []; is_pending = false; waiting = [] } in
        let ws : List ℕ = set marked h.slot next in
        let size : length (old.fates ++ f ∷ []) ≡ length old.fates + 1 = length-append old.fates (f ∷ []) in
        let last : h.gen_ ≡ length old.fates = now.last in
        let top = end_low in
        let some : AreFree key.slots (with_life m h.slot new) (cond (nat_lt h.gen_ key.last_gen) (free ++ h.slot ∷ []) free) = dite (dec_le key.last_gen h.gen_)
        (λ l. subst (λ b. AreFree key.slots (with_life m h.slot new) (cond b (free ++ h.slot ∷ []) free)) (sym (le-ltb h.gen_ key.last_gen l)) (free_same m h.slot new key.slots free now.near o.frees end_was (λ _ z. absurd (omega (arith, o.shown.last)))))
        (λ l. subst (λ b. AreFree key.slots (with_life m h.slot new) (cond b (free ++ h.slot ∷ []) free)) (sym (lt-ltb h.gen_ key.last_gen (omega arith))) (free_more m h.slot new key.slots free now.near o.frees end_near end_was refl (omega (arith, o.shown.last)))) in
        record {
          shown = record {
            waiters = o.shown.waiters;
            last = o.shown.last;
            wide = omega (arith, length-set marked h.slot next, is.size, o.shown.wide);
            high = length-set m.slots h.slot new ∙ o.shown.high;
            each = at_slot m h.slot new (λ j s. j < key.slots → IsSlot key ws j s) now.near
                (λ l. record {
                  word = subst (Shows key.last_gen (2 * length (old.fates ++ f ∷ []) + 0) []) (sym word_here) (next_shows key.last_gen h.gen_ (length (old.fates ++ f ∷ [])) next (omega arith) end_low follows);
                  linked = tt;
                  marks = λ g d. dite (ℕ_discrete g (length old.fates))
                      (λ e. ap (λ n. mark key ws (handle_at i n)) (e ∙ sym last) ∙ mark_now ∙ ap fate_code (sym (ap (λ n. get_or (old.fates ++ f ∷ []) n Ok) e ∙ get_or-append_seam old.fates f [] Ok)))
                      (λ n. let below : g < length old.fates = omega arith in mark_else (handle_at i g) (omega arith) (λ z. let same = z.1 in n (omega arith)) ∙ (o.shown.each i l).marks g below ∙ ap fate_code (sym (get_or_append_left old.fates (f ∷ []) Ok g below)));
                })
                (λ j n l. slot_same key words ws j (life_at m j) (there j l n) (λ k c. links k (linked_all key words (life_at m j).waiting (o.shown.each j l).linked k c)) (λ g d. mark_else (handle_at j g) (let few = (o.shown.each j l).word.few in omega arith) (λ z. n z.0)) (o.shown.each j l));
            chains = more_chains key ws cs m.caught h old.waiting (linked_same key words ws old.waiting (λ k c. links k (linked_all key words old.waiting (o.shown.each i end_near).linked k c)) (o.shown.each i end_near).linked)
                (caught_same key words ws cs m.caught (λ k x c. links k (caught_low key words cs m.caught o.shown.chains k x c)) o.shown.chains);
            once = λ g. let zero = total-put (λ (l : SlotLife). total g l.waiting) m.slots h.slot new unused now.near in
                omega (arith, o.shown.once g, zero, total-append (λ (p : ℕ × Handle). g p.0) (all_on h old.waiting) m.caught, total-all_on g h old.waiting);
          };
          frees = record { served = λ j d. let s = some.served j d in record { near = s.near; idle = s.idle; left = s.left }; spare = λ j s. some.spare j (record { near = s.near; idle = s.idle; left = s.left }); apart = some.apart };
        }

-- what ending did
pub record Ends (key : Shape) (words free : List ℕ) (cs : List Chain) (m : EventMap) (h : Handle) (f : Fate) : Type 0 where
  pub kept : AreKept key words free cs (map_in key words cs)
  pub map : map_in key words cs ≡ ended_with m h f
  pub now : IsNow m h

module _ (key : Shape) (words free : List ℕ) (cs : List Chain) (h : Handle) (f : Fate) (sized : IsSized key) (o : AreKept key words free cs (map_in key words cs)) (m : EventMap) (view : map_in key words cs ≡ m) (is : answer m h ≡ Some Pending) where
  now : IsNow (map_in key words cs) h
  now = subst (λ n. IsNow n h) (sym view) (is_now m h is)

  pub free_fits : length free < key.slots
  free_fits = end_free key words free cs (map_in key words cs) h f o now

  pub handle_inside : (h.slot < key.slots) × (h.gen_ ≤ key.last_gen)
  handle_inside = (end_near key words free cs (map_in key words cs) h f o now, end_low key words free cs (map_in key words cs) h f o now)

  -- the low half of the slot's word
  pub low_half : (marked : List ℕ) (w : ℕ) → IsMarked key words marked h f → w ≡ get_or marked h.slot w → (1 ≤ w % 4294967296) × (w % 4294967296 - 1 ≡ code (life_at (map_in key words cs) h.slot).waiting)
  low_half marked w is found =
      let near = end_near key words free cs (map_in key words cs) h f o now in
      let t = end_word key words free cs (map_in key words cs) h f o now in
      let c = sized.2 in
      let code-low = t.1 in
      let at : w ≡ get_or words h.slot 0 = at_default marked h.slot w (omega (arith, is.size, o.shown.wide)) found ∙ is.others h.slot (λ z. omega arith) in
      (omega (arith, t.0), omega (arith, t.0))

  pub chain_fits : (n : ℕ) → n ≡ code (life_at (map_in key words cs) h.slot).waiting → 0 < n → length cs < key.waiters
  chain_fits n e l = end_room key words free cs (map_in key words cs) h f o now (subst (λ x. 0 < x) e l)

  pub end_done : (free' : List ℕ) (cs' : List Chain) (marked : List ℕ) (n next : ℕ) → IsMarked key words marked h f → Follows key.last_gen h.gen_ next → n ≡ code (life_at (map_in key words cs) h.slot).waiting
      → free' ≡ cond (nat_lt h.gen_ key.last_gen) (free ++ h.slot ∷ []) free → cs' ≡ cond (nat_lt 0 n) (cs ++ record { handle = h; first = n - 1 } ∷ []) cs → Ends key (set marked h.slot next) free' cs' m h f
  end_done free' cs' marked n next is-marked follows code-is frees chains =
      let kept = ended_kept key words free cs (map_in key words cs) h f o now marked next is-marked follows in
      let C : ℕ → List Chain = λ y. cond (nat_lt 0 y) (cs ++ record { handle = h; first = y - 1 } ∷ []) cs in
      let same : cs' ≡ C (code (life_at (map_in key words cs) h.slot).waiting) = chains ∙ ap C code-is in
      let kept' : AreKept key (set marked h.slot next) free' cs' (ended_with (map_in key words cs) h f) =
      subst (λ l. AreKept key (set marked h.slot next) l cs' (ended_with (map_in key words cs) h f)) (sym frees)
      (subst (λ l. AreKept key (set marked h.slot next) (cond (nat_lt h.gen_ key.last_gen) (free ++ h.slot ∷ []) free) l (ended_with (map_in key words cs) h f)) (sym same) kept) in
      record {
        kept = as_read key (set marked h.slot next) sized.2 free' cs' (ended_with (map_in key words cs) h f) kept';
        map = map_read key (set marked h.slot next) sized.2 cs' (ended_with (map_in key words cs) h f) kept'.shown ∙ ap (λ x. ended_with x h f) view;
        now = is_now m h is;
      }
