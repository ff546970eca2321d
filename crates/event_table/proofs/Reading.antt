-- The map is read off the words that show it.
use Rattle.std.proofs.Common.{◌≡◌, ℕ, zero, suc, ◌+◌, ◌-◌, ◌*◌, ◌/◌, ◌%◌, ◌<◌, ◌≤◌, Bool, true, false, cond, List, [], ◌∷◌, ◌++◌, length, get_or, sym, refl, ap, ◌∙◌, subst, arith, eqb, eq-eqb, ne_eqb, eqb-true}
use Rattle.std.proofs.lemmas.Nat.Bits.{bit_at-lt}
use Rattle.std.proofs.lemmas.Bool.{eqb-false}
use Rattle.basics.specs.Sums.{total}
use Rattle.event_table.specs.Words.{turns_of, place_of, mark_word, mark, fate_code, code, Linked, Shows, handle_at}
use Rattle.event_table.specs.Chains.{chain_in, chain_at}
use Rattle.event_table.specs.EventMap.{EventMap, SlotLife, unused, life_at, all_on}
use Rattle.event_table.specs.Kept.{read, fate_in, life_in, caught_in, map_in, turns_in, IsSlot, AreCaught, AreShown, AreKept}
use Rattle.event_table.specs.declared.handle.Handle.{Handle}
use Rattle.event_table.specs.declared.handle.Fate.TheVariants.{Ok}
use Rattle.event_table.specs.declared.handle.Shape.{Shape}
use Rattle.event_table.specs.declared.chain.Chain.{Chain}
use Rattle.basics.proofs.Sums.{total-append, total-one, below-one, entry_le}
use Rattle.event_table.proofs.Words.{code_le, turns_shown}
use Rattle.basics.proofs.Choices.{by_test}
use Rattle.event_table.proofs.Marks.{coded, code_answer}
use Rattle.event_table.proofs.ChainSteps.{follows}

module _ {X : Type 0} (f : ℕ → X) where
  pub read_all : (i : ℕ) (xs : List X) (d : X) → ((k : ℕ) → k < length xs → f (i + k) ≡ get_or xs k d) → read f i (length xs) ≡ xs
  read_all i [] d e = refl
  read_all i (x ∷ xs) d e =
      let first : f i ≡ x = ap f (let z : i ≡ i + 0 = omega arith in z) ∙ e 0 (omega arith) in
      let rest = read_all (i + 1) xs d (λ k l. ap f (let z : (i + 1) + k ≡ i + suc k = omega arith in z) ∙ e (suc k) (omega arith)) in
      λ t. first t ∷ rest t

  pub read_here : (xs : List X) (d : X) → ((k : ℕ) → k < length xs → f k ≡ get_or xs k d) → read f 0 (length xs) ≡ xs
  read_here xs d e = read_all 0 xs d (λ k l. ap f (let z : 0 + k ≡ k = omega arith in z) ∙ e k l)

pub bit_low : (b : Bool) → cond b 1 0 < 2
bit_low true = omega arith
bit_low false = omega arith

pub odd_is : (n : ℕ) (b : Bool) → eqb ((2 * n + cond b 1 0) % 2) 1 ≡ b
odd_is n true = eq-eqb ((2 * n + 1) % 2) 1 (omega arith)
odd_is n false = ne_eqb ((2 * n + 0) % 2) 1 (λ e. omega arith)

pub half_is : (n : ℕ) (b : Bool) → (2 * n + cond b 1 0) / 2 ≡ n
half_is n true = omega arith
half_is n false = omega arith

pub total-all_on : (f : ℕ → ℕ) (h : Handle) (ks : List ℕ) → total (λ (p : ℕ × Handle). f p.0) (all_on h ks) ≡ total f ks
total-all_on f h [] = refl
total-all_on f h (k ∷ ks) = omega (arith, total-all_on f h ks)

module _ (shape : Shape) (words : List ℕ) (few : shape.waiters ≤ 65536) where
  module _ (i : ℕ) (life : SlotLife) (o : IsSlot shape words i life) (short : length life.waiting ≤ shape.waiters) where
    pub turns_at : turns_of (get_or words i 0) ≡ turns_in life
    turns_at = turns_shown shape.last_gen (turns_in life) life.waiting (get_or words i 0) o.word (let l = code_le shape words life.waiting o.linked in omega arith)

    fates_at : read (fate_in shape words i) 0 (turns_of (get_or words i 0) / 2) ≡ life.fates
    fates_at = ap (λ t. read (fate_in shape words i) 0 (t / 2)) turns_at ∙ ap (read (fate_in shape words i) 0) (half_is (length life.fates) life.is_pending)
        ∙ read_here (fate_in shape words i) life.fates Ok (λ g l. code_answer (mark shape words (handle_at i g)) (get_or life.fates g Ok) (o.marks g l))

    pending_at : eqb (turns_of (get_or words i 0) % 2) 1 ≡ life.is_pending
    pending_at = ap (λ t. eqb (t % 2) 1) turns_at ∙ odd_is (length life.fates) life.is_pending

    waiting_at : cond (eqb (turns_of (get_or words i 0) % 2) 1) (chain_at shape words i) [] ≡ life.waiting
    waiting_at = ap (λ b. cond b (chain_at shape words i) []) pending_at ∙ by_test life.is_pending
        (λ e. let odd : turns_in life % 2 ≡ 1 = ap (λ b. (2 * length life.fates + cond b 1 0) % 2) e ∙ (let z : (2 * length life.fates + 1) % 2 ≡ 1 = omega arith in z) in
        let w = o.word.pending odd in
        let top = code_le shape words life.waiting o.linked in
        let low : get_or words i 0 % 4294967296 - 1 ≡ code life.waiting = omega arith in
        ap (λ b. cond b (chain_at shape words i) []) e ∙ ap (chain_in shape.waiters shape.slots words) low ∙ follows shape words life.waiting shape.waiters o.linked short)
        (λ e. let even : turns_in life % 2 ≡ 0 = ap (λ b. (2 * length life.fates + cond b 1 0) % 2) e ∙ (let z : (2 * length life.fates + 0) % 2 ≡ 0 = omega arith in z) in
        ap (λ b. cond b (chain_at shape words i) []) e ∙ sym (o.word.bare even))

    pub life_read : life_in shape words i ≡ life
    life_read = λ t. record { fates = fates_at t; is_pending = pending_at t; waiting = waiting_at t }

  caught_read : (cs : List Chain) (ps : List (ℕ × Handle)) → AreCaught shape words cs ps → total (λ (p : ℕ × Handle). 1) ps ≤ shape.waiters → caught_in shape words cs ≡ ps
  caught_read [] ps o l = sym o
  caught_read (c ∷ cs) ps (ks, rest, e, linked, more) l =
      let size = ap (total (λ (p : ℕ × Handle). 1)) e in
      let parts = total-append (λ (p : ℕ × Handle). 1) rest (all_on c.handle (c.first ∷ ks)) in
      let count = total-all_on (λ _. 1) c.handle (c.first ∷ ks) in
      let ones = total-one (c.first ∷ ks) in
      let short : length (c.first ∷ ks) ≤ shape.waiters = omega arith in
      let before = caught_read cs rest more (omega arith) in
      let chain = follows shape words (c.first ∷ ks) shape.waiters linked short in
      (λ t. before t ++ all_on c.handle (chain t)) ∙ sym e

  pub map_read : (cs : List Chain) (m : EventMap) → AreShown shape words cs m → map_in shape words cs ≡ m
  map_read cs m o =
      let all = o.once (λ _. 1) in
      let ones = below-one shape.waiters in
      let slots : read (life_in shape words) 0 shape.slots ≡ m.slots = ap (read (life_in shape words) 0) (sym o.high) ∙ read_here (life_in shape words) m.slots unused
      (λ i l. let near : i < shape.slots = omega (arith, o.high) in life_read i (life_at m i) (o.each i near)
      (let w = entry_le (λ (s : SlotLife). total (λ _. 1) s.waiting) m.slots i unused l in omega (arith, total-one (life_at m i).waiting))) in
      let caught = caught_read cs m.caught o.chains (omega arith) in
      λ t. record { waiters = sym o.waiters t; last_gen = sym o.last t; slots = slots t; caught = caught t }

  -- so what shows a map shows the one that is read
  pub as_read : (free : List ℕ) (cs : List Chain) (m : EventMap) → AreKept shape words free cs m → AreKept shape words free cs (map_in shape words cs)
  as_read free cs m o = subst (AreKept shape words free cs) (sym (map_read cs m o.shown)) o

-- READ LISTS
module _ {X : Type 0} (f : ℕ → X) where
  pub read_length : (i n : ℕ) → length (read f i n) ≡ n
  read_length i zero = refl
  read_length i (suc n) = ap suc (read_length (i + 1) n)

  pub read_at : (i n k : ℕ) (d : X) → k < n → get_or (read f i n) k d ≡ f (i + k)
  read_at i zero k d l = absurd (omega arith)
  read_at i (suc n) zero d l = ap f (let z : i ≡ i + 0 = omega arith in z)
  read_at i (suc n) (suc k) d l = read_at (i + 1) n k d (omega arith) ∙ ap f (let z : (i + 1) + k ≡ i + suc k = omega arith in z)

  pub read_from_start : (n k : ℕ) (d : X) → k < n → get_or (read f 0 n) k d ≡ f k
  read_from_start n k d l = read_at 0 n k d l ∙ ap f (let z : 0 + k ≡ k = omega arith in z)

  pub read_total : {Y : Type 0} (g : X → ℕ) (h : Y → ℕ) (i : ℕ) (ys : List Y) (d : Y) → ((k : ℕ) → k < length ys → g (f (i + k)) ≡ h (get_or ys k d)) → total g (read f i (length ys)) ≡ total h ys
  read_total g h i [] d e = refl
  read_total g h i (y ∷ ys) d e =
      let first : g (f i) ≡ h y = ap (λ k. g (f k)) (let z : i ≡ i + 0 = omega arith in z) ∙ e 0 (omega arith) in
      let rest = read_total g h (i + 1) ys d (λ k l. ap (λ j. g (f j)) (let z : (i + 1) + k ≡ i + suc k = omega arith in z) ∙ e (suc k) (omega arith)) in
      omega arith

whole_is : (t : ℕ) → 2 * (t / 2) + cond (eqb (t % 2) 1) 1 0 ≡ t
whole_is t = by_test (eqb (t % 2) 1)
    (λ e. ap (λ b. 2 * (t / 2) + cond b 1 0) e ∙ (let odd = eqb-true (t % 2) 1 e in let z : 2 * (t / 2) + 1 ≡ t = omega arith in z))
    (λ e. ap (λ b. 2 * (t / 2) + cond b 1 0) e ∙ (let odd = eqb-false (t % 2) 1 e in let z : 2 * (t / 2) + 0 ≡ t = omega arith in z))

-- the turns of a life that is read
pub turns_read : (shape : Shape) (words : List ℕ) (i : ℕ) → turns_in (life_in shape words i) ≡ turns_of (get_or words i 0)
turns_read shape words i = ap (λ n. 2 * n + cond (eqb (turns_of (get_or words i 0) % 2) 1) 1 0) (read_length (fate_in shape words i) 0 (turns_of (get_or words i 0) / 2)) ∙ whole_is (turns_of (get_or words i 0))

-- the life that is read of a word, which shows its turns and its chain
pub slot_read : (shape : Shape) (words : List ℕ) (i : ℕ) → Shows shape.last_gen (turns_of (get_or words i 0)) (life_in shape words i).waiting (get_or words i 0) → Linked shape words (life_in shape words i).waiting → IsSlot shape words i (life_in shape words i)
slot_read shape words i shows linked =
    let n : ℕ = turns_of (get_or words i 0) / 2 in
    record {
      word = subst (λ t. Shows shape.last_gen t (life_in shape words i).waiting (get_or words i 0)) (sym (turns_read shape words i)) shows;
      linked = linked;
      marks = λ g l. let low : g < n = subst (λ x. g < x) (read_length (fate_in shape words i) 0 n) l in
          coded (mark shape words (handle_at i g)) (bit_at-lt (get_or words (mark_word shape (handle_at i g)) 0) (place_of shape.last_gen (handle_at i g) % 64)) ∙ ap fate_code (sym (read_from_start (fate_in shape words i) n g Ok low));
    }
