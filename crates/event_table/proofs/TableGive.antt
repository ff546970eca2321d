-- Giving a waiter that was caught by a one-thread table.
use Rattle.std.proofs.Common.{◌≡◌, ℕ, ◌+◌, ◌-◌, ◌<◌, ◌≤◌, cond, List, [], ◌∷◌, ◌++◌, length, get_or, sym, refl, ap, ◌∙◌, subst, arith}
use Rattle.std.specs.Prelude.{Contains, nat_lt}
use Rattle.std.proofs.lemmas.List.{get_or_past}
use mathlib.Core.Logic.{dite}
use native.Mathlib.Decide.{dec_le}
use Rattle.basics.specs.Sums.{total, below, only}
use Rattle.event_table.specs.Words.{code}
use Rattle.event_table.specs.EventMap.{EventMap, SlotLife, unused, life_at, answer, all_on, weight, IsFree, KeepsCreated, KeepsFree, Gives}
use Rattle.event_table.specs.Kept.{map_in, AreKept, IsSized}
use Rattle.event_table.specs.declared.handle.Handle.{Handle}
use Rattle.event_table.specs.declared.handle.Shape.{Shape}
use Rattle.event_table.specs.declared.chain.Chain.{Chain}
use Rattle.basics.proofs.Sums.{below-only, item_le, only-same, below-once, entry_le, in_list}
use Rattle.basics.proofs.ListFacts.{contains_none, contains_there}
use Rattle.event_table.proofs.ChainSteps.{at_default}
use Rattle.event_table.proofs.Words.{code_le}
use Rattle.event_table.proofs.Reading.{map_read}
use Rattle.event_table.proofs.MapAnswers.{keeps_answers}
use Rattle.event_table.proofs.TableSteps.{TakesOne, caught_last, more_chains}

-- the map without the first that is caught
abbrev pub given : EventMap → List (ℕ × Handle) → EventMap
given m ps = record { waiters = m.waiters; last_gen = m.last_gen; slots = m.slots; caught = ps }

-- who is given is nowhere else
pub given_free : (m : EventMap) (k : ℕ) (h : Handle) (ps : List (ℕ × Handle)) → m.caught ≡ (k, h) ∷ ps → ((f : ℕ → ℕ) → weight f m ≤ below f m.waiters) → IsFree (given m ps) k
given_free m k h ps e once =
    let all = once (only k) in
    let here = ap (total (λ (p : ℕ × Handle). only k p.0)) e in
    let one = only-same k in
    let most = below-once k m.waiters in
    record {
      number = dite (dec_le m.waiters k) (λ l. let none = (below-only k m.waiters).1 l in absurd (omega arith)) (λ n. omega arith);
      unplaced = λ i c. dite (dec_le (length m.slots) i)
          (λ l. absurd (contains_none k (subst (λ (s : SlotLife). Contains s.waiting k) (get_or_past m.slots i unused l) c)))
          (λ n. let some = entry_le (λ (s : SlotLife). total (only k) s.waiting) m.slots i unused (omega arith) in let mine = in_list k (life_at m i).waiting c in omega arith);
      uncaught = λ x c. let again = item_le (λ (p : ℕ × Handle). only k p.0) ps (k, x) c in omega arith;
    }

pub given_keeps : (m : EventMap) (k : ℕ) (h : Handle) (ps : List (ℕ × Handle)) → m.caught ≡ (k, h) ∷ ps → KeepsFree m (given m ps)
given_keeps m k h ps e = λ j o. record {
  number = o.number;
  unplaced = o.unplaced;
  uncaught = λ x c. o.uncaught x (subst (λ (l : List (ℕ × Handle)). Contains l (j, x)) (sym e) (contains_there {X = ℕ × Handle} (k, h) ps (j, x) c));
}

module _ (key : Shape) (words free : List ℕ) (cs : List Chain) (c : Chain) (m : EventMap) (o : AreKept key words free (cs ++ c ∷ []) m) where
  pub taken : TakesOne key words cs c m.caught
  taken = caught_last key words cs c m.caught o.shown.chains

  -- the link of the first leads to the rest of its chain
  pub link_is : get_or words (key.slots + c.first) 0 ≡ code taken.left
  link_is = taken.linked.1

  pub first_low : c.first < key.waiters
  first_low = taken.linked.0

  abbrev pub after : List (ℕ × Handle)
  after = all_on c.handle taken.left ++ taken.rest

  pub parts : m.caught ≡ (c.first, c.handle) ∷ after
  parts = taken.parts

  pub given_kept : AreKept key words free (cond (nat_lt 0 (code taken.left)) (cs ++ record { handle = c.handle; first = code taken.left - 1 } ∷ []) cs) (given m after)
  given_kept = record {
    shown = record {
      waiters = o.shown.waiters;
      last = o.shown.last;
      wide = o.shown.wide;
      high = o.shown.high;
      each = o.shown.each;
      chains = more_chains key words cs taken.rest c.handle taken.left taken.linked.2 taken.more;
      once = λ f. let fewer = ap (total (λ (p : ℕ × Handle). f p.0)) parts in omega (arith, o.shown.once f);
    };
    frees = record { served = λ i d. let s = o.frees.served i d in record { near = s.near; idle = s.idle; left = s.left }; spare = λ i s. o.frees.spare i (record { near = s.near; idle = s.idle; left = s.left }); apart = o.frees.apart };
  }

-- what giving a waiter did
pub record GivesOne (key : Shape) (words free : List ℕ) (cs : List Chain) (m n : EventMap) (k : ℕ) : Type 0 where
  pub kept : AreKept key words free cs n
  pub gives : Gives m k n
  pub is_free : IsFree n k
  pub answers : (h : Handle) → answer n h ≡ answer m h
  pub keeps : KeepsCreated m n
  pub keeps_free : KeepsFree m n

module _ (key : Shape) (words free : List ℕ) (cs all : List Chain) (c : Chain) (m : EventMap) (sized : IsSized key) (o : AreKept key words free all (map_in key words all)) (view : map_in key words all ≡ m) (popped : all ≡ cs ++ c ∷ []) where
  held : AreKept key words free (cs ++ c ∷ []) m
  held = subst (λ (l : List Chain). AreKept key words free l m) popped (subst (AreKept key words free all) view o)

  pub give_inside : key.slots + c.first < length words
  give_inside = let l = first_low key words free cs c m held in omega (arith, held.shown.wide)

  pub give_low : (n : ℕ) → n ≡ get_or words (key.slots + c.first) n → n < 4294967296
  give_low n e = let at = at_default words (key.slots + c.first) n give_inside e in let t = taken key words free cs c m held in
      let w = sized.2 in omega (arith, t.linked.1, code_le key words t.left t.linked.2)

  pub give_done : (cs' : List Chain) (n : ℕ) → n ≡ get_or words (key.slots + c.first) n → cs' ≡ cond (nat_lt 0 n) (cs ++ record { handle = c.handle; first = n - 1 } ∷ []) cs → GivesOne key words free cs' m (map_in key words cs') c.first
  give_done cs' n e back =
      let t = taken key words free cs c m held in
      let at : n ≡ code t.left = at_default words (key.slots + c.first) n give_inside e ∙ t.linked.1 in
      let C : ℕ → List Chain = λ y. cond (nat_lt 0 y) (cs ++ record { handle = c.handle; first = y - 1 } ∷ []) cs in
      let same : cs' ≡ C (code t.left) = back ∙ ap C at in
      let new : EventMap = given m (all_on c.handle t.left ++ t.rest) in
      let kept : AreKept key words free cs' new = subst (λ (l : List Chain). AreKept key words free l new) (sym same) (given_kept key words free cs c m held) in
      let is : map_in key words cs' ≡ new = map_read key words sized.2 cs' new kept.shown in
      let once : (f : ℕ → ℕ) → weight f m ≤ below f m.waiters = λ f. subst (λ w. weight f m ≤ below f w) (sym held.shown.waiters) (held.shown.once f) in
      subst (λ (x : EventMap). GivesOne key words free cs' m x c.first) (sym is) (record {
        kept = kept;
        gives = (c.handle, t.parts, refl, refl, refl);
        is_free = given_free m c.first c.handle (all_on c.handle t.left ++ t.rest) t.parts once;
        answers = λ h. refl;
        keeps = keeps_answers m new (λ h. refl);
        keeps_free = given_keeps m c.first c.handle (all_on c.handle t.left ++ t.rest) t.parts;
      })
