-- A slot of a closed table is copied.
use Rattle.std.proofs.Common.{◌≡◌, ◌≢◌, ℕ, ◌+◌, ◌%◌, ◌<◌, ◌≤◌, List, [], get_or, set, sym, ap, ◌∙◌, subst, arith, get_or-set_other}
use Rattle.std.specs.Int.{bit_at}
use Rattle.std.proofs.lemmas.Nat.Bits.{bit_at-lt}
use mathlib.Core.Logic.{dite}
use native.Mathlib.Decide.{ℕ_discrete}
use Rattle.event_table.specs.Words.{turns_of, mark, mark_word, place_of, fate_code, Shows, fate_by, handle_at}
use Rattle.event_table.specs.Kept.{IsTakenOver, IsMarked}
use Rattle.event_table.specs.declared.handle.Handle.{Handle}
use Rattle.event_table.specs.declared.handle.Fate.{Fate}
use Rattle.event_table.specs.declared.handle.Shape.{Shape}
use Rattle.event_table.proofs.Marks.{coded, places_apart, marks_low, mark_beside}

-- the fates of the first n generations of a slot were copied, and no other
pub record AreCopied (from to : Shape) (old start words : List ℕ) (slot n : ℕ) : Type 0 where
  pub done : (g : ℕ) → g < n → mark to words (handle_at slot g) ≡ mark from old (handle_at slot g)
  pub others : (h : Handle) → h.slot ≢ slot → h.gen_ ≤ to.last_gen → mark to words h ≡ mark to start h
  pub low : (i : ℕ) → i < to.slots + to.waiters → get_or words i 0 ≡ get_or start i 0

-- the fate that a word of the closed table shows
pub fate_is : (from : Shape) (old : List ℕ) (h : Handle) (f : Fate) (word at place : ℕ) → at ≡ mark_word from h → place ≡ place_of from.last_gen h → word ≡ get_or old at 0 → f ≡ fate_by (bit_at word (place % 64)) → fate_code f ≡ mark from old h
fate_is from old h f word at place a b w e =
    ap fate_code (e ∙ (λ t. fate_by (bit_at ((w ∙ ap (λ i. get_or old i 0) a) t) (b t % 64)))) ∙ sym (coded (mark from old h) (bit_at-lt (get_or old (mark_word from h) 0) (place_of from.last_gen h % 64)))

pub one_more_fate : (from to : Shape) (old start words new : List ℕ) (slot n : ℕ) (f : Fate) → n ≤ to.last_gen → AreCopied from to old start words slot n
    → IsMarked to words new (handle_at slot n) f → fate_code f ≡ mark from old (handle_at slot n) → AreCopied from to old start new slot (n + 1)
one_more_fate from to old start words new slot n f top o marked fate = record {
  done = λ g l. dite (ℕ_discrete g n)
      (λ e. subst (λ x. mark to new (handle_at slot x) ≡ mark from old (handle_at slot x)) (sym e) (marked.here ∙ fate))
      (λ ne. mark_beside to words new (handle_at slot n) f (handle_at slot g) marked (λ e. ne (places_apart to.last_gen (handle_at slot g) (handle_at slot n) (omega arith) top e).1) ∙ o.done g (omega arith));
  others = λ h n' l. mark_beside to words new (handle_at slot n) f h marked (λ e. n' (places_apart to.last_gen h (handle_at slot n) l top e).0) ∙ o.others h n' l;
  low = λ i l. marked.others i (λ e. omega arith) ∙ o.low i l;
}

-- once the slot's own word is written, each other slot shows what it did
pub taken_beside : (from to : Shape) (old start words : List ℕ) (slot n w i : ℕ) → slot < to.slots → AreCopied from to old start words slot n → i < to.slots → i ≢ slot → IsTakenOver to from start old i → IsTakenOver to from (set words slot w) old i
taken_beside from to old start words slot n w i near o l ne was = record {
  word = subst (Shows to.last_gen (turns_of (get_or old i 0)) []) (sym (get_or-set_other words slot i w 0 ne ∙ o.low i (omega arith))) was.word;
  marks = λ g h. marks_low to words slot w (handle_at i g) (omega arith) ∙ (o.others (handle_at i g) ne (let few = was.word.few in omega arith) ∙ was.marks g h);
}
