-- The poison words.
use Rattle.std.proofs.Common.{◌≡◌, ℕ, zero, suc, ◌+◌, ◌-◌, ◌*◌, ◌/◌, ◌%◌, ◌^◌, ◌<◌, ◌≤◌, ◌≢◌, List, length, get_or, set, sym, refl, ap, ◌∙◌, arith, bit_or, bit_and, get_or-set_other, mul-le-mul_right}
use Rattle.std.specs.Int.{bit_at}
use Rattle.std.proofs.lemmas.Nat.Bits.{shr_and_one}
use mathlib.Core.Logic.{dite}
use native.Mathlib.Decide.{ℕ_discrete, dec_le}
use Rattle.event_table.specs.declared.handle.Handle.{Handle}
use Rattle.event_table.specs.declared.handle.Fate.{Fate}
use Rattle.event_table.specs.declared.handle.Fate.TheVariants.{Ok, Poison}
use Rattle.event_table.specs.declared.handle.Shape.{Shape}
use Rattle.event_table.specs.Words.{place_of, mark_word, mark, fate_code, fate_by}
use Rattle.event_table.specs.Kept.{IsMarked}
use Rattle.event_table.specs.Laws.{MarksStayBelow, FateOfCode, CodesTellFates, PlacesTellHandles, MarksAreInWords}

-- places of handles of one table do not meet
rows_apart : (n a b : ℕ) → a < b → a * n + n ≤ b * n
rows_apart n a b l = let m : suc a * n ≤ b * n = mul-le-mul_right n l in omega (arith, Rattle.std.proofs.Common.suc-mul a n)

pub places_apart : PlacesTellHandles
places_apart last x y a b e = dite (ℕ_discrete x.slot y.slot)
    (λ s. (s, let z : x.slot * (last + 1) ≡ y.slot * (last + 1) = ap (λ n. n * (last + 1)) s in omega arith))
    (λ n. dite (dec_le y.slot x.slot) (λ l. let r = rows_apart (last + 1) y.slot x.slot (omega arith) in absurd (omega arith)) (λ l. let r = rows_apart (last + 1) x.slot y.slot (omega arith) in absurd (omega arith)))

pub word_in : MarksAreInWords
word_in key x a b = let r = rows_apart (key.last_gen + 1) x.slot key.slots a in omega arith

-- a write of a slot's word or of a link leaves the marks
pub marks_low : MarksStayBelow
marks_low key ws i x h l = ap (λ w. bit_at w (place_of key.last_gen h % 64)) (get_or-set_other ws i (mark_word key h) x 0 (λ e. omega arith))

-- the bit of h is set, and no other
pub with_mark : Shape → List ℕ → Handle → List ℕ
with_mark key ws h = set ws (mark_word key h) (bit_or (get_or ws (mark_word key h) 0) (1 * 2 ^ (place_of key.last_gen h % 64) % 2 ^ 64))

pub one_code : CodesTellFates
one_code Ok Ok e = refl
one_code Ok Poison e = absurd (omega arith)
one_code Poison Ok e = absurd (omega arith)
one_code Poison Poison e = refl

pub coded : FateOfCode
coded zero l = refl
coded (suc n) l = omega arith

pub fate_pos : (n : ℕ) → n ≢ 0 → fate_by n ≡ Poison
fate_pos zero e = absurd (e refl)
fate_pos (suc n) e = refl

pub fate_clear : (r p q : ℕ) → p ≡ q → bit_and (r / 2 ^ (p % 64)) 1 ≡ 0 → fate_by (bit_at r (q % 64)) ≡ Ok
fate_clear r p q s e = ap fate_by (ap (λ i. bit_at r (i % 64)) (sym s) ∙ (sym (shr_and_one r (p % 64)) ∙ e))

pub fate_set : (r p q : ℕ) → p ≡ q → bit_and (r / 2 ^ (p % 64)) 1 ≢ 0 → fate_by (bit_at r (q % 64)) ≡ Poison
fate_set r p q s e = fate_pos (bit_at r (q % 64)) (λ z. e (shr_and_one r (p % 64) ∙ (ap (λ i. bit_at r (i % 64)) s ∙ z)))

pub code_answer : (n : ℕ) (f : Fate) → n ≡ fate_code f → fate_by n ≡ f
code_answer n Ok e = ap fate_by e
code_answer n Poison e = ap fate_by e

-- THE FATE OF ONE HANDLE WAS WRITTEN
pub is_marked : (key : Shape) (old new : List ℕ) (h : Handle) (f : Fate) (at bit : ℕ) → at ≡ mark_word key h → bit ≡ place_of key.last_gen h % 64
    → bit_at (get_or new at 0) bit ≡ fate_code f → ((b : ℕ) → b < 64 → b ≢ bit → bit_at (get_or new at 0) b ≡ bit_at (get_or old at 0) b) → ((i : ℕ) → i ≢ at → get_or new i 0 ≡ get_or old i 0) → length old ≤ length new → IsMarked key old new h f
is_marked key old new h f at bit a b here beside others size = record {
  here = (λ t. bit_at (get_or new (sym a t) 0) (sym b t)) ∙ here;
  beside = λ x l n. (λ t. bit_at (get_or new (sym a t) 0) x) ∙ (beside x l (λ e. n (e ∙ b)) ∙ (λ t. bit_at (get_or old (a t) 0) x));
  others = λ i n. others i (λ e. n (e ∙ a));
  size = size;
}

pub mark_beside : (key : Shape) (old new : List ℕ) (h : Handle) (f : Fate) (x : Handle) → IsMarked key old new h f → place_of key.last_gen x ≢ place_of key.last_gen h → mark key new x ≡ mark key old x
mark_beside key old new h f x o n =
    let j : ℕ = place_of key.last_gen x % 64 in
    dite (ℕ_discrete (mark_word key x) (mark_word key h))
    (λ e. ap (λ i. bit_at (get_or new i 0) j) e ∙ (o.beside j (omega arith) (λ z. n (omega arith)) ∙ ap (λ i. bit_at (get_or old i 0) j) (sym e)))
    (λ e. ap (λ w. bit_at w j) (o.others (mark_word key x) e))
