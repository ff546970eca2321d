-- How many edges of a list pass a test.
use Rattle.std.proofs.Common.{◌≡◌, ℕ, ◌+◌, Bool, true, false, cond, inl, inr, List, [], ◌∷◌, refl, sym, ◌∙◌, ap, arith}
use Rattle.std.specs.Prelude.{◌==◌, ◌&&◌, Contains, count_by, filter}
use Rattle.std.specs.List.{list_all}
use Rattle.std.proofs.lemmas.Bool.{true≢false, cases_Bool, eq-eqb, eqb-true}
use Rattle.std.proofs.lemmas.List.Folds.{sum_by-zero}
use Rattle.std.proofs.lemmas.List.Sums.{sum_by-cons}
use Rattle.graph_terms.specs.declared.verb.Edge.{Edge}
use Rattle.basics.proofs.ListFacts.{passes_each, fails_some}

abbrev pub bit : Bool → ℕ
bit b = cond b 1 0

pub count_cons : (t : Edge → Bool) (e : Edge) (es : List Edge) → count_by t (e ∷ es) ≡ cond (t e) 1 0 + count_by t es
count_cons t e es = sum_by-cons (λ x. cond (t x) 1 0) e es

pub count_one : (b : Bool) → b ≡ true → bit b ≡ 1
count_one true e = refl
count_one false e = absurd (true≢false (sym e))

pub count_zero : (b : Bool) → b ≡ false → bit b ≡ 0
count_zero true e = absurd (true≢false e)
count_zero false e = refl

pub count_split : (t s r : Edge → Bool) → ((e : Edge) → cond (t e) 1 0 ≡ cond (s e) 1 0 + cond (r e) 1 0) → (es : List Edge) → count_by t es ≡ count_by s es + count_by r es
count_split t s r f [] = refl
count_split t s r f (e ∷ es) =
    let a : count_by t (e ∷ es) ≡ cond (t e) 1 0 + count_by t es = count_cons t e es in
    let b : count_by s (e ∷ es) ≡ cond (s e) 1 0 + count_by s es = count_cons s e es in
    let c : count_by r (e ∷ es) ≡ cond (r e) 1 0 + count_by r es = count_cons r e es in
    let here : cond (t e) 1 0 ≡ cond (s e) 1 0 + cond (r e) 1 0 = f e in
    let again : count_by t es ≡ count_by s es + count_by r es = count_split t s r f es in omega arith

count_filter_by : (t p : Edge → Bool) (e : Edge) (es : List Edge) (b : Bool) → p e ≡ b → count_by t (cond b (e ∷ filter p es) (filter p es)) ≡ cond (t e && b) 1 0 + count_by t (filter p es)
count_filter_by t p e es true h = count_cons t e (filter p es) ∙ ap (λ c. cond c 1 0 + count_by t (filter p es)) (and_one (t e))
  where
    and_one : (b : Bool) → b ≡ (b && true)
    and_one true = refl
    and_one false = refl
count_filter_by t p e es false h = sym (let z : bit (t e && false) ≡ 0 = count_zero (t e && false) (and_none (t e)) in let k : cond (t e && false) 1 0 + count_by t (filter p es) ≡ count_by t (filter p es) = omega arith in k)
  where
    and_none : (b : Bool) → (b && false) ≡ false
    and_none true = refl
    and_none false = refl

pub count_filter : (t p : Edge → Bool) (es : List Edge) → count_by t (filter p es) ≡ count_by (λ e. t e && p e) es
count_filter t p [] = refl
count_filter t p (e ∷ es) =
    let a : count_by t (filter p (e ∷ es)) ≡ cond (t e && p e) 1 0 + count_by t (filter p es) = count_filter_by t p e es (p e) refl in
    let b : count_by (λ e. t e && p e) (e ∷ es) ≡ cond (t e && p e) 1 0 + count_by (λ e. t e && p e) es = count_cons (λ e. t e && p e) e es in
    let again : count_by t (filter p es) ≡ count_by (λ e. t e && p e) es = count_filter t p es in omega arith

-- no edge passes exactly where the count is 0
zero_bit : (b : Bool) → (bit b == 0) ≡ true → b ≡ false
zero_bit true e = absurd (true≢false (sym e))
zero_bit false e = refl

pub none_counted : (t : Edge → Bool) (es : List Edge) → count_by t es ≡ 0 → (e : Edge) → Contains es e → t e ≡ false
none_counted t es h e c = zero_bit (t e) (passes_each (λ x. bit (t x) == 0) es (sym (sum_by-zero (λ x. bit (t x)) es) ∙ eq-eqb (count_by t es) 0 h) e c)

pub counted_none : (t : Edge → Bool) (es : List Edge) → ((e : Edge) → Contains es e → t e ≡ false) → count_by t es ≡ 0
counted_none t es f = eqb-true (count_by t es) 0 (sum_by-zero (λ x. bit (t x)) es ∙ each)
  where
    each : list_all (λ x. bit (t x) == 0) es ≡ true
    each = elim (cases_Bool (list_all (λ x. bit (t x) == 0) es)) [
      | inl yes' ↦ yes'
      | inr fails ↦ (let s = fails_some (λ x. bit (t x) == 0) es fails in absurd (true≢false (sym (ap (λ b. bit b == 0) (f s.0 s.1)) ∙ s.2)))
    ]
