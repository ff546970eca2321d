-- What the word of a reservation says of its holders.
use Rattle.std.proofs.Common.{◌≡◌, ℕ, ◌<◌, ◌≤◌, Bool, true, false, cond, ◌⊎◌, inl, inr, List, [], ◌∷◌, length, refl, sym, ◌∙◌, ap, subst, arith}
use Rattle.std.specs.Prelude.{Option, Some, None}
use Rattle.std.specs.Option.{option_map_or}
use Rattle.std.proofs.lemmas.Bool.{cond-true, cond-false}
use Rattle.std.proofs.lemmas.Option.{none-some, same_Some}
use Rattle.basics.specs.Lists.{count_below}
use Rattle.basics.proofs.ListFacts.{some_below, count_below-max, none_counted}
use Rattle.graph_terms.specs.Graph.{GraphValue, line_passes, is_shared}
use Rattle.run_state.specs.Run.{is_listed}
use Rattle.run_state.proofs.Public.{listed_here, listed_there, listed_cases, none_listed}
use Rattle.word_steps.specs.Layout.{half, alone_code}
use Rattle.word_steps.specs.Rule.{alone_in, lock_code}

module _ (g : GraphValue) where
  abbrev shared : ℕ → Bool
  shared q = line_passes is_shared g q

  abbrev counted : List ℕ → ℕ
  counted ks = count_below (is_listed ks) (length g.lines)

  -- the exclusive holder is a holder
  abbrev IsAlone : List ℕ → ℕ → Type 0
  IsAlone ks q = (is_listed ks q ≡ true) × (shared q ≡ false)

  alone_by : (k : ℕ) (ks : List ℕ) (q : ℕ) (b : Bool) → shared k ≡ b → cond b (alone_in g ks) (Some k) ≡ Some q → (alone_in g ks ≡ Some q → IsAlone ks q) → IsAlone (k ∷ ks) q
  alone_by k ks q true e h later = let r = later h in (listed_there k q ks r.0, r.1)
  alone_by k ks q false e h later =
      let same : k ≡ q = same_Some k q h in
      (subst (λ x. is_listed (k ∷ ks) x ≡ true) same (listed_here k ks), ap shared (sym same) ∙ e)

  pub alone_is : (ks : List ℕ) (q : ℕ) → alone_in g ks ≡ Some q → IsAlone ks q
  alone_is [] q h = absurd (none-some q h)
  alone_is (k ∷ ks) q h = alone_by k ks q (shared k) refl h (alone_is ks q)

  -- where there is none, all share
  none_by : (x : ℕ) (ks : List ℕ) (k : ℕ) (b : Bool) → shared x ≡ b → cond b (alone_in g ks) (Some x) ≡ None → is_listed (x ∷ ks) k ≡ true
      → (alone_in g ks ≡ None → is_listed ks k ≡ true → shared k ≡ true) → shared k ≡ true
  none_by x ks k true e h l later = elim (listed_cases x k ks l) [ inl same ↦ ap shared same ∙ e | inr rest ↦ later h rest ]
  none_by x ks k false e h l later = absurd (none-some x (sym h))

  pub none_alone : (ks : List ℕ) → alone_in g ks ≡ None → (k : ℕ) → is_listed ks k ≡ true → shared k ≡ true
  none_alone [] h k l = absurd (none_listed k l)
  none_alone (x ∷ ks) h k l = none_by x ks k (shared x) refl h l (λ h l. none_alone ks h k l)

  pub all_shared : (ks : List ℕ) → ((k : ℕ) → is_listed ks k ≡ true → shared k ≡ true) → alone_in g ks ≡ None
  all_shared [] f = refl
  all_shared (x ∷ ks) f = cond-true (shared x) (alone_in g ks) (Some x) (f x (listed_here x ks)) ∙ all_shared ks (λ k h. f k (listed_there x k ks h))

  pub only_alone : (ks : List ℕ) (q : ℕ) → is_listed ks q ≡ true → shared q ≡ false → ((k : ℕ) → is_listed ks k ≡ true → k ≡ q) → alone_in g ks ≡ Some q
  only_alone [] q l s one = absurd (none_listed q l)
  only_alone (x ∷ ks) q l s one =
      let same : x ≡ q = one x (listed_here x ks) in
      cond-false (shared x) (alone_in g ks) (Some x) (ap shared same ∙ s) ∙ ap Some same

  -- what a word says
  pub code_cases : (ks : List ℕ) → ((q : ℕ) × (alone_in g ks ≡ Some q) × (lock_code g ks ≡ alone_code q)) ⊎ ((alone_in g ks ≡ None) × (lock_code g ks ≡ counted ks))
  code_cases ks = by (alone_in g ks) refl
    where
      by : (o : Option ℕ) → alone_in g ks ≡ o → ((q : ℕ) × (o ≡ Some q) × (option_map_or alone_code (alone_in g ks) (counted ks) ≡ alone_code q)) ⊎ ((o ≡ None) × (option_map_or alone_code (alone_in g ks) (counted ks) ≡ counted ks))
      by (Some q) e = inl (q, refl, ap (λ o. option_map_or alone_code o (counted ks)) e)
      by None e = inr (refl, ap (λ o. option_map_or alone_code o (counted ks)) e)

  pub code_alone : (ks : List ℕ) (q : ℕ) → alone_in g ks ≡ Some q → lock_code g ks ≡ alone_code q
  code_alone ks q h = ap (λ o. option_map_or alone_code o (counted ks)) h

  pub code_shared : (ks : List ℕ) → alone_in g ks ≡ None → lock_code g ks ≡ counted ks
  code_shared ks h = ap (λ o. option_map_or alone_code o (counted ks)) h

  pub code_none : lock_code g [] ≡ 0
  code_none = none_counted (is_listed []) none_listed (length g.lines)

  -- a word of 0: none holds
  pub zero_none : (ks : List ℕ) → lock_code g ks ≡ 0 → (k : ℕ) → k < length g.lines → is_listed ks k ≡ true → ⊥
  zero_none ks h k below l = elim (code_cases ks) [
    | inl a ↦ (let e : alone_code a.0 ≡ 0 = sym a.2 ∙ h in absurd (omega (arith, e)))
    | inr c ↦ (let some : 1 ≤ counted ks = some_below (is_listed ks) (length g.lines) k below l in let e : counted ks ≡ 0 = sym c.1 ∙ h in absurd (omega (arith, some, e)))
  ]

  -- a word of less than half: none holds alone
  pub low_shared : (ks : List ℕ) (r : ℕ) → lock_code g ks ≡ r → r < half → (alone_in g ks ≡ None) × (counted ks ≡ r)
  low_shared ks r h low = elim (code_cases ks) [
    | inl a ↦ (let e : alone_code a.0 ≡ r = sym a.2 ∙ h in absurd (omega (arith, e, low)))
    | inr c ↦ (c.0, sym c.1 ∙ h)
  ]

  -- the word of a line that holds alone names it
  pub code_names : (ks : List ℕ) (q : ℕ) → length g.lines ≤ 65536 → lock_code g ks ≡ alone_code q → is_listed ks q ≡ true
  code_names ks q few h = elim (code_cases ks) [
    | inl a ↦ (let e : alone_code a.0 ≡ alone_code q = sym a.2 ∙ h in let same : a.0 ≡ q = omega (arith, e) in subst (λ x. is_listed ks x ≡ true) same (alone_is ks a.0 a.1).0)
    | inr c ↦ (let e : counted ks ≡ alone_code q = sym c.1 ∙ h in let most : counted ks ≤ length g.lines = count_below-max (is_listed ks) (length g.lines) in absurd (omega (arith, e, most, few)))
  ]
