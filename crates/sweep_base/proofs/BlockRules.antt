-- Rules that are tried for blocks of 64 lines.
use Rattle.std.proofs.Common.{◌≡◌, ℕ, ◌+◌, ◌-◌, ◌<◌, ◌≤◌, ◌⊎◌, inl, inr, sym, subst, arith}
use Rattle.std.specs.Prelude.{Option, Some, None, MatchOption}
use Rattle.std.proofs.lemmas.Bool.{cases_lt}
use Rattle.graph_meaning.specs.Rules.{Everywhere, EverywhereTwice, FailsFirstTwice}
use Rattle.sweep_base.specs.BlockRules.{HoldsIn, FailsFirstIn, IsLeast, IsLowest, NoneLow}

-- the search of a block
pub least_none : (R : ℕ → ℕ → Type 0) (first found n : ℕ) → ((b m : ℕ) → m < n → R (first + b) m) → IsLeast R first 64 found n
least_none R first found n holds = record {
  few = omega arith;
  below = λ b m h l. holds b m l;
  here = λ h. absurd (omega arith);
  beside = λ h. absurd (omega arith);
  known = λ h. absurd (omega arith);
}

next_case : (m n : ℕ) → m < n + 1 → (m < n) ⊎ (m ≡ n)
next_case m n h = elim (cases_lt m n) [ inl l ↦ inl l | inr up ↦ inr (omega arith) ]

pub least_keep : (R : ℕ → ℕ → Type 0) (first limit found n : ℕ) → IsLeast R first limit found n → NoneLow R first limit n → IsLeast R first limit found (n + 1)
least_keep R first limit found n w none = record {
  few = w.few;
  below = λ b m h l. elim (next_case m n l) [ inl low ↦ w.below b m h low | inr same ↦ subst (R (first + b)) (sym same) (none b h) ];
  here = w.here;
  beside = w.beside;
  known = λ h. (let k = w.known h in omega (arith, k));
}

pub least_take : (R : ℕ → ℕ → Type 0) (first limit found n bit : ℕ) → IsLeast R first limit found n → IsLowest R first limit n bit → IsLeast R first bit n (n + 1)
least_take R first limit found n bit w low = record {
  few = omega (arith, low.below, w.few);
  below = λ b m h l. elim (next_case m n l) [ inl before ↦ w.below b m (omega (arith, h, low.below)) before | inr same ↦ subst (R (first + b)) (sym same) (low.before b h) ];
  here = λ h. low.here;
  beside = λ h m l. w.below bit m low.below l;
  known = λ h. omega arith;
}

pub least_fails : (R : ℕ → ℕ → Type 0) (first limit found n : ℕ) → ((i j : ℕ) → (n ≤ i) ⊎ (n ≤ j) → R i j) → limit < 64 → IsLeast R first limit found n → (first + limit < n) × (found < n) × FailsFirstIn R first n (first + limit) found
least_fails R first limit found n beyond some w = (
  elim (cases_lt (first + limit) n) [ inl l ↦ l | inr up ↦ absurd (w.here some (beyond (first + limit) found (inl up))) ],
  w.known some,
  record {
    here = w.here some;
    before = λ k m begins h l. subst (λ z. R z m) (let e : first + (k - first) ≡ k = omega arith in e) (w.below (k - first) m (omega arith) l);
    beside = w.beside some;
  },
)

pub least_holds : (R : ℕ → ℕ → Type 0) (first limit found n : ℕ) → 64 ≤ limit → IsLeast R first limit found n → HoldsIn R first n
least_holds R first limit found n all w b m few l = w.below b m (omega arith) l

-- the search of all blocks
pub blocks_fail : (R : ℕ → ℕ → Type 0) (first n i j : ℕ) → ((i j : ℕ) → (n ≤ i) ⊎ (n ≤ j) → R i j) → ((k : ℕ) → k < first → Everywhere (R k)) → FailsFirstIn R first n i j → FailsFirstTwice R i j
blocks_fail R first n i j beyond before f = record {
  here = f.here;
  before = λ k m h. elim (cases_lt k first) [
    | inl l ↦ before k l m
    | inr up ↦ elim (cases_lt m n) [ inl low ↦ f.before k m up h low | inr high ↦ beyond k m (inr high) ]
  ];
  beside = f.beside;
}

pub blocks_more : (R : ℕ → ℕ → Type 0) (first n : ℕ) → ((i j : ℕ) → (n ≤ i) ⊎ (n ≤ j) → R i j) → ((k : ℕ) → k < first → Everywhere (R k)) → HoldsIn R first n → (k : ℕ) → k < first + 64 → Everywhere (R k)
blocks_more R first n beyond before h k l m = elim (cases_lt k first) [
  | inl low ↦ before k low m
  | inr up ↦ elim (cases_lt m n) [
    | inl known ↦ subst (λ z. R z m) (let e : first + (k - first) ≡ k = omega arith in e) (h (k - first) m (omega arith) known)
    | inr high ↦ beyond k m (inr high)
  ]
]

pub pairs_hold : (R : ℕ → ℕ → Type 0) (n : ℕ) → ((i j : ℕ) → n ≤ i → R i j) → ((k : ℕ) → k < n → Everywhere (R k)) → EverywhereTwice R
pairs_hold R n beyond below i j = elim (cases_lt i n) [ inl l ↦ below i l j | inr up ↦ beyond i j up ]

-- what holds of what was found, where something was or nothing
pub some_of : {X : Type 0} (A : Type 0) (B : X → Type 0) (o : Option X) (x : X) → o ≡ Some x → MatchOption o A B → B x
some_of A B o x e h = subst (λ z. MatchOption z A B) e h

pub none_of : {X : Type 0} (A : Type 0) (B : X → Type 0) (o : Option X) → o ≡ None → MatchOption o A B → A
none_of A B o e h = subst (λ z. MatchOption z A B) e h
