-- Along a chain.
use Rattle.std.proofs.Common.{◌≡◌, ◌≢◌, ℕ, zero, suc, ◌+◌, ◌-◌, ◌<◌, List, [], ◌∷◌, length, get_or, sym, refl, ap, ◌∙◌, subst, ⊎_elim, arith, get_or-set_other}
use Rattle.std.specs.Prelude.{Contains}
use Rattle.event_table.specs.declared.handle.Shape.{Shape}
use Rattle.event_table.specs.Words.{Linked}
use Rattle.event_table.specs.Chains.{chain_in}
use Rattle.basics.proofs.ListFacts.{contains_none, contains_cases, contains_here, contains_there}
use Rattle.event_table.specs.Laws.{LinksStayBelow, ChainsAreFollowed}

-- links are not touched by a write of another word
pub linked_low : LinksStayBelow
linked_low key ws [] i x near l = tt
linked_low key ws (k ∷ ks) i x near l = (l.0, get_or-set_other ws i (key.slots + k) x 0 (λ e. omega arith) ∙ l.1, linked_low key ws ks i x near l.2)

pub chain_cons : (n s : ℕ) (ws : List ℕ) (c : ℕ) → 0 < n → c ≢ 0 → chain_in n s ws c ≡ (c - 1) ∷ chain_in (n - 1) s ws (get_or ws (s + (c - 1)) 0)
chain_cons zero s ws c l z = absurd (omega arith)
chain_cons (suc n) s ws zero l z = absurd (z refl)
chain_cons (suc n) s ws (suc k) l z = let a : n ≡ suc n - 1 = omega arith in let b : k ≡ suc k - 1 = omega arith in λ t. b t ∷ chain_in (a t) s ws (get_or ws (s + b t) 0)

pub chain_none : (n s : ℕ) (ws : List ℕ) → chain_in n s ws 0 ≡ []
chain_none zero s ws = refl
chain_none (suc n) s ws = refl

pub chain_out : (n s : ℕ) (ws : List ℕ) (c k : ℕ) → c ≡ 0 → Contains (chain_in n s ws c) k → ⊥
chain_out n s ws c k e d = contains_none k (subst (λ l. Contains l k) (ap (chain_in n s ws) e ∙ chain_none n s ws) d)

module _ (n s : ℕ) (ws : List ℕ) (c : ℕ) (some : 0 < n) (more : c ≢ 0) where
  pub chain_first : Contains (chain_in n s ws c) (c - 1)
  chain_first = subst (λ l. Contains l (c - 1)) (sym (chain_cons n s ws c some more)) (contains_here (c - 1) (chain_in (n - 1) s ws (get_or ws (s + (c - 1)) 0)))

  pub chain_later : (k : ℕ) → Contains (chain_in (n - 1) s ws (get_or ws (s + (c - 1)) 0)) k → Contains (chain_in n s ws c) k
  chain_later k d = subst (λ l. Contains l k) (sym (chain_cons n s ws c some more)) (contains_there (c - 1) (chain_in (n - 1) s ws (get_or ws (s + (c - 1)) 0)) k d)

  pub chain_rest : (k : ℕ) → c - 1 ≢ k → Contains (chain_in n s ws c) k → Contains (chain_in (n - 1) s ws (get_or ws (s + (c - 1)) 0)) k
  chain_rest k n' d = ⊎_elim (λ e. absurd (n' e)) (λ z. z) (contains_cases (c - 1) (chain_in (n - 1) s ws (get_or ws (s + (c - 1)) 0)) k (subst (λ l. Contains l k) (chain_cons n s ws c some more) d))

pub at_default : (xs : List ℕ) (i : ℕ) (d : ℕ) → i < length xs → d ≡ get_or xs i d → d ≡ get_or xs i 0
at_default [] i d h e = absurd (omega arith)
at_default (x ∷ xs) zero d h e = e
at_default (x ∷ xs) (suc i) d h e = at_default xs i d (omega arith) e

-- the words give the chain back
pub follows : ChainsAreFollowed
follows key ws [] zero l h = refl
follows key ws [] (suc n) l h = refl
follows key ws (k ∷ ks) zero l h = absurd (omega arith)
follows key ws (k ∷ ks) (suc n) l h = let e : k + 1 ≡ suc k = omega arith in ap (chain_in (suc n) key.slots ws) e ∙ ap (λ l. k ∷ l) (ap (chain_in n key.slots ws) l.1 ∙ follows key ws ks n l.2 (omega arith))

pub linked_all : (key : Shape) (ws c : List ℕ) → Linked key ws c → (k : ℕ) → Contains c k → k < key.waiters
linked_all key ws [] l k d = absurd (contains_none k d)
linked_all key ws (j ∷ js) l k d = ⊎_elim (λ e. subst (λ x. x < key.waiters) e l.0) (λ z. linked_all key ws js l.2 k z) (contains_cases j js k d)
