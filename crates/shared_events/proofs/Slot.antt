-- A write of the word of one slot.
use Rattle.std.proofs.Common.{◌≡◌, ℕ, ◌+◌, ◌<◌, ◌≢◌, List, [], get_or, set, sym, ap, ◌∙◌, subst, arith, get_or-set_other, get_or-set_same}
use mathlib.Core.Logic.{dite}
use native.Mathlib.Decide.{ℕ_discrete}
use Rattle.event_table.specs.declared.handle.Shape.{Shape}
use Rattle.shared_events.specs.Rule.{Orderly}
use Rattle.shared_events.proofs.Apart.{St}

pub at_slot_or : (i : ℕ) (P : ℕ → Type 0) (j : ℕ) → P i → (j ≢ i → P j) → P j
at_slot_or i P j a b = dite (ℕ_discrete j i) (λ e. subst P (sym e) a) b

module _ (key : Shape) (s : St) (o : Orderly key s) (i x t : ℕ) (near : i < key.slots) where
  pub word_here : get_or (set s.words i x) i 0 ≡ x
  word_here = get_or-set_same s.words i x 0 (let a = o.wide in let b = near in omega arith)

  pub word_there : (j : ℕ) → j ≢ i → get_or (set s.words i x) j 0 ≡ get_or s.words j 0
  word_there j n = get_or-set_other s.words i j x 0 n

  pub link_there : (k : ℕ) → get_or (set s.words i x) (key.slots + k) 0 ≡ get_or s.words (key.slots + k) 0
  link_there k = word_there (key.slots + k) (λ e. let b = near in omega arith)

  pub turn_here : get_or (set o.turns i t) i 0 ≡ t
  turn_here = get_or-set_same o.turns i t 0 (let a = o.high in let b = near in omega arith)

  pub turn_there : (j : ℕ) → j ≢ i → get_or (set o.turns i t) j 0 ≡ get_or o.turns j 0
  turn_there j n = get_or-set_other o.turns i j t 0 n

  pub turn_at : (j : ℕ) → j ≡ i → get_or (set o.turns i t) j 0 ≡ t
  turn_at j e = ap (λ y. get_or (set o.turns i t) y 0) e ∙ turn_here

  pub turn_was : (j : ℕ) → j ≡ i → get_or o.turns j 0 ≡ get_or o.turns i 0
  turn_was j e = ap (λ y. get_or o.turns y 0) e

module _ (key : Shape) (s : St) (o : Orderly key s) (i : ℕ) (c : List ℕ) (near : i < key.slots) where
  pub chain_here : get_or (set o.chains i c) i [] ≡ c
  chain_here = get_or-set_same o.chains i c [] (let a = o.rows in let b = near in omega arith)

  pub chain_there : (j : ℕ) → j ≢ i → get_or (set o.chains i c) j [] ≡ get_or o.chains j []
  chain_there j n = get_or-set_other o.chains i j c [] n

  pub chain_at : (j : ℕ) → j ≡ i → get_or (set o.chains i c) j [] ≡ c
  chain_at j e = ap (λ y. get_or (set o.chains i c) y []) e ∙ chain_here

  pub chain_was : (j : ℕ) → j ≡ i → get_or o.chains j [] ≡ get_or o.chains i []
  chain_was j e = ap (λ y. get_or o.chains y []) e
