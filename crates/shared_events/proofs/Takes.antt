-- What a seat may do at its table.
use Rattle.std.proofs.Common.{◌≡◌, ℕ, List, [], ◌∷◌, ◌++◌, sym, refl, ap, ◌∙◌, subst, map, append-nil}
use Rattle.std.specs.Prelude.{Contains}
use Rattle.std.proofs.lemmas.List.Elements.{Contains-append_right, Contains-push}
use Rattle.event_table.specs.declared.handle.Shape.{Shape}
use Rattle.basics.proofs.ListFacts.{contains_here}

pub map_nil : {X : Type 0} (g : X → ℕ) (xs : List X) → map g xs ≡ [] → xs ≡ []
map_nil g [] e = refl
map_nil g (x ∷ xs) e = cc

-- a hand with the one waiter k
pub one_in_hand : (xs : List (ℕ × ℕ)) (k : ℕ) → map (λ (p : ℕ × ℕ). p.0) xs ≡ k ∷ [] → (c : ℕ) × (xs ≡ (k, c) ∷ [])
one_in_hand [] k e = absurd (let x : [] ≡ k ∷ [] = e in cc)
one_in_hand (p ∷ []) k e = let a : p.0 ≡ k = cc in (p.1, λ t. (a t, p.1) ∷ [])
one_in_hand (p ∷ q ∷ qs) k e = absurd (let x : map (λ (p : ℕ × ℕ). p.0) (q ∷ qs) ≡ [] = cc in cc)

-- nothing more stands at the end
pub adds_none : {X : Type 0} (xs ys : List X) → ys ≡ [] → xs ++ ys ≡ xs
adds_none xs ys e = ap (λ l. xs ++ l) e ∙ append-nil xs

pub alone : {X : Type 0} (xs ys zs : List X) (x : X) → zs ≡ xs ++ ys → ys ≡ x ∷ [] → Contains zs x
alone xs ys zs x e d = subst (λ l. Contains l x) (sym (e ∙ ap (λ l. xs ++ l) d)) (Contains-push xs x)

pub at_end : {X : Type 0} (xs ys zs ws : List X) (x : X) → zs ≡ xs ++ ys → ys ≡ ws ++ x ∷ [] → Contains zs x
at_end xs ys zs ws x e d = subst (λ l. Contains l x) (sym e) (Contains-append_right xs ys x (subst (λ l. Contains l x) (sym d) (Contains-push ws x)))

pub has_key : (ks : List Shape) (x : Shape) → ks ≡ x ∷ [] → Contains ks x
has_key ks x e = subst (λ l. Contains l x) (sym e) (contains_here x [])
