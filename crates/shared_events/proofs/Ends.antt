-- What `end` leaves: the seat, the receipt's and the chain's.
use Rattle.std.proofs.Common.{◌⊎◌, ◌≡◌, ℕ, ◌-◌, ◌%◌, ◌≤◌, List, [], ◌∷◌, ◌++◌, sym, refl, ap, ◌∙◌, subst, inl, inr, arith, map, get_or}
use Rattle.std.specs.Prelude.{Contains}
use Rattle.event_table.specs.declared.handle.Handle.{Handle}
use Rattle.event_table.specs.declared.handle.Fate.{Fate}
use Rattle.event_table.specs.declared.handle.Fate.TheVariants.{Ok, Poison}
use Rattle.event_table.specs.declared.handle.Shape.{Shape}
use Rattle.event_table.specs.Words.{code}
use Rattle.shared_events.specs.Plays.{Sat, first_of, but_first, last_of, HasPlaced, IsOnce, ended, ended_with, fate_now, marking, joined, receipted, chaser}
use Rattle.shared_events.specs.Seats.{Rights, IsPlain, IsPending, IsReceipt, IsCaught, waiters_of}
use Rattle.basics.proofs.ListFacts.{contains_here}
use Rattle.shared_events.proofs.Takes.{map_nil}

pub last_pushed : {X : Type 0} (xs : List X) (x : X) → last_of (xs ++ x ∷ []) ≡ x ∷ []
last_pushed [] x = refl
last_pushed (y ∷ []) x = refl
last_pushed (y ∷ z ∷ zs) x = last_pushed (z ∷ zs) x

-- the seat once the pending's seat was joined
pub took : (m u n : Sat) (h : Handle) → IsPlain m → IsPending u h → n ≡ (joined m.0 u.0, m.1) → Rights n 0 (h ∷ []) [] [] × (n.0.caught ≡ [])
took m u n h p q e =
    let hand = map_nil (λ (p : ℕ × ℕ). p.0) m.0.hand p.0.3 in
    let hand' = map_nil (λ (p : ℕ × ℕ). p.0) u.0.hand q.0.3 in
    subst (λ (x : Sat). Rights x 0 (h ∷ []) [] [] × (x.0.caught ≡ [])) (sym e) (
      (p.0.0, (let a = p.0.1 in let b = q.0.1 in omega arith), (λ t. p.0.2 t ++ q.0.2 t), (λ t. map (λ (p : ℕ × ℕ). p.0) (hand t ++ hand' t)), p.0.4, (λ t. p.0.5 t ++ q.0.5 t)),
      p.1,
    )

-- and once it has marked the handle, or not
pub record Armed (h : Handle) (f : Fate) (m n : Sat) : Type 0 where
  pub slots : n.1 ≡ []
  pub makes : n.0.makes ≡ 0
  pub rights : n.0.rights ≡ h ∷ []
  pub hand : map (λ (p : ℕ × ℕ). p.0) n.0.hand ≡ []
  pub marked : (n.0.marked ≡ []) ⊎ (n.0.marked ≡ h ∷ [])
  pub fate : fate_now n.0.marked ≡ f
  pub caught : n.0.caught ≡ []
  pub keys : n.0.keys ≡ m.0.keys

pub arms : (m n : Sat) (h : Handle) (f : Fate) → Rights m 0 (h ∷ []) [] [] → m.0.caught ≡ [] → n ≡ (marking f m.0, m.1) → Armed h f m n
arms m n h Ok r c e = subst (Armed h Ok m) (sym e) (record { slots = r.0; makes = r.1; rights = r.2; hand = r.3; marked = inl r.5; fate = ap fate_now r.5; caught = c; keys = refl })
arms m n h Poison r c e = let is : first_of m.0.rights ++ m.0.marked ≡ h ∷ [] = λ t. first_of (r.2 t) ++ r.5 t in
    subst (Armed h Poison m) (sym e) (record { slots = r.0; makes = r.1; rights = r.2; hand = r.3; marked = inr is; fate = ap fate_now is; caught = c; keys = refl })

-- and once it has ended the handle
pub record Ended (h : Handle) (f : Fate) (m : Sat) (r : ℕ) (n : Sat) : Type 0 where
  pub known : n.0.known ≡ m.0.known ++ (h, f) ∷ []
  pub rights : Rights n 0 [] [] (h ∷ [])
  pub caught : code n.0.caught ≡ r % 4294967296 - 1
  pub some : 1 ≤ r % 4294967296
  pub keys : n.0.keys ≡ m.0.keys
  pub head : (x : Shape) → m.0.keys ≡ x ∷ [] → r % 4294967296 - 1 ≤ x.waiters
  pub chased : HasPlaced m.0 h n.0.caught
  pub once : IsOnce m.0 n.0.caught

pub has_ended : (m₀ m n : Sat) (h : Handle) (f : Fate) (r : ℕ) (x : Shape) → Armed h f m₀ m → m.0.keys ≡ x ∷ [] → x.waiters ≤ 65536 → ended m r n → Ended h f m r n
has_ended m₀ m n h f r x armed keys small t =
    let h' : Handle = t.0 in
    let rest : List Handle = t.1 in
    let c : List ℕ = t.2 in
    let both : h' ∷ rest ≡ h ∷ [] = sym t.3 ∙ armed.rights in
    let same : h' ≡ h = ap (λ l. get_or l 0 h) both in
    let after : but_first m.0.rights ≡ [] = ap (λ (l : List Handle). but_first l) armed.rights in
    let top : code c ≤ x.waiters = t.6 x (subst (λ l. Contains l x) (sym keys) (contains_here x [])) in
    let found = t.4 in
    let put : Ended h f m r (ended_with m.0 h' c, m.1) = record {
      known = λ k. m.0.known ++ (same k, armed.fate k) ∷ [];
      rights = (armed.slots, armed.makes, after, armed.hand, ap (λ (y : Handle). y ∷ []) same, refl);
      caught = omega arith;
      some = omega arith;
      keys = refl;
      head = λ y e. let z : x ≡ y = ap (λ l. get_or l 0 x) (sym keys ∙ e) in subst (λ (w : Shape). r % 4294967296 - 1 ≤ w.waiters) z (omega arith);
      chased = subst (λ (y : Handle). HasPlaced m.0 y c) same t.7;
      once = t.8;
    } in
    subst (Ended h f m r) (sym t.5) put

pub receipt_of : (n q : Sat) (h : Handle) (f : Fate) (known : List (Handle × Fate)) → n.0.known ≡ known ++ (h, f) ∷ [] → q ≡ (receipted n.0, []) → IsReceipt q h f
receipt_of n q h f known e is = let l : last_of n.0.known ≡ (h, f) ∷ [] = ap last_of e ∙ last_pushed known (h, f) in
    subst (λ (x : Sat). IsReceipt x h f) (sym is) ((refl, refl, refl, refl, refl, refl), refl, ap (map (λ (p : Handle × Fate). p.0)) l, l, refl, (refl, refl, refl, refl))

pub chain_of : (n q : Sat) (h : Handle) (next : ℕ) (x : Shape) → Rights n 0 [] [] (h ∷ []) → code n.0.caught ≡ next → next ≤ x.waiters → x.waiters ≤ 65536 → n.0.keys ≡ x ∷ [] → q ≡ (chaser n.0, []) → IsCaught q h next
chain_of n q h next x rights code-is low small keys is = let w : waiters_of n.0.keys ≡ x.waiters = ap waiters_of keys in
    subst (λ (y : Sat). IsCaught y h next) (sym is) ((refl, refl, refl, refl, rights.4, refl), code-is, omega arith, omega arith)

pub all_ends : (v u m m' n : Sat) (h : Handle) (f : Fate) (r : ℕ) (x : Shape) → IsPlain v → IsPending u h → v.0.keys ≡ x ∷ [] → x.waiters ≤ 65536 → m ≡ (joined v.0 u.0, v.1) → m' ≡ (marking f m.0, m.1) → ended m' r n → Ended h f m' r n × (n.0.keys ≡ x ∷ []) × (m'.0.keys ≡ x ∷ [])
all_ends v u m m' n h f r x plain pending keys small join-is mark-is t =
    let a = took v u m h plain pending join-is in
    let armed = arms m m' h f a.0 a.1 mark-is in
    let k : m'.0.keys ≡ x ∷ [] = armed.keys ∙ (ap (λ (y : Sat). y.0.keys) join-is ∙ keys) in
    let e = has_ended m m' n h f r x armed k small t in (e, e.keys ∙ k, k)

pub catches : (m n n' q : Sat) (h : Handle) (f : Fate) (r : ℕ) (x : Shape) → Ended h f m r n → n.0.keys ≡ x ∷ [] → m.0.keys ≡ x ∷ [] → x.waiters ≤ 65536 → n' ≡ (n.0, n.1) → q ≡ (chaser n'.0, []) → IsCaught q h (r % 4294967296 - 1)
catches m n n' q h f r x e keys keys' small same is = chain_of n q h (r % 4294967296 - 1) x e.rights e.caught (e.head x keys') small keys (is ∙ ap (λ (y : Sat). (chaser y.0, [])) same)
