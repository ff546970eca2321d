-- Lists that only grow.
use Rattle.std.proofs.Common.{◌≡◌, ℕ, List, [], ⊎_elim, inl, inr, ◌∷◌, ◌++◌, sym, refl, ap, ◌∙◌, subst, append_assoc, append-nil}
use Rattle.std.specs.Prelude.{Contains}
use Rattle.std.proofs.lemmas.List.Elements.{Contains-append_left, Contains-append_right}
use Rattle.event_table.specs.declared.handle.Handle.{Handle}
use Rattle.event_table.specs.declared.handle.Fate.{Fate}
use Rattle.event_table.specs.declared.handle.Fate.TheVariants.{Ok, Poison}
use Rattle.shared_events.specs.declared.view.View.{View}
use Rattle.event_table.specs.Words.{turns_of}
use Rattle.shared_events.specs.Plays.{Sat, ends_of, looked, reads, fates_of, fate_now, marking, ended, joined, unchased}
use Rattle.shared_events.specs.Seats.{HasSeen, Begins, Grows, Keeps}
use Rattle.shared_events.proofs.Takes.{alone}

pub same_begins : {X : Type 0} (xs ys : List X) → ys ≡ xs → Begins xs ys
same_begins xs ys e = ([], e ∙ sym (append-nil xs))

pub begins_on : {X : Type 0} (xs ys zs : List X) → Begins xs ys → Begins ys zs → Begins xs zs
begins_on xs ys zs a b = (a.0 ++ b.0, b.1 ∙ (ap (λ l. l ++ b.0) a.1 ∙ append_assoc xs a.0 b.0))

pub grows_on : (v u w : View) → Grows v u → Grows u w → Grows v w
grows_on v u w a b = (begins_on v.seen u.seen w.seen a.0 b.0, begins_on v.known u.known w.known a.1 b.1, begins_on v.placed u.placed w.placed a.2 b.2, begins_on v.given u.given w.given a.3 b.3, begins_on v.emptied u.emptied w.emptied a.4 b.4, begins_on v.left u.left w.left a.5 b.5, begins_on v.saw u.saw w.saw a.6 b.6, begins_on v.past u.past w.past a.7 b.7)

pub grows_read : (w : ℕ) (m n : Sat) (r : ℕ) → reads w m r n → Grows m.0 n.0
grows_read w m n r t = subst (λ (y : Sat). Grows m.0 y.0) (sym t.0) (same_begins m.0.seen m.0.seen refl, (fates_of m.0.keys w r m.0.past, refl), same_begins m.0.placed m.0.placed refl, same_begins m.0.given m.0.given refl, same_begins m.0.emptied m.0.emptied refl, same_begins m.0.left m.0.left refl, same_begins m.0.saw m.0.saw refl, same_begins m.0.past m.0.past refl)

pub grows_look : (i : ℕ) (m n : Sat) (r : ℕ) → looked i m r n → Grows m.0 n.0
grows_look i m n r t = subst (λ (y : Sat). Grows m.0 y.0) (sym t.0) (same_begins m.0.seen m.0.seen refl, same_begins m.0.known m.0.known refl, same_begins m.0.placed m.0.placed refl, same_begins m.0.given m.0.given refl, same_begins m.0.emptied m.0.emptied refl, same_begins m.0.left m.0.left refl, ((i, r) ∷ [], refl), (ends_of i (turns_of r) m.0.seen, refl))

pub begins_has : {X : Type 0} (xs ys : List X) (x : X) → Begins xs ys → Contains xs x → Contains ys x
begins_has xs ys x b c = subst (λ l. Contains l x) (sym b.1) (Contains-append_left xs b.0 x c)

pub keeps_by : (v w : View) → Begins v.seen w.seen → Begins v.known w.known → Keeps v w
keeps_by v w seen known = (λ h s. record { seen = ⊎_elim (λ e. inl e) (λ c. inr (begins_has v.seen w.seen h seen c)) s.seen }, λ h f k. record { known = begins_has v.known w.known (h, f) known k.known })

pub keeps : (v w : View) → Grows v w → Keeps v w
keeps v w g = keeps_by v w g.0 g.1

pub keeps_on : (v u w : View) → Keeps v u → Keeps u w → Keeps v w
keeps_on v u w a b = (λ h s. b.0 h (a.0 h s), λ h f k. b.1 h f (a.1 h f k))

-- the seat w has seen and knows what both have
pub joins_keep : (v o w : View) → w.seen ≡ v.seen ++ o.seen → w.known ≡ v.known ++ o.known → Keeps v w × Keeps o w
joins_keep v o w seen known = (
  (λ h s. record { seen = ⊎_elim (λ e. inl e) (λ c. inr (subst (λ l. Contains l h) (sym seen) (Contains-append_left v.seen o.seen h c))) s.seen }, λ h f k. record { known = subst (λ l. Contains {X = Handle × Fate} l (h, f)) (sym known) (Contains-append_left v.known o.known (h, f) k.known) }),
  (λ h s. record { seen = ⊎_elim (λ e. inl e) (λ c. inr (subst (λ l. Contains l h) (sym seen) (Contains-append_right v.seen o.seen h c))) s.seen }, λ h f k. record { known = subst (λ l. Contains {X = Handle × Fate} l (h, f)) (sym known) (Contains-append_right v.known o.known (h, f) k.known) }),
)

marking_same : (f : Fate) (v : View) → ((marking f v).seen ≡ v.seen) × ((marking f v).known ≡ v.known)
marking_same Ok v = (refl, refl)
marking_same Poison v = (refl, refl)

-- from the join with the token of the handle to the cut of its chain
pub end_keeps : (v u m m' n n₁ n₂ : Sat) (f : Fate) (r : ℕ) → m ≡ (joined v.0 u.0, v.1) → m' ≡ (marking f m.0, m.1) → ended m' r n → n₁ ≡ (n.0, n.1) → n₂ ≡ (unchased n₁.0, n₁.1) → Keeps v.0 n₂.0
end_keeps v u m m' n n₁ n₂ f r a b t d e =
    let first : Keeps v.0 m.0 = keeps_by v.0 m.0 (u.0.seen, ap (λ (x : Sat). x.0.seen) a) (u.0.known, ap (λ (x : Sat). x.0.known) a) in
    let marked : Keeps m.0 m'.0 = keeps_by m.0 m'.0 (same_begins m.0.seen m'.0.seen (ap (λ (x : Sat). x.0.seen) b ∙ (marking_same f m.0).0)) (same_begins m.0.known m'.0.known (ap (λ (x : Sat). x.0.known) b ∙ (marking_same f m.0).1)) in
    let over : Keeps m'.0 n.0 = keeps_by m'.0 n.0 (same_begins m'.0.seen n.0.seen (ap (λ (x : Sat). x.0.seen) t.5)) ((t.0, fate_now m'.0.marked) ∷ [], ap (λ (x : Sat). x.0.known) t.5) in
    let last : Keeps n.0 n₂.0 = keeps_by n.0 n₂.0 (same_begins n.0.seen n₂.0.seen (ap (λ (x : Sat). x.0.seen) e ∙ ap (λ (x : Sat). x.0.seen) d)) (same_begins n.0.known n₂.0.known (ap (λ (x : Sat). x.0.known) e ∙ ap (λ (x : Sat). x.0.known) d)) in
    keeps_on v.0 m.0 n₂.0 first (keeps_on m.0 m'.0 n₂.0 marked (keeps_on m'.0 n.0 n₂.0 over last))

-- and the seat has then seen the handle of the token
pub end_sees : (v u m m' n n₁ n₂ : Sat) (h : Handle) (f : Fate) (r : ℕ) → u.0.seen ≡ h ∷ [] → m ≡ (joined v.0 u.0, v.1) → m' ≡ (marking f m.0, m.1) → ended m' r n → n₁ ≡ (n.0, n.1) → n₂ ≡ (unchased n₁.0, n₁.1) → HasSeen n₂.0 h
end_sees v u m m' n n₁ n₂ h f r s a b t d e =
    let all : n₂.0.seen ≡ v.0.seen ++ u.0.seen = ap (λ (x : Sat). x.0.seen) e ∙ ap (λ (x : Sat). x.0.seen) d ∙ ap (λ (x : Sat). x.0.seen) t.5 ∙ ap (λ (x : Sat). x.0.seen) b ∙ (marking_same f m.0).0 ∙ ap (λ (x : Sat). x.0.seen) a in
    record { seen = inr (alone v.0.seen u.0.seen n₂.0.seen h all s) }
