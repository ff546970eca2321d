-- The way from a line back to its start, edge by edge.
use Rattle.std.proofs.Common.{◌≡◌, ℕ, ◌+◌, ◌<◌, List, [], ◌∷◌, ◌++◌, length, refl, sym, ◌∙◌, ap, subst, arith}
use Rattle.std.specs.Prelude.{Option, Some, None, reverse}
use Rattle.std.specs.Option.{option_and_then, option_map_or}
use Rattle.std.proofs.lemmas.Option.{none-some, same_Some}
use Rattle.std.proofs.lemmas.List.{reverse-append, length-reverse, length_push}
use Rattle.graph_terms.specs.declared.verb.Edge.{Edge}
use Rattle.explanations.specs.declared.reaches.Reach.{Reach}
use Rattle.explanations.specs.Paths.{Leads}
use Rattle.explanations.specs.Reaches.{reach_at, AreLinked}

-- as far as line `at`
pub record IsWayBack (all : List Edge) (reaches : List (Option Reach)) (line at : ℕ) (m : Reach) (p : List Edge) : Type 0 where
  pub here : Reach
  pub is : reach_at reaches at ≡ Some here
  pub start : m.start ≡ here.start
  pub steps : length p + here.steps ≡ m.steps
  pub leads : Leads all at line (reverse p)

-- how many edges are still to come
abbrev pub steps_at : List (Option Reach) → ℕ → ℕ
steps_at reaches at = option_map_or (λ (m : Reach). m.steps) (reach_at reaches at) 0

by_some : (o : Option Reach) (e : Edge) → option_and_then (λ (m : Reach). m.by) o ≡ Some e → (m : Reach) × (o ≡ Some m) × (m.by ≡ Some e)
by_some None e is = absurd (none-some e is)
by_some (Some m) e is = (m, refl, is)

module _ (all : List Edge) (reaches : List (Option Reach)) (l : AreLinked all reaches) where
  pub steps_fall : (at : ℕ) (e : Edge) → option_and_then (λ (m : Reach). m.by) (reach_at reaches at) ≡ Some e → steps_at reaches e.from < steps_at reaches at
  steps_fall at e is =
      let h = by_some (reach_at reaches at) e is in
      let k = l.linked at h.0 e h.1 h.2 in
      let here : steps_at reaches at ≡ h.0.steps = ap (λ o. option_map_or (λ (m : Reach). m.steps) o 0) h.1 in
      let next : steps_at reaches e.from ≡ k.2.0.steps = ap (λ o. option_map_or (λ (m : Reach). m.steps) o 0) k.2.1 in
      let more : h.0.steps ≡ k.2.0.steps + 1 = k.2.3 in omega arith

  module _ (line : ℕ) (m : Reach) where
    pub back_begins : reach_at reaches line ≡ Some m → (p : List Edge) → p ≡ [] → IsWayBack all reaches line line m p
    back_begins is p none = subst (λ q. IsWayBack all reaches line line m q) (sym none) (record { here = m; is = is; start = refl; steps = omega arith; leads = refl })

    pub back_more : (at : ℕ) (p : List Edge) (e : Edge) → option_and_then (λ (m : Reach). m.by) (reach_at reaches at) ≡ Some e → (q : List Edge) → q ≡ p ++ e ∷ [] → IsWayBack all reaches line at m p → IsWayBack all reaches line e.from m q
    back_more at p e by q more b =
        let h = by_some (reach_at reaches at) e by in
        let same : h.0 ≡ b.here = same_Some h.0 b.here (sym h.1 ∙ b.is) in
        let k = l.linked at h.0 e h.1 h.2 in
        let one : length (p ++ e ∷ []) ≡ length p + 1 = length_push p e in
        let fewer : h.0.steps ≡ k.2.0.steps + 1 = k.2.3 in
        let same_steps : h.0.steps ≡ b.here.steps = ap (λ (x : Reach). x.steps) same in
        let so_far : length p + b.here.steps ≡ m.steps = b.steps in
        let steps : length (p ++ e ∷ []) + k.2.0.steps ≡ m.steps = omega arith in
        subst (λ r. IsWayBack all reaches line e.from m r) (sym more) (record {
          here = k.2.0;
          is = k.2.1;
          start = b.start ∙ (ap (λ (x : Reach). x.start) (sym same) ∙ k.2.2);
          steps = steps;
          leads = subst (λ r. Leads all e.from line r) (sym (reverse-append p (e ∷ []))) (k.0, refl, subst (λ z. Leads all z line (reverse p)) (sym k.1) b.leads);
        })

    pub back_ends : (at : ℕ) (p : List Edge) → option_and_then (λ (m : Reach). m.by) (reach_at reaches at) ≡ None → (q : List Edge) → q ≡ reverse p → IsWayBack all reaches line at m p → Leads all m.start line q × (length q ≡ m.steps)
    back_ends at p by q is b =
        let none : b.here.by ≡ None = sym (ap (λ o. option_and_then (λ (m : Reach). m.by) o) b.is) ∙ by in
        let o = l.own at b.here b.is none in
        let size : length (reverse p) ≡ length p = length-reverse p in
        let so_far : length p + b.here.steps ≡ m.steps = b.steps in
        let end : b.here.steps ≡ 0 = o.1 in
        let all_steps : length (reverse p) ≡ m.steps = omega arith in
        subst (λ r. Leads all m.start line r × (length r ≡ m.steps)) (sym is) (subst (λ z. Leads all z line (reverse p)) (sym (b.start ∙ o.0)) b.leads, all_steps)
