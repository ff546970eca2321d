-- The first refusal of a session's graphs is one.
use Rattle.std.proofs.Common.{◌≡◌, ◌≢◌, ℕ, ◌≤◌, ◌⊎◌, List, [], ◌∷◌, ◌++◌, inl, inr, ⊎_elim, refl, sym, ◌∙◌, ap, subst, arith}
use Rattle.std.proofs.lemmas.List.Elements.{Contains-append_left, Contains-append_right}
use Rattle.basics.proofs.Sums.{total-append}
use Rattle.graph_terms.specs.Graph.{GraphValue}
use Rattle.graph_meaning.specs.Rules.{Accepted}
use Rattle.race_check.specs.declared.checked.CheckRefusal.{CheckRefusal}
use Rattle.race_check.specs.declared.checked.CheckRefusal.TheVariants as refusal
use Rattle.race_check.specs.Refusal.{IsRefusal}
use Rattle.session_run.specs.declared.session.RunFault.{RunFault}
use Rattle.session_run.specs.declared.session.RunFault.TheVariants as fault
use Rattle.realm_session.specs.Recorded.{waits}
use Rattle.basics.specs.Sums.{total}
use Rattle.session_run.specs.Linked.{LinkedGraph}
use Rattle.session_run.specs.Running.{ends_of, slots_needed}
use Rattle.session_run.specs.Session.{CanRun, Refuses, Stops}
use Rattle.session_run.specs.Laws.{OneEnd}
use Rattle.session_run.proofs.Recording.{push_cases}

-- a rule fails at some lines, and so not for all
broken_by : (g : GraphValue) (why : CheckRefusal) → why ≢ refusal.NoMemory → IsRefusal g why → Accepted g → ⊥
broken_by g (refusal.Cycle i) n r a = r.here (a.acyclic i)
broken_by g (refusal.Unreleased i) n r a = (r.1).here (a.released i)
broken_by g (refusal.Section i j) n r a = (r.2).here (a.sections i j)
broken_by g (refusal.Descends i j) n r a = (r.3).here (a.descends i j)
broken_by g (refusal.ReleaseFault i) n r a = (r.4).here (a.release_faults i)
broken_by g (refusal.Race i j) n r a = (r.5).here (a.races i j)
broken_by g refusal.NoMemory n r a = n refl

cannot : (slots : ℕ) (before : List LinkedGraph) (x : LinkedGraph) (f : RunFault) → f ≢ fault.NoMemory → Refuses slots before x f → Accepted x.graph → slots_needed (before ++ x ∷ []) ≤ slots → ⊥
cannot slots before x (fault.Unfit u) n h a e = broken_by x.graph u.why h.2 h.3 a
cannot slots before x (fault.Slots k) n h a e = omega (arith, h.1, h.2, e)
cannot slots before x fault.NoMemory n h a e = n refl

-- two ways to cut one list
same_tail : {X : Type 0} (x y : X) (xs ys : List X) → x ∷ xs ≡ y ∷ ys → (x ≡ y) × (xs ≡ ys)
same_tail x y xs ys e = (cc, cc)

compare : {X : Type 0} (b c : List X) (x y : X) (r s : List X) → b ++ x ∷ r ≡ c ++ y ∷ s → ((b ≡ c) × (x ≡ y)) ⊎ (((d : List X) × (c ≡ b ++ x ∷ d)) ⊎ ((d : List X) × (b ≡ c ++ y ∷ d)))
compare [] [] x y r s e = inl (refl, (same_tail x y r s e).0)
compare [] (z ∷ c) x y r s e = inr (inl (c, ap (λ w. w ∷ c) (sym (same_tail x z r (c ++ y ∷ s) e).0)))
compare (z ∷ b) [] x y r s e = inr (inr (b, ap (λ w. w ∷ b) (same_tail z y (b ++ x ∷ r) s e).0))
compare (z ∷ b) (w ∷ c) x y r s e =
    let t = same_tail z w (b ++ x ∷ r) (c ++ y ∷ s) e in
    ⊎_elim (λ k. inl ((λ i. t.0 i ∷ k.0 i), k.1))
    (λ k. inr (⊎_elim (λ m. inl (m.0, λ i. sym t.0 i ∷ m.1 i)) (λ m. inr (m.0, λ i. t.0 i ∷ m.1 i)) k))
    (compare b c x y r s t.1)

-- where graphs run, each of them is accepted, and needs no more behind those before it
ran_over : (slots : ℕ) (b d : List LinkedGraph) (x : LinkedGraph) → CanRun slots (b ++ x ∷ d) → Accepted x.graph × (slots_needed (b ++ x ∷ []) ≤ slots)
ran_over slots b d x c = (
  c.accepted x (Contains-append_right b (x ∷ d) x (0, omega arith, refl)),
  omega (arith, c.enough, total-append (λ (y : LinkedGraph). total waits (ends_of y.graph)) b (x ∷ d), total-append (λ (y : LinkedGraph). total waits (ends_of y.graph)) b (x ∷ [])),
)

refused_over : (slots : ℕ) (b d c : List LinkedGraph) (x : LinkedGraph) (f : RunFault) → f ≢ fault.NoMemory → Refuses slots b x f → c ≡ b ++ x ∷ d → CanRun slots c → ⊥
refused_over slots b d c x f n h e r = (let o = ran_over slots b d x (subst (CanRun slots) e r) in cannot slots b x f n h o.0 o.1)

one_graph : (slots : ℕ) (gs : List LinkedGraph) (e f : RunFault) → e ≢ fault.NoMemory → f ≢ fault.NoMemory → (s : Stops slots gs e) (t : Stops slots gs f) → (s.before ≡ t.before) × (s.graph ≡ t.graph)
one_graph slots gs e f m n s t =
    ⊎_elim (λ k. k) (λ k. absurd (⊎_elim (λ d. refused_over slots s.before d.0 t.before s.graph e m s.refused d.1 t.ran) (λ d. refused_over slots t.before d.0 s.before t.graph f n t.refused d.1 s.ran) k))
    (compare s.before t.before s.graph t.graph s.behind t.behind (sym s.split ∙ t.split))

-- where graphs run, each of them does behind those before it
runs_over : (slots : ℕ) (b d c : List LinkedGraph) (x : LinkedGraph) → c ≡ b ++ x ∷ d → CanRun slots c → CanRun slots (b ++ x ∷ [])
runs_over slots b d c x e r =
    let whole = subst (CanRun slots) e r in
    let o = ran_over slots b d x whole in
    record {
      accepted = λ y h. ⊎_elim (λ k. whole.accepted y (Contains-append_left b (x ∷ d) y k)) (λ k. subst (λ (z : LinkedGraph). Accepted z.graph) k o.0) (push_cases b x y h);
      enough = o.1;
    }

first_is : (slots : ℕ) (gs : List LinkedGraph) (f : RunFault) → f ≢ fault.NoMemory → (s : Stops slots gs f) → (before behind : List LinkedGraph) (x : LinkedGraph) → gs ≡ before ++ x ∷ behind → CanRun slots before → (CanRun slots (before ++ x ∷ []) → ⊥) → (s.before ≡ before) × (s.graph ≡ x)
first_is slots gs f n s before behind x e r not =
    ⊎_elim (λ k. k) (λ k. absurd (⊎_elim (λ d. refused_over slots s.before d.0 before s.graph f n s.refused d.1 r) (λ d. not (runs_over slots before d.0 s.before x d.1 s.ran)) k))
    (compare s.before before s.graph x s.behind behind (sym s.split ∙ e))

slots_are : (n : ℕ) → fault.Slots n ≢ fault.NoMemory
slots_are n e = cc

one_kind : (slots : ℕ) (gs : List LinkedGraph) (e : RunFault) (n : ℕ) → e ≢ fault.NoMemory → Stops slots gs e → Stops slots gs (fault.Slots n) → e ≡ fault.Slots n
one_kind slots gs (fault.Unfit u) n m s t =
    let g = one_graph slots gs (fault.Unfit u) (fault.Slots n) m (slots_are n) s t in
    absurd (broken_by s.graph.graph u.why s.refused.2 s.refused.3 (subst (λ (x : LinkedGraph). Accepted x.graph) (sym g.1) t.refused.0))
one_kind slots gs (fault.Slots k) n m s t =
    let g = one_graph slots gs (fault.Slots k) (fault.Slots n) m (slots_are n) s t in
    ap fault.Slots (s.refused.2 ∙ ((λ i. slots_needed (g.0 i ++ g.1 i ∷ [])) ∙ sym t.refused.2))
one_kind slots gs fault.NoMemory n m s t = absurd (m refl)

pub one_end : (slots : ℕ) (gs : List LinkedGraph) → OneEnd slots gs
one_end slots gs = record {
  not_both = λ f n c s. refused_over slots s.before s.behind gs s.graph f n s.refused s.split c;
  one_graph = one_graph slots gs;
  one_kind = one_kind slots gs;
  each_runs = λ before behind x e c. runs_over slots before behind gs x e c;
  first_is = first_is slots gs;
}
