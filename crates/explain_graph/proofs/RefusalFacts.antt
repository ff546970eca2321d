-- What the refusals of the checker tell of paths, acquires and releases.
use Rattle.std.proofs.Common.{◌≡◌, ◌≢◌, ℕ, ◌<◌, ◌≤◌, Bool, true, false, not, inl, inr, List, [], ◌∷◌, length, refl, sym, ◌∙◌, ap, subst, arith}
use Rattle.std.specs.Prelude.{nat_lt, find, slice_get, Option, Some, None, Contains, IsTrue, IfSome, MatchOption, Vec}
use Rattle.std.specs.Global.{Global}
use Rattle.std.specs.List.{list_all}
use Rattle.std.proofs.lemmas.Bool.{true≢false, cases_lt, lt-ltb, and_from, not_from_false, true_from_ne_false}
use Rattle.std.proofs.lemmas.Option.{same_Some}
use Rattle.graph_terms.specs.declared.verb.Edge.{Edge}
use Rattle.graph_terms.specs.declared.verb.Line.{Line}
use Rattle.graph_terms.specs.Graph.{GraphValue, line_passes, is_phase, is_merge_ignore, is_acquire_of, never_comes}
use Rattle.graph_terms.specs.Fits.{IsGraph}
use Rattle.graph_meaning.specs.Path.{HasPath}
use Rattle.graph_terms.specs.Reservations.{lock_at, acquire_at, Releases}
use Rattle.graph_meaning.specs.Rules.{SectionAt, DescendsAt, stands_on_merges, ReleaseFaultAt}
use Rattle.basics.proofs.ListFacts.{fails_some, find_none}
use Rattle.graph_terms.proofs.Public.{passes_below, release_one, release_names, one_release}
use Rattle.explanations.specs.Paths.{IsShortest}
use Rattle.explanations.specs.Meetings.{IsNearestCommon}
use Rattle.explanations.specs.declared.meetings.Meeting.{Meeting}
use Rattle.tried_advice.specs.declared.form.Form.{Form}
use Rattle.tried_advice.specs.Forms.{tried_forms}
use Rattle.tried_advice.specs.Orders.{Orders, NoneOrders}
use Rattle.explanations.proofs.PathFacts.{paths_listed}
use Rattle.explanations.proofs.SectionFacts.{releases_from, lock_is}

not_false : (b : Bool) → (b ≡ false → ⊥) → b ≡ true
not_false true h = refl
not_false false h = absurd (h refl)

pub path_of : (g : GraphValue) (i j : ℕ) (p : Vec Edge Global) → IsShortest g i j p.items → HasPath g i j
path_of g i j p s = (paths_listed.each g i j p.items s.path).0

-- an acquire in the section of another
module _ (g : GraphValue) (i j l k r : ℕ) (fails : DescendsAt g i j → ⊥) (release : Releases g r i) where
  pub left_there : IsGraph g → (HasPath g j r → ⊥) → ⊥
  left_there graph not = fails (λ x y s a. absurd (not (subst (λ z. HasPath g j z) (one_release g graph i s.release r s.releases release) s.left)))

  pub not_below : lock_at g i ≡ Some l → lock_at g j ≡ Some k → k ≤ l
  not_below outer inner = elim (cases_lt l k) [
    | inl lower ↦ absurd (fails (λ x y s a. (let same : l ≡ x = same_Some l x (sym outer ∙ lock_is g i x s.acquires) in let other : k ≡ y = same_Some k y (sym inner ∙ lock_is g j y a) in omega arith)))
    | inr up ↦ up
  ]

-- a line that a release waits for
module _ (g : GraphValue) (i j q : ℕ) (acquire : acquire_at g i ≡ Some q) where
  pub releases : Releases g i q
  releases = releases_from g i q acquire

  pub acquire_line : IsGraph g → q < length g.lines
  acquire_line graph = let l = release_names g graph i q releases in passes_below (is_acquire_of l.0) g q l.1

  module _ (fails : SectionAt g i j → ⊥) where
    pub differ : j ≢ q
    differ e = fails (λ x r p. inl (e ∙ release_one g i q x releases r))

    pub not_before : HasPath g j q → ⊥
    not_before path = fails (λ x r p. inr (inl (subst (λ z. HasPath g j z) (release_one g i q x releases r) path)))

    by_phase : HasPath g q j → (IsTrue (line_passes is_phase g j) → IsTrue (never_comes g j) → ⊥) → ⊥
    by_phase path not = fails (λ x r p. inr (inr (subst (λ z. HasPath g z j) (release_one g i q x releases r) path, not)))

    pub entered_of : (o : Option (Vec Edge Global)) → IfSome o (λ p. IsShortest g q j p.items) → (o ≡ None → HasPath g q j → ⊥) →
        MatchOption o (HasPath g q j → ⊥) (λ p. IsShortest g q j p.items × IsTrue (line_passes is_phase g j) × IsTrue (never_comes g j))
    entered_of None s none = none refl
    entered_of (Some p) s none =
        let path = path_of g q j p s in
        (s, not_false (line_passes is_phase g j) (λ f. by_phase path (λ a b. true≢false (sym a ∙ f))), not_false (never_comes g j) (λ f. by_phase path (λ a b. true≢false (sym b ∙ f))))

-- a release that is refused stands on no event, where each is a merge that ignores faults
each_passes : (t : ℕ → Bool) (xs : List ℕ) → find (λ x. not (t x)) xs ≡ None → list_all t xs ≡ true
each_passes t xs none = true_from_ne_false (list_all t xs) (λ e. (let f = fails_some t xs e in true≢false (sym (not_from_false (t f.0) f.2) ∙ find_none (λ x. not (t x)) xs none f.0 f.1)))

pub stands_on_none : (g : GraphValue) (i : ℕ) (l : Line) → slice_get g.lines i ≡ Some l → (ReleaseFaultAt g i → ⊥) → find (λ m. not (line_passes is_merge_ignore g m)) l.on ≡ None → l.on ≡ []
stands_on_none g i l at fails none = by l.on refl
  where
    by : (on : List ℕ) → l.on ≡ on → on ≡ []
    by [] e = refl
    by (m ∷ on) e =
        let some : nat_lt 0 (length l.on) ≡ true = ap (λ xs. nat_lt 0 (length xs)) e ∙ lt-ltb 0 (length (m ∷ on)) (let h : 0 < length (m ∷ on) = omega arith in h) in
        let each : list_all (line_passes is_merge_ignore g) l.on ≡ true = each_passes (line_passes is_merge_ignore g) l.on none in
        absurd (fails (λ q k is r. ap (λ (x : Line). stands_on_merges g x.on) (same_Some k l (sym is ∙ at)) ∙ and_from (nat_lt 0 (length l.on)) (list_all (line_passes is_merge_ignore g) l.on) some each))

-- the nearest line that leads to two
pub meeting_of : (g : GraphValue) (i j : ℕ) (o : Option Meeting) → IfSome o (IsNearestCommon g i j) → (o ≡ None → (k : ℕ) → HasPath g k i → HasPath g k j → ⊥) → MatchOption o ((k : ℕ) → HasPath g k i → HasPath g k j → ⊥) (IsNearestCommon g i j)
meeting_of g i j None s none = none refl
meeting_of g i j (Some m) s none = s

-- what orders two lines, or that nothing does which was tried by these sections
pub advice_of : (g : GraphValue) (i j : ℕ) (first second qs ks : List ℕ) (o : Option Form) → qs ≡ first → ks ≡ second → IfSome o (λ form. Contains (tried_forms g i j qs ks) form × Orders g i j form)
    → (o ≡ None → NoneOrders g i j (tried_forms g i j qs ks)) → MatchOption o (NoneOrders g i j (tried_forms g i j first second)) (Orders g i j)
advice_of g i j first second qs ks None one other found none = subst (λ xs. NoneOrders g i j (tried_forms g i j xs second)) one (subst (λ xs. NoneOrders g i j (tried_forms g i j qs xs)) other (none refl))
advice_of g i j first second qs ks (Some form) one other found none = found.1
