-- What each step of a run by a host keeps.
use Rattle.std.proofs.Common.{◌≡◌, ℕ, Bool, true, false, cond, ◌||◌, ◌⊎◌, inl, inr, List, [], ◌∷◌, refl, sym, ◌∙◌, ap, subst}
use Rattle.std.specs.Prelude.{Contains, ◌==◌, ◌≢◌, filter}
use Rattle.std.proofs.lemmas.Bool.{true≢false, cases_Bool, eq-eqb, eqb-true, false_from_ne_true}
use Rattle.graph_terms.specs.declared.outcome.Verdict.{Verdict}
use Rattle.graph_terms.specs.declared.outcome.Verdict.TheVariants.{Fine, Fault}
use Rattle.graph_terms.specs.declared.outcome.End.{End}
use Rattle.graph_terms.specs.declared.outcome.End.TheVariants.{Cancelled}
use Rattle.graph_terms.specs.declared.verb.Access.{Access}
use Rattle.graph_terms.specs.declared.verb.Edge.{Edge}
use Rattle.graph_terms.specs.Graph.{GraphValue}
use Rattle.graph_terms.specs.Access.{is_reduction}
use Rattle.graph_terms.specs.Edges.{edges, edges_into}
use Rattle.graph_terms.specs.Fits.{IsGraph}
use Rattle.graph_meaning.specs.Rules.{Accepted}
use Rattle.graph_meaning.specs.Effect.{Cells, CellChange, Effect, Effects, cells_after, Untouched}
use Rattle.graph_meaning.specs.Evaluation.{Step, cancels, is_cancelled, is_ended, made_by, step_by, evaluation_with, end_with, changes_with, cells_by_with, order_with}
use Rattle.graph_meaning.specs.Laws.{KeepsToAccesses, IsReadyAmongWith, put_with, step_on_with, DoesAsEvaluatedWith, OrderIrrelevantWith, WaitsWhereReachedWith}
use Rattle.graph_meaning.proofs.Public.{cells_after_at, cells_after_untouched}
use Rattle.basics.proofs.ListFacts.{contains_none, filter_contains, filter_same, list_any_agree}
use Rattle.host_bodies.specs.Host.{HostRun, over, begun, uses, may_change, IsDue, MayTake, taken, ChangesOwn, with_memory, cancelled_in, done_by, HasDone, put_back}
use Rattle.host_bodies.specs.Laws.{cells_so_far, Agrees, StepsChangeOwn}
use Rattle.host_bodies.proofs.Cells.{Covered, used_by, changed_by, is_reduced, changed_is_used, changes_only}
use Rattle.host_bodies.proofs.Apart.{IsOpen, both_reduce}
use Rattle.host_bodies.proofs.Comes.{ends_there}

-- a line that is out
pub record IsOut (g : GraphValue) (does : Effects) (first : Cells) (h : HostRun) (i : ℕ) : Type 0 where
  pub opened : IsOpen g (λ k. over h k) i
  pub ends : is_ended (end_with does first g i) ≡ true
  pub runs : is_cancelled g (evaluation_with does first g) i ≡ false

-- what each step keeps
pub record IsKept (g : GraphValue) (does : Effects) (first : Cells) (h : HostRun) : Type 0 where
  pub agrees : Agrees g does first h
  pub closed : (e : Edge) → Contains (edges g) e → over h e.to ≡ true → over h e.from ≡ true
  pub stands : (i : ℕ) → h.out i ≡ true → IsOut g does first h i
  -- what a line that is out found where it may change it is that of the lines that have ended
  pub own : (i c p : ℕ) → h.out i ≡ true → may_change g i c p ≡ true → h.found i c p ≡ cells_so_far does first g h c p

-- NUMBERS
pub cases_of : (k i : ℕ) → ((k ≡ i) × ((k == i) ≡ true)) ⊎ ((k ≢ i) × ((k == i) ≡ false))
cases_of k i = elim (cases_Bool (k == i)) [
  | inl t ↦ inl (eqb-true k i t, t)
  | inr f ↦ inr ((λ e. true≢false (sym (eq-eqb k i e) ∙ f)), f)
]

no_lines : (ks : List ℕ) → filter (λ (k : ℕ). false) ks ≡ []
no_lines [] = refl
no_lines (k ∷ ks) = no_lines ks

or_true : (b : Bool) → (b || true) ≡ true
or_true true = refl
or_true false = refl

-- EFFECTS
made_untouched : (c p : ℕ) (v : Verdict) (xs : List CellChange) → Untouched c p xs → Untouched c p (made_by v xs)
made_untouched c p Fine xs u = u
made_untouched c p Fault xs u = λ x listed. absurd (contains_none x listed)

step_untouched : (c p i : ℕ) (b : Bool) (e : Effect) → Untouched c p e.changes → Untouched c p (step_by i b e).changes
step_untouched c p i true e u = λ x listed. absurd (contains_none x listed)
step_untouched c p i false e u = made_untouched c p e.verdict e.changes u

pub steps_change_own : StepsChangeOwn
steps_change_own g does keeps i b cells c p e = step_untouched c p i b (does i cells) (changes_only g does keeps i cells c p e)

module _ (order : OrderIrrelevantWith) (waits : WaitsWhereReachedWith) (g : GraphValue) (fits : IsGraph g) (accepted : Accepted g) (does : Effects) (keeps : KeepsToAccesses g does) (first : Cells) where
  -- THE BEGINNING
  pub kept_begun : IsKept g does first (begun first)
  kept_begun = record {
    agrees = record {
      ends = λ k e. absurd (true≢false (sym e));
      sees = λ i e. absurd (true≢false (sym e));
      reads = λ i c p e. absurd (true≢false (sym e));
      apart = λ i j c p e. absurd (true≢false (sym e));
      memory = λ c p nobody. ap (λ ks. cells_by_with does first g ks c p) (sym (no_lines (order_with does first g)));
    };
    closed = λ e c t. absurd (true≢false (sym t));
    stands = λ i e. absurd (true≢false (sym e));
    own = λ i c p e. absurd (true≢false (sym e));
  }

  module _ (h : HostRun) (kept : IsKept g does first h) where
    -- a line that is open is ready after those that have ended, in any order
    ready_among : (i : ℕ) → IsOpen g (λ k. over h k) i → IsReadyAmongWith does first g i (λ k. over h k) (λ c k. over h k)
    ready_among i o = record {
      closed = kept.closed;
      ready = o.ready;
      left = o.left;
      out = λ c. o.left;
      put_ready = λ c k t e listed to. kept.closed e listed (ap (λ k. over h k) to ∙ t);
      kept = λ k x t listed. t;
    }

    -- a line that is out and may change a cell, and one that is open and uses it, reduce into it both
    shared_reduction : (i k c p : ℕ) (a : Access) → i ≢ k → IsOpen g (λ k. over h k) i → Covered g i c p a → h.out k ≡ true → may_change g k c p ≡ true →
        (b : Access) × Covered g k c p b × (is_reduction a.mode ≡ true) × (is_reduction b.mode ≡ true)
    shared_reduction i k c p a ne o va out changed =
        let b = changed_by g k c p changed in
        let both = both_reduce g accepted (λ k. over h k) kept.closed i k c p a b.0 ne o (kept.stands k out).opened va b.1 b.2 in
        (b.0, b.1, both.0, both.1)

    -- A LINE IS DUE
    module _ (i : ℕ) (due : IsDue g h i) where
      opened : IsOpen g (λ k. over h k) i
      opened = record { left = due.left; ready = due.ready }

      ends_too : is_ended (end_with does first g i) ≡ true
      ends_too = ends_there waits does first g fits accepted i due.below due.comes (λ e listed to. ap is_ended (sym (kept.agrees.ends e.from (due.ready e listed to))) ∙ due.ready e listed to)

      -- its sources' ends are those of the evaluation
      same_cancelled : cancelled_in g h i ≡ is_cancelled g (evaluation_with does first g) i
      same_cancelled = list_any_agree (λ (e : Edge). cancels e.kind (h.ends e.from)) (λ (e : Edge). cancels e.kind (end_with does first g e.from)) (edges_into g i)
          (λ e listed. let f = filter_contains (λ (x : Edge). x.to == i) (edges g) e listed in
          ap (λ x. cancels e.kind x) (kept.agrees.ends e.from (due.ready e f.0 (eqb-true e.to i f.1))))

    -- IT IS TAKEN
    module _ (i : ℕ) (may : MayTake g h i) where
      open_now : IsOpen g (λ k. over h k) i
      open_now = opened i may.due

      other : (k : ℕ) → h.out k ≡ true → i ≢ k
      other k out e = true≢false (sym out ∙ (ap h.out (sym e) ∙ may.due.here))

      -- no line that is out may change what it reads other than by reductions
      nobody_changes : (c p : ℕ) (a : Access) → Covered g i c p a → is_reduction a.mode ≡ false → (k : ℕ) → h.out k ≡ true → may_change g k c p ≡ false
      nobody_changes c p a va cannot k out = false_from_ne_true (may_change g k c p) (λ t.
          true≢false (sym (shared_reduction i k c p a (other k out) open_now va out t).2 ∙ cannot))

      -- nor what it reduces into, since reductions into one cell take turns
      nobody_else : (c p : ℕ) (a : Access) → Covered g i c p a → is_reduction a.mode ≡ true → (k : ℕ) → h.out k ≡ true → may_change g k c p ≡ false
      nobody_else c p a va can k out = false_from_ne_true (may_change g k c p) (λ t.
          let s = shared_reduction i k c p a (other k out) open_now va out t in
          true≢false (sym (is_reduced g k c p s.0 s.1 s.3) ∙ may.alone k c p out (is_reduced g i c p a va can)))

      -- so no line that is out may change what it uses
      nobody : (c p : ℕ) → uses g i c p ≡ true → (k : ℕ) → h.out k ≡ true → may_change g k c p ≡ false
      nobody c p u =
          let a = used_by g i c p u in
          elim (cases_Bool (is_reduction a.0.mode)) [
            | inl can ↦ nobody_else c p a.0 a.1 can
            | inr cannot ↦ nobody_changes c p a.0 a.1 cannot
          ]

      -- and no line that is out uses what it may change
      nobody_uses : (c p : ℕ) → may_change g i c p ≡ true → (k : ℕ) → h.out k ≡ true → uses g k c p ≡ false
      nobody_uses c p changed k out = false_from_ne_true (uses g k c p) (λ t.
          let b = used_by g k c p t in
          let a = changed_by g i c p changed in
          let both = both_reduce g accepted (λ k. over h k) kept.closed k i c p b.0 a.0 (λ e. other k out (sym e)) (kept.stands k out).opened open_now b.1 a.1 a.2 in
          true≢false (sym (is_reduced g k c p b.0 b.1 both.0) ∙ may.alone k c p out (is_reduced g i c p a.0 a.1 both.1)))

      sees_it : DoesAsEvaluatedWith does first g i h.memory
      sees_it = (order does first g i (λ k. over h k) (λ c k. over h k) accepted keeps (ends_too i may.due) (ready_among i open_now)).0 h.memory
          (λ a listed cannot p inside. kept.agrees.memory a.column p (nobody_changes a.column p a (record { listed = listed; column = refl; point = inside }) cannot))

      out_cases : (k : ℕ) → (taken h i).out k ≡ true → ((k ≡ i) × ((taken h i).found k ≡ h.memory)) ⊎ ((k ≢ i) × (h.out k ≡ true) × ((taken h i).found k ≡ h.found k))
      out_cases k e = elim (cases_of k i) [
        | inl same ↦ inl (same.0, ap (λ b. cond b h.memory (h.found k)) same.1)
        | inr not_it ↦ inr (not_it.0, sym (ap (λ b. cond b true (h.out k)) not_it.1) ∙ e, ap (λ b. cond b h.memory (h.found k)) not_it.1)
      ]

      stays_out : (k : ℕ) → h.out k ≡ true → (taken h i).out k ≡ true
      stays_out k e = elim (cases_of k i) [
        | inl same ↦ ap (λ b. cond b true (h.out k)) same.1
        | inr not_it ↦ ap (λ b. cond b true (h.out k)) not_it.1 ∙ e
      ]

      sees_at : (k : ℕ) → (taken h i).out k ≡ true → DoesAsEvaluatedWith does first g k ((taken h i).found k)
      sees_at k e = elim (out_cases k e) [
        | inl same ↦ subst (λ x. DoesAsEvaluatedWith does first g k x) (sym same.1) (subst (λ x. DoesAsEvaluatedWith does first g x h.memory) (sym same.0) sees_it)
        | inr old ↦ subst (λ x. DoesAsEvaluatedWith does first g k x) (sym old.2) (kept.agrees.sees k old.1)
      ]

      reads_at : (k c p : ℕ) → (taken h i).out k ≡ true → uses g k c p ≡ true → may_change g k c p ≡ false → h.memory c p ≡ (taken h i).found k c p
      reads_at k c p e u cannot = elim (out_cases k e) [
        | inl same ↦ ap (λ (x : Cells). x c p) (sym same.1)
        | inr old ↦ kept.agrees.reads k c p old.1 u cannot ∙ ap (λ (x : Cells). x c p) (sym old.2)
      ]

      apart_at : (k j c p : ℕ) → (taken h i).out k ≡ true → (taken h i).out j ≡ true → k ≢ j → may_change g k c p ≡ true → uses g j c p ≡ false
      apart_at k j c p ek ej ne changed = elim (out_cases k ek) [
        | inl one ↦ elim (out_cases j ej) [
          | inl two ↦ absurd (ne (one.0 ∙ sym two.0))
          | inr old ↦ nobody_uses c p (subst (λ x. may_change g x c p ≡ true) one.0 changed) j old.1
        ]
        | inr old ↦ elim (out_cases j ej) [
          | inl two ↦ false_from_ne_true (uses g j c p) (λ t. true≢false (sym changed ∙ nobody c p (subst (λ x. uses g x c p ≡ true) two.0 t) k old.1))
          | inr both ↦ kept.agrees.apart k j c p old.1 both.1 ne changed
        ]
      ]

      own_at : (k c p : ℕ) → (taken h i).out k ≡ true → may_change g k c p ≡ true → (taken h i).found k c p ≡ cells_so_far does first g h c p
      own_at k c p e changed = elim (out_cases k e) [
        | inl same ↦ ap (λ (x : Cells). x c p) same.1 ∙ kept.agrees.memory c p (nobody c p (changed_is_used g i c p (subst (λ x. may_change g x c p ≡ true) same.0 changed)))
        | inr old ↦ ap (λ (x : Cells). x c p) old.2 ∙ kept.own k c p old.1 changed
      ]

      stands_at : (k : ℕ) → (taken h i).out k ≡ true → IsOut g does first (taken h i) k
      stands_at k e = elim (out_cases k e) [
        | inl same ↦ subst (λ x. IsOut g does first (taken h i) x) (sym same.0) (record { opened = open_now; ends = ends_too i may.due; runs = sym (same_cancelled i may.due) ∙ may.runs })
        | inr old ↦ (let s = kept.stands k old.1 in record { opened = s.opened; ends = s.ends; runs = s.runs })
      ]

      pub kept_taken : IsKept g does first (taken h i)
      kept_taken = record {
        agrees = record {
          ends = kept.agrees.ends;
          sees = sees_at;
          reads = reads_at;
          apart = apart_at;
          memory = λ c p none. kept.agrees.memory c p (λ k out. none k (stays_out k out));
        };
        closed = kept.closed;
        stands = stands_at;
        own = own_at;
      }

    -- MEMORY CHANGES
    module _ (i : ℕ) (memory : Cells) (out : h.out i ≡ true) (changes_own : ChangesOwn g i h.memory memory) where
      reads_after : (k c p : ℕ) → h.out k ≡ true → uses g k c p ≡ true → may_change g k c p ≡ false → memory c p ≡ h.found k c p
      reads_after k c p ek u cannot =
          let untouched : may_change g i c p ≡ false = elim (cases_of k i) [
            | inl same ↦ subst (λ x. may_change g x c p ≡ false) same.0 cannot
            | inr not_it ↦ false_from_ne_true (may_change g i c p) (λ t. true≢false (sym u ∙ kept.agrees.apart i k c p out ek (λ e. not_it.0 (sym e)) t))
          ] in
          changes_own c p untouched ∙ kept.agrees.reads k c p ek u cannot

      pub kept_changed : IsKept g does first (with_memory h memory)
      kept_changed = record {
        agrees = record {
          ends = kept.agrees.ends;
          sees = kept.agrees.sees;
          reads = reads_after;
          apart = kept.agrees.apart;
          memory = λ c p none. changes_own c p (none i out) ∙ kept.agrees.memory c p none;
        };
        closed = kept.closed;
        stands = λ k e. let s = kept.stands k e in record { opened = s.opened; ends = s.ends; runs = s.runs };
        own = kept.own;
      }

    -- A LINE ENDS as in the evaluation, where the memory is then as that has it
    module _ (i : ℕ) (x : End) (o : IsOpen g (λ k. over h k) i) (ends : is_ended (end_with does first g i) ≡ true) (same_end : x ≡ end_with does first g i)
        (cells : (c p : ℕ) → ((k : ℕ) → (put_back h i x).out k ≡ true → may_change g k c p ≡ false) → h.memory c p ≡ cells_after (cells_so_far does first g h) (changes_with does first g i) c p)
        (past : (k c p : ℕ) → h.out k ≡ true → k ≢ i → may_change g k c p ≡ true → Untouched c p (changes_with does first g i)) where
      over_put : (k : ℕ) → over (put_back h i x) k ≡ ((k == i) || over h k)
      over_put k = elim (cases_of k i) [
        | inl same ↦ ap (λ b. is_ended (cond b x (h.ends k))) same.1 ∙ (ap is_ended same_end ∙ (ends ∙ sym (ap (λ b. b || over h k) same.1)))
        | inr not_it ↦ ap (λ b. is_ended (cond b x (h.ends k))) not_it.1 ∙ sym (ap (λ b. b || over h k) not_it.1)
      ]

      grows : (k : ℕ) → over h k ≡ true → over (put_back h i x) k ≡ true
      grows k e = over_put k ∙ (ap (λ b. (k == i) || b) e ∙ or_true (k == i))

      -- its changes put back give the cells of the lines that have ended now
      next : (c p : ℕ) → cells_after (cells_so_far does first g h) (changes_with does first g i) c p ≡ cells_so_far does first g (put_back h i x) c p
      next c p = (order does first g i (λ k. over h k) (λ c k. over h k) accepted keeps ends (ready_among i o)).1 c p
          ∙ ap (λ ks. cells_by_with does first g ks c p) (filter_same (λ k. put_with i (λ c k. over h k) c k) (λ k. over (put_back h i x) k) (order_with does first g) (λ k listed. sym (over_put k)))

      out_after : (k : ℕ) → (put_back h i x).out k ≡ true → (k ≢ i) × (h.out k ≡ true)
      out_after k e = elim (cases_of k i) [
        | inl same ↦ absurd (true≢false (sym e ∙ ap (λ b. cond b false (h.out k)) same.1))
        | inr not_it ↦ (not_it.0, sym (ap (λ b. cond b false (h.out k)) not_it.1) ∙ e)
      ]

      ends_after : (k : ℕ) → over (put_back h i x) k ≡ true → (put_back h i x).ends k ≡ end_with does first g k
      ends_after k e = elim (cases_of k i) [
        | inl same ↦ ap (λ b. cond b x (h.ends k)) same.1 ∙ (same_end ∙ ap (λ y. end_with does first g y) (sym same.0))
        | inr not_it ↦ ap (λ b. cond b x (h.ends k)) not_it.1 ∙ kept.agrees.ends k (sym (over_put k ∙ ap (λ b. b || over h k) not_it.1) ∙ e)
      ]

      closed_after : (e : Edge) → Contains (edges g) e → over (put_back h i x) e.to ≡ true → over (put_back h i x) e.from ≡ true
      closed_after e listed t = elim (cases_of e.to i) [
        | inl same ↦ grows e.from (o.ready e listed same.0)
        | inr not_it ↦ grows e.from (kept.closed e listed (sym (over_put e.to ∙ ap (λ b. b || over h e.to) not_it.1) ∙ t))
      ]

      stands_after : (k : ℕ) → (put_back h i x).out k ≡ true → IsOut g does first (put_back h i x) k
      stands_after k e =
          let was = out_after k e in
          let s = kept.stands k was.1 in
          elim (cases_of k i) [
            | inl same ↦ absurd (was.0 same.0)
            | inr not_it ↦ record {
              opened = record {
                left = over_put k ∙ (ap (λ b. b || over h k) not_it.1 ∙ s.opened.left);
                ready = λ y listed to. grows y.from (s.opened.ready y listed to);
              };
              ends = s.ends;
              runs = s.runs;
            }
          ]

      own_after : (k c p : ℕ) → (put_back h i x).out k ≡ true → may_change g k c p ≡ true → h.found k c p ≡ cells_so_far does first g (put_back h i x) c p
      own_after k c p e changed =
          let was = out_after k e in
          kept.own k c p was.1 changed
          ∙ (sym (cells_after_untouched (cells_so_far does first g h) (changes_with does first g i) c p (past k c p was.1 was.0 changed)) ∙ next c p)

      pub kept_ended : IsKept g does first (put_back h i x)
      kept_ended = record {
        agrees = record {
          ends = ends_after;
          sees = λ k e. kept.agrees.sees k (out_after k e).1;
          reads = λ k c p e. kept.agrees.reads k c p (out_after k e).1;
          apart = λ k j c p ek ej. kept.agrees.apart k j c p (out_after k ek).1 (out_after j ej).1;
          memory = λ c p none. cells c p none ∙ next c p;
        };
        closed = closed_after;
        stands = stands_after;
        own = own_after;
      }

    stays_out_after : (i : ℕ) (x : End) (k : ℕ) → k ≢ i → h.out k ≡ true → (put_back h i x).out k ≡ true
    stays_out_after i x k ne e = elim (cases_of k i) [
      | inl same ↦ absurd (ne same.0)
      | inr not_it ↦ ap (λ b. cond b false (h.out k)) not_it.1 ∙ e
    ]

    -- A LINE IS PUT BACK
    module _ (i : ℕ) (out : h.out i ≡ true) (has_done : HasDone g does h i) where
      was_out : IsOut g does first h i
      was_out = kept.stands i out

      same_step : done_by does h i ≡ step_on_with does first g i (h.found i)
      same_step = ap (λ b. step_by i b (does i (h.found i))) (sym was_out.runs)

      untouched : (c p : ℕ) → may_change g i c p ≡ false → Untouched c p (changes_with does first g i)
      untouched c p cannot = subst (λ xs. Untouched c p xs) (kept.agrees.sees i out).changes
          (step_untouched c p i (is_cancelled g (evaluation_with does first g) i) (does i (h.found i)) (changes_only g does keeps i (h.found i) c p cannot))

      cells_put : (c p : ℕ) → ((k : ℕ) → (put_back h i (done_by does h i).ends).out k ≡ true → may_change g k c p ≡ false) → h.memory c p ≡ cells_after (cells_so_far does first g h) (changes_with does first g i) c p
      cells_put c p none = elim (cases_Bool (may_change g i c p)) [
        | inl can ↦ has_done c p can
            ∙ (ap (λ xs. cells_after (h.found i) xs c p) (ap (λ (s : Step). s.changes) same_step ∙ (kept.agrees.sees i out).changes)
            ∙ cells_after_at (h.found i) (cells_so_far does first g h) (changes_with does first g i) c p (kept.own i c p out can))
        | inr cannot ↦ kept.agrees.memory c p (λ k ek. elim (cases_of k i) [
          | inl same ↦ subst (λ y. may_change g y c p ≡ false) (sym same.0) cannot
          | inr not_it ↦ none k (stays_out_after i (done_by does h i).ends k not_it.0 ek)
        ]) ∙ sym (cells_after_untouched (cells_so_far does first g h) (changes_with does first g i) c p (untouched c p cannot))
      ]

      pub kept_put : IsKept g does first (put_back h i (done_by does h i).ends)
      kept_put = kept_ended i (done_by does h i).ends was_out.opened was_out.ends (ap (λ (s : Step). s.ends) same_step ∙ (kept.agrees.sees i out).ends) cells_put
          (λ k c p ek ne changed. untouched c p (false_from_ne_true (may_change g i c p) (λ t. true≢false (sym (changed_is_used g i c p t) ∙ kept.agrees.apart k i c p ek out ne changed))))

    -- A LINE IS CANCELLED
    module _ (i : ℕ) (due : IsDue g h i) (yes_cancelled : cancelled_in g h i ≡ true) where
      as_here : DoesAsEvaluatedWith does first g i (cells_so_far does first g h)
      as_here = (order does first g i (λ k. over h k) (λ c k. over h k) accepted keeps (ends_too i due) (ready_among i (opened i due))).0 (cells_so_far does first g h) (λ a listed plain p inside. refl)

      cancelled_step : step_on_with does first g i (cells_so_far does first g h) ≡ step_by i true (does i (cells_so_far does first g h))
      cancelled_step = ap (λ b. step_by i b (does i (cells_so_far does first g h))) (sym (same_cancelled i due) ∙ yes_cancelled)

      no_changes : changes_with does first g i ≡ []
      no_changes = sym as_here.changes ∙ ap (λ (s : Step). s.changes) cancelled_step

      pub kept_cancelled : IsKept g does first (put_back h i Cancelled)
      kept_cancelled = kept_ended i Cancelled (opened i due) (ends_too i due) (sym (ap (λ (s : Step). s.ends) cancelled_step) ∙ as_here.ends)
          (λ c p none. kept.agrees.memory c p (λ k ek. none k (stays_out_after i Cancelled k (λ e. true≢false (sym ek ∙ (ap h.out e ∙ due.here))) ek))
          ∙ ap (λ xs. cells_after (cells_so_far does first g h) xs c p) (sym no_changes))
          (λ k c p ek ne changed. subst (λ xs. Untouched c p xs) (sym no_changes) (λ y listed. absurd (contains_none y listed)))
