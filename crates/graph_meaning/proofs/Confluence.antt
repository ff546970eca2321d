-- Whatever ready lines were performed before it, a line finds the cells that it reads list in the evaluation, and putting its changes back keeps the cells those of the evaluation's order.
use Rattle.std.proofs.Common.{◌≡◌, ℕ, zero, suc, Bool, true, false, cond, ◌||◌, ◌⊎◌, inl, inr, List, [], ◌∷◌, ◌++◌, length, map, refl, sym, ◌∙◌, ap, subst}
use Rattle.std.specs.Prelude.{Contains, filter, flat_map, Option, Some, None, ◌==◌}
use Rattle.std.specs.Option.{option_map_or}
use Rattle.std.specs.List.{list_any}
use Rattle.std.proofs.lemmas.Bool.{true≢false, cases_Bool, eq-eqb, eqb-true, and_parts, or_parts, or_from, false_from_ne_true, ne_eqb}
use Rattle.std.proofs.lemmas.List.Elements.{Contains-push_cases, Contains-append_left, Contains-append_right, filter-append}
use Rattle.std.proofs.lemmas.Grind.{flat_map-append}
use Rattle.index_spaces.specs.Space.{has_point}
use Rattle.graph_terms.specs.declared.outcome.Verdict.{Verdict}
use Rattle.graph_terms.specs.declared.outcome.Verdict.TheVariants.{Fine, Fault}
use Rattle.graph_terms.specs.declared.format.Format.{Format}
use Rattle.graph_terms.specs.declared.format.Format.TheVariants.{One}
use Rattle.graph_terms.specs.declared.verb.Access.{Access}
use Rattle.graph_terms.specs.declared.verb.Edge.{Edge}
use Rattle.graph_terms.specs.declared.verb.Mode.{Mode}
use Rattle.graph_terms.specs.declared.verb.Mode.TheVariants.{Read, Write, Sum, Least, Most}
use Rattle.graph_terms.specs.declared.verb.Verb.{Verb}
use Rattle.graph_terms.specs.Graph.{GraphValue, verb_at, space_at}
use Rattle.graph_terms.specs.Edges.{edges}
use Rattle.graph_meaning.specs.Path.{HasPath}
use Rattle.graph_terms.specs.Access.{accesses, all_accesses, behind_columns, call_accesses, verb_accesses, in_format, or_write, mode_in, is_reduction, modes_clash, AccessesConflict}
use Rattle.graph_meaning.specs.Rules.{Accepted}
use Rattle.graph_meaning.specs.Effect.{Cells, zero_cells, Change, CellChange, cells_after, Effect, Effects, effect, verb_changes, verb_verdict, touches, Untouched}
use Rattle.graph_meaning.specs.Evaluation.{Step, has_ended, changes_in, cells_with, cells_of, is_cancelled, made_by, step_by, step_with, lowest_ready, advance_by_with, steps_with, evaluation_with, evaluation, order_with, changes_with, eval_changes, cells_by_with, cells_of_lines_with, cells_of_lines}
use Rattle.graph_meaning.specs.Laws.{FitsMode, IsWithinAccess, IsReadyAmongWith, IsReadyAmong, AgreeWhereUsed, KeepsToAccesses, CellsByAllLines}
use Rattle.basics.proofs.ListFacts.{contains_none, contains_here, contains_there, contains_map, some_passes, passes_some, map_contains, filter_contains}
use Rattle.graph_meaning.proofs.PathLaws.{back_path}
use Rattle.graph_meaning.proofs.Races.{commute_parts, before_ended, path_or_exempt}
use Rattle.graph_meaning.proofs.Waiting.{step_with-line, ended_cases, lowest_ready_is}
use Rattle.graph_meaning.proofs.Turns.{ends_by_turn_with, changes_in-push, changes_in_last}
use Rattle.graph_meaning.specs.Turns.{IsTurn}
use Rattle.graph_meaning.proofs.Changes.{changes_within, flat_map_contains, AgreeFor, effect_agrees, ReducesBy, cells_after-append, cells_after_at, cells_after_untouched, reductions_past}

-- no line stands twice among the steps
abbrev pub Fresh : List Step → Type 0
Fresh [] = Unit {0}
Fresh (s ∷ ss) = (has_ended ss s.line ≡ false) × Fresh ss

member_ended : (ss : List Step) (s : Step) → Contains ss s → has_ended ss s.line ≡ true
member_ended ss s c = passes_some (λ (t : Step). t.line == s.line) ss s c (eq-eqb s.line s.line refl)

fresh_push : (ss : List Step) (t : Step) → Fresh ss → has_ended ss t.line ≡ false → Fresh (ss ++ t ∷ [])
fresh_push [] t f h = (refl, tt)
fresh_push (s ∷ ss) t f h =
    let parts = or_parts (s.line == t.line) (has_ended ss t.line) h in (
      false_from_ne_true (has_ended (ss ++ t ∷ []) s.line) (λ e. elim (ended_cases ss t s.line e) [
        | inl before ↦ true≢false (sym before ∙ f.0)
        | inr last ↦ true≢false (sym (eq-eqb s.line t.line (sym last)) ∙ parts.0)
      ]),
      fresh_push ss t f.1 parts.1,
    )

fresh_by : (does : Effects) (first : Cells) (g : GraphValue) (ss : List Step) (o : Option ℕ) → lowest_ready g ss ≡ o → Fresh ss → Fresh (advance_by_with does first g ss o)
fresh_by does first g ss None e f = f
fresh_by does first g ss (Some i) e f = fresh_push ss (step_with does first g ss i) f (ap (has_ended ss) (step_with-line does first g ss i) ∙ (lowest_ready_is g ss i e).left)

pub steps_fresh : (does : Effects) (first : Cells) (g : GraphValue) (n : ℕ) → Fresh (steps_with does first g n)
steps_fresh does first g zero = tt
steps_fresh does first g (suc n) = fresh_by does first g (steps_with does first g n) (lowest_ready g (steps_with does first g n)) refl (steps_fresh does first g n)

-- a step behind another is of another line, and its line has not ended before
fresh_after : (xs : List Step) (s : Step) (ys : List Step) → Fresh (xs ++ s ∷ ys) → (t : Step) → Contains ys t → (has_ended xs t.line ≡ false) × (s.line ≡ t.line → ⊥)
fresh_after [] s ys f t c = (refl, λ e. true≢false (sym (member_ended ys t c) ∙ (ap (has_ended ys) (sym e) ∙ f.0)))
fresh_after (x ∷ xs) s ys f t c =
    let rest = fresh_after xs s ys f.1 t c in
    let there : has_ended (xs ++ s ∷ ys) t.line ≡ true = member_ended (xs ++ s ∷ ys) t (Contains-append_right xs (s ∷ ys) t (contains_there s ys t c)) in
    (or_from (x.line == t.line) (has_ended xs t.line) (ne_eqb x.line t.line (λ e. true≢false (sym there ∙ (ap (has_ended (xs ++ s ∷ ys)) (sym e) ∙ f.0)))) rest.0, rest.1)

-- each step's changes are found by its line
abbrev StepsFound : List Step → Type 0
StepsFound ss = (s : Step) → Contains ss s → changes_in ss s.line ≡ s.changes

found_by : (does : Effects) (first : Cells) (g : GraphValue) (ss : List Step) (o : Option ℕ) → lowest_ready g ss ≡ o → StepsFound ss → StepsFound (advance_by_with does first g ss o)
found_by does first g ss None e all = all
found_by does first g ss (Some i) e all = λ s c. elim (Contains-push_cases ss (step_with does first g ss i) s c) [
  | inl before ↦ changes_in-push ss (step_with does first g ss i) s.line (member_ended ss s before) ∙ all s before
  | inr last ↦ subst (λ (x : Step). changes_in (ss ++ step_with does first g ss i ∷ []) x.line ≡ x.changes) last
      (changes_in_last ss (step_with does first g ss i) (step_with does first g ss i).line refl (ap (has_ended ss) (step_with-line does first g ss i) ∙ (lowest_ready_is g ss i e).left))
]

pub steps_found_with : (does : Effects) (first : Cells) (g : GraphValue) (n : ℕ) → StepsFound (steps_with does first g n)
steps_found_with does first g zero = λ s c. absurd (contains_none s c)
steps_found_with does first g (suc n) = found_by does first g (steps_with does first g n) (lowest_ready g (steps_with does first g n)) refl (steps_found_with does first g n)

changes_in_left_by : (t : Step) (ss : List Step) (k : ℕ) (b : Bool) → (b || has_ended ss k) ≡ false → (has_ended ss k ≡ false → changes_in ss k ≡ []) → cond b t.changes (changes_in ss k) ≡ []
changes_in_left_by t ss k true h again = absurd (true≢false h)
changes_in_left_by t ss k false h again = again h

changes_in_left : (ss : List Step) (k : ℕ) → has_ended ss k ≡ false → changes_in ss k ≡ []
changes_in_left [] k h = refl
changes_in_left (t ∷ ss) k h = changes_in_left_by t ss k (t.line == k) h (changes_in_left ss k)

made_changes : (v : Verdict) (cs : List CellChange) (x : CellChange) → Contains (made_by v cs) x → Contains cs x
made_changes Fine cs x c = c
made_changes Fault cs x c = absurd (contains_none x c)

step_changes : (k : ℕ) (b : Bool) (e : Effect) (x : CellChange) → Contains (step_by k b e).changes x → Contains e.changes x
step_changes k true e x c = absurd (contains_none x c)
step_changes k false e x c = made_changes e.verdict e.changes x c

pub effect_within : (space : ℕ → List (ℕ × ℕ)) (cells : Cells) (o : Option Verb) (x : CellChange) → Contains (option_map_or (verb_changes space cells) o []) x → IsWithinAccess space (option_map_or verb_accesses o []) x
effect_within space cells None x c = absurd (contains_none x c)
effect_within space cells (Some v) x c = changes_within space cells v x c

-- a change within an access is within it list a format takes it
fits_or_write : (fm : Format) (m : Mode) (c : Change) → FitsMode m c → FitsMode (or_write fm m) c
fits_or_write One m c h = tt
fits_or_write f m c h = h

fits_in : (fm : Format) (m : Mode) (c : Change) → FitsMode m c → FitsMode (mode_in fm m) c
fits_in fm Read c h = h
fits_in fm Write c h = h
fits_in fm Sum c h = h
fits_in fm Least c h = fits_or_write fm Least c h
fits_in fm Most c h = fits_or_write fm Most c h

within_in : (space : ℕ → List (ℕ × ℕ)) (fm : Format) (list : List Access) (x : CellChange) → IsWithinAccess space list x → IsWithinAccess space (map (in_format fm) list) x
within_in space fm list x w = record {
  access = in_format fm w.access;
  listed = contains_map (in_format fm) list w.access w.listed;
  column = w.column;
  point = w.point;
  mode = fits_in fm w.access.mode x.change w.mode;
}

pub line_within : (g : GraphValue) (i : ℕ) (cells : Cells) (x : CellChange) → Contains (effect g i cells).changes x → IsWithinAccess (space_at g) (accesses g i) x
line_within g i cells x c = within_in (space_at g) g.format (option_map_or verb_accesses (verb_at g i) []) x (effect_within (space_at g) cells (verb_at g i) x c)

-- a change within accesses to columns with cells is within one of all of them
in_all : (g : GraphValue) (i : ℕ) (a : Access) → Contains (accesses g i) a → Contains (all_accesses g i) a
in_all g i a c = Contains-append_left (accesses g i) (map (behind_columns g) (option_map_or call_accesses (verb_at g i) [])) a c

within_all : (g : GraphValue) (i : ℕ) (x : CellChange) → IsWithinAccess (space_at g) (accesses g i) x → IsWithinAccess (space_at g) (all_accesses g i) x
within_all g i x w = record { access = w.access; listed = in_all g i w.access w.listed; column = w.column; point = w.point; mode = w.mode }

-- each change of the evaluation is one of its line's effect on some cells
change_source : (does : Effects) (first : Cells) (g : GraphValue) (k : ℕ) (x : CellChange) → Contains (changes_with does first g k) x → (cells : Cells) × Contains (does k cells).changes x
change_source does first g k x c = elim (cases_Bool (has_ended (evaluation_with does first g) k)) [
  | inl h ↦ (let t = ends_by_turn_with does first g k h in (
    cells_with first t.before,
    step_changes k (is_cancelled g (evaluation_with does first g) k) (does k (cells_with first t.before)) x (subst (λ cs. Contains cs x) t.changes_are c),
  ))
  | inr h ↦ absurd (contains_none x (subst (λ cs. Contains cs x) (changes_in_left (evaluation_with does first g) k h) c))
]

-- so it lies within an access of its line
pub change_access_with : (does : Effects) (first : Cells) (g : GraphValue) → KeepsToAccesses g does → (k : ℕ) (x : CellChange) → Contains (changes_with does first g k) x → IsWithinAccess (space_at g) (all_accesses g k) x
change_access_with does first g keeps k x c = let s = change_source does first g k x c in keeps.within k s.0 x s.1

clash_of : (m n : Mode) (c : Change) → FitsMode n c → modes_clash m n ≡ true
clash_of m Read c f = absurd f
clash_of Read Write c f = refl
clash_of Read Sum c f = refl
clash_of Read Least c f = refl
clash_of Read Most c f = refl
clash_of m n c f = refl

-- two accesses that conflict: a path one way or the other, or both are reductions of one kind
path_or_sums : (g : GraphValue) → Accepted g → (i k : ℕ) → (i ≡ k → ⊥) → (a b : Access) → Contains (all_accesses g i) a → Contains (all_accesses g k) b → AccessesConflict g a b →
    HasPath g i k ⊎ (HasPath g k i ⊎ ((is_reduction a.mode ≡ true) × (a.mode ≡ b.mode)))
path_or_sums g accepted i k ne a b ha hb c = elim (path_or_exempt g accepted i k (record { different = ne; one = a; other = b; one_in = ha; other_in = hb; conflict = c })) [
  | inl p ↦ inl p
  | inr (inl p) ↦ inr (inl p)
  | inr (inr x) ↦ inr (inr (commute_parts a.mode b.mode (x.commute a b ha hb c)))
]

filter_agree_on : {X : Type 0} (p q : X → Bool) (xs : List X) → ((x : X) → Contains xs x → p x ≡ q x) → filter p xs ≡ filter q xs
filter_agree_on p q [] h = refl
filter_agree_on p q (x ∷ xs) h =
    ap (λ b. cond b (x ∷ filter p xs) (filter p xs)) (h x (contains_here x xs)) ∙ ap (λ ys. cond (q x) (x ∷ ys) ys) (filter_agree_on p q xs (λ y c. h y (contains_there x xs y c)))

pub flat_map_lines_with : (does : Effects) (first : Cells) (g : GraphValue) (ss : List Step) → ((s : Step) → Contains ss s → changes_with does first g s.line ≡ s.changes) → flat_map (λ (s : Step). s.changes) ss ≡ flat_map (changes_with does first g) (map (λ (s : Step). s.line) ss)
flat_map_lines_with does first g [] h = refl
flat_map_lines_with does first g (s ∷ ss) h = ap (λ x. x ++ flat_map (λ (s : Step). s.changes) ss) (sym (h s (contains_here s ss))) ∙ ap (λ x. changes_with does first g s.line ++ x) (flat_map_lines_with does first g ss (λ t c. h t (contains_there s ss t c)))

map_append : (xs ys : List Step) → map (λ (s : Step). s.line) (xs ++ ys) ≡ map (λ (s : Step). s.line) xs ++ map (λ (s : Step). s.line) ys
map_append [] ys = refl
map_append (x ∷ xs) ys = ap (λ zs. x.line ∷ zs) (map_append xs ys)

-- the evaluation's order round a line
pub order_round : (does : Effects) (first : Cells) (g : GraphValue) (i : ℕ) (before : List Step) (turn : IsTurn does first g (evaluation_with does first g) i before) →
    order_with does first g ≡ map (λ (s : Step). s.line) before ++ i ∷ map (λ (s : Step). s.line) turn.after
order_round does first g i before turn = ap (map (λ (s : Step). s.line)) turn.parts
    ∙ (map_append before (step_with does first g before i ∷ turn.after) ∙ ap (λ k. map (λ (s : Step). s.line) before ++ k ∷ map (λ (s : Step). s.line) turn.after) (step_with-line does first g before i))

-- the lines before and behind a line in the evaluation
module _ (does : Effects) (first : Cells) (g : GraphValue) (i : ℕ) (before : List Step) (turn : IsTurn does first g (evaluation_with does first g) i before) where
  pub lines_before : List ℕ
  lines_before = map (λ (s : Step). s.line) before

  pub lines_behind : List ℕ
  lines_behind = map (λ (s : Step). s.line) turn.after

  pub order_parts : order_with does first g ≡ lines_before ++ i ∷ lines_behind
  unfolding lines_before lines_behind
  order_parts = ap (map (λ (s : Step). s.line)) turn.parts
      ∙ (map_append before (step_with does first g before i ∷ turn.after) ∙ ap (λ k. lines_before ++ k ∷ lines_behind) (step_with-line does first g before i))

  -- the cells at the turn are those by the lines before
  pub cells_at_turn : cells_with first before ≡ cells_by_with does first g lines_before
  unfolding lines_before
  cells_at_turn = ap (cells_after first) (flat_map_lines_with does first g before
      (λ s c. steps_found_with does first g (length g.lines) s (subst (λ ss. Contains ss s) (sym turn.parts) (Contains-append_left before (step_with does first g before i ∷ turn.after) s c))))

  pub before_has_ended : (k : ℕ) → Contains lines_before k → has_ended before k ≡ true
  unfolding lines_before
  before_has_ended k c = let m = map_contains (λ (s : Step). s.line) before k c in ap (has_ended before) (sym m.2) ∙ member_ended before m.0 m.1

  pub behind_is_left : (k : ℕ) → Contains lines_behind k → (has_ended before k ≡ false) × (i ≡ k → ⊥)
  unfolding lines_behind
  behind_is_left k c =
      let m = map_contains (λ (s : Step). s.line) turn.after k c in
      let f = fresh_after before (step_with does first g before i) turn.after (subst Fresh turn.parts (steps_fresh does first g (length g.lines))) m.0 m.1 in
      (ap (has_ended before) (sym m.2) ∙ f.0, λ e. f.1 (step_with-line does first g before i ∙ (e ∙ sym m.2)))

  pub before_is_other : (k : ℕ) → Contains lines_before k → i ≡ k → ⊥
  before_is_other k c e = true≢false (sym (before_has_ended k c) ∙ (ap (has_ended before) (sym e) ∙ turn.ready.left))

-- the lines put back, and line i too
abbrev pub put_with : ℕ → (ℕ → Bool) → ℕ → Bool
put_with i put k = (k == i) || put k

-- lines of which some are put back on a column, and some have ended
module _ (does : Effects) (first : Cells) (g : GraphValue) (accepted : Accepted g) (keeps : KeepsToAccesses g does) (i : ℕ) (before : List Step) (turn : IsTurn does first g (evaluation_with does first g) i before) (ended put : ℕ → Bool) (c p : ℕ)
    (closed : (e : Edge) → Contains (edges g) e → ended e.to ≡ true → ended e.from ≡ true)
    (ready : (e : Edge) → Contains (edges g) e → e.to ≡ i → ended e.from ≡ true)
    (left : ended i ≡ false) (out : put i ≡ false)
    (put_ready : (k : ℕ) → put k ≡ true → (e : Edge) → Contains (edges g) e → e.to ≡ k → ended e.from ≡ true)
    (kept : (k : ℕ) → ended k ≡ true → (x : CellChange) → Contains (changes_with does first g k) x → touches c p x ≡ true → put k ≡ true)
  where
    conflict_at : (a : Access) → a.column ≡ c → has_point (space_at g a.space) p ≡ true → (k : ℕ) (x : CellChange) → touches c p x ≡ true → (w : IsWithinAccess (space_at g) (all_accesses g k) x) → AccessesConflict g a w.access
    conflict_at a ac ap' k x t w =
        let m = and_parts (c == x.column) (p == x.point) t in
        record {
          column = ac ∙ (eqb-true c x.column m.0 ∙ sym w.column);
          meet = (p, ap', ap (has_point (space_at g w.access.space)) (eqb-true p x.point m.1) ∙ w.point);
          clash = clash_of a.mode w.access.mode x.change w.mode;
        }

    -- a line before that is not put back changes no cell that the line reads
    unput_before : (a : Access) → Contains (all_accesses g i) a → (is_reduction a.mode ≡ false) → a.column ≡ c → has_point (space_at g a.space) p ≡ true →
        (k : ℕ) → Contains (lines_before does first g i before turn) k → put k ≡ false → Untouched c p (changes_with does first g k)
    unput_before a ha ne ac ap' k hk unput x hx = false_from_ne_true (touches c p x) (λ t.
        let w = change_access_with does first g keeps k x hx in
        elim (path_or_sums g accepted i k (before_is_other does first g i before turn k hk) a w.access ha w.listed (conflict_at a ac ap' k x t w)) [
          | inl i_first ↦ true≢false (sym (back_path (λ m. has_ended before m ≡ true) (λ e ce h. (turn.ordered.each e.to h).2 e ce refl) i_first (before_has_ended does first g i before turn k hk)) ∙ turn.ready.left)
          | inr (inl k_first) ↦ true≢false (sym (kept k (before_ended (edges g) ended closed k i ready k_first) x hx t) ∙ unput)
          | inr (inr both) ↦ true≢false (sym both.0 ∙ ne)
        ])

    -- a line behind that is put back meets the line by reductions of one kind alone
    reduces_behind : (a : Access) → Contains (all_accesses g i) a → a.column ≡ c → has_point (space_at g a.space) p ≡ true →
        (k : ℕ) → Contains (lines_behind does first g i before turn) k → put k ≡ true → (x : CellChange) (hx : Contains (changes_with does first g k) x) → touches c p x ≡ true → (is_reduction a.mode ≡ true) × (a.mode ≡ (change_access_with does first g keeps k x hx).access.mode)
    reduces_behind a ha ac ap' k hk is_put x hx t =
        let w = change_access_with does first g keeps k x hx in
        let l = behind_is_left does first g i before turn k hk in
        elim (path_or_sums g accepted i k l.1 a w.access ha w.listed (conflict_at a ac ap' k x t w)) [
          | inl i_first ↦ absurd (true≢false (sym (before_ended (edges g) ended closed i k (put_ready k is_put) i_first) ∙ left))
          | inr (inl k_first) ↦ absurd (true≢false (sym (before_ended (edges g) (has_ended before) (λ e ce h. (turn.ordered.each e.to h).2 e ce refl) k i turn.ready.sources k_first) ∙ l.0))
          | inr (inr both) ↦ both
        ]

    changes_of : List ℕ → List CellChange
    changes_of ks = flat_map (changes_with does first g) ks

    -- lines left out that change nothing here may list well be in
    skip_unput_by : (cells : Cells) (k : ℕ) (ks : List ℕ) (b : Bool) → put k ≡ b → (put k ≡ false → Untouched c p (changes_with does first g k)) →
        ((cells : Cells) → cells_after cells (changes_of (filter put ks)) c p ≡ cells_after cells (changes_of ks) c p) →
        cells_after cells (changes_of (cond b (k ∷ filter put ks) (filter put ks))) c p ≡ cells_after cells (changes_of (k ∷ ks)) c p
    unfolding changes_of
    skip_unput_by cells k ks true e h again = ap (λ (f : Cells). f c p) (cells_after-append cells (changes_with does first g k) (changes_of (filter put ks)))
        ∙ (again (cells_after cells (changes_with does first g k)) ∙ ap (λ (f : Cells). f c p) (sym (cells_after-append cells (changes_with does first g k) (changes_of ks))))
    skip_unput_by cells k ks false e h again = again cells
        ∙ (cells_after_at cells (cells_after cells (changes_with does first g k)) (changes_of ks) c p (sym (cells_after_untouched cells (changes_with does first g k) c p (h e)))
        ∙ ap (λ (f : Cells). f c p) (sym (cells_after-append cells (changes_with does first g k) (changes_of ks))))

    skip_unput : (ks : List ℕ) → ((k : ℕ) → Contains ks k → put k ≡ false → Untouched c p (changes_with does first g k)) → (cells : Cells) →
        cells_after cells (changes_of (filter put ks)) c p ≡ cells_after cells (changes_of ks) c p
    skip_unput [] h cells = refl
    skip_unput (k ∷ ks) h cells = skip_unput_by cells k ks (put k) refl (h k (contains_here k ks)) (skip_unput ks (λ m r. h m (contains_there k ks m r)))

    untouched_lines : (ks : List ℕ) → ((k : ℕ) → Contains ks k → Untouched c p (changes_with does first g k)) → Untouched c p (changes_of ks)
    unfolding changes_of
    untouched_lines ks h x hx = let r = flat_map_contains (changes_with does first g) ks x hx in h r.0 r.1 x r.2

    -- the lines put back, in order: those before, and those behind
    put_order : filter put (order_with does first g) ≡ filter put (lines_before does first g i before turn) ++ filter put (lines_behind does first g i before turn)
    put_order = ap (filter put) (order_parts does first g i before turn)
        ∙ (filter-append put (lines_before does first g i before turn) (i ∷ lines_behind does first g i before turn)
        ∙ ap (λ b. filter put (lines_before does first g i before turn) ++ cond b (i ∷ filter put (lines_behind does first g i before turn)) (filter put (lines_behind does first g i before turn))) out)

    cells_put : cells_of_lines_with does first g put ≡ cells_after (cells_by_with does first g (filter put (lines_before does first g i before turn))) (changes_of (filter put (lines_behind does first g i before turn)))
    unfolding changes_of
    cells_put = ap (λ ks. cells_after first (flat_map (changes_with does first g) ks)) put_order
        ∙ (ap (cells_after first) (flat_map-append (changes_with does first g) (filter put (lines_before does first g i before turn)) (filter put (lines_behind does first g i before turn)))
        ∙ cells_after-append first (changes_of (filter put (lines_before does first g i before turn))) (changes_of (filter put (lines_behind does first g i before turn))))

    -- a cell that the line reads, or writes other than by a reduction, is list at its turn
    pub cell_is_as_at_turn : (a : Access) → Contains (all_accesses g i) a → (is_reduction a.mode ≡ false) → a.column ≡ c → has_point (space_at g a.space) p ≡ true → cells_of_lines_with does first g put c p ≡ cells_with first before c p
    unfolding changes_of
    cell_is_as_at_turn a ha ne ac ap' =
        ap (λ (f : Cells). f c p) cells_put
        ∙ (cells_after_untouched (cells_by_with does first g (filter put (lines_before does first g i before turn))) (changes_of (filter put (lines_behind does first g i before turn))) c p
        (untouched_lines (filter put (lines_behind does first g i before turn)) (λ k hk x hx. false_from_ne_true (touches c p x) (λ t.
        let m = filter_contains put (lines_behind does first g i before turn) k hk in
        true≢false (sym (reduces_behind a ha ac ap' k m.0 m.1 x hx t).0 ∙ ne))))
        ∙ (skip_unput (lines_before does first g i before turn) (unput_before a ha ne ac ap') first
        ∙ ap (λ (f : Cells). f c p) (sym (cells_at_turn does first g i before turn))))

    put_with_other : (ks : List ℕ) → ((k : ℕ) → Contains ks k → i ≡ k → ⊥) → filter (put_with i put) ks ≡ filter put ks
    put_with_other ks h = filter_agree_on (put_with i put) put ks (λ k hk. ap (λ b. b || put k) (ne_eqb k i (λ e. h k hk (sym e))))

    put_with_order : filter (put_with i put) (order_with does first g) ≡ filter put (lines_before does first g i before turn) ++ i ∷ filter put (lines_behind does first g i before turn)
    put_with_order = ap (filter (put_with i put)) (order_parts does first g i before turn)
        ∙ (filter-append (put_with i put) (lines_before does first g i before turn) (i ∷ lines_behind does first g i before turn)
        ∙ (ap (λ b. filter (put_with i put) (lines_before does first g i before turn) ++ cond (b || put i) (i ∷ filter (put_with i put) (lines_behind does first g i before turn)) (filter (put_with i put) (lines_behind does first g i before turn))) (eq-eqb i i refl)
        ∙ (ap (λ ks. ks ++ i ∷ filter (put_with i put) (lines_behind does first g i before turn)) (put_with_other (lines_before does first g i before turn) (before_is_other does first g i before turn))
        ∙ ap (λ ks. filter put (lines_before does first g i before turn) ++ i ∷ ks) (put_with_other (lines_behind does first g i before turn) (λ k hk. (behind_is_left does first g i before turn k hk).1)))))

    -- the mode by which a line behind changes this cell
    behind_mode : (y : CellChange) → Contains (changes_of (filter put (lines_behind does first g i before turn))) y → Mode
    unfolding changes_of
    behind_mode y hy = let r = flat_map_contains (changes_with does first g) (filter put (lines_behind does first g i before turn)) y hy in (change_access_with does first g keeps r.0 y r.2).access.mode

    behind_fits : (y : CellChange) (hy : Contains (changes_of (filter put (lines_behind does first g i before turn))) y) → FitsMode (behind_mode y hy) y.change
    unfolding changes_of behind_mode
    behind_fits y hy = let r = flat_map_contains (changes_with does first g) (filter put (lines_behind does first g i before turn)) y hy in (change_access_with does first g keeps r.0 y r.2).mode

    -- where the line and one behind it both change this cell, they do so by reductions of one kind
    behind_meets : (y : CellChange) (hy : Contains (changes_of (filter put (lines_behind does first g i before turn))) y) → touches c p y ≡ true →
        (a : Access) → Contains (all_accesses g i) a → a.column ≡ c → has_point (space_at g a.space) p ≡ true → (is_reduction a.mode ≡ true) × (a.mode ≡ behind_mode y hy)
    unfolding changes_of behind_mode
    behind_meets y hy t a ha ac ap' =
        let r = flat_map_contains (changes_with does first g) (filter put (lines_behind does first g i before turn)) y hy in
        let m = filter_contains put (lines_behind does first g i before turn) r.0 r.1 in
        reduces_behind a ha ac ap' r.0 m.0 m.1 y r.2 t

    own_access : (x : CellChange) → Contains (changes_with does first g i) x → touches c p x ≡ true →
        (a : Access) × Contains (all_accesses g i) a × (a.column ≡ c) × (has_point (space_at g a.space) p ≡ true) × FitsMode a.mode x.change
    own_access x hx t =
        let w = change_access_with does first g keeps i x hx in
        let m = and_parts (c == x.column) (p == x.point) t in
        (w.access, w.listed, w.column ∙ sym (eqb-true c x.column m.0), ap (has_point (space_at g w.access.space)) (eqb-true p x.point m.1) ∙ w.point, w.mode)

    -- the kind is the same for all of them
    abbrev Kinds : List CellChange → List CellChange → Type 0
    Kinds ds ps = (m : Mode) × (is_reduction m ≡ true) × ReducesBy m c p ds × ReducesBy m c p ps

    one_kind : list_any (touches c p) (changes_with does first g i) ≡ true → list_any (touches c p) (changes_of (filter put (lines_behind does first g i before turn))) ≡ true →
        Kinds (changes_with does first g i) (changes_of (filter put (lines_behind does first g i before turn)))
    one_kind some others =
        let x = some_passes (touches c p) (changes_with does first g i) some in
        let y = some_passes (touches c p) (changes_of (filter put (lines_behind does first g i before turn))) others in
        let a = own_access x.0 x.1 x.2 in
        let met = behind_meets y.0 y.1 y.2 a.0 a.1 a.2 a.3 in (
          a.0.mode,
          met.0,
          (λ z hz t. let own = own_access z hz t in subst (λ m. FitsMode m z.change) ((behind_meets y.0 y.1 y.2 own.0 own.1 own.2 own.3).1 ∙ sym met.1) own.4),
          (λ z hz t. subst (λ m. FitsMode m z.change) (sym (behind_meets z hz t a.0 a.1 a.2 a.3).1) (behind_fits z hz)),
        )

    none_touch : (xs : List CellChange) → list_any (touches c p) xs ≡ false → Untouched c p xs
    none_touch xs none x hx = false_from_ne_true (touches c p x) (λ t. true≢false (sym (passes_some (touches c p) xs x hx t) ∙ none))

    -- changes of the line and of those behind it commute at this cell
    behind_commutes : (cells : Cells) →
        cells_after (cells_after cells (changes_of (filter put (lines_behind does first g i before turn)))) (changes_with does first g i) c p
        ≡ cells_after (cells_after cells (changes_with does first g i)) (changes_of (filter put (lines_behind does first g i before turn))) c p
    behind_commutes cells =
        let ds : List CellChange = changes_with does first g i in
        let ps : List CellChange = changes_of (filter put (lines_behind does first g i before turn)) in
        elim (cases_Bool (list_any (touches c p) ds)) [
          | inr none ↦ cells_after_untouched (cells_after cells ps) ds c p (none_touch ds none) ∙ cells_after_at cells (cells_after cells ds) ps c p (sym (cells_after_untouched cells ds c p (none_touch ds none)))
          | inl some ↦ elim (cases_Bool (list_any (touches c p) ps)) [
            | inr none ↦ cells_after_at (cells_after cells ps) cells ds c p (cells_after_untouched cells ps c p (none_touch ps none)) ∙ sym (cells_after_untouched (cells_after cells ds) ps c p (none_touch ps none))
            | inl others ↦ (let k = one_kind some others in reductions_past k.0 k.1 cells ps ds c p k.3 k.2)
          ]
        ]

    cells_put_and_own : cells_of_lines_with does first g (put_with i put) ≡ cells_after (cells_after (cells_by_with does first g (filter put (lines_before does first g i before turn))) (changes_with does first g i)) (changes_of (filter put (lines_behind does first g i before turn)))
    unfolding changes_of
    cells_put_and_own = ap (λ ks. cells_after first (flat_map (changes_with does first g) ks)) put_with_order
        ∙ (ap (cells_after first) (flat_map-append (changes_with does first g) (filter put (lines_before does first g i before turn)) (i ∷ filter put (lines_behind does first g i before turn)))
        ∙ (cells_after-append first (changes_of (filter put (lines_before does first g i before turn))) (changes_with does first g i ++ changes_of (filter put (lines_behind does first g i before turn)))
        ∙ cells_after-append (cells_by_with does first g (filter put (lines_before does first g i before turn))) (changes_with does first g i) (changes_of (filter put (lines_behind does first g i before turn)))))

    -- a cell changed by the line is that of the lines put back and this one, in the evaluation's order
    pub cell_is_put_back_with : cells_after (cells_of_lines_with does first g put) (changes_with does first g i) c p ≡ cells_of_lines_with does first g (put_with i put) c p
    cell_is_put_back_with = ap (λ cells. cells_after cells (changes_with does first g i) c p) cells_put
        ∙ (behind_commutes (cells_by_with does first g (filter put (lines_before does first g i before turn))) ∙ ap (λ (f : Cells). f c p) (sym cells_put_and_own))

pub effect_same : (space : ℕ → List (ℕ × ℕ)) (cells others : Cells) (o : Option Verb) → AgreeFor space (option_map_or verb_accesses o []) cells others →
    (option_map_or (verb_changes space cells) o [] ≡ option_map_or (verb_changes space others) o []) × (option_map_or (verb_verdict space cells) o Fine ≡ option_map_or (verb_verdict space others) o Fine)
effect_same space cells others None h = (refl, refl)
effect_same space cells others (Some v) h = effect_agrees space cells others v h

-- what is no reduction is so in each format
still_no_reduction : (fm : Format) (m : Mode) → is_reduction m ≡ false → is_reduction (mode_in fm m) ≡ false
still_no_reduction fm Read h = h
still_no_reduction fm Write h = h
still_no_reduction fm m h = absurd (true≢false h)

-- states that are alike where a line of a format uses them are alike to it
pub agree_in : (space : ℕ → List (ℕ × ℕ)) (fm : Format) (list : List Access) (cells others : Cells) → AgreeFor space (map (in_format fm) list) cells others → AgreeFor space list cells others
agree_in space fm list cells others h a ha ne p hp = h (in_format fm a) (contains_map (in_format fm) list a ha) (still_no_reduction fm a.mode ne) p hp

abbrev pub effect_of : Verdict → List CellChange → Effect
effect_of verdict changes = record { «verdict» = verdict; «changes» = changes }

same_parts : (v w : Verdict) (cs ds : List CellChange) → v ≡ w → cs ≡ ds → effect_of v cs ≡ effect_of w ds
same_parts v w cs ds p q = cc

-- what a graph's verbs do rests on columns with cells alone
pub verbs_agree : (g : GraphValue) (i : ℕ) (cells others : Cells) → AgreeWhereUsed g i cells others → effect g i cells ≡ effect g i others
verbs_agree g i cells others h =
    let same = effect_same (space_at g) cells others (verb_at g i) (agree_in (space_at g) g.format (option_map_or verb_accesses (verb_at g i) []) cells others h) in
    same_parts _ _ _ _ same.1 same.0

-- the effects of the graph's verbs keep to its accesses
pub verbs_keep : (g : GraphValue) → KeepsToAccesses g (effect g)
verbs_keep g = record {
  within = λ i cells x c. within_all g i x (line_within g i cells x c);
  agrees = λ i cells others h. verbs_agree g i cells others (λ a ha. h a (in_all g i a ha));
}

-- lines that ended and change a cell are put back on its column
kept_at : (does : Effects) (first : Cells) (g : GraphValue) (i : ℕ) (ended : ℕ → Bool) (put : ℕ → ℕ → Bool) → IsReadyAmongWith does first g i ended put →
    (c p k : ℕ) → ended k ≡ true → (x : CellChange) → Contains (changes_with does first g k) x → touches c p x ≡ true → put c k ≡ true
kept_at does first g i ended put r c p k e x hx t = subst (λ y. put y k ≡ true) (sym (eqb-true c x.column (and_parts (c == x.column) (p == x.point) t).0)) (r.kept k x e hx)

-- a line that is ready does to the cells at home what it does in the evaluation, whatever came before it
pub same_effect_with : (does : Effects) (first : Cells) (g : GraphValue) → Accepted g → KeepsToAccesses g does → (i : ℕ) (before : List Step) → IsTurn does first g (evaluation_with does first g) i before →
    (ended : ℕ → Bool) (put : ℕ → ℕ → Bool) → IsReadyAmongWith does first g i ended put → does i (λ c p. cells_of_lines_with does first g (put c) c p) ≡ does i (cells_with first before)
same_effect_with does first g accepted keeps i before turn ended put r =
    keeps.agrees i (λ c p. cells_of_lines_with does first g (put c) c p) (cells_with first before)
    (λ a ha ne p hp. cell_is_as_at_turn does first g accepted keeps i before turn ended (put a.column) a.column p
    r.closed r.ready r.left (r.out a.column) (r.put_ready a.column) (kept_at does first g i ended put r a.column p) a ha ne refl hp)

-- and the cells at home, changed by it, are those of the lines put back and this one
pub same_cells : (does : Effects) (first : Cells) (g : GraphValue) → Accepted g → KeepsToAccesses g does → (i : ℕ) (before : List Step) → IsTurn does first g (evaluation_with does first g) i before →
    (ended : ℕ → Bool) (put : ℕ → ℕ → Bool) → IsReadyAmongWith does first g i ended put → (c p : ℕ) →
    cells_after (cells_of_lines_with does first g (put c)) (changes_with does first g i) c p ≡ cells_of_lines_with does first g (put_with i (put c)) c p
same_cells does first g accepted keeps i before turn ended put r c p =
    cell_is_put_back_with does first g accepted keeps i before turn ended (put c) c p r.closed r.ready r.left (r.out c) (r.put_ready c) (kept_at does first g i ended put r c p)

pub cells_by_all_lines : CellsByAllLines
cells_by_all_lines does first g = ap (cells_after first) (flat_map_lines_with does first g (evaluation_with does first g) (λ s c. steps_found_with does first g (length g.lines) s c))

-- the same with the effects of the graph's verbs, and cells of 0
pub change_access : (g : GraphValue) (k : ℕ) (x : CellChange) → Contains (eval_changes g k) x → IsWithinAccess (space_at g) (accesses g k) x
change_access g k x c = let s = change_source (effect g) zero_cells g k x c in line_within g k s.0 x s.1

pub cell_is_put_back : (g : GraphValue) → Accepted g → (i : ℕ) (before : List Step) → IsTurn (effect g) zero_cells g (evaluation g) i before → (ended put : ℕ → Bool) (c p : ℕ) →
    ((e : Edge) → Contains (edges g) e → ended e.to ≡ true → ended e.from ≡ true) →
    ((e : Edge) → Contains (edges g) e → e.to ≡ i → ended e.from ≡ true) →
    ended i ≡ false → put i ≡ false →
    ((k : ℕ) → put k ≡ true → (e : Edge) → Contains (edges g) e → e.to ≡ k → ended e.from ≡ true) →
    ((k : ℕ) → ended k ≡ true → (x : CellChange) → Contains (eval_changes g k) x → touches c p x ≡ true → put k ≡ true) →
    cells_after (cells_of_lines g put) (eval_changes g i) c p ≡ cells_of_lines g (put_with i put) c p
cell_is_put_back g accepted i before turn ended put c p closed ready left out put_ready kept =
    cell_is_put_back_with (effect g) zero_cells g accepted (verbs_keep g) i before turn ended put c p closed ready left out put_ready kept

pub same_effect : (g : GraphValue) → Accepted g → (i : ℕ) (before : List Step) → IsTurn (effect g) zero_cells g (evaluation g) i before →
    (ended : ℕ → Bool) (put : ℕ → ℕ → Bool) → IsReadyAmong g i ended put →
    ((effect g i (λ c p. cells_of_lines g (put c) c p)).changes ≡ (effect g i (cells_of before)).changes) × ((effect g i (λ c p. cells_of_lines g (put c) c p)).verdict ≡ (effect g i (cells_of before)).verdict)
same_effect g accepted i before turn ended put r =
    let same = same_effect_with (effect g) zero_cells g accepted (verbs_keep g) i before turn ended put r in
    (ap (λ (e : Effect). e.changes) same, ap (λ (e : Effect). e.verdict) same)
