-- How a step shows in the state.
use Rattle.std.proofs.Common.{◌≡◌, ℕ, ◌+◌, ◌<◌, ◌≤◌, Bool, true, false, cond, not, ◌||◌, ◌&&◌, inl, inr, List, [], ◌∷◌, ◌++◌, length, map, take, set, refl, sym, ◌∙◌, ap, subst, arith, get_or, length-set, append-nil}
use Rattle.std.specs.Prelude.{◌==◌, flat_map}
use Rattle.std.specs.BTreeSet.{contains}
use Rattle.std.specs.List.{All, list_any}
use Rattle.std.specs.Ordering.{nat_cmp}
use Rattle.std.proofs.lemmas.Bool.{cases_eq, eq-eqb, ne_eqb, or_parts, or_from}
use Rattle.std.proofs.lemmas.List.{get_or-set_same, get_or-set_other, map-append}
use Rattle.std.proofs.lemmas.List.Concat.{flat_map-append}
use Rattle.std.proofs.lemmas.List.Folds.{list_any-append, list_any_at, list_any_more}
use Rattle.std.proofs.lemmas.List.Elements.{All-filter, Contains-get_or}
use Rattle.std.proofs.lemmas.List.FromFn.{fill_by_all, get_or-map-range_with_len, length-map-range_with_len}
use Rattle.basics.specs.Lists.{numbers_below}
use Rattle.graph_terms.specs.declared.verb.Edge.{Edge}
use Rattle.graph_terms.specs.declared.outcome.End.{End}
use Rattle.graph_terms.specs.declared.outcome.End.TheVariants.{Waiting}
use Rattle.graph_terms.specs.Graph.{GraphValue}
use Rattle.graph_terms.specs.Edges.{edges, edges_into}
use Rattle.graph_terms.specs.Fits.{IsGraph}
use Rattle.graph_meaning.specs.Laws.{EdgesBetweenLines}
use Rattle.graph_meaning.specs.Effect.{zero_cells, Effect, effect, cells_after}
use Rattle.graph_meaning.specs.Evaluation.{Step, eval_end, end_in, has_ended, cells_of, cancels, is_cancelled, step_by, step_of, advance_by, advance}
use Rattle.plain_eval.specs.Waiting.{open_edges, and_ended, is_free, IsWaiting, IsFree}
use Rattle.line_effects.specs.Homes.{all_home}
use Rattle.plain_eval.specs.State.{IsState}
use Rattle.plain_eval.specs.declared.state.State.{State}
use Rattle.plain_eval.proofs.CellFacts.{cells_after-append}
use Rattle.plain_eval.proofs.WaitingFacts.{filter_agree, lowest_is, none_ready, freed}

-- the same lines have ended
waiting_agree : (g : GraphValue) (ended also : ℕ → Bool) (left : List ℕ) (ready : ℕ → Bool) → ((i : ℕ) → ended i ≡ also i) → IsWaiting g ended left ready → IsWaiting g also left ready
waiting_agree g ended also left ready h w =
    let same : (i : ℕ) → open_edges g ended i ≡ open_edges g also i = λ i. ap length (filter_agree (λ (e : Edge). (e.to == i) && not (ended e.from)) (λ (e : Edge). (e.to == i) && not (also e.from)) (λ e. ap (λ b. (e.to == i) && not b) (h e.from)) (edges g)) in
    record {
      lines = w.lines;
      counts = λ i b. w.counts i b ∙ same i;
      ready_are = λ i. w.ready_are i ∙ ap (λ b. is_free g (λ j. b) left i) (h i);
      closed = λ i e. sym (same i) ∙ w.closed i (h i ∙ e);
    }

ended_more : (ss : List Step) (s : Step) (i : ℕ) → has_ended (ss ++ s ∷ []) i ≡ (has_ended ss i || (s.line == i))
ended_more ss s i = list_any-append (λ (x : Step). x.line == i) ss (s ∷ []) ∙ ap (λ b. has_ended ss i || b) (or_false (s.line == i))
  where
    or_false : (b : Bool) → (b || false) ≡ b
    or_false true = refl
    or_false false = refl

-- the end of the line of the last step, and of the others
end_of_last : (ss : List Step) (s : Step) → has_ended ss s.line ≡ false → end_in (ss ++ s ∷ []) s.line ≡ s.ends
end_of_last [] s h = rw (eq-eqb s.line s.line refl) refl
end_of_last (t ∷ ss) s h = let parts = or_parts (t.line == s.line) (has_ended ss s.line) h in rw parts.0 (end_of_last ss s parts.1)

end_of_other : (ss : List Step) (s : Step) (i : ℕ) → (s.line ≡ i → ⊥) → end_in (ss ++ s ∷ []) i ≡ end_in ss i
end_of_other [] s i n = rw (ne_eqb s.line i n) refl
end_of_other (t ∷ ss) s i n = ap (λ e. cond (t.line == i) t.ends e) (end_of_other ss s i n)

pub ends_more : (ss : List Step) (s : Step) (n k : ℕ) (e : End) (old new : List End) → s.line ≡ k → e ≡ s.ends → has_ended ss k ≡ false → k < n → old ≡ map (end_in ss) (numbers_below n) → new ≡ set old k e → new ≡ map (end_in (ss ++ s ∷ [])) (numbers_below n)
ends_more ss s n k e old new line ends h b o w =
    let count : length old ≡ n = ap length o ∙ length-map-range_with_len (end_in ss) 0 n in
    fill_by_all (end_in (ss ++ s ∷ [])) new n Waiting (ap length w ∙ (length-set old k e ∙ count)) (λ i c.
    ap (λ xs. get_or xs i Waiting) w ∙ (elim (cases_eq i k) [
      | inl same ↦ ap (λ j. get_or (set old j e) i Waiting) (sym same) ∙ (get_or-set_same old i e Waiting (subst (λ m. i < m) (sym count) c)
          ∙ (ends ∙ (sym (end_of_last ss s (subst (λ j. has_ended ss j ≡ false) (sym line) h)) ∙ ap (end_in (ss ++ s ∷ [])) (line ∙ sym same))))
      | inr other ↦ get_or-set_other old k i e Waiting other ∙ (ap (λ xs. get_or xs i Waiting) o ∙ (get_or-map-range_with_len (end_in ss) 0 n i i Waiting c (omega arith)
          ∙ sym (end_of_other ss s i (λ x. other (sym x ∙ line)))))
    ]))

line_by : (i : ℕ) (b : Bool) (e : Effect) → (step_by i b e).line ≡ i
line_by i true e = refl
line_by i false e = refl

pub step_line : (g : GraphValue) (ss : List Step) (i : ℕ) → (step_of g ss i).line ≡ i
step_line g ss i = line_by i (is_cancelled g ss i) (effect g i (cells_of ss))

cells_more : (ss : List Step) (s : Step) → cells_of (ss ++ s ∷ []) ≡ cells_after (cells_of ss) s.changes
cells_more ss s =
    ap (cells_after zero_cells) (flat_map-append (λ (x : Step). x.changes) ss (s ∷ []) ∙ ap (λ cs. flat_map (λ (x : Step). x.changes) ss ++ cs) (append-nil s.changes))
    ∙ cells_after-append zero_cells (flat_map (λ (x : Step). x.changes) ss) s.changes

-- no line is ready
pub idle : (g : GraphValue) (ss : List Step) (old new : State) → IsState g ss old → new.waiting.left.items ≡ old.waiting.left.items → new.ends.items ≡ old.ends.items → new.order.items ≡ old.order.items → new.homes ≡ old.homes →
    ((i : ℕ) → (contains nat_cmp old.waiting.ready i ≡ false) × (contains nat_cmp new.waiting.ready i ≡ false)) → IsState g (advance g ss) new
idle g ss old new r left ends order cells h =
    let w : IsWaiting g (has_ended ss) old.waiting.left.items (contains nat_cmp new.waiting.ready) = record {
      lines = r.waiting.lines;
      counts = r.waiting.counts;
      ready_are = λ i. (h i).1 ∙ (sym (h i).0 ∙ r.waiting.ready_are i);
      closed = r.waiting.closed;
    } in
    subst (λ ts. IsState g ts new) (sym (ap (advance_by g ss) (none_ready g ss old.waiting.left.items (contains nat_cmp old.waiting.ready) r.waiting (λ i. (h i).0)))) (record {
      waiting = subst (λ xs. IsWaiting g (has_ended ss) xs (contains nat_cmp new.waiting.ready)) (sym left) w;
      ends = ends ∙ r.ends;
      order = order ∙ r.order;
      homes = cells ∙ r.homes;
    })

-- the lowest line that is ready has ended
pub advanced : (g : GraphValue) (ss : List Step) (old new : State) (k : ℕ) (e : End) → IsState g ss old → contains nat_cmp old.waiting.ready k ≡ true → ((i : ℕ) → contains nat_cmp old.waiting.ready i ≡ true → k ≤ i) →
    IsWaiting g (and_ended (has_ended ss) k) new.waiting.left.items (contains nat_cmp new.waiting.ready) → has_ended ss k ≡ false → e ≡ (step_of g ss k).ends → new.ends.items ≡ set old.ends.items k e → new.order.items ≡ old.order.items ++ k ∷ [] →
    new.homes ≡ all_home g (cells_after (cells_of ss) (step_of g ss k).changes) → IsState g (advance g ss) new
advanced g ss old new k e r ready least waiting left ends write order cells =
    let s : Step = step_of g ss k in
    let line : s.line ≡ k = step_line g ss k in
    let lowest = lowest_is g ss old.waiting.left.items (contains nat_cmp old.waiting.ready) k r.waiting ready least in
    let more : advance g ss ≡ ss ++ s ∷ [] = ap (advance_by g ss) lowest.0 in
    subst (λ ts. IsState g ts new) (sym more) (record {
      waiting = waiting_agree g (and_ended (has_ended ss) k) (has_ended (ss ++ s ∷ [])) new.waiting.left.items (contains nat_cmp new.waiting.ready) (λ i. ap (λ j. has_ended ss i || (j == i)) (sym line) ∙ sym (ended_more ss s i)) waiting;
      ends = ends_more ss s (length g.lines) k e old.ends.items new.ends.items line ends left lowest.1 r.ends write;
      order = order ∙ (ap (λ xs. xs ++ k ∷ []) r.order ∙ (ap (λ j. map (λ (x : Step). x.line) ss ++ j ∷ []) (sym line) ∙ sym (map-append (λ (x : Step). x.line) ss (s ∷ []))));
      homes = cells ∙ ap (all_home g) (sym (cells_more ss s));
    })

-- the sources of a line's edges are lines, and its edges are read one after another
pub source_known : EdgesBetweenLines → (g : GraphValue) → IsGraph g → (line k : ℕ) (es : List Edge) (d : Edge) → es ≡ edges_into g line → k < length es → (get_or es k d).from < length g.lines
source_known fit g is line k es d e h =
    let all : All (λ (x : Edge). x.from < length g.lines) (edges g) = λ i x b. (fit g (get_or (edges g) i x) is (Contains-get_or (edges g) i x b)).0 in
    let some : All (λ (x : Edge). x.from < length g.lines) es = subst (All (λ (x : Edge). x.from < length g.lines)) (sym e) (All-filter (λ (x : Edge). x.to == line) (λ (x : Edge). x.from < length g.lines) (edges g) all) in
    some k d h

end_read : (ss : List Step) (n i : ℕ) (ends : List End) (e d : End) → ends ≡ map (end_in ss) (numbers_below n) → i < n → e ≡ get_or ends i d → e ≡ end_in ss i
end_read ss n i ends e d h b r = r ∙ (ap (λ xs. get_or xs i d) h ∙ get_or-map-range_with_len (end_in ss) 0 n i i d b (omega arith))

pub cancelled_by : (g : GraphValue) (ss : List Step) (line k : ℕ) (es : List Edge) (d : Edge) (ends : List End) (e x : End) (b : Bool) → es ≡ edges_into g line → k < length es → (get_or es k d).from < length g.lines →
    ends ≡ map (end_in ss) (numbers_below (length g.lines)) → e ≡ get_or ends (get_or es k d).from x → b ≡ cancels (get_or es k d).kind e → b ≡ true → true ≡ is_cancelled g ss line
cancelled_by g ss line k es d ends e x b in_order h known all read test passes =
    let end : e ≡ end_in ss (get_or es k d).from = end_read ss (length g.lines) (get_or es k d).from ends e x all known read in
    sym (ap (list_any (λ (y : Edge). cancels y.kind (end_in ss y.from))) (sym in_order) ∙ list_any_at (λ (y : Edge). cancels y.kind (end_in ss y.from)) es k d h (ap (cancels (get_or es k d).kind) (sym end) ∙ (sym test ∙ passes)))

pub not_cancelled_by : (g : GraphValue) (ss : List Step) (k : ℕ) (es : List Edge) (d : Edge) (ends : List End) (e x : End) (b : Bool) → k < length es → (get_or es k d).from < length g.lines →
    ends ≡ map (end_in ss) (numbers_below (length g.lines)) → e ≡ get_or ends (get_or es k d).from x → b ≡ cancels (get_or es k d).kind e → b ≡ false →
    list_any (λ (y : Edge). cancels y.kind (end_in ss y.from)) (take k es) ≡ false → list_any (λ (y : Edge). cancels y.kind (end_in ss y.from)) (take (k + 1) es) ≡ false
not_cancelled_by g ss k es d ends e x b h known all read test fails before =
    let end : e ≡ end_in ss (get_or es k d).from = end_read ss (length g.lines) (get_or es k d).from ends e x all known read in
    list_any_more (λ (y : Edge). cancels y.kind (end_in ss y.from)) es k d h ∙ or_from _ _ before (ap (cancels (get_or es k d).kind) (sym end) ∙ (sym test ∙ fails))

-- the lowest line that is ready is a line, has not ended, and its edges may pass
pub lowest_known : (g : GraphValue) (ss : List Step) (state : State) (k : ℕ) → IsState g ss state → contains nat_cmp state.waiting.ready k ≡ true → ((i : ℕ) → contains nat_cmp state.waiting.ready i ≡ true → k ≤ i) → k < length state.ends.items
lowest_known g ss state k r ready least =
    let below : k < length g.lines = (lowest_is g ss state.waiting.left.items (contains nat_cmp state.waiting.ready) k r.waiting ready least).1 in
    subst (λ n. k < n) (sym (ap length r.ends ∙ length-map-range_with_len (end_in ss) 0 (length g.lines))) below

pub lowest_free : (g : GraphValue) (ss : List Step) (state : State) (k : ℕ) (left : List ℕ) (ready : ℕ → Bool) → IsState g ss state → contains nat_cmp state.waiting.ready k ≡ true → left ≡ state.waiting.left.items → ((i : ℕ) → ready i ≡ (contains nat_cmp state.waiting.ready i && not (k == i))) → IsFree g (has_ended ss) k left ready
lowest_free g ss state k left ready r is_ready same taken = subst (λ xs. IsFree g (has_ended ss) k xs ready) (sym same) (freed g (has_ended ss) state.waiting.left.items (contains nat_cmp state.waiting.ready) ready k r.waiting is_ready taken)

pub end_shown : (g : GraphValue) (i : ℕ) (ends : List End) (d : End) → ends ≡ map (eval_end g) (numbers_below (length g.lines)) → i < length g.lines → get_or ends i d ≡ eval_end g i
end_shown g i ends d h b = ap (λ xs. get_or xs i d) h ∙ get_or-map-range_with_len (eval_end g) 0 (length g.lines) i i d b (omega arith)
