-- One graph more that was run and recorded.
use Rattle.std.proofs.Common.{◌≡◌, ℕ, zero, suc, ◌+◌, ◌<◌, List, [], ◌∷◌, ◌++◌, length, map, take, refl, sym, ◌∙◌, ap, subst, arith, length-append, inl, inr, ◌⊎◌, ⊎_elim}
use Rattle.std.specs.Prelude.{Some, slice_get, slice_index_or, Contains}
use Rattle.std.specs.Global.{Global}
use Rattle.std.specs.declared.vec.Vec.{Vec}
use Rattle.std.proofs.lemmas.List.{map-append, take_more}
use Rattle.std.proofs.lemmas.Option.{slice_get_within, get_or_from_slice_get}
use Rattle.std.proofs.lemmas.List.FromFn.{length-range_with_len}
use Rattle.std.proofs.lemmas.List.Elements.{Contains-append_cases}
use Rattle.basics.specs.Lists.{numbers_below}
use Rattle.basics.specs.Sums.{total}
use Rattle.basics.proofs.Sums.{total-append}
use Rattle.event_table.specs.declared.handle.Handle.{Handle}
use Rattle.graph_terms.specs.declared.outcome.End.{End}
use Rattle.graph_terms.specs.Graph.{GraphValue}
use Rattle.graph_meaning.specs.Evaluation.{eval_end}
use Rattle.realm_session.specs.declared.line.Line.{Line}
use Rattle.realm_session.specs.Recorded.{waits, waiting_in, lines_in, end_in, handle_in, need_with}
use Rattle.session_run.specs.declared.running.RanGraph.{RanGraph}
use Rattle.graph_terms.specs.declared.outcome.Outcome.{Outcome}
use Rattle.realm_session.specs.declared.recorder.Recorder.{Recorder}
use Rattle.realm_session.specs.Sessions.{recorded_by, IsRecorderOf}
use Rattle.session_text.specs.declared.limits.TheConstants.{MAX_GRAPHS}
use Rattle.session_run.specs.declared.running.Running.{Running}
use Rattle.session_run.specs.Linked.{LinkedGraph}
use Rattle.session_run.specs.Running.{ends_of, line_total, slots_needed, linked_of, ran_by, Entered, IsOutcome, IsRunning}

map_length : {X Y : Type 0} (f : X → Y) (xs : List X) → length (map f xs) ≡ length xs
map_length f [] = refl
map_length f (x ∷ xs) = ap suc (map_length f xs)

pub take_all : {X : Type 0} (xs : List X) (n : ℕ) → n ≡ length xs → take n xs ≡ xs
take_all [] zero e = refl
take_all [] (suc n) e = absurd (omega arith)
take_all (x ∷ xs) zero e = absurd (omega arith)
take_all (x ∷ xs) (suc n) e = ap (λ l. x ∷ l) (take_all xs n (omega arith))

-- one handle more
pub handles_more : (xs : List Line) (i : ℕ) (x : Line) (hs : List Handle) → slice_get xs i ≡ Some x → hs ≡ map handle_in (take i xs) → hs ++ x.handle ∷ [] ≡ map handle_in (take (i + 1) xs)
handles_more xs i x hs h e =
    let more : take (i + 1) xs ≡ take i xs ++ x ∷ [] = take_more xs i x (slice_get_within xs i x h) ∙ ap (λ y. take i xs ++ y ∷ []) (get_or_from_slice_get xs i x x h) in
    ap (λ ls. ls ++ x.handle ∷ []) e ∙ (sym (map-append handle_in (take i xs) (x ∷ [])) ∙ ap (map handle_in) (sym more))

-- counts of the lines that were recorded
waiting_ends : (xs : List Line) → waiting_in xs ≡ total waits (map end_in xs)
waiting_ends [] = refl
waiting_ends (x ∷ xs) = ap (λ n. waits x.end + n) (waiting_ends xs)

abbrev ran_ends : RanGraph → List End
ran_ends x = ends_of x.checked.graph

pub ends_count : (g : GraphValue) → length (ends_of g) ≡ length g.lines
ends_count g = map_length (eval_end g) (numbers_below (length g.lines)) ∙ length-range_with_len 0 (length g.lines)

cons_head : {X : Type 0} (x y : X) (xs ys : List X) → x ∷ xs ≡ y ∷ ys → x ≡ y
cons_head x y xs ys e = cc

cons_tail : {X : Type 0} (x y : X) (xs ys : List X) → x ∷ xs ≡ y ∷ ys → xs ≡ ys
cons_tail x y xs ys e = cc

nil_cons : {X : Type 0} (x : X) (xs : List X) → [] ≡ x ∷ xs → ⊥
nil_cons x xs e = cc

cons_nil : {X : Type 0} (x : X) (xs : List X) → x ∷ xs ≡ [] → ⊥
cons_nil x xs e = cc

pub graphs_count : (gs : List (List Line)) (xs : List RanGraph) → map (map end_in) gs ≡ map ran_ends xs → length gs ≡ length xs
graphs_count gs xs e = sym (map_length (map end_in) gs) ∙ (ap length e ∙ map_length ran_ends xs)

pub lines_count : (gs : List (List Line)) (xs : List RanGraph) → map (map end_in) gs ≡ map ran_ends xs → length (lines_in gs) ≡ line_total (map linked_of xs)
lines_count [] [] e = refl
lines_count [] (x ∷ xs) e = absurd (nil_cons (ran_ends x) (map ran_ends xs) e)
lines_count (g ∷ gs) [] e = absurd (cons_nil (map end_in g) (map (map end_in) gs) e)
lines_count (g ∷ gs) (x ∷ xs) e =
    let h : length g ≡ length x.checked.graph.lines = sym (map_length end_in g) ∙ (ap length (cons_head (map end_in g) (ran_ends x) (map (map end_in) gs) (map ran_ends xs) e) ∙ ends_count x.checked.graph) in
    let t = lines_count gs xs (cons_tail (map end_in g) (ran_ends x) (map (map end_in) gs) (map ran_ends xs) e) in
    omega (arith, length-append g (lines_in gs), h, t)

waiting_count : (gs : List (List Line)) (xs : List RanGraph) → map (map end_in) gs ≡ map ran_ends xs → waiting_in (lines_in gs) ≡ total (λ (y : LinkedGraph). total waits (ends_of y.graph)) (map linked_of xs)
waiting_count [] [] e = refl
waiting_count [] (x ∷ xs) e = absurd (nil_cons (ran_ends x) (map ran_ends xs) e)
waiting_count (g ∷ gs) [] e = absurd (cons_nil (map end_in g) (map (map end_in) gs) e)
waiting_count (g ∷ gs) (x ∷ xs) e =
    let h : waiting_in g ≡ total waits (ran_ends x) = waiting_ends g ∙ ap (total waits) (cons_head (map end_in g) (ran_ends x) (map (map end_in) gs) (map ran_ends xs) e) in
    let t = waiting_count gs xs (cons_tail (map end_in g) (ran_ends x) (map (map end_in) gs) (map ran_ends xs) e) in
    omega (arith, total-append (λ (x : Line). waits x.end) g (lines_in gs), h, t)

pub need_count : (gs : List (List Line)) (xs : List RanGraph) (l : LinkedGraph) → map (map end_in) gs ≡ map ran_ends xs → need_with gs (ends_of l.graph) ≡ slots_needed (map linked_of xs ++ l ∷ [])
need_count gs xs l e = omega (arith, waiting_count gs xs e, total-append (λ (y : LinkedGraph). total waits (ends_of y.graph)) (map linked_of xs) (l ∷ []))

-- the last of the graphs
pub at_end : {X : Type 0} (xs : List X) (x d : X) → slice_index_or (xs ++ x ∷ []) (length xs) d ≡ x
at_end [] x d = refl
at_end (y ∷ xs) x d = at_end xs x d

pub push_cases : {X : Type 0} (xs : List X) (x y : X) → Contains (xs ++ x ∷ []) y → Contains xs y ⊎ (x ≡ y)
push_cases xs x y h = ⊎_elim (λ a. inl a) (λ b. inr (only_one b)) (Contains-append_cases xs (x ∷ []) y h)
  where
    only_one : Contains (x ∷ []) y → x ≡ y
    only_one (zero, k, e) = e
    only_one (suc n, k, e) = absurd (omega (arith, k))

-- the slots that are needed with one graph more
pub need_for : (r : Running) (name : List ℕ) (g : GraphValue) (o : Outcome) → IsRunning r → IsOutcome g o → need_with (recorded_by r.recorder).graphs o.ends ≡ slots_needed (ran_by r ++ record { name = name; graph = g } ∷ [])
need_for r name g o s e = ap (λ (x : Outcome). need_with (recorded_by r.recorder).graphs x.ends) e ∙ need_count (recorded_by r.recorder).graphs r.graphs.items (record { name = name; graph = g }) s.ends

-- and what holds with it
pub one_more : (r : Running) (rec : Recorder) (graphs : Vec RanGraph Global) (x : RanGraph) → IsRunning r → IsOutcome x.checked.graph x.outcome → length (ran_by r) < MAX_GRAPHS → IsRecorderOf r.session rec → Entered (recorded_by r.recorder) (recorded_by rec) x.outcome.ends x.handles
    → graphs.items ≡ r.graphs.items ++ x ∷ [] → IsRunning (record { session = r.session; recorder = rec; graphs = graphs })
one_more r rec graphs x s o few is e more = record {
  recorder = is;
  few = omega (arith, ap length more, length-append r.graphs.items (x ∷ []), map_length linked_of r.graphs.items, few);
  ends = ap (map (map end_in)) e.added ∙ (map-append (map end_in) (recorded_by r.recorder).graphs (e.lines ∷ [])
      ∙ (ap (λ l. map (map end_in) (recorded_by r.recorder).graphs ++ l ∷ []) (e.ended ∙ ap (λ (y : Outcome). y.ends) o)
      ∙ (ap (λ ls. ls ++ ran_ends x ∷ []) s.ends ∙ (sym (map-append ran_ends r.graphs.items (x ∷ [])) ∙ ap (map ran_ends) (sym more)))));
  handles = ap (map (map handle_in)) e.added ∙ (map-append (map handle_in) (recorded_by r.recorder).graphs (e.lines ∷ [])
      ∙ (ap (λ l. map (map handle_in) (recorded_by r.recorder).graphs ++ l ∷ []) (sym e.handles)
      ∙ (ap (λ ls. ls ++ x.handles ∷ []) s.handles ∙ (sym (map-append (λ (y : RanGraph). y.handles) r.graphs.items (x ∷ [])) ∙ ap (map (λ (y : RanGraph). y.handles)) (sym more)))));
  outcomes = λ y h. ⊎_elim (λ a. s.outcomes y a) (λ b. subst (λ (z : RanGraph). IsOutcome z.checked.graph z.outcome) b o) (push_cases r.graphs.items x y (subst (λ ys. Contains ys y) more h));
}
