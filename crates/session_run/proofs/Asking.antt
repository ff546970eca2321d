-- What is asked for the operation that a link names.
use Rattle.std.proofs.Common.{◌≡◌, ℕ, zero, suc, ◌<◌, Bool, true, false, cond, List, [], ◌∷◌, length, map, refl, sym, ◌∙◌, ap, arith, get_or}
use Rattle.std.specs.Prelude.{Option, Some, None, find, slice_get, slice_index_or, option_map, is_some, bytes_eq, Contains}
use Rattle.std.specs.Option.{option_map_or}
use Rattle.std.specs.List.{list_any}
use Rattle.std.proofs.lemmas.Bool.{or_parts}
use Rattle.std.proofs.lemmas.Option.{none-some, same_Some, slice_get_within, slice_get-map, slice_get-get_or, get_or_from_slice_get}
use Rattle.std.proofs.lemmas.List.FromFn.{length-range_with_len, get_or-map-range_with_len}
use Rattle.std.proofs.lemmas.List.Quantifiers.{position-Some}
use Rattle.basics.specs.Lists.{numbers_below}
use Rattle.basics.proofs.ListFacts.{got_contains}
use Rattle.std.proofs.lemmas.List.Elements.{Contains-append_left, Contains-append_right}
use Rattle.event_table.specs.declared.handle.Answer.TheVariants.{Pending}
use Rattle.graph_terms.specs.declared.verb.Verb.TheVariants.{User}
use Rattle.graph_terms.specs.declared.verb.Line.{Line as GraphLine}
use Rattle.graph_terms.specs.declared.outcome.End.{End}
use Rattle.graph_terms.specs.declared.outcome.End.TheVariants.{Waiting}
use Rattle.graph_terms.specs.Graph.{GraphValue}
use Rattle.graph_meaning.specs.Evaluation.{eval_end}
use Rattle.basics.proofs.TestedLists.{position_any}
use Rattle.realm_session.specs.declared.line.Line.{Line}
use Rattle.realm_session.specs.Recorded.{graph_at, lines_in, end_in, handle_in, answer_for}
use Rattle.realm_session.specs.Sessions.{recorded_by}
use Rattle.session_text.specs.declared.entry.Link.{Link}
use Rattle.session_run.specs.declared.running.RanGraph.{RanGraph}
use Rattle.session_run.specs.declared.running.Running.{Running}
use Rattle.session_run.specs.Linked.{LinkedGraph, answer_at, link_answer}
use Rattle.session_run.specs.Running.{ends_of, graph_place, op_place, linked_of, ran_by, IsRunning}

-- finding by a place
map_length : {X Y : Type 0} (f : X → Y) (xs : List X) → length (map f xs) ≡ length xs
map_length f [] = refl
map_length f (x ∷ xs) = ap suc (map_length f xs)

find_none : {X : Type 0} (p : X → Bool) (xs : List X) → list_any p xs ≡ false → find p xs ≡ None
find_none p [] h = refl
find_none p (x ∷ xs) h = let q = or_parts (p x) (list_any p xs) h in ap (λ b. cond b (Some x) (find p xs)) q.0 ∙ find_none p xs q.1

find_map : {X Y : Type 0} (f : X → Y) (p : Y → Bool) (xs : List X) → find p (map f xs) ≡ option_map f (find (λ x. p (f x)) xs)
find_map f p [] = refl
find_map {X} {Y} f p (x ∷ xs) = by_test (find_map f p xs) (p (f x))
  where
    by_test : find p (map f xs) ≡ option_map f (find (λ y. p (f y)) xs) → (b : Bool) → cond b (Some (f x)) (find p (map f xs)) ≡ option_map f (cond b (Some x) (find (λ y. p (f y)) xs))
    by_test e true = refl
    by_test e false = e

find_at : {X : Type 0} (p : X → Bool) (xs : List X) (i : ℕ) (d : X) → i < length xs → p (get_or xs i d) ≡ true → ((k : ℕ) → k < i → p (get_or xs k d) ≡ false) → find p xs ≡ Some (get_or xs i d)
find_at p [] i d h t b = absurd (omega arith)
find_at p (x ∷ xs) zero d h t b = ap (λ z. cond z (Some x) (find p xs)) t
find_at p (x ∷ xs) (suc i) d h t b = ap (λ z. cond z (Some x) (find p xs)) (b 0 (omega arith)) ∙ find_at p xs i d (omega arith) t (λ k n. b (suc k) (omega arith))

abbrev named : List ℕ → RanGraph → Bool
named w x = bytes_eq x.name w

-- no graph has the name that a link names
pub no_graph : (r : Running) (l : Link) → graph_place r.graphs.items l ≡ None → link_answer (ran_by r) l ≡ Pending
no_graph r l h =
    let none : find (named l.graph) r.graphs.items ≡ None = find_none (named l.graph) r.graphs.items (position_any (named l.graph) r.graphs.items ∙ ap (λ (o : Option ℕ). is_some o) h) in
    ap (λ (o : Option LinkedGraph). option_map_or (λ (x : LinkedGraph). answer_at x.graph l.op) o Pending)
    (find_map linked_of (λ (x : LinkedGraph). bytes_eq x.name l.graph) r.graphs.items ∙ ap (option_map linked_of) none)

-- the graph at this place has it
pub graph_there : (r : Running) (l : Link) (k : ℕ) (x : RanGraph) → graph_place r.graphs.items l ≡ Some k → x ≡ slice_index_or r.graphs.items k x → link_answer (ran_by r) l ≡ answer_at x.checked.graph l.op
graph_there r l k x h e =
    let p = position-Some (named l.graph) r.graphs.items k x h in
    let some : find (named l.graph) r.graphs.items ≡ Some x = find_at (named l.graph) r.graphs.items k x p.0 p.1 p.2 ∙ ap (λ y. Some y) (sym e) in
    ap (λ (o : Option LinkedGraph). option_map_or (λ (y : LinkedGraph). answer_at y.graph l.op) o Pending)
    (find_map linked_of (λ (y : LinkedGraph). bytes_eq y.name l.graph) r.graphs.items ∙ ap (option_map linked_of) some)

-- lists that are the same, item by item
same_at : {X Y Z : Type 0} (f : X → Z) (g : Y → Z) (xs : List X) (ys : List Y) (k : ℕ) (y : Y) → map f xs ≡ map g ys → slice_get ys k ≡ Some y → (x : X) × (slice_get xs k ≡ Some x) × (f x ≡ g y)
same_at f g [] [] k y e h = absurd (none-some y h)
same_at f g [] (z ∷ ys) k y e h = absurd (λ_none e)
  where
    λ_none : [] ≡ g z ∷ map g ys → ⊥
    λ_none q = cc
same_at f g (x ∷ xs) [] k y e h = absurd (none-some y h)
same_at f g (x ∷ xs) (z ∷ ys) zero y e h = (x, refl, (let q : f x ≡ g z = cc in q ∙ ap g (same_Some z y h)))
same_at f g (x ∷ xs) (z ∷ ys) (suc k) y e h = same_at f g xs ys k y (let q : map f xs ≡ map g ys = cc in q) h

-- how a line of a graph ends
pub end_at : (g : GraphValue) (i : ℕ) → i < length g.lines → slice_get (ends_of g) i ≡ Some (eval_end g i)
end_at g i h =
    let n : length (ends_of g) ≡ length g.lines = map_length (eval_end g) (numbers_below (length g.lines)) ∙ length-range_with_len 0 (length g.lines) in
    slice_get-get_or (ends_of g) i Waiting (omega arith) ∙ ap (λ x. Some x) (get_or-map-range_with_len (eval_end g) 0 (length g.lines) i i Waiting h (omega arith))

-- a line of a graph is among the lines of all
pub line_has : (gs : List (List Line)) (g l : ℕ) (x : Line) → slice_get (slice_index_or gs g []) l ≡ Some x → Contains (lines_in gs) x
line_has [] g l x e = absurd (none-some x e)
line_has (y ∷ gs) zero l x e = Contains-append_left y (lines_in gs) x (got_contains y l x e)
line_has (y ∷ gs) (suc g) l x e = Contains-append_right y (lines_in gs) x (line_has gs g l x e)

-- the line of a graph that was recorded
pub record RecordedLine (r : Running) (k i : ℕ) (x : RanGraph) : Type 0 where
  pub line : Line
  pub is_line : slice_get (graph_at (recorded_by r.recorder) k) i ≡ Some line
  pub ended : line.end ≡ eval_end x.checked.graph i
  pub near : i < length (graph_at (recorded_by r.recorder) k)
  pub among : Contains (lines_in (recorded_by r.recorder).graphs) line

pub recorded_line : (r : Running) (k i : ℕ) (x : RanGraph) → IsRunning r → slice_get r.graphs.items k ≡ Some x → i < length x.checked.graph.lines → RecordedLine r k i x
recorded_line r k i x is at near =
    let gs : List (List Line) = (recorded_by r.recorder).graphs in
    let g = same_at (map end_in) (λ (y : RanGraph). ends_of y.checked.graph) gs r.graphs.items k x is.ends at in
    let here : graph_at (recorded_by r.recorder) k ≡ g.0 = get_or_from_slice_get gs k g.0 [] g.1 in
    let l = same_at end_in (λ (e : End). e) g.0 (ends_of x.checked.graph) i (eval_end x.checked.graph i) (g.2 ∙ sym (map_same (ends_of x.checked.graph))) (end_at x.checked.graph i near) in
    let got : slice_get (graph_at (recorded_by r.recorder) k) i ≡ Some l.0 = ap (λ ls. slice_get ls i) here ∙ l.1 in
    record { line = l.0; is_line = got; ended = l.2; near = slice_get_within (graph_at (recorded_by r.recorder) k) i l.0 got; among = line_has gs k i l.0 got }
  where
    map_same : (es : List End) → map (λ (e : End). e) es ≡ es
    map_same [] = refl
    map_same (e ∷ es) = ap (λ l. e ∷ l) (map_same es)

-- what is answered for a line of it
pub answer_there : (g : GraphValue) (l : Link) (i : ℕ) → op_place g l ≡ Some i → answer_at g l.op ≡ answer_for (eval_end g i)
answer_there g l i h = ap (λ (o : Option ℕ). option_map_or (λ k. answer_for (eval_end g k)) o Pending) h

pub no_answer_there : (g : GraphValue) (l : Link) → op_place g l ≡ None → answer_at g l.op ≡ Pending
no_answer_there g l h = ap (λ (o : Option ℕ). option_map_or (λ k. answer_for (eval_end g k)) o Pending) h

pub place_within : (g : GraphValue) (l : Link) (i : ℕ) → op_place g l ≡ Some i → i < length g.lines
place_within g l i h = (position-Some (λ (x : GraphLine). bytes_eq x.name l.op) g.lines i (record { name = l.op; verb = User; on = [] }) h).0

pub graph_within : (r : Running) (l : Link) (k : ℕ) (x : RanGraph) → graph_place r.graphs.items l ≡ Some k → x ≡ slice_index_or r.graphs.items k x → slice_get r.graphs.items k ≡ Some x
graph_within r l k x h e = slice_get-get_or r.graphs.items k x (position-Some (named l.graph) r.graphs.items k x h).0 ∙ ap (λ y. Some y) (sym e)

-- the handle of a line is that of its event
pub handle_there : (r : Running) (k i : ℕ) (x : RanGraph) → IsRunning r → slice_get r.graphs.items k ≡ Some x → (d : RecordedLine r k i x) → slice_get x.handles i ≡ Some d.line.handle
handle_there r k i x is at d =
    let gs : List (List Line) = (recorded_by r.recorder).graphs in
    let g = same_at (map handle_in) (λ (y : RanGraph). y.handles) gs r.graphs.items k x is.handles at in
    let here : graph_at (recorded_by r.recorder) k ≡ g.0 = get_or_from_slice_get gs k g.0 [] g.1 in
    ap (λ hs. slice_get hs i) (sym g.2) ∙ (slice_get-map handle_in g.0 i ∙ ap (option_map handle_in) (ap (λ ls. slice_get ls i) (sym here) ∙ d.is_line))
