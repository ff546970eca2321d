-- Texts that are written graph by graph, and line by line.
use Rattle.std.proofs.Common.{◌≡◌, ℕ, ◌+◌, ◌<◌, ◌≤◌, List, [], ◌∷◌, ◌++◌, length, map, drop, get_or, refl, sym, ◌∙◌, ap, subst, arith}
use Rattle.std.specs.Prelude.{Some, slice_get, flat_map, codes}
use Rattle.std.specs.Option.{option_map_or}
use Rattle.std.proofs.lemmas.List.FromFn.{length-range_with_len, get_or-range_with_len}
use Rattle.basics.specs.Lists.{numbers_below}
use Rattle.graph_terms.specs.declared.verb.Line.{Line}
use Rattle.graph_terms.specs.Spelling.{spelled}
use Rattle.graph_meaning.specs.Evaluation.{answer_of, eval_end}
use Rattle.basics.proofs.ListParts.{flat_next, flat_over, flat_item}
use Rattle.session_run.specs.declared.running.RanGraph.{RanGraph}
use Rattle.session_run.specs.Linked.{LinkedGraph}
use Rattle.session_run.specs.Running.{linked_of}
use Rattle.run_report.specs.Report.{answer_word}
use Rattle.session_run.specs.Report.{graph_report, event_text, event_texts, session_report}

-- the texts of items that are made of others
flat_of : {X Y : Type 0} (f : Y → List ℕ) (g : X → Y) (xs : List X) → flat_map (λ x. f (g x)) xs ≡ flat_map f (map g xs)
flat_of f g [] = refl
flat_of f g (x ∷ xs) = ap (λ t. f (g x) ++ t) (flat_of f g xs)

-- the report of the graphs that ran
pub report_is : (xs ys : List RanGraph) → ys ≡ xs → flat_map (λ (x : RanGraph). graph_report (linked_of x)) ys ++ (flat_map (λ (x : RanGraph). event_texts (linked_of x)) xs ++ codes "done\n") ≡ session_report (map linked_of xs)
report_is xs ys e = (λ i. (ap (flat_map (λ (x : RanGraph). graph_report (linked_of x))) e ∙ flat_of graph_report linked_of xs) i ++ (flat_of event_texts linked_of xs i ++ codes "done\n"))

-- what is left of the graphs at a place
pub graph_next : (f : RanGraph → List ℕ) (xs ys : List RanGraph) (i : ℕ) (x : RanGraph) → ys ≡ xs → i < length ys → x ≡ get_or ys i x → flat_map f (drop i xs) ≡ f x ++ flat_map f (drop (i + 1) xs)
graph_next f xs ys i x e h g = flat_item f xs i x (subst (λ zs. i < length zs) e h) (subst (λ zs. x ≡ get_or zs i x) e g)

-- the lines of events from a place on
pub event_next : (x : LinkedGraph) (i : ℕ) → i < length x.graph.lines →
    flat_map (event_text x) (drop i (numbers_below (length x.graph.lines))) ≡ event_text x i ++ flat_map (event_text x) (drop (i + 1) (numbers_below (length x.graph.lines)))
event_next x i h =
    let n : length (numbers_below (length x.graph.lines)) ≡ length x.graph.lines = length-range_with_len 0 (length x.graph.lines) in
    flat_next (event_text x) (numbers_below (length x.graph.lines)) i 0 (omega (arith, n, h))
    ∙ ap (λ k. event_text x k ++ flat_map (event_text x) (drop (i + 1) (numbers_below (length x.graph.lines)))) (let e : get_or (numbers_below (length x.graph.lines)) i 0 ≡ i = omega (arith, get_or-range_with_len 0 (length x.graph.lines) i 0 h) in e)

pub events_over : (x : LinkedGraph) (i : ℕ) → length x.graph.lines ≤ i → flat_map (event_text x) (drop i (numbers_below (length x.graph.lines))) ≡ []
events_over x i h = (let n : length (numbers_below (length x.graph.lines)) ≡ length x.graph.lines = length-range_with_len 0 (length x.graph.lines) in flat_over (event_text x) (numbers_below (length x.graph.lines)) i (omega (arith, n, h)))

-- the line of an event, by its words
pub event_is : (x : LinkedGraph) (i : ℕ) (l : Line) (name op word : List ℕ) → name ≡ x.name → op ≡ l.name → slice_get x.graph.lines i ≡ Some l → word ≡ answer_word (answer_of (eval_end x.graph i)) →
    spelled (codes "event" ∷ name ∷ op ∷ word ∷ []) ≡ event_text x i
event_is x i l name op word n o e w =
    (λ k. spelled (codes "event" ∷ n k ∷ (o ∙ sym (ap (λ m. option_map_or (λ (y : Line). y.name) m []) e)) k ∷ w k ∷ []))
