-- Which edges a graph that fits has: none enters a user event that no line ends, and each arrival gives one to its phase.
use Rattle.std.proofs.Common.{◌≡◌, ℕ, zero, suc, ◌+◌, Bool, true, false, ◌&&◌, ◌||◌, inl, inr, List, [], ◌∷◌, ◌++◌, length, refl, sym, ◌∙◌, ap, subst, append_assoc, length-append, arith, append-nil}
use Rattle.std.specs.Prelude.{Contains, not, Some, None, nat_lt, slice_get, option_map}
use Rattle.std.specs.List.{list_any}
use Rattle.std.proofs.lemmas.Bool.{true≢false, and_from, or_parts, not-false}
use Rattle.std.proofs.lemmas.Option.{none-some, same_Some}
use Rattle.std.proofs.lemmas.List.Elements.{Contains-append_cases, Contains-append_left, Contains-append_right}
use Rattle.graph_terms.specs.declared.verb.Edge.{Edge}
use Rattle.graph_terms.specs.declared.verb.EdgeKind.TheVariants.{Passes}
use Rattle.graph_terms.specs.declared.verb.Line.{Line}
use Rattle.graph_terms.specs.declared.why.Why.TheVariants as why
use Rattle.graph_terms.specs.declared.verb.Verb.TheVariants.{User, Phase, Arrive}
use Rattle.graph_terms.specs.Graph.{GraphValue, line_passes, is_user, is_phase, ends_user}
use Rattle.graph_terms.specs.Edges.{edge, on_edges, verb_edges, line_edges, edges_after, edges}
use Rattle.basics.proofs.ListFacts.{got_behind, got_in, contains_none, contains_here, passes_some}
use Rattle.graph_terms.specs.Fits.{line_fault, line_tests, takes_no_on, on_unlike, format_lacks, verb_unlike, LinesFit}
use Rattle.graph_terms.proofs.ArriveLaws.{arrive_unlike}
use Rattle.graph_terms.proofs.GraphFacts.{none_first}
use Rattle.graph_terms.proofs.VerbFacts.{passes_verb, verb_passes, verb_line, user_is, phase_is, on_edge_to, on_edge_has, verb_edge_to}
use Rattle.graph_terms.specs.Laws.{EdgesOfEachLine, EdgeOfArrival, FittingKind, EndedUserEvent, EdgesOfOneMoreLine}

-- the edges of each line are among those of the graph
pub line_edges_in : EdgesOfEachLine
line_edges_in before [] k l h = absurd (none-some l h)
line_edges_in before (m ∷ ls) zero l h = (
  before,
  (let z : length before ≡ length before + 0 = omega arith in z),
  λ e c. Contains-append_left (line_edges before m) (edges_after (before ++ m ∷ []) ls) e (subst (λ x. Contains (line_edges before x) e) (sym (same_Some m l h)) c),
)
line_edges_in before (m ∷ ls) (suc k) l h =
    let r = line_edges_in (before ++ m ∷ []) ls k l h in
    let more : length (before ++ m ∷ []) ≡ length before + 1 = length-append before (m ∷ []) in
    let len : length r.0 ≡ length (before ++ m ∷ []) + k = r.1 in
    (r.0, (let z : length r.0 ≡ length before + suc k = omega arith in z), λ e c. Contains-append_right (line_edges before m) (edges_after (before ++ m ∷ []) ls) e (r.2 e c))

-- an arrival gives an edge to its phase
arrival_listed : (b : List Line) (l : Line) (p v w : ℕ) → l.verb ≡ Arrive p v w → Contains (line_edges b l) (edge (length b) p Passes)
arrival_listed b l p v w e = Contains-append_right (on_edges l.on (length b)) (verb_edges b (length b) l.verb) (edge (length b) p Passes)
    (subst (λ x. Contains (verb_edges b (length b) x) (edge (length b) p Passes)) (sym e) (contains_here (edge (length b) p Passes) []))

pub arrival_edge : EdgeOfArrival
arrival_edge g i p v w h =
    let l = verb_line g i (Arrive p v w) h in
    let r = line_edges_in [] g.lines i l.0 l.1 in
    let len : length r.0 ≡ i = (let z : length r.0 ≡ 0 + i = r.1 in omega arith) in
    subst (λ n. Contains (edges g) (edge n p Passes)) len (r.2 (edge (length r.0) p Passes) (arrival_listed r.0 l.0 p v w l.2))

-- a line that fits: its kind is right
pub kind_fits : FittingKind
kind_fits g l h =
    let others : Bool = on_unlike g.format l.verb l.on || format_lacks g.format l.verb in
    let first = or_parts (verb_unlike g l.verb) others (none_first (line_tests g l) h (verb_unlike g l.verb || others, why.Kind) (2, omega arith, refl)) in
    let rest = or_parts (on_unlike g.format l.verb l.on) (format_lacks g.format l.verb) first.1 in
    (first.0, rest.0, rest.1)

-- an edge that enters a user event is of a line that ends it
module _ (g : GraphValue) where
  user_here : (b : List Line) (l : Line) (ls : List Line) → g.lines ≡ b ++ l ∷ ls → line_passes is_user g (length b) ≡ true → is_user l.verb ≡ true
  user_here b l ls parts h = sym (verb_passes is_user g (length b) l.verb (ap (λ (xs : List Line). option_map (λ (x : Line). x.verb) (slice_get xs (length b))) parts ∙ ap (option_map (λ (x : Line). x.verb)) (got_behind b l ls))) ∙ h

  phase_is_no_user : (b ls : List Line) → g.lines ≡ b ++ ls → (p : ℕ) → line_passes is_phase (record { format = g.format; decls = g.decls; lines = b }) p ≡ true → line_passes is_user g p ≡ true → ⊥
  phase_is_no_user b ls parts p phase user =
      let g' : GraphValue = record { format = g.format; decls = g.decls; lines = b } in
      let v = passes_verb is_phase g' p phase in
      let l = verb_line g' p v.0 v.1 in
      let there : slice_get g.lines p ≡ Some l.0 = ap (λ (xs : List Line). slice_get xs p) parts ∙ got_in b ls p l.0 l.1 in
      let u : is_user v.0 ≡ true = sym (verb_passes is_user g p v.0 (ap (option_map (λ (x : Line). x.verb)) there ∙ ap Some l.2)) ∙ user in
      let k = phase_is v.0 v.2 in
      let both : Phase k.0 ≡ User = sym k.1 ∙ user_is v.0 u in
      cc

  ended_listed : (b : List Line) (l : Line) (ls : List Line) → g.lines ≡ b ++ l ∷ ls → (u : ℕ) → ends_user u l.verb ≡ true → list_any (λ (x : Line). ends_user u x.verb) g.lines ≡ true
  ended_listed b l ls parts u h = passes_some (λ (x : Line). ends_user u x.verb) g.lines l (subst (λ (xs : List Line). Contains xs l) (sym parts) (Contains-append_right b (l ∷ ls) l (contains_here l ls))) h

  own_edge_enters : (b : List Line) (l : Line) (ls : List Line) → g.lines ≡ b ++ l ∷ ls → line_fault (record { format = g.format; decls = g.decls; lines = b }) l ≡ None →
      (e : Edge) → Contains (line_edges b l) e → line_passes is_user g e.to ≡ true → list_any (λ (x : Line). ends_user e.to x.verb) g.lines ≡ true
  own_edge_enters b l ls parts fits e c user =
      let kind = kind_fits (record { format = g.format; decls = g.decls; lines = b }) l fits in
      elim (Contains-append_cases (on_edges l.on (length b)) (verb_edges b (length b) l.verb) e c) [
        | inl on ↦ (
            let is : l.verb ≡ User = user_is l.verb (user_here b l ls parts (subst (λ n. line_passes is_user g n ≡ true) (on_edge_to l.on (length b) e on) user)) in
            let taken = or_parts (takes_no_on l.verb && nat_lt 0 (length l.on)) _ kind.1 in
            absurd (true≢false (sym (and_from (takes_no_on l.verb) (nat_lt 0 (length l.on)) (ap takes_no_on is) (on_edge_has l.on (length b) e on)) ∙ taken.0)))
        | inr own ↦ elim (verb_edge_to b l.verb e own) [
          | inl self ↦ absurd (true≢false (sym (user_here b l ls parts (subst (λ n. line_passes is_user g n ≡ true) self.0 user)) ∙ self.1))
          | inr (inl ends) ↦ ended_listed b l ls parts e.to ends
          | inr (inr arrives) ↦ (
              let unlike : not (line_passes is_phase (record { format = g.format; decls = g.decls; lines = b }) arrives.0) ≡ false = sym (arrive_unlike (record { format = g.format; decls = g.decls; lines = b }) arrives.0 arrives.1 arrives.2) ∙ (ap (verb_unlike (record { format = g.format; decls = g.decls; lines = b })) (sym arrives.3) ∙ kind.0) in
              absurd (phase_is_no_user b (l ∷ ls) parts arrives.0 (not-false _ unlike) (subst (λ n. line_passes is_user g n ≡ true) arrives.4 user)))
        ]
      ]

  enters_by : (b ls : List Line) → g.lines ≡ b ++ ls → LinesFit g.format g.decls b ls → (e : Edge) → Contains (edges_after b ls) e → line_passes is_user g e.to ≡ true → list_any (λ (x : Line). ends_user e.to x.verb) g.lines ≡ true
  enters_by b [] parts f e c user = absurd (contains_none e c)
  enters_by b (l ∷ ls) parts f e c user = elim (Contains-append_cases (line_edges b l) (edges_after (b ++ l ∷ []) ls) e c) [
    | inl own ↦ own_edge_enters b l ls parts f.1 e own user
    | inr rest ↦ enters_by (b ++ l ∷ []) ls (parts ∙ sym (append_assoc b (l ∷ []) ls)) f.2 e rest user
  ]

pub edge_enters_user : EndedUserEvent
edge_enters_user g f e c user = enters_by g [] g.lines refl f.lines e c user

edges_after_push : (before ls : List Line) (l : Line) → edges_after before (ls ++ l ∷ []) ≡ edges_after before ls ++ line_edges (before ++ ls) l
edges_after_push before [] l = append-nil (line_edges before l) ∙ ap (λ xs. line_edges xs l) (sym (append-nil before))
edges_after_push before (k ∷ ls) l =
    ap (λ es. line_edges before k ++ es) (edges_after_push (before ++ k ∷ []) ls l ∙ ap (λ xs. edges_after (before ++ k ∷ []) ls ++ line_edges xs l) (append_assoc before (k ∷ []) ls))
    ∙ sym (append_assoc (line_edges before k) (edges_after (before ++ k ∷ []) ls) (line_edges (before ++ k ∷ ls) l))

-- the edges of one more line come last
pub edges_push : EdgesOfOneMoreLine
edges_push g l = edges_after_push [] g.lines l
