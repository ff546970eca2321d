-- One more edge of a list of edges.
use Rattle.std.proofs.Common.{◌≡◌, ℕ, zero, suc, ◌+◌, ◌-◌, ◌<◌, ◌≤◌, Bool, true, false, cond, eqb, List, [], ◌∷◌, ◌++◌, length, map, length-append, take, drop, get_or, refl, sym, ◌∙◌, ap, subst, add-one, append_assoc, drop-cons, arith}
use Rattle.std.specs.Prelude.{filter}
use Rattle.std.proofs.lemmas.List.{take_more, same_lists, map-append, take-map, get_or_default}
use Rattle.std.proofs.Math.ListN.{get_or-map}
use Rattle.std.proofs.Math.Seq.{take-append_seam}
use Rattle.std.proofs.lemmas.List.Elements.{filter-append}
use Rattle.std.proofs.lemmas.List.Filters.{length-filter_more}
use Rattle.graph_terms.specs.declared.verb.Edge.{Edge}
use Rattle.graph_terms.specs.declared.verb.EdgeKind.TheVariants.{Passes}
use Rattle.graph_indexes.specs.declared.mark.Mark.{Mark}
use Rattle.graph_indexes.specs.declared.side.Side.{Side}
use Rattle.graph_indexes.specs.declared.side.Side.TheVariants.{From, To}
use Rattle.graph_terms.specs.declared.verb.Verb.{Verb}
use Rattle.graph_indexes.specs.Rows.{Stock, edges_at, room_at, KeepsEdges, KeepsRoom, end_of, ends_at, HasRoom, AddsEdge, AddsEdges, mark_at, fresh_mark, Marks, RowsValue, AddsRow}

-- what is read past the end of a list of edges
abbrev pub no_edge : Edge
no_edge = record { from = 0; to = 0; kind = Passes }

-- how many edges with an end are left, where the first has it or not
one_first : {X : Type 0} (is_it : Bool) (x : X) (xs : List X) → length (cond is_it (x ∷ xs) xs) ≡ cond is_it 1 0 + length xs
one_first true x xs = omega arith
one_first false x xs = omega arith

ends_drop : (side : Side) (given : List Edge) (i : ℕ) (d : Edge) (j : ℕ) → i < length given → ends_at side (drop i given) j ≡ cond (eqb (end_of side (get_or given i d)) j) 1 0 + ends_at side (drop (i + 1) given) j
ends_drop side given i d j h =
    let e : Edge = get_or given i d in
    let p : Edge → Bool = λ x. eqb (end_of side x) j in
    ap (λ es. length (filter p es)) (drop-cons given i d h)
    ∙ (one_first (p e) e (filter p (drop (suc i) given))
    ∙ ap (λ n. cond (p e) 1 0 + length (filter p (drop n given))) (sym (add-one i)))

-- one more edge that room is kept for
pub room_more : (side : Side) (old new : List Stock) (given : List Edge) (i : ℕ) (d : Edge) → i < length given → HasRoom side old (take i given) → KeepsRoom old new (end_of side (get_or given i d)) → HasRoom side new (take (i + 1) given)
room_more side old new given i d h room more = record {
  at = λ j.
      let r : ends_at side (take i given) j ≤ room_at old j = room.at j in
      let k : room_at old j + cond (eqb (end_of side (get_or given i d)) j) 1 0 ≤ room_at new j = more.at j in
      let t : ends_at side (take (i + 1) given) j ≡ ends_at side (take i given) j + cond (eqb (end_of side (get_or given i d)) j) 1 0 = length-filter_more (λ x. eqb (end_of side x) j) given i d h in
      omega arith;
}

pub keeps_both : (a b c : List Stock) → KeepsEdges a b → KeepsEdges b c → KeepsEdges a c
keeps_both a b c h k = record {
  count = k.count ∙ h.count;
  edges = λ i. k.edges i ∙ h.edges i;
  room = λ i. (let x : room_at a i ≤ room_at b i = h.room i in let y : room_at b i ≤ room_at c i = k.room i in omega arith);
}

-- one more edge that is added
pub adds_more : (side : Side) (first old new : List Stock) (given : List Edge) (i : ℕ) (d : Edge) → i < length given → AddsEdges side first old (take i given) → AddsEdge old new (end_of side (get_or given i d)) (get_or given i d) → AddsEdges side first new (take (i + 1) given)
adds_more side first old new given i d h before here =
    let e : Edge = get_or given i d in
    let more : take (i + 1) given ≡ take i given ++ e ∷ [] = take_more given i d h in
    record {
      count = here.count ∙ before.count;
      edges = λ j. here.edges j ∙ (ap (λ es. es ++ cond (eqb (end_of side e) j) (e ∷ []) []) (before.edges j)
          ∙ (append_assoc (edges_at first j) (filter (λ x. eqb (end_of side x) j) (take i given)) (cond (eqb (end_of side e) j) (e ∷ []) [])
          ∙ ap (λ es. edges_at first j ++ es) (sym (ap (filter (λ x. eqb (end_of side x) j)) more ∙ filter-append (λ x. eqb (end_of side x) j) (take i given) (e ∷ [])))));
    }

-- room for the edges that are left
pub room_left : (side : Side) (old new : List Stock) (given : List Edge) (i : ℕ) (d : Edge) → i < length given → AddsEdge old new (end_of side (get_or given i d)) (get_or given i d) → HasRoom side old (drop i given) → HasRoom side new (drop (i + 1) given)
room_left side old new given i d h here room = record {
  at = λ j.
      let r : ends_at side (drop i given) j ≤ room_at old j = room.at j in
      let k : room_at old j ≤ room_at new j + cond (eqb (end_of side (get_or given i d)) j) 1 0 = here.room j in
      let t : ends_at side (drop i given) j ≡ cond (eqb (end_of side (get_or given i d)) j) 1 0 + ends_at side (drop (i + 1) given) j = ends_drop side given i d j h in
      omega arith;
}

-- the edges alone
abbrev pub edge_lists : List Stock → List (List Edge)
edge_lists stocks = map (λ (s : Stock). s.edges) stocks

pub edges_at-lists : (stocks : List Stock) (i : ℕ) → edges_at stocks i ≡ get_or (edge_lists stocks) i []
edges_at-lists stocks i = sym (get_or-map (λ (s : Stock). s.edges) stocks i (record { edges = []; room = 0 }))

count_lists : (stocks : List Stock) → length (edge_lists stocks) ≡ length stocks
count_lists [] = refl
count_lists (s ∷ ss) = ap suc (count_lists ss)

same_edges : (old new : List Stock) → KeepsEdges old new → edge_lists new ≡ edge_lists old
same_edges old new k = same_lists (edge_lists new) (edge_lists old) (count_lists new ∙ (k.count ∙ sym (count_lists old)))
    (λ i d b. let n : i < length new = subst (λ m. i < m) (count_lists new) b in
    get_or_default (edge_lists new) i d [] b ∙ (sym (edges_at-lists new i) ∙ (k.edges i ∙ (edges_at-lists old i ∙ get_or_default (edge_lists old) i [] d (subst (λ m. i < m) (count_lists new ∙ (k.count ∙ sym (count_lists old))) b)))))

-- what a slice of a vector leaves in it
pub written_all : {X : Type 0} (new rest : List X) (n : ℕ) → n ≡ length new → take n (new ++ rest) ≡ new
written_all new rest n e = ap (λ m. take m (new ++ rest)) e ∙ take-append_seam new rest

pub opened_lists : (old pushed new rest : List Stock) (fresh : Stock) (n : ℕ) → pushed ≡ old ++ fresh ∷ [] → fresh.edges ≡ [] → KeepsEdges pushed new → n ≡ length pushed → edge_lists (take n (new ++ rest)) ≡ edge_lists old ++ [] ∷ []
opened_lists old pushed new rest fresh n p f k e =
    ap edge_lists (written_all new rest n (e ∙ sym k.count)) ∙ (same_edges pushed new k ∙ (ap edge_lists p ∙ (map-append (λ (s : Stock). s.edges) old (fresh ∷ []) ∙ ap (λ es. edge_lists old ++ es ∷ []) f)))

pub closed_lists : (old pushed new rest : List Stock) (fresh : Stock) (n : ℕ) → pushed ≡ old ++ fresh ∷ [] → fresh.edges ≡ [] → KeepsEdges pushed new → n ≡ length pushed → edge_lists (take (n - 1) (take n (new ++ rest))) ≡ edge_lists old
closed_lists old pushed new rest fresh n p f k e =
    let few : n - 1 ≡ length (edge_lists old) = (let a : length pushed ≡ length old + 1 = ap length p ∙ length-append old (fresh ∷ []) in let b : length (edge_lists old) ≡ length old = count_lists old in omega arith) in
    sym (take-map (λ (s : Stock). s.edges) (n - 1) (take n (new ++ rest)))
    ∙ (ap (take (n - 1)) (opened_lists old pushed new rest fresh n p f k e)
    ∙ (ap (λ m. take m (edge_lists old ++ [] ∷ [])) few ∙ take-append_seam (edge_lists old) ([] ∷ [])))

-- an empty list at the end changes no list that is read
same_past : (xs : List (List Edge)) (i : ℕ) → get_or (xs ++ [] ∷ []) i [] ≡ get_or xs i []
same_past [] zero = refl
same_past [] (suc i) = refl
same_past (x ∷ xs) zero = refl
same_past (x ∷ xs) (suc i) = same_past xs i

-- the lists of an opened row with the edges added
pub lists_with : (side : Side) (old opened new : List Stock) (given : List Edge) → edge_lists opened ≡ edge_lists old ++ [] ∷ [] → AddsEdges side opened new given → (i : ℕ) → get_or (edge_lists new) i [] ≡ get_or (edge_lists old) i [] ++ filter (λ e. eqb (end_of side e) i) given
lists_with side old opened new given o a i =
    sym (edges_at-lists new i) ∙ (a.edges i ∙ ap (λ es. es ++ filter (λ e. eqb (end_of side e) i) given) (edges_at-lists opened i ∙ (ap (λ xs. get_or xs i []) o ∙ same_past (edge_lists old) i)))

pub lists_count : (side : Side) (old opened new : List Stock) (given : List Edge) → edge_lists opened ≡ edge_lists old ++ [] ∷ [] → AddsEdges side opened new given → length (edge_lists new) ≡ length (edge_lists old) + 1
lists_count side old opened new given o a =
    count_lists new ∙ (a.count ∙ (sym (count_lists opened) ∙ (ap length o ∙ length-append (edge_lists old) ([] ∷ []))))

-- a fresh mark at the end changes no mark that is read
pub mark_past : (ms : List Mark) (i : ℕ) → mark_at (ms ++ fresh_mark ∷ []) i ≡ mark_at ms i
mark_past [] zero = refl
mark_past [] (suc i) = refl
mark_past (m ∷ ms) zero = refl
mark_past (m ∷ ms) (suc i) = mark_past ms i

-- a row more, from its parts
abbrev pub rows_value : List (List Edge) → List (List Edge) → List Mark → RowsValue
rows_value i f m = record { into = i; from = f; marks = m }

pub adds_row : (oi of io fo ni nf : List Stock) (om nm : List Mark) (verb : Verb) (given : List Edge) →
    edge_lists io ≡ edge_lists oi ++ [] ∷ [] → edge_lists fo ≡ edge_lists of ++ [] ∷ [] → AddsEdges To io ni given → AddsEdges From fo nf given → Marks om nm verb →
    AddsRow (rows_value (edge_lists oi) (edge_lists of) om) (rows_value (edge_lists ni) (edge_lists nf) (nm ++ fresh_mark ∷ [])) verb given
adds_row oi of io fo ni nf om nm verb given i f ai af m = record {
  into_count = lists_count To oi io ni given i ai;
  from_count = lists_count From of fo nf given f af;
  mark_count = length-append nm (fresh_mark ∷ []) ∙ ap (λ n. n + 1) m.count;
  into = lists_with To oi io ni given i ai;
  from = lists_with From of fo nf given f af;
  mark = λ j. mark_past nm j ∙ m.each j;
}

pub adds_row_as : (old : RowsValue) (oi of io fo ni nf ji jf : List Stock) (om nm jm : List Mark) (verb : Verb) (given : List Edge) →
    rows_value (edge_lists oi) (edge_lists of) om ≡ old → ji ≡ ni → jf ≡ nf → jm ≡ nm ++ fresh_mark ∷ [] →
    edge_lists io ≡ edge_lists oi ++ [] ∷ [] → edge_lists fo ≡ edge_lists of ++ [] ∷ [] → AddsEdges To io ni given → AddsEdges From fo nf given → Marks om nm verb →
    AddsRow old (rows_value (edge_lists ji) (edge_lists jf) jm) verb given
adds_row_as old oi of io fo ni nf ji jf om nm jm verb given e ei ef em i f ai af m =
    subst (λ (v : RowsValue). AddsRow v (rows_value (edge_lists ji) (edge_lists jf) jm) verb given) e
    (subst (λ (x : List Stock). AddsRow (rows_value (edge_lists oi) (edge_lists of) om) (rows_value (edge_lists x) (edge_lists jf) jm) verb given) (sym ei)
    (subst (λ (x : List Stock). AddsRow (rows_value (edge_lists oi) (edge_lists of) om) (rows_value (edge_lists ni) (edge_lists x) jm) verb given) (sym ef)
    (subst (λ (x : List Mark). AddsRow (rows_value (edge_lists oi) (edge_lists of) om) (rows_value (edge_lists ni) (edge_lists nf) x) verb given) (sym em)
    (adds_row oi of io fo ni nf om nm verb given i f ai af m))))
