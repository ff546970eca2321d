-- Lines whose columns are replaced have the same edges, come or never come as before, and bring the same values to phases.
use Rattle.std.proofs.Common.{◌≡◌, ℕ, zero, suc, ◌+◌, Bool, false, cond, not, ◌||◌, List, [], ◌∷◌, ◌++◌, length, refl, sym, ◌∙◌, ap, arith}
use Rattle.std.specs.Prelude.{Option, Some, None, option_map, slice_get, sum_by, fold, filter_map, nat_lt}
use Rattle.std.specs.Option.{option_map_or}
use Rattle.std.specs.List.{list_any, cons_option}
use Rattle.std.proofs.lemmas.List.{length-append}
use Rattle.index_spaces.specs.declared.Op.{Op}
use Rattle.graph_terms.specs.declared.verb.EdgeKind.TheVariants.{Ignores}
use Rattle.graph_terms.specs.declared.verb.Line.{Line}
use Rattle.graph_terms.specs.declared.verb.Verb.{Verb}
use Rattle.graph_terms.specs.declared.verb.Verb.TheVariants.{User, Phase, Fill, Copy, Reduce, Task}
use Rattle.graph_terms.specs.declared.table.Kernel.{Kernel}
use Rattle.graph_terms.specs.declared.decl.BarrierInfo.{BarrierInfo}
use Rattle.graph_terms.specs.Graph.{GraphValue, verb_at, is_phase_of, ends_user, arrival_weight, arrivals, barriers, barrier_count, never_comes_as, never_comes}
use Rattle.graph_terms.specs.Edges.{last_place, edges_from_some, verb_edges, on_edges, line_edges, edges_after, edges}
use Rattle.graph_meaning.specs.Evaluation.{arrival_value, reduced_with, reduced_value}
use Rattle.column_pieces.specs.Cut.{Cut, verb_on, line_on, lines_on, IsCut}

-- what is the same of all verbs that access columns is the same with other columns
abbrev pub Plain : {X : Type 0} → (Verb → X) → X → Type 0
Plain {X} f d = ((t s v : ℕ) → f (Fill t s v) ≡ d) × ((c t s : ℕ) → f (Copy c t s) ≡ d) × ((o : Op) (c t s : ℕ) → f (Reduce o c t s) ≡ d) × ((k : Kernel) → f (Task k) ≡ d)

pub plain_on : {X : Type 0} (f : Verb → X) (d : X) → Plain f d → (r : ℕ → ℕ) (v : Verb) → f (verb_on r v) ≡ f v
plain_on f d h r (Fill t s v) = h.0 (r t) s v ∙ sym (h.0 t s v)
plain_on f d h r (Copy c t s) = h.1 (r c) (r t) s ∙ sym (h.1 c t s)
plain_on f d h r (Reduce o c t s) = h.2 o (r c) (r t) s ∙ sym (h.2 o c t s)
plain_on f d h r (Task k) = h.3 _ ∙ sym (h.3 k)
plain_on f d h r v = refl

-- a function that does not tell columns
abbrev pub TellsNoColumns : {X : Type 0} → (Verb → X) → Type 0
TellsNoColumns f = (r : ℕ → ℕ) (v : Verb) → f (verb_on r v) ≡ f v

phase_of : (b : ℕ) → TellsNoColumns (is_phase_of b)
phase_of b = plain_on (is_phase_of b) false (λ t s v. refl, λ c t s. refl, λ o c t s. refl, λ k. refl)

ends_of : (i : ℕ) → TellsNoColumns (ends_user i)
ends_of i = plain_on (ends_user i) false (λ t s v. refl, λ c t s. refl, λ o c t s. refl, λ k. refl)

weight_of : (p : ℕ) → TellsNoColumns (arrival_weight p)
weight_of p = plain_on (arrival_weight p) 0 (λ t s v. refl, λ c t s. refl, λ o c t s. refl, λ k. refl)

value_of : (p : ℕ) → TellsNoColumns (arrival_value p)
value_of p = plain_on (arrival_value p) None (λ t s v. refl, λ c t s. refl, λ o c t s. refl, λ k. refl)

module _ (named : ℕ → ℕ → ℕ) where
  abbrev on_pieces : ℕ → List Line → List Line
  on_pieces n ls = lines_on named n ls

  pub length_on : (n : ℕ) (ls : List Line) → length (on_pieces n ls) ≡ length ls
  length_on n [] = refl
  length_on n (l ∷ ls) = ap suc (length_on (n + 1) ls)

  append_on : (n m : ℕ) (xs ys : List Line) → m ≡ n + length xs → on_pieces n (xs ++ ys) ≡ on_pieces n xs ++ on_pieces m ys
  append_on n m [] ys e = ap (λ k. on_pieces k ys) (let same : n ≡ m = omega arith in same)
  append_on n m (x ∷ xs) ys e =
      ap (λ z. line_on (named n) x ∷ z) (append_on (n + 1) m xs ys (let same : m ≡ n + 1 + length xs = omega arith in same))

  verb_got : (n : ℕ) (ls : List Line) (i : ℕ) → option_map (λ (l : Line). l.verb) (slice_get (on_pieces n ls) i) ≡ option_map (verb_on (named (n + i))) (option_map (λ (l : Line). l.verb) (slice_get ls i))
  verb_got n [] i = refl
  verb_got n (l ∷ ls) zero = ap (λ m. Some (verb_on (named m) l.verb)) (let e : n ≡ n + 0 = omega arith in e)
  verb_got n (l ∷ ls) (suc i) = verb_got (n + 1) ls i ∙ ap (λ m. option_map (verb_on (named m)) (option_map (λ (l : Line). l.verb) (slice_get ls i))) (let e : n + 1 + i ≡ n + suc i = omega arith in e)

  -- the line of a number
  pub line_got : (n : ℕ) (ls : List Line) (i : ℕ) → slice_get (on_pieces n ls) i ≡ option_map (λ (l : Line). line_on (named (n + i)) l) (slice_get ls i)
  line_got n [] i = refl
  line_got n (l ∷ ls) zero = ap (λ m. Some (line_on (named m) l)) (let e : n ≡ n + 0 = omega arith in e)
  line_got n (l ∷ ls) (suc i) = line_got (n + 1) ls i ∙ ap (λ m. option_map (λ (l : Line). line_on (named m) l) (slice_get ls i)) (let e : n + 1 + i ≡ n + suc i = omega arith in e)

  last_on : (test : Verb → Bool) → TellsNoColumns test → (n m : ℕ) (ls : List Line) (found : Option ℕ) → last_place test n (on_pieces m ls) found ≡ last_place test n ls found
  last_on test t n m [] found = refl
  last_on test t n m (l ∷ ls) found = last_on test t (n + 1) (m + 1) ls _ ∙ ap (λ b. last_place test (n + 1) ls (cond b (Some n) found)) (t (named m) l.verb)

  verb_edges_on : (before : List Line) (i : ℕ) (r : ℕ → ℕ) (v : Verb) → verb_edges (on_pieces 0 before) i (verb_on r v) ≡ verb_edges before i v
  verb_edges_on before i r (Phase b) = ap (λ o. edges_from_some Ignores o i) (last_on (is_phase_of b) (phase_of b) 0 0 before None)
  verb_edges_on before i r (Fill t s v) = refl
  verb_edges_on before i r (Copy c t s) = refl
  verb_edges_on before i r (Reduce o c t s) = refl
  verb_edges_on before i r (Task k) = refl
  verb_edges_on before i r v = refl

  line_edges_on : (before : List Line) (l : Line) (n : ℕ) → line_edges (on_pieces 0 before) (line_on (named n) l) ≡ line_edges before l
  line_edges_on before l n =
      ap (λ m. on_edges l.on m ++ verb_edges (on_pieces 0 before) m (verb_on (named n) l.verb)) (length_on 0 before)
      ∙ ap (λ es. on_edges l.on (length before) ++ es) (verb_edges_on before (length before) (named n) l.verb)

  edges_on : (before ls : List Line) → edges_after (on_pieces 0 before) (on_pieces (length before) ls) ≡ edges_after before ls
  edges_on before [] = refl
  edges_on before (l ∷ ls) =
      ap (λ es. es ++ edges_after (on_pieces 0 before ++ line_on (named (length before)) l ∷ []) (on_pieces (length before + 1) ls)) (line_edges_on before l (length before))
      ∙ (ap (λ b. line_edges before l ++ edges_after b (on_pieces (length before + 1) ls)) (sym (append_on 0 (length before) before (l ∷ []) (let e : length before ≡ 0 + length before = omega arith in e)))
      ∙ (ap (λ m. line_edges before l ++ edges_after (on_pieces 0 (before ++ l ∷ [])) (on_pieces m ls)) (sym (length-append before (l ∷ [])))
      ∙ ap (λ es. line_edges before l ++ es) (edges_on (before ++ l ∷ []) ls)))

  any_on : (test : Verb → Bool) → TellsNoColumns test → (n : ℕ) (ls : List Line) → list_any (λ (l : Line). test l.verb) (on_pieces n ls) ≡ list_any (λ (l : Line). test l.verb) ls
  any_on test t n [] = refl
  any_on test t n (l ∷ ls) = ap (λ b. b || list_any (λ (l : Line). test l.verb) (on_pieces (n + 1) ls)) (t (named n) l.verb) ∙ ap (λ b. test l.verb || b) (any_on test t (n + 1) ls)

  sum_on : (f : Verb → ℕ) → TellsNoColumns f → (n start : ℕ) (ls : List Line) → fold (λ a (l : Line). a + f l.verb) start (on_pieces n ls) ≡ fold (λ a (l : Line). a + f l.verb) start ls
  sum_on f t n start [] = refl
  sum_on f t n start (l ∷ ls) = sum_on f t (n + 1) _ ls ∙ ap (λ b. fold (λ a (l : Line). a + f l.verb) (start + b) ls) (t (named n) l.verb)

  values_on : (f : Verb → Option ℕ) → TellsNoColumns f → (n : ℕ) (ls : List Line) → filter_map (λ (l : Line). f l.verb) (on_pieces n ls) ≡ filter_map (λ (l : Line). f l.verb) ls
  values_on f t n [] = refl
  values_on f t n (l ∷ ls) = ap (λ o. cons_option o (filter_map (λ (l : Line). f l.verb) (on_pieces (n + 1) ls))) (t (named n) l.verb) ∙ ap (cons_option (f l.verb)) (values_on f t (n + 1) ls)

-- OF A GRAPH AND ITS PIECES
module _ (g h : GraphValue) (cut : Cut) (c : IsCut g h cut) where
  pub same_edges : edges h ≡ edges g
  same_edges = ap (edges_after []) c.lines ∙ edges_on cut.named [] g.lines

  pub same_number : length h.lines ≡ length g.lines
  same_number = ap length c.lines ∙ length_on cut.named 0 g.lines

  pub verb_is : (i : ℕ) → verb_at h i ≡ option_map (verb_on (cut.named i)) (verb_at g i)
  verb_is i = ap (λ ls. option_map (λ (l : Line). l.verb) (slice_get ls i)) c.lines ∙ verb_got cut.named 0 g.lines i ∙ ap (λ m. option_map (verb_on (cut.named m)) (verb_at g i)) (let e : 0 + i ≡ i = omega arith in e)

  -- what is told of a line by its verb alone
  told_by : {X : Type 0} (f : Verb → X) (d : X) → TellsNoColumns f → (r : ℕ → ℕ) (o : Option Verb) → option_map_or f (option_map (verb_on r) o) d ≡ option_map_or f o d
  told_by f d t r None = refl
  told_by f d t r (Some v) = t r v

  pub told : {X : Type 0} (f : Verb → X) (d : X) → TellsNoColumns f → (i : ℕ) → option_map_or f (verb_at h i) d ≡ option_map_or f (verb_at g i) d
  told f d t i = ap (λ o. option_map_or f o d) (verb_is i) ∙ told_by f d t (cut.named i) (verb_at g i)

  same_arrivals : (p : ℕ) → arrivals h p ≡ arrivals g p
  same_arrivals p = ap (sum_by (λ (l : Line). arrival_weight p l.verb)) c.lines ∙ sum_on cut.named (arrival_weight p) (weight_of p) 0 0 g.lines

  never_as : (i : ℕ) (r : ℕ → ℕ) (v : Verb) → never_comes_as h i (verb_on r v) ≡ never_comes_as g i v
  never_as i r User = ap not (ap (list_any (λ (l : Line). ends_user i l.verb)) c.lines ∙ any_on cut.named (ends_user i) (ends_of i) 0 g.lines)
  never_as i r (Phase b) = ap (λ n. nat_lt n (barrier_count h b)) (same_arrivals i) ∙ ap (λ (bs : List BarrierInfo). nat_lt (arrivals g i) (option_map_or (λ (x : BarrierInfo). x.count) (slice_get bs b) 0)) c.barriers
  never_as i r (Fill t s v) = refl
  never_as i r (Copy x t s) = refl
  never_as i r (Reduce o x t s) = refl
  never_as i r (Task k) = refl
  never_as i r v = refl

  never_by : (i : ℕ) (r : ℕ → ℕ) (o : Option Verb) → option_map_or (never_comes_as h i) (option_map (verb_on r) o) false ≡ option_map_or (never_comes_as g i) o false
  never_by i r None = refl
  never_by i r (Some v) = never_as i r v

  pub same_never : (i : ℕ) → never_comes h i ≡ never_comes g i
  same_never i = ap (λ o. option_map_or (never_comes_as h i) o false) (verb_is i) ∙ never_by i (cut.named i) (verb_at g i)

  pub same_values : (p b : ℕ) → reduced_value h p b ≡ reduced_value g p b
  same_values p b =
      ap (λ (bs : List BarrierInfo). option_map_or (λ (x : BarrierInfo). reduced_with x.op x.first (filter_map (λ (l : Line). arrival_value p l.verb) h.lines)) (slice_get bs b) 0) c.barriers
      ∙ ap (λ vs. option_map_or (λ (x : BarrierInfo). reduced_with x.op x.first vs) (slice_get (barriers g) b) 0)
      (ap (filter_map (λ (l : Line). arrival_value p l.verb)) c.lines ∙ values_on cut.named (arrival_value p) (value_of p) 0 g.lines)
