-- How the values of phases come about.
use Rattle.std.proofs.Common.{◌≡◌, ℕ, ◌+◌, ◌<◌, ◌≤◌, cond, inl, inr, List, [], ◌∷◌, ◌++◌, length, map, take, drop, set, refl, sym, ◌∙◌, ap, subst, arith, get_or, length-set, length-append, append-nil, zero, suc}
use Rattle.std.specs.Prelude.{IsSome, ◌↔◌, Option, Some, None, option_map, filter_map, slice_get}
use Rattle.std.specs.Option.{option_map_or}
use Rattle.std.specs.List.{All}
use Rattle.std.proofs.lemmas.Bool.{cases_eq, eq-eqb, ne_eqb}
use Rattle.std.proofs.lemmas.Option.{none-some, same_Some, slice_get_within, get_or_from_slice_get, slice_get-get_or}
use Rattle.std.proofs.lemmas.List.{take_more, take_all, get_or-set_same, get_or-set_other, get_or-map, length-map}
use Rattle.std.proofs.lemmas.List.Elements.{filter_map-append}
use Rattle.std.proofs.lemmas.List.FromFn.{fill_by_all, get_or-map-range_with_len, length-map-range_with_len, map-range_with_len_more}
use Rattle.std.proofs.lemmas.List.Sums.{fold_push}
use Rattle.basics.specs.Lists.{numbers_below}
use Rattle.index_spaces.specs.declared.Op.{Op}
use Rattle.index_spaces.specs.declared.Op.TheVariants.{Min}
use Rattle.graph_terms.specs.declared.decl.BarrierInfo.{BarrierInfo}
use Rattle.index_spaces.specs.Column.{ColumnValue}
use Rattle.graph_terms.specs.declared.outcome.Answer.{Answer}
use Rattle.graph_terms.specs.declared.outcome.Outcome.{Outcome}
use Rattle.graph_terms.specs.declared.outcome.End.{End}
use Rattle.graph_terms.specs.declared.outcome.End.TheVariants.{Done, Faulted, Cancelled, Waiting}
use Rattle.graph_terms.specs.declared.verb.Line.{Line}
use Rattle.graph_terms.specs.declared.verb.Verb.{Verb}
use Rattle.graph_terms.specs.declared.verb.Verb.TheVariants.{Phase, Arrive}
use Rattle.graph_terms.specs.Graph.{GraphValue, barriers, columns, verb_at}
use Rattle.graph_terms.specs.Fits.{IsGraph}
use Rattle.graph_meaning.specs.LineLaws.{PhasesFit}
use Rattle.graph_meaning.specs.Evaluation.{eval_end, combined, arrival_value, reduced_with, phase_value_by, phase_value, steps_after, advance_by, lowest_ready, step_of, Step, evaluation, order, outcome, answer_of, column_of, cells_of}
use Rattle.graph_meaning.specs.Effect.{Cells}
use Rattle.line_effects.specs.Homes.{all_home}
use Rattle.plain_eval.specs.Phases.{done_barrier_by, done_barrier, first_reduction, reduction_after, with_arrival}
use Rattle.plain_eval.specs.declared.phases.Reduction.{Reduction}

abbrev reduction : Op → ℕ → Reduction
reduction o n = record { «op» = o; «total» = n }

abbrev added : ℕ → Reduction → Reduction
added value r = reduction r.op (combined r.op r.total value)

abbrev arrived : ℕ → List Line → List ℕ
arrived p ls = filter_map (λ (l : Line). arrival_value p l.verb) ls

pub none_yet : (g : GraphValue) (p : ℕ) → reduction_after g 0 p ≡ first_reduction g p
none_yet g p = refl

-- the values of the lines so far, with one line more
arrived_more : (g : GraphValue) (k p : ℕ) (l : Line) → slice_get g.lines k ≡ Some l → arrived p (take (k + 1) g.lines) ≡ arrived p (take k g.lines) ++ filter_map (λ (x : Line). arrival_value p x.verb) (l ∷ [])
arrived_more g k p l h =
    ap (arrived p) (take_more g.lines k l (slice_get_within g.lines k l h) ∙ ap (λ x. take k g.lines ++ x ∷ []) (get_or_from_slice_get g.lines k l l h))
    ∙ filter_map-append (λ (x : Line). arrival_value p x.verb) (take k g.lines) (l ∷ [])

no_arrival : (g : GraphValue) (k p : ℕ) (l : Line) → slice_get g.lines k ≡ Some l → arrival_value p l.verb ≡ None → reduction_after g (k + 1) p ≡ reduction_after g k p
no_arrival g k p l h e =
    ap (λ vs. option_map (λ (x : BarrierInfo). reduction x.op (reduced_with x.op x.first vs)) (done_barrier g p))
    (arrived_more g k p l h ∙ (ap (λ o. arrived p (take k g.lines) ++ filter_map (λ (x : Option ℕ). x) (o ∷ [])) e ∙ append-nil (arrived p (take k g.lines))))

one_arrival_by : (o : Option BarrierInfo) (vs : List ℕ) (v : ℕ) → option_map (λ (x : BarrierInfo). reduction x.op (reduced_with x.op x.first (vs ++ v ∷ []))) o ≡ option_map (added v) (option_map (λ (x : BarrierInfo). reduction x.op (reduced_with x.op x.first vs)) o)
one_arrival_by None vs v = refl
one_arrival_by (Some x) vs v = ap (λ n. Some (reduction x.op n)) (fold_push (combined x.op) x.first vs v)

one_arrival : (g : GraphValue) (k p v : ℕ) (l : Line) → slice_get g.lines k ≡ Some l → arrival_value p l.verb ≡ Some v → reduction_after g (k + 1) p ≡ option_map (added v) (reduction_after g k p)
one_arrival g k p v l h e =
    ap (λ vs. option_map (λ (x : BarrierInfo). reduction x.op (reduced_with x.op x.first vs)) (done_barrier g p))
    (arrived_more g k p l h ∙ ap (λ o. arrived p (take k g.lines) ++ filter_map (λ (x : Option ℕ). x) (o ∷ [])) e)
    ∙ one_arrival_by (done_barrier g p) (arrived p (take k g.lines)) v

-- an item of a list by numbers is replaced
replaced : {X : Type 0} (f h : ℕ → X) (n q : ℕ) (x d : X) (old new : List X) → old ≡ map f (numbers_below n) → new ≡ set old q x → (q < n → x ≡ h q) → ((p : ℕ) → (p ≡ q → ⊥) → f p ≡ h p) → new ≡ map h (numbers_below n)
replaced f h n q x d old new o w here other =
    let count : length old ≡ n = ap length o ∙ length-map-range_with_len f 0 n in
    fill_by_all h new n d (ap length w ∙ (length-set old q x ∙ count)) (λ p b.
    ap (λ xs. get_or xs p d) w ∙ (elim (cases_eq p q) [
      | inl same ↦ ap (λ j. get_or (set old j x) p d) (sym same) ∙ (get_or-set_same old p x d (subst (λ m. p < m) (sym count) b) ∙ (here (subst (λ j. j < n) same b) ∙ ap h (sym same)))
      | inr ne ↦ get_or-set_other old q p x d ne ∙ (ap (λ xs. get_or xs p d) o ∙ (get_or-map-range_with_len f 0 n p p d b (omega arith) ∙ other p ne))
    ]))

abbrev WithLine : GraphValue → ℕ → Verb → List (Option Reduction) → Type 0
WithLine g k v new = new ≡ map (reduction_after g (k + 1)) (numbers_below (length g.lines))

same_by : (g : GraphValue) (k : ℕ) (l : Line) (old : List (Option Reduction)) → slice_get g.lines k ≡ Some l → ((p : ℕ) → arrival_value p l.verb ≡ None) → old ≡ map (reduction_after g k) (numbers_below (length g.lines)) → WithLine g k l.verb old
same_by g k l old h n o =
    o ∙ fill_by_all (reduction_after g (k + 1)) (map (reduction_after g k) (numbers_below (length g.lines))) (length g.lines) None (length-map-range_with_len (reduction_after g k) 0 (length g.lines))
    (λ p b. get_or-map-range_with_len (reduction_after g k) 0 (length g.lines) p p None b (omega arith) ∙ sym (no_arrival g k p l h (n p)))

arrive_by : (g : GraphValue) (k q v w : ℕ) (l : Line) (old : List (Option Reduction)) → slice_get g.lines k ≡ Some l → l.verb ≡ Arrive q v w → old ≡ map (reduction_after g k) (numbers_below (length g.lines)) → WithLine g k l.verb (with_arrival (Arrive q v w) old)
arrive_by g k q v w l old h e o =
    replaced (reduction_after g k) (reduction_after g (k + 1)) (length g.lines) q (option_map (added v) (get_or old q None)) None old (with_arrival (Arrive q v w) old) o refl
    (λ b. ap (λ xs. option_map (added v) (get_or xs q None)) o ∙ (ap (option_map (added v)) (get_or-map-range_with_len (reduction_after g k) 0 (length g.lines) q q None b (omega arith))
    ∙ sym (one_arrival g k q v l h (ap (arrival_value q) e ∙ ap (λ b. cond b (Some v) None) (eq-eqb q q refl)))))
    (λ p ne. sym (no_arrival g k p l h (ap (arrival_value p) e ∙ ap (λ b. cond b (Some v) None) (ne_eqb q p (λ x. ne (sym x))))))

reduced_by : (g : GraphValue) (k : ℕ) (x : Line) (old : List (Option Reduction)) (v : Verb) → x.verb ≡ v → slice_get g.lines k ≡ Some x → old ≡ map (reduction_after g k) (numbers_below (length g.lines)) → with_arrival v old ≡ map (reduction_after g (k + 1)) (numbers_below (length g.lines))
reduced_by g n x old (Arrive q v w) e h r = arrive_by g n q v w x old h e r
reduced_by g n x old v e h r = same_by g n x old h (λ p. ap (arrival_value p) e) r

pub reduced_more : (g : GraphValue) (k : ℕ) (x : Line) (old new : List (Option Reduction)) → slice_get g.lines k ≡ Some x → old ≡ map (reduction_after g k) (numbers_below (length g.lines)) → new ≡ with_arrival x.verb old → new ≡ map (reduction_after g (k + 1)) (numbers_below (length g.lines))
reduced_more g k x old new h o w = w ∙ reduced_by g k x old x.verb refl h o

-- the reductions after all arrivals have the values of the phases
value_by : (o : Option BarrierInfo) (x : BarrierInfo) (vs : List ℕ) → o ≡ Some x →
    option_map (λ (r : Reduction). r.total) (option_map (λ (x : BarrierInfo). reduction x.op (reduced_with x.op x.first vs)) o) ≡ Some (option_map_or (λ (x : BarrierInfo). reduced_with x.op x.first vs) o 0)
value_by None x vs h = absurd (none-some x h)
value_by (Some y) x vs h = refl

total_by : (g : GraphValue) (p : ℕ) (e : End) (o : Option Verb) → ((b : ℕ) → o ≡ Some (Phase b) → b < length (barriers g)) →
    option_map (λ (r : Reduction). r.total) (option_map (λ (x : BarrierInfo). reduction x.op (reduced_with x.op x.first (arrived p g.lines))) (done_barrier_by g e o)) ≡ phase_value_by g p e o
total_by g p Faulted o known = refl
total_by g p Cancelled o known = refl
total_by g p Waiting o known = refl
total_by g p Done None known = refl
total_by g p Done (Some (Phase b)) known =
    let none : BarrierInfo = record { name = []; count = 0; «op» = Min; «first» = 0 } in
    value_by (slice_get (barriers g) b) (get_or (barriers g) b none) (arrived p g.lines) (slice_get-get_or (barriers g) b none (known b refl))
total_by g p Done (Some v) known = refl

pub totals : PhasesFit → (g : GraphValue) → IsGraph g → (reductions : List (Option Reduction)) (values : List (Option ℕ)) (k : ℕ) → reductions ≡ map (reduction_after g (length g.lines)) (numbers_below (length g.lines)) → values ≡ map (option_map (λ (r : Reduction). r.total)) (take k reductions) → length reductions ≤ k →
    values ≡ map (phase_value g) (numbers_below (length g.lines))
totals fit g is reductions values k r v all =
    let n : ℕ = length g.lines in
    let f : Option Reduction → Option ℕ = option_map (λ (r : Reduction). r.total) in
    let whole : values ≡ map f (map (reduction_after g n) (numbers_below n)) = v ∙ ap (map f) (take_all k reductions all ∙ r) in
    whole ∙ fill_by_all (phase_value g) (map f (map (reduction_after g n) (numbers_below n))) n None (length-map (map (reduction_after g n) (numbers_below n)) f ∙ length-map-range_with_len (reduction_after g n) 0 n) (λ p b.
    get_or-map f (map (reduction_after g n) (numbers_below n)) p None None (subst (λ m. p < m) (sym (length-map-range_with_len (reduction_after g n) 0 n)) b)
    ∙ (ap f (get_or-map-range_with_len (reduction_after g n) 0 n p p None b (omega arith))
    ∙ (ap (λ ls. option_map (λ (r : Reduction). r.total) (option_map (λ (x : BarrierInfo). reduction x.op (reduced_with x.op x.first (arrived p ls))) (done_barrier g p))) (take_all n g.lines (let z : length g.lines ≤ n = omega arith in z))
    ∙ total_by g p (eval_end g p) (verb_at g p) (λ b. fit g p b is))))

pub first_more : (g : GraphValue) (k : ℕ) (x : Option Reduction) (old new : List (Option Reduction)) → old ≡ map (first_reduction g) (numbers_below k) → x ≡ first_reduction g k → new ≡ old ++ x ∷ [] → new ≡ map (first_reduction g) (numbers_below (k + 1))
first_more g k x old new o e w = w ∙ (ap (λ xs. xs ++ x ∷ []) o ∙ (ap (λ y. map (first_reduction g) (numbers_below k) ++ y ∷ []) e ∙ sym (map-range_with_len_more (first_reduction g) 0 k k (omega arith))))

-- an evaluation has at most as many steps as lines
few_by : (g : GraphValue) (ss : List Step) (o : Option ℕ) → length (advance_by g ss o) ≤ length ss + 1
few_by g ss None = omega arith
few_by g ss (Some i) = (let a = length-append ss (step_of g ss i ∷ []) in omega (arith, a))

pub few_steps : (g : GraphValue) (n : ℕ) → length (steps_after g n) ≤ n
few_steps g zero = omega arith
few_steps g (suc n) = (let a = few_by g (steps_after g n) (lowest_ready g (steps_after g n)) in let b = few_steps g n in omega (arith, a, b))

-- the outcome, part by part
mapped_twice : (f : End → Answer) (h : ℕ → End) (xs : List ℕ) → map f (map h xs) ≡ map (λ i. f (h i)) xs
mapped_twice f h [] = refl
mapped_twice f h (x ∷ xs) = ap (λ ys. f (h x) ∷ ys) (mapped_twice f h xs)

abbrev parts : List End → List Answer → List (Option ℕ) → List ColumnValue → List ℕ → Outcome
parts e a p c t = record { ends = e; answers = a; phases = p; «columns» = c; trace = t }

same_parts : (e f : List End) (a b : List Answer) (p q : List (Option ℕ)) (c d : List ColumnValue) (t u : List ℕ) → e ≡ f → a ≡ b → p ≡ q → c ≡ d → t ≡ u → parts e a p c t ≡ parts f b q d u
same_parts e f a b p q c d t u he ha hp hc ht =
    ap (λ x. parts x a p c t) he ∙ (ap (λ x. parts f x p c t) ha ∙ (ap (λ x. parts f b x c t) hp ∙ (ap (λ x. parts f b q x t) hc ∙ ap (λ x. parts f b q d x) ht)))

pub outcome_from : (g : GraphValue) (e : List End) (a : List Answer) (p : List (Option ℕ)) (c : List ColumnValue) (t : List ℕ) → e ≡ map (eval_end g) (numbers_below (length g.lines)) → a ≡ map answer_of e → p ≡ map (phase_value g) (numbers_below (length g.lines)) →
    c ≡ map (column_of g (cells_of (evaluation g))) (numbers_below (length (columns g))) → t ≡ order g → parts e a p c t ≡ outcome g (order g)
outcome_from g e a p c t he ha hp hc ht =
    same_parts e _ a _ p _ c _ t _ he (ha ∙ (ap (map answer_of) he ∙ mapped_twice answer_of (eval_end g) (numbers_below (length g.lines)))) hp hc ht

-- the end of a line in the outcome
pub end_given : (g : GraphValue) (o : Outcome) (i : ℕ) (e : End) (P : Type 0) → o ≡ outcome g (order g) → i < length g.lines → (eval_end g i ≡ e) ↔ P → (slice_get o.ends i ≡ Some e) ↔ P
end_given g o i e P h b iff =
    let n : ℕ = length g.lines in
    let count : length (map (eval_end g) (numbers_below n)) ≡ n = length-map-range_with_len (eval_end g) 0 n in
    let at : slice_get o.ends i ≡ Some (eval_end g i) =
    ap (λ (x : Outcome). slice_get x.ends i) h ∙ (slice_get-get_or (map (eval_end g) (numbers_below n)) i Waiting (subst (λ m. i < m) (sym count) b)
    ∙ ap (λ x. Some x) (get_or-map-range_with_len (eval_end g) 0 n i i Waiting b (omega arith))) in
    ((λ s. iff.0 (same_Some (eval_end g i) e (sym at ∙ s))), (λ p. at ∙ ap (λ x. Some x) (iff.1 p)))

-- the columns that all are at home
same_somes : (xs ys : List ColumnValue) → map (λ (x : ColumnValue). Some x) xs ≡ map (λ (x : ColumnValue). Some x) ys → xs ≡ ys
same_somes [] [] e = refl
same_somes [] (y ∷ ys) e = absurd (let z : 0 ≡ suc (length (map (λ (x : ColumnValue). Some x) ys)) = ap length e in omega arith)
same_somes (x ∷ xs) [] e = absurd (let z : suc (length (map (λ (x : ColumnValue). Some x) xs)) ≡ 0 = ap length e in omega arith)
same_somes (x ∷ xs) (y ∷ ys) e = ap (λ z. z ∷ xs) (same_Some x y (ap (λ zs. get_or zs 0 (Some x)) e)) ∙ ap (λ zs. y ∷ zs) (same_somes xs ys (ap (drop 1) e))

somes : {X : Type 0} (f : ℕ → X) (xs : List ℕ) → map (λ (i : ℕ). Some (f i)) xs ≡ map (λ (x : X). Some x) (map f xs)
somes f [] = refl
somes f (x ∷ xs) = ap (λ ys. Some (f x) ∷ ys) (somes f xs)

pub columns_from : (g : GraphValue) (cells : Cells) (homes : List (Option ColumnValue)) (given : List ColumnValue) → homes ≡ all_home g cells → homes ≡ map (λ (x : ColumnValue). Some x) given → given ≡ map (column_of g cells) (numbers_below (length (columns g)))
columns_from g cells homes given e m = same_somes given (map (column_of g cells) (numbers_below (length (columns g)))) (sym m ∙ (e ∙ somes (column_of g cells) (numbers_below (length (columns g)))))

pub all_some : (g : GraphValue) (cells : Cells) (homes : List (Option ColumnValue)) → homes ≡ all_home g cells → All (λ place. IsSome place) homes
all_some g cells homes e = subst (All (λ place. IsSome place)) (sym e) (λ i d b. subst IsSome (sym (get_or-map-range_with_len (λ c. Some (column_of g cells c)) 0 (length (columns g)) i i d (subst (λ n. i < n) (length-map-range_with_len (λ c. Some (column_of g cells c)) 0 (length (columns g))) b) (omega arith))) refl)
