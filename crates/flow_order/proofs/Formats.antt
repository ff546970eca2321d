-- A flow means the same in each format.
use Rattle.std.proofs.Common.{◌≡◌, ℕ, zero, suc, Bool, ◌&&◌, List, [], ◌∷◌, ◌++◌, length, refl, sym, ◌∙◌, ap}
use Rattle.std.specs.Prelude.{nat_lt, ◌==◌}
use Rattle.std.specs.Option.{option_map_or}
use Rattle.std.specs.List.{list_any}
use Rattle.index_spaces.specs.Space.{has_point, points}
use Rattle.basics.proofs.ListFacts.{list_any_agree}
use Rattle.basics.proofs.TestedLists.{any_map}
use Rattle.graph_terms.specs.declared.format.Format.{Format}
use Rattle.graph_terms.specs.declared.format.Format.TheVariants.{One, Two, Three}
use Rattle.graph_terms.specs.declared.verb.Access.{Access}
use Rattle.graph_terms.specs.declared.verb.Mode.{Mode}
use Rattle.graph_terms.specs.declared.verb.Mode.TheVariants.{Read, Write, Sum, Least, Most}
use Rattle.graph_terms.specs.Graph.{GraphValue, written_in, verb_at, space_at}
use Rattle.graph_terms.specs.Access.{verb_accesses, mode_in, in_format, accesses}
use Rattle.graph_meaning.specs.Effect.{effect}
use Rattle.graph_meaning.specs.Evaluation.{Step, cells_of, end_in, step_by}
use Rattle.flow_order.specs.Meaning.{order_counts, accesses_tie, depends, is_lost, is_spoiled, flow_step, flow_steps, Chain, last, first}
use Rattle.flow_order.specs.Laws.{FlowInEachFormat}

mode_in_two : (m : Mode) → mode_in Two m ≡ m
mode_in_two Read = refl
mode_in_two Write = refl
mode_in_two Sum = refl
mode_in_two Least = refl
mode_in_two Most = refl

mode_in_three : (m : Mode) → mode_in Three m ≡ m
mode_in_three Read = refl
mode_in_three Write = refl
mode_in_three Sum = refl
mode_in_three Least = refl
mode_in_three Most = refl

-- the order of two uses counts in format 1 where it does by their modes
counts_in_one : (commute : Bool) (m n : Mode) → order_counts commute (mode_in One m) (mode_in One n) ≡ order_counts commute m n
counts_in_one commute Read Read = refl
counts_in_one commute Read Write = refl
counts_in_one commute Read Sum = refl
counts_in_one commute Read Least = refl
counts_in_one commute Read Most = refl
counts_in_one commute Sum Read = refl
counts_in_one commute Sum Write = refl
counts_in_one commute Sum Sum = refl
counts_in_one commute Sum Least = refl
counts_in_one commute Sum Most = refl
counts_in_one commute Write n = refl
counts_in_one commute Least n = refl
counts_in_one commute Most n = refl

-- and so in each format
counts_in : (fm : Format) (commute : Bool) (m n : Mode) → order_counts commute (mode_in fm m) (mode_in fm n) ≡ order_counts commute m n
counts_in One commute m n = counts_in_one commute m n
counts_in Two commute m n = ap (λ x. order_counts commute x (mode_in Two n)) (mode_in_two m) ∙ ap (order_counts commute m) (mode_in_two n)
counts_in Three commute m n = ap (λ x. order_counts commute x (mode_in Three n)) (mode_in_three m) ∙ ap (order_counts commute m) (mode_in_three n)

-- the accesses of a line as its verb has them
abbrev given : GraphValue → ℕ → List Access
given f i = option_map_or verb_accesses (verb_at f i) []

tie_by_verbs : (f : GraphValue) (commute : Bool) (a b : Access) → accesses_tie f commute (in_format f.format a) (in_format f.format b) ≡ accesses_tie f commute a b
tie_by_verbs f commute a b = ap (λ x. (a.column == b.column) && (x && list_any (has_point (space_at f a.space)) (points (space_at f b.space)))) (counts_in f.format commute a.mode b.mode)

-- a line depends on another by what their verbs say, whatever the format
depends_by_verbs : (f : GraphValue) (commute : Bool) (i j : ℕ) → depends f commute i j ≡ (nat_lt i j && list_any (λ a. list_any (accesses_tie f commute a) (given f j)) (given f i))
depends_by_verbs f commute i j = ap (λ b. nat_lt i j && b) (any_map (λ a. list_any (accesses_tie f commute a) (accesses f j)) (in_format f.format) (given f i)
    ∙ list_any_agree (λ a. list_any (accesses_tie f commute (in_format f.format a)) (accesses f j)) (λ a. list_any (accesses_tie f commute a) (given f j)) (given f i) (λ a c.
    any_map (accesses_tie f commute (in_format f.format a)) (in_format f.format) (given f j)
    ∙ list_any_agree (λ b. accesses_tie f commute (in_format f.format a) (in_format f.format b)) (accesses_tie f commute a) (given f j) (λ b d. tie_by_verbs f commute a b)))

module _ (h : Format) (f : GraphValue) (commute : Bool) where
  abbrev other : GraphValue
  other = written_in h f

  depends_same : (i j : ℕ) → depends other commute i j ≡ depends f commute i j
  depends_same i j = depends_by_verbs other commute i j ∙ sym (depends_by_verbs f commute i j)

  spoiled_same : (ss : List Step) (j : ℕ) → is_spoiled other commute ss j ≡ is_spoiled f commute ss j
  spoiled_same ss j = list_any_agree (λ (s : Step). is_lost s.ends && depends other commute s.line j) (λ (s : Step). is_lost s.ends && depends f commute s.line j) ss (λ s c. ap (λ b. is_lost s.ends && b) (depends_same s.line j))

  steps_same : (n : ℕ) → flow_steps other commute n ≡ flow_steps f commute n
  steps_same zero = refl
  steps_same (suc n) = ap (λ ss. ss ++ flow_step other commute ss n ∷ []) (steps_same n)
      ∙ ap (λ b. flow_steps f commute n ++ step_by n b (effect f n (cells_of (flow_steps f commute n))) ∷ []) (spoiled_same (flow_steps f commute n) n)

  chain_back : {i j : ℕ} → Chain other commute i j → Chain f commute i j
  chain_back (last d) = last (sym (depends_same _ _) ∙ d)
  chain_back (first d r) = first (sym (depends_same _ _) ∙ d) (chain_back r)

  chain_on : {i j : ℕ} → Chain f commute i j → Chain other commute i j
  chain_on (last d) = last (depends_same _ _ ∙ d)
  chain_on (first d r) = first (depends_same _ _ ∙ d) (chain_on r)

pub flow_in_each_format : FlowInEachFormat
flow_in_each_format h f commute = (
  λ i. ap (λ ss. end_in ss i) (steps_same h f commute (length f.lines)),
  λ c p. ap (λ ss. cells_of ss c p) (steps_same h f commute (length f.lines)),
  λ i j. (λ c. chain_back h f commute c, λ c. chain_on h f commute c),
)
