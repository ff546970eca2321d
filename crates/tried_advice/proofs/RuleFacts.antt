-- Which rules hold where a graph is accepted, or refused for a race.
use Rattle.std.proofs.Common.{◌≡◌, ℕ, ◌+◌, ◌<◌, Bool, true, inl, inr, ◌⊎◌, List, [], ◌∷◌, ◌++◌, length, take, refl, sym, subst}
use Rattle.std.specs.Prelude.{◌↔◌, Option, Some, None, Vec, Contains, IfSome, IsTrue, is_some}
use Rattle.std.specs.Global.{Global}
use Rattle.std.specs.List.{slice_index_or}
use Rattle.std.proofs.lemmas.Bool.{true≢false}
use Rattle.std.proofs.lemmas.List.{take_more}
use Rattle.basics.proofs.ListFacts.{contains_one, contains_cases, contains_here, contains_there}
use Rattle.graph_terms.specs.declared.verb.Edge.{Edge}
use Rattle.graph_terms.specs.Fits.{IsGraph}
use Rattle.graph_terms.specs.Graph.{GraphValue}
use Rattle.graph_meaning.specs.Path.{HasPath}
use Rattle.graph_meaning.specs.Rules.{Accepted, IsRace}
use Rattle.race_check.specs.declared.checked.CheckRefusal.{CheckRefusal}
use Rattle.race_check.specs.declared.checked.CheckRefusal.TheVariants.{Cycle, Unreleased, Section, Descends, ReleaseFault, Race, NoMemory}
use Rattle.race_check.specs.Refusal.{IsRefusal}
use Rattle.explanations.specs.Paths.{IsShortest, PathsAreLists}
use Rattle.tried_advice.specs.declared.form.Form.{Form}
use Rattle.tried_advice.specs.Forms.{applied}
use Rattle.tried_advice.specs.Orders.{HoldsButRaces, KeepsRules, Orders, NoneOrders}

pub accepted_holds : (g : GraphValue) → Accepted g → HoldsButRaces g
accepted_holds g a = record { acyclic = a.acyclic; released = a.released; sections = a.sections; descends = a.descends; release_faults = a.release_faults }

pub race_holds : (g : GraphValue) (i j : ℕ) → IsRace g i j → HoldsButRaces g
race_holds g i j r = record { acyclic = r.0; released = r.1; sections = r.2; descends = r.3; release_faults = r.4 }

-- where they hold of one graph, they are kept exactly where they hold of the other
pub keeps_all : (g h : GraphValue) → HoldsButRaces h → KeepsRules g h
keeps_all g h holds = record { acyclic = λ _. holds.acyclic; released = λ _. holds.released; sections = λ _. holds.sections; descends = λ _. holds.descends; release_faults = λ _. holds.release_faults }

pub kept_hold : (g h : GraphValue) → HoldsButRaces g → KeepsRules g h → HoldsButRaces h
kept_hold g h held keeps = record {
  acyclic = keeps.acyclic held.acyclic;
  released = keeps.released held.released;
  sections = keeps.sections held.sections;
  descends = keeps.descends held.descends;
  release_faults = keeps.release_faults held.release_faults;
}

-- another refusal is of a rule that fails
pub other_breaks : (g : GraphValue) (why : CheckRefusal) → IsRefusal g why → ((i j : ℕ) → why ≡ Race i j → ⊥) → (why ≡ NoMemory → ⊥) → HoldsButRaces g → ⊥
other_breaks g (Cycle i) r race memory holds = r.here (holds.acyclic i)
other_breaks g (Unreleased i) r race memory holds = r.1.here (holds.released i)
other_breaks g (Section i j) r race memory holds = r.2.here (holds.sections i j)
other_breaks g (Descends i j) r race memory holds = r.3.here (holds.descends i j)
other_breaks g (ReleaseFault i) r race memory holds = r.4.here (holds.release_faults i)
other_breaks g (Race i j) r race memory holds = race i j refl
other_breaks g NoMemory r race memory holds = memory refl

-- a path that was found
pub has_path : PathsAreLists → (g : GraphValue) (i j : ℕ) (o : Option (Vec Edge Global)) → IfSome o (λ p. IsShortest g i j p.items) → is_some o ≡ true → HasPath g i j
has_path lists g i j None s n = absurd (true≢false (sym n))
has_path lists g i j (Some p) s n = (lists.each g i j p.items s.path).0

-- what holds of the graph in which a form is followed tells what the form does
pub orders_by : (g h : GraphValue) (form : Form) (i j : ℕ) (b : Bool) → h ≡ applied g form → IsRace g i j → IsTrue b ↔ (IsGraph h × (HasPath h i j × HoldsButRaces h)) → IsTrue b ↔ Orders g i j form
orders_by g h form i j b same race both = (
  (λ t. let x = both.0 t in let path : HasPath (applied g form) i j = subst (λ y. HasPath y i j) same x.1.0 in record { fits = subst IsGraph same x.0; path = path; no_race = λ _ _. inl path; keeps = keeps_all g (applied g form) (subst HoldsButRaces same x.1.1) }),
  (λ o. both.1 (subst IsGraph (sym same) o.fits, (subst (λ y. HasPath y i j) (sym same) o.path, subst HoldsButRaces (sym same) (kept_hold g (applied g form) (race_holds g i j race) o.keeps)))),
)

append_one : {X : Type 0} (xs : List X) (x y : X) → Contains (xs ++ x ∷ []) y → Contains xs y ⊎ (x ≡ y)
append_one [] x y c = inr (contains_one x y c)
append_one (z ∷ zs) x y c = elim (contains_cases z (zs ++ x ∷ []) y c) [
  | inl same ↦ inl (subst (λ w. Contains (z ∷ zs) w) same (contains_here z zs))
  | inr rest ↦ elim (append_one zs x y rest) [
    | inl a ↦ inl (contains_there z zs y a)
    | inr b ↦ inr b
  ]
]

-- one more form that does not order them
pub none_more : (g : GraphValue) (i j : ℕ) (forms : List Form) (k : ℕ) (d : Form) → k < length forms → NoneOrders g i j (take k forms) → (Orders g i j (slice_index_or forms k d) → ⊥) → NoneOrders g i j (take (k + 1) forms)
none_more g i j forms k d below before here = λ form has o.
    elim (append_one (take k forms) (slice_index_or forms k d) form (subst (λ xs. Contains xs form) (take_more forms k d below) has)) [
      | inl early ↦ before form early o
      | inr same ↦ here (subst (Orders g i j) (sym same) o)
    ]
