-- Failures that leave nothing but want of memory.
use Rattle.std.proofs.Common.{◌≡◌, ◌∙◌, refl, sym, subst, ap₂, ℕ, ◌≤◌, Bool, true, false, ap, arith}
use Rattle.std.specs.Prelude.{Option, None, Result, Ok, Err, IfErr}
use Rattle.std.proofs.lemmas.Option.{none-some}
use Rattle.graph_terms.specs.declared.why.Why.{Why}
use Rattle.graph_terms.specs.declared.decl.Decl.{Decl}
use Rattle.graph_terms.specs.declared.verb.Line.{Line}
use Rattle.graph_terms.specs.Graph.{GraphValue}
use Rattle.graph_terms.specs.Fits.{decl_fault, line_fault}
use Rattle.embedded_run.specs.declared.failure.Failure.{Failure}
use Rattle.embedded_run.specs.declared.failure.Failure.TheVariants.{Item, Graph, Slots, NoMemory, Output}
use Rattle.graph_meaning.specs.Need.{IsNeed}
use Rattle.graph_meaning.specs.Rules.{Accepted}
use Rattle.race_check.specs.declared.checked.CheckRefusal.{CheckRefusal}
use Rattle.race_check.specs.declared.checked.CheckRefusal.TheVariants as refusal
use Rattle.race_check.specs.Refusal.{IsRefusal}
use Rattle.embedded_run.specs.Failures.{failure_of, IsItemFailure, IsRunFailure}
use Rattle.std.proofs.lemmas.Bool.{true≢false}

-- where an item fits
pub fits_or_memory : (fault : Option Why) (e : Failure) → fault ≡ None → IsItemFailure fault e → e ≡ NoMemory
fits_or_memory fault (Item why) fits is = absurd (none-some why (sym fits ∙ is))
fits_or_memory fault (Graph why) fits is = absurd is
fits_or_memory fault (Slots need) fits is = absurd is
fits_or_memory fault NoMemory fits is = refl
fits_or_memory fault Output fits is = absurd is

-- a declaration, or a line, that fits was put at the end of a graph that is known
pub declared_or_memory : (g h : GraphValue) (d f : Decl) (e : Failure) → IsItemFailure (decl_fault g d) e → g ≡ h → d ≡ f → decl_fault h f ≡ None → e ≡ NoMemory
declared_or_memory g h d f e is at same fits = fits_or_memory (decl_fault g d) e (ap₂ decl_fault at same ∙ fits) is

pub offered_or_memory : (g h : GraphValue) (l m : Line) (e : Failure) → IsItemFailure (line_fault g l) e → g ≡ h → l ≡ m → line_fault h m ≡ None → e ≡ NoMemory
offered_or_memory g h l m e is at same fits = fits_or_memory (line_fault g l) e (ap₂ line_fault at same ∙ fits) is

-- the same of the graph with it
pub declares_or_memory : {A : Type 0} (r : Result A Failure) (g h : GraphValue) (d f : Decl) → IfErr r (IsItemFailure (decl_fault g d)) → g ≡ h → d ≡ f → decl_fault h f ≡ None → IfErr r (λ e. e ≡ NoMemory)
declares_or_memory (Ok a) g h d f is at same fits = tt
declares_or_memory (Err e) g h d f is at same fits = declared_or_memory g h d f e is at same fits

pub offers_or_memory : {A : Type 0} (r : Result A Failure) (g h : GraphValue) (l m : Line) → IfErr r (IsItemFailure (line_fault g l)) → g ≡ h → l ≡ m → line_fault h m ≡ None → IfErr r (λ e. e ≡ NoMemory)
offers_or_memory (Ok a) g h l m is at same fits = tt
offers_or_memory (Err e) g h l m is at same fits = offered_or_memory g h l m e is at same fits

is_memory : CheckRefusal → Bool
is_memory refusal.NoMemory = true
is_memory _ = false

-- what a refusal comes to, where an accepted graph is refused for want of memory alone
pub refusal_fails : (g : GraphValue) (slots : ℕ) (why : CheckRefusal) → IsRefusal g why → (Accepted g → why ≡ refusal.NoMemory) → IsRunFailure g slots (failure_of why)
unfolding is_memory
refusal_fails g slots refusal.NoMemory is complete = tt
refusal_fails g slots why is complete = (is, λ accepted. true≢false (sym (ap is_memory (complete accepted))))

-- a graph that is accepted, and needs no more slots than there are
accepted_or_memory : (g : GraphValue) (slots : ℕ) (e : Failure) → Accepted g → ((n : ℕ) → IsNeed g n → n ≤ slots) → IsRunFailure g slots e → e ≡ NoMemory
accepted_or_memory g slots (Item why) accepted few is = absurd is
accepted_or_memory g slots (Graph why) accepted few is = absurd (is.1 accepted)
accepted_or_memory g slots (Slots need) accepted few is = absurd (let at_most : need ≤ slots = few need is.0 in omega (arith, is.1, at_most))
accepted_or_memory g slots NoMemory accepted few is = refl
accepted_or_memory g slots Output accepted few is = absurd is

-- a run of a graph that is known
pub ran_or_memory : (g h : GraphValue) (slots : ℕ) (e : Failure) → IsRunFailure g slots e → g ≡ h → Accepted h → ((n : ℕ) → IsNeed h n → n ≤ slots) → e ≡ NoMemory
ran_or_memory g h slots e is same accepted few = accepted_or_memory h slots e accepted few (subst (λ x. IsRunFailure x slots e) same is)
