-- All groups have passed.
use Rattle.std.proofs.Common.{◌≡◌, ℕ, ◌<◌, false, length, sym, ◌∙◌, subst, arith}
use Rattle.std.specs.Prelude.{Option, Some, None, IfSome, slice_index}
use Rattle.graph_terms.specs.Graph.{GraphValue, is_acquire_of, locks}
use Rattle.graph_terms.specs.Fits.{IsGraph}
use Rattle.graph_terms.specs.Reservations.{Acquires}
use Rattle.graph_terms.proofs.Public.{passes_below, release_names, acquired_lock_known}
use Rattle.sweep_base.specs.declared.line_sections.Held.{Held}
use Rattle.sweep_base.specs.Held.{acquire_in}
use Rattle.section_sweeps.specs.declared.lookups.Table.{Table}
use Rattle.section_sweeps.specs.Found.{AreDoubted, AreFound, IsSound}
use Rattle.section_sweeps.specs.Table.{IsTable}
use Rattle.section_sweeps.specs.declared.found_sections.Found.{Found}
use Rattle.section_sweeps.specs.Sections.{AreSections, IsSectionKept}
use Rattle.std.proofs.lemmas.Option.{none-some}

-- the rules hold of an acquire whose section is kept
pub sound_of : (g : GraphValue) (h : Held) (q : ℕ) → IsSectionKept g h q → IsSound g q
sound_of g h q k = record { released = k.released; sections = λ r j rel l rel' path. k.sections r j rel l rel' path; descends = k.descends }

pub are_sections : (g : GraphValue) (t : Table) → IsTable g t → (f : Found) → AreFound g t.places.items f (length g.lines) → f.is_doubted ≡ false → AreSections g f.held
are_sections g t is f found sure =
    let low : (q l : ℕ) → Acquires g q l → slice_index t.places.items q < length g.lines = λ q l a. (is.placed.place q (passes_below (is_acquire_of l) g q a)).0 in
    let each : (q l : ℕ) → Acquires g q l → IsSound g q = λ q l a. found.sound q l a (low q l a) (found.sure sure q) in
    record {
      released = λ q l a. (each q l a).released l a;
      sections = λ r j q rel path. (let a = release_names g is.is_graph r q rel in (each q a.0 a.1).sections r j rel q rel path);
      descends = λ q j l k sec a. (each q l sec.acquires).descends j l k sec a;
      held = record { is = found.held.is; none = λ l i q known e sec. found.kept sure q l i (low q l sec.acquires) sec e };
    }

-- a graph without reservations has no sections
pub no_sections : (g : GraphValue) → IsGraph g → length (locks g) ≡ 0 → (h : Held) → ((l i : ℕ) → acquire_in h l i ≡ None) → AreSections g h
no_sections g fits none h empty =
    let nowhere : (q l : ℕ) → Acquires g q l → ⊥ = λ q l a. (let known : l < length (locks g) = acquired_lock_known g fits q l a in absurd (omega (arith, known, none))) in
    record {
      released = λ q l a. absurd (nowhere q l a);
      sections = λ r j q rel path. (let a = release_names g fits r q rel in absurd (nowhere q a.0 a.1));
      descends = λ q j l k sec a. absurd (nowhere q l sec.acquires);
      held = record { is = λ l i q e. absurd (none-some q (sym (empty l i) ∙ e)); none = λ l i q known e sec. absurd (nowhere q l sec.acquires) };
    }

-- the rules hold of each acquire that is not doubted
pub are_doubted : (g : GraphValue) (t : Table) → IsTable g t → (f : Found) → AreFound g t.places.items f (length g.lines) → AreDoubted g f.doubted.items
are_doubted g t is f found q l a sure = found.sound q l a (is.placed.place q (passes_below (is_acquire_of l) g q a)).0 sure

-- what holds of an item that is there
pub some_is : {X : Type 0} (P : X → Type 0) (o : Option X) (x : X) → o ≡ Some x → IfSome o P → P x
some_is P o x e h = subst (λ z. IfSome z P) e h
