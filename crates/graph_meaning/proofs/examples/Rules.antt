-- What the rules say of small graphs, and their needs.
use Rattle.std.proofs.Common.{◌≡◌, ℕ, zero, suc, ◌<◌, true, false, inl, inr, [], ◌∷◌, refl, sym, ◌∙◌, ap, arith}
use Rattle.std.specs.Prelude.{codes}
use Rattle.std.specs.Option.{option_map_or}
use Rattle.std.proofs.lemmas.Bool.{true≢false, and_from}
use Rattle.graph_terms.specs.declared.verb.Mode.TheVariants.{Write, Sum}
use Rattle.graph_terms.specs.declared.format.Format.TheVariants.{Three}
use Rattle.graph_terms.specs.declared.decl.Decl.TheVariants.{Lock}
use Rattle.graph_terms.specs.declared.verb.Verb.{Verb}
use Rattle.graph_terms.specs.declared.verb.Verb.TheVariants.{Merge, MergeIgnore, Acquire, Release}
use Rattle.graph_terms.specs.Graph.{GraphValue, line_passes, is_acquire, is_acquire_of, is_shared}
use Rattle.graph_terms.specs.Edges.{edges}
use Rattle.graph_terms.specs.Access.{access, AccessesConflict}
use Rattle.graph_terms.specs.Reservations.{Acquires, Releases}
use Rattle.graph_meaning.specs.Rules.{Section, SectionAt, DescendsAt, ReleaseFaultAt, RaceAt, IsCycle, IsUnreleased, IsOutsideSection, IsNotDescending, IsReleaseFault, IsRace, Accepted}
use Rattle.graph_meaning.specs.Need.{IsNeed}
use Rattle.graph_terms.proofs.examples.Graphs.{graph, line, racing_fills, ordered_fills, reserved_sums, shared_sums, one_section, climbing_sections, plain_release, open_section, no_release, nine_fills, two_sections, cycle}
use Rattle.graph_meaning.proofs.PathTable.{path_by_table, no_path_by_table, acyclic_by_table}
use Rattle.graph_meaning.proofs.NeedTable.{need_is}
use Rattle.graph_terms.proofs.Public.{acquire_is, passes_below}
use Rattle.basics.specs.Lists.{numbers_below}
use Rattle.basics.proofs.ListFacts.{passes_each, contains_below}
use Rattle.graph_meaning.proofs.RulesTable.{implies, implied, section_test, descends_test, release_fault_test, section_holds, descends_holds, release_fault_holds, accepted_by_computing, acyclic_by_tests, released_by_tests, sections_by_tests, descends_by_tests, fails_first, fails_first_twice, race_is, meets_itself, conflict_by}

cycle-refused : IsCycle cycle 0
cycle-refused = record {
  here = λ none. none (path_by_table (edges cycle) 3 0 0 refl);
  before = λ k h. absurd (omega arith);
}

racing_fills-meet : AccessesConflict racing_fills (access 0 0 Write) (access 0 0 Write)
racing_fills-meet = meets_itself racing_fills (access 0 0 Write) refl refl

racing_fills-refused : RaceAt racing_fills 0 1 → ⊥
racing_fills-refused race = elim (race (omega arith) (conflict_by racing_fills 0 1 (access 0 0 Write) (λ e. absurd (omega arith)) (0, omega arith, refl) (0, omega arith, refl) racing_fills-meet)) [
  | inl p ↦ no_path_by_table (edges racing_fills) 2 0 1 refl refl p
  | inr (inl p) ↦ no_path_by_table (edges racing_fills) 2 1 0 refl refl p
  | inr (inr x) ↦ true≢false (sym (x.commute (access 0 0 Write) (access 0 0 Write) (0, omega arith, refl) (0, omega arith, refl) racing_fills-meet))
]

racing_fills-is_race : IsRace racing_fills 0 1
racing_fills-is_race = race_is racing_fills 0 1 refl refl refl refl refl refl racing_fills-refused refl refl

-- line 0 alone acquires
one_section-acquire : (l q : ℕ) → Acquires one_section q l → q ≡ 0
one_section-acquire l zero h = refl
one_section-acquire l (suc zero) h = absurd (true≢false (sym h))
one_section-acquire l (suc (suc zero)) h = absurd (true≢false (sym h))
one_section-acquire l (suc (suc (suc zero))) h = absurd (true≢false (sym h))
one_section-acquire l (suc (suc (suc (suc zero)))) h = absurd (true≢false (sym h))
one_section-acquire l (suc (suc (suc (suc (suc q))))) h = absurd (true≢false (sym h))

one_section-refused : RaceAt one_section 1 2 → ⊥
one_section-refused race = elim (race (omega arith) (conflict_by one_section 1 2 (access 2 0 Sum) (λ e. absurd (omega arith)) (1, omega arith, refl) (1, omega arith, refl) (meets_itself one_section (access 2 0 Sum) refl refl))) [
  | inl p ↦ no_path_by_table (edges one_section) 5 1 2 refl refl p
  | inr (inl p) ↦ no_path_by_table (edges one_section) 5 2 1 refl refl p
  | inr (inr x) ↦ x.different (one_section-acquire x.lock x.one x.one_section.acquires ∙ sym (one_section-acquire x.lock x.other x.other_section.acquires))
]

one_section-is_race : IsRace one_section 1 2
one_section-is_race = race_is one_section 1 2 refl refl refl refl refl refl one_section-refused refl refl

-- each in a section of its own acquire
reserved_sums-exempt_sections : Section reserved_sums 0 2 3 × Section reserved_sums 0 6 7
reserved_sums-exempt_sections = (
  record { acquires = refl; entered = path_by_table (edges reserved_sums) 10 2 3 refl; release = 5; releases = refl; left = path_by_table (edges reserved_sums) 10 3 5 refl },
  record { acquires = refl; entered = path_by_table (edges reserved_sums) 10 6 7 refl; release = 9; releases = refl; left = path_by_table (edges reserved_sums) 10 7 9 refl },
)

-- all acquires are shared
shared_sums-shared : (l q : ℕ) → Acquires shared_sums q l → line_passes is_shared shared_sums q ≡ true
shared_sums-shared l q a = implied (line_passes is_acquire shared_sums q) (line_passes is_shared shared_sums q)
    (passes_each (λ k. implies (line_passes is_acquire shared_sums k) (line_passes is_shared shared_sums k)) (numbers_below 10) refl q (contains_below 10 q (passes_below (is_acquire_of l) shared_sums q a)))
    (ap (λ o. option_map_or is_acquire o false) (acquire_is shared_sums q l a))

shared_sums-refused : RaceAt shared_sums 3 7 → ⊥
shared_sums-refused race = elim (race (omega arith) (conflict_by shared_sums 3 7 (access 2 0 Sum) (λ e. absurd (omega arith)) (1, omega arith, refl) (1, omega arith, refl) (meets_itself shared_sums (access 2 0 Sum) refl refl))) [
  | inl p ↦ no_path_by_table (edges shared_sums) 10 3 7 refl refl p
  | inr (inl p) ↦ no_path_by_table (edges shared_sums) 10 7 3 refl refl p
  | inr (inr x) ↦ true≢false (sym (and_from (line_passes is_shared shared_sums x.one) (line_passes is_shared shared_sums x.other) (shared_sums-shared x.lock x.one x.one_section.acquires) (shared_sums-shared x.lock x.other x.other_section.acquires)) ∙ x.apart)
]

shared_sums-is_race : IsRace shared_sums 3 7
shared_sums-is_race = race_is shared_sums 3 7 refl refl refl refl refl refl shared_sums-refused refl refl

climbing_sections-refused : DescendsAt climbing_sections 0 1 → ⊥
climbing_sections-refused descends =
    let s : Section climbing_sections 1 0 1 = record { acquires = refl; entered = path_by_table (edges climbing_sections) 6 0 1 refl; release = 5; releases = refl; left = path_by_table (edges climbing_sections) 6 1 5 refl } in
    let h : 1 < 0 = descends 1 0 s refl in absurd (omega arith)

climbing_sections-is_not_descending : IsNotDescending climbing_sections 0 1
climbing_sections-is_not_descending = (
  acyclic_by_tests climbing_sections refl refl,
  released_by_tests climbing_sections refl refl,
  sections_by_tests climbing_sections refl refl,
  fails_first_twice (DescendsAt climbing_sections) (descends_test climbing_sections) 6 (descends_holds climbing_sections refl) 0 1 climbing_sections-refused refl refl,
)

plain_release-refused : ReleaseFaultAt plain_release 2 → ⊥
plain_release-refused rule = true≢false (sym (rule 0 (line (codes "r") (Release 0) (1 ∷ [])) refl refl))

plain_release-is_release_fault : IsReleaseFault plain_release 2
plain_release-is_release_fault = (
  acyclic_by_tests plain_release refl refl,
  released_by_tests plain_release refl refl,
  sections_by_tests plain_release refl refl,
  descends_by_tests plain_release refl refl,
  fails_first (ReleaseFaultAt plain_release) (release_fault_test plain_release) 3 (release_fault_holds plain_release refl) 2 plain_release-refused refl,
)

-- a release on two events is refused where one of them is no merge that ignores faults, and is accepted where both are
abbrev wide_release : Verb → GraphValue
wide_release last = record {
  format = Three;
  decls = Lock (codes "l") ∷ [];
  lines = line (codes "q") (Acquire 0 false) [] ∷ line (codes "m") (MergeIgnore (0 ∷ [])) [] ∷ line (codes "n") last [] ∷ line (codes "r") (Release 0) (1 ∷ 2 ∷ []) ∷ [];
}

wide_release-refused : ReleaseFaultAt (wide_release (Merge (0 ∷ []))) 3 → ⊥
wide_release-refused rule = true≢false (sym (rule 0 (line (codes "r") (Release 0) (1 ∷ 2 ∷ [])) refl refl))

wide_release-accepted : Accepted (wide_release (MergeIgnore (0 ∷ [])))
wide_release-accepted = accepted_by_computing (wide_release (MergeIgnore (0 ∷ []))) refl

open_section-refused : SectionAt open_section 3 0 → ⊥
open_section-refused rule = elim (rule 1 refl (path_by_table (edges open_section) 5 0 3 refl)) [
  | inl e ↦ absurd (let h : 0 ≡ 1 = e in omega arith)
  | inr (inl p) ↦ no_path_by_table (edges open_section) 5 0 1 refl refl p
  | inr (inr p) ↦ no_path_by_table (edges open_section) 5 1 0 refl refl p.0
]

open_section-is_outside : IsOutsideSection open_section 3 0
open_section-is_outside = (
  acyclic_by_tests open_section refl refl,
  released_by_tests open_section refl refl,
  fails_first_twice (SectionAt open_section) (section_test open_section) 5 (section_holds open_section refl) 3 0 open_section-refused refl refl,
)

no_release-none : (r : ℕ) → Releases no_release r 0 → ⊥
no_release-none zero h = true≢false (sym h)
no_release-none (suc r) h = true≢false (sym h)

no_release-refused : IsUnreleased no_release 0
no_release-refused = (
  acyclic_by_table (edges no_release) 1 refl refl,
  record {
    here = λ rule. (let r = rule 0 refl in no_release-none r.0 r.1);
    before = λ k h. absurd (omega arith);
  },
)

nine_fills-need : IsNeed nine_fills 11
nine_fills-need = need_is nine_fills refl

two_sections-need : IsNeed two_sections 6
two_sections-need = need_is two_sections refl

ordered_fills-need : IsNeed ordered_fills 1
ordered_fills-need = need_is ordered_fills refl

empty-need : IsNeed (graph [] []) 1
empty-need = need_is (graph [] []) refl
