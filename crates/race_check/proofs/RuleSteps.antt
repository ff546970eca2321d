-- The rules of single lines, line by line.
use Rattle.std.proofs.Common.{◌≡◌, ℕ, ◌+◌, ◌<◌, ◌≤◌, Bool, true, false, inl, inr, List, [], length, refl, sym, ◌∙◌, ap, subst, arith}
use Rattle.std.specs.Prelude.{Option, Some, None, IsTrue, ◌↔◌, slice_get, Contains}
use Rattle.std.proofs.lemmas.Bool.{true≢false, cases_lt, eq-eqb}
use Rattle.std.proofs.lemmas.Option.{none-some, same_Some}
use Rattle.std.proofs.lemmas.List.Elements.{Contains-append_right}
use Rattle.graph_terms.specs.declared.verb.Line.{Line}
use Rattle.graph_terms.specs.Graph.{GraphValue, is_release_of}
use Rattle.graph_terms.specs.Fits.{IsGraph, named_lines}
use Rattle.graph_terms.specs.Reservations.{Acquires, Releases}
use Rattle.graph_meaning.specs.Rules.{ReleasedAt, ReleaseFaultAt, Everywhere, FailsFirst, stands_on_merges}
use Rattle.race_check.specs.Blocks.{IsFirstIn}
use Rattle.section_sweeps.specs.Releases.{release_in, AreReleases}
use Rattle.graph_terms.proofs.Public.{release_of_is, release_is, is_release_from, passes_below, named_below}
use Rattle.sweep_base.proofs.Public.{verb_of}
use Rattle.graph_terms.proofs.ReleaseFacts.{cut_at}
use Rattle.graph_terms.specs.declared.verb.Verb.TheVariants.{Release}
use Rattle.graph_meaning.specs.Path.{HasPath}

-- a rule that holds below a number and from it on
pub everywhere_by : (R : ℕ → Type 0) (n : ℕ) → ((i : ℕ) → n ≤ i → R i) → ((i : ℕ) → i < n → R i) → Everywhere R
everywhere_by R n beyond below i = elim (cases_lt i n) [ inl l ↦ below i l | inr up ↦ beyond i up ]

pub below_with : (R : ℕ → Type 0) (n : ℕ) → ((k : ℕ) → k < n → R k) → R n → (k : ℕ) → k < n + 1 → R k
below_with R n below here k h = elim (cases_lt k n) [ inl l ↦ below k l | inr up ↦ subst R (let e : n ≡ k = omega arith in e) here ]

-- a rule of lines that is tried block by block
pub first_found : (R : ℕ → Type 0) (first end i : ℕ) → ((k : ℕ) → k < first → R k) → IsFirstIn R first end i → FailsFirst R i
first_found R first end i before f = record { here = f.here; before = λ k h. elim (cases_lt k first) [ inl l ↦ before k l | inr up ↦ f.before k up h ] }

pub lines_more : (R : ℕ → Type 0) (first end : ℕ) → ((k : ℕ) → k < first → R k) → ((k : ℕ) → first ≤ k → k < end → R k) → (k : ℕ) → k < end → R k
lines_more R first end before here k h = elim (cases_lt k first) [ inl l ↦ before k l | inr up ↦ here k up h ]

-- an acquire and its release
pub released_none : (g : GraphValue) (i : ℕ) → ((l : ℕ) → Acquires g i l → ⊥) → IsTrue true ↔ ReleasedAt g i
released_none g i none = ((λ h l a. absurd (none l a)), (λ r. refl))

pub release_known : (g : GraphValue) (releases : List (Option ℕ)) → AreReleases g releases → (i r : ℕ) → release_in releases i ≡ Some r → r < length g.lines
release_known g releases are i r e = passes_below (is_release_of i) g r (are.table.0 i r e)

pub released_by : (g : GraphValue) (releases : List (Option ℕ)) → AreReleases g releases → (i l r : ℕ) (b : Bool) → Acquires g i l → (IsTrue b ↔ HasPath g i r) → release_in releases i ≡ Some r → IsTrue b ↔ ReleasedAt g i
released_by g releases are i l r b a is e = (
  (λ h k x. (r, are.table.0 i r e, is.0 h)),
  (λ rule. (let k = rule l a in
      let same : r ≡ k.0 = same_Some r k.0 (sym e ∙ are.table.1 i k.0 k.1) in
      is.1 (subst (λ z. HasPath g i z) (sym same) k.2))),
)

pub released_missing : (g : GraphValue) (releases : List (Option ℕ)) → AreReleases g releases → (i l : ℕ) → Acquires g i l → release_in releases i ≡ None → IsTrue false ↔ ReleasedAt g i
released_missing g releases are i l a e = (
  (λ h. absurd (true≢false (sym h))),
  (λ rule. (let r = rule l a in absurd (none-some r.0 (sym e ∙ are.table.1 i r.0 r.1)))),
)

-- a release and what it stands on
release_verb : (g : GraphValue) (i q : ℕ) (l : Line) → Releases g i q → slice_get g.lines i ≡ Some l → is_release_of q l.verb ≡ true
release_verb g i q l rel at = ap (is_release_of q) (same_Some l.verb (Release q) (sym (verb_of g i l at) ∙ release_is g i q rel)) ∙ eq-eqb q q refl

releases_of : (g : GraphValue) (i q : ℕ) (l : Line) → slice_get g.lines i ≡ Some l → is_release_of q l.verb ≡ true → Releases g i q
releases_of g i q l at r = is_release_from g i q (verb_of g i l at ∙ ap Some (release_of_is q l.verb r))

pub faultless_none : (g : GraphValue) (i : ℕ) → ((q : ℕ) → Releases g i q → ⊥) → IsTrue true ↔ ReleaseFaultAt g i
faultless_none g i none = ((λ h q l at r. absurd (none q (releases_of g i q l at r))), (λ r. refl))

pub faultless_by : (g : GraphValue) (i q : ℕ) (l : Line) (on : List ℕ) (b : Bool) → Releases g i q → slice_get g.lines i ≡ Some l → on ≡ l.on → b ≡ stands_on_merges g on → IsTrue b ↔ ReleaseFaultAt g i
faultless_by g i q l on b rel at same is = (
  (λ h p k e r. ap (λ (x : Line). stands_on_merges g x.on) (same_Some k l (sym e ∙ at)) ∙ (ap (stands_on_merges g) (sym same) ∙ (sym is ∙ h))),
  (λ rule. is ∙ (ap (stands_on_merges g) same ∙ rule q l at (release_verb g i q l rel at))),
)

-- what a line stands on are lines
pub on_known : (g : GraphValue) → IsGraph g → (i : ℕ) (l : Line) (on : List ℕ) → i < length g.lines → slice_get g.lines i ≡ Some l → on ≡ l.on → (m : ℕ) → Contains on m → m < length g.lines
on_known g f i l on below at same m c =
    let b = cut_at g.format g.decls [] g.lines f.lines i l at in
    let k : m < length b.0 = named_below (record { format = g.format; decls = g.decls; lines = b.0 }) l b.2.fits m (Contains-append_right (named_lines l.verb) l.on m (subst (λ xs. Contains xs m) same c)) in
    let size : length b.0 ≡ 0 + i = b.3 in omega arith
