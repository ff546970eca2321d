-- What holds of the acquires and releases of a graph whose items fit: an acquire's reservation is declared, a release names an acquire, and an acquire has one release.
use Rattle.std.proofs.Common.{◌≡◌, ℕ, zero, suc, ◌+◌, ◌<◌, Bool, true, false, not, ◌||◌, inl, inr, List, [], ◌∷◌, ◌++◌, length, map, refl, sym, ◌∙◌, ap, subst, append_assoc, length-append, arith}
use Rattle.std.specs.Prelude.{nat_eq, Option, Some, None, slice_get, option_map}
use Rattle.std.specs.Option.{option_map_or}
use Rattle.std.specs.List.{list_any}
use Rattle.std.proofs.lemmas.Bool.{true≢false, or_parts, or_left, or_right, not-false, cases_order, leb-false}
use Rattle.std.proofs.lemmas.Option.{none-some, same_Some}
use Rattle.graph_terms.specs.declared.format.Format.{Format}
use Rattle.graph_terms.specs.declared.decl.Decl.{Decl}
use Rattle.graph_terms.specs.declared.verb.Line.{Line}
use Rattle.graph_terms.specs.declared.verb.Verb.{Verb}
use Rattle.graph_terms.specs.declared.verb.Verb.TheVariants.{Acquire, Release}
use Rattle.graph_terms.specs.Graph.{GraphValue, verb_at, line_passes, is_acquire, is_shared, is_release_of, locks}
use Rattle.graph_terms.specs.Reservations.{Releases}
use Rattle.graph_terms.specs.declared.verb.Access.{Access}
use Rattle.graph_terms.specs.Access.{verb_accesses}
use Rattle.graph_terms.specs.Fits.{is_used, repeats, line_tests, line_fault, verb_repeats, verb_unlike, on_unlike, format_lacks, LinesFit, IsGraph}
use Rattle.graph_terms.proofs.AcquireLaws.{acquire_unknown}
use Rattle.graph_terms.proofs.GraphFacts.{none_first, verb_known}
use Rattle.graph_terms.proofs.VerbFacts.{verb_line, acquire_is, release_is, is_acquire_from}
use Rattle.graph_terms.specs.declared.why.Why.TheVariants as why
use Rattle.graph_terms.specs.Laws.{ReservationOfVerbDeclared, ReservationOfLineDeclared, ReleaseNamesAcquire, OneRelease}

-- the reservation of an acquire is declared
pub lock_known : ReservationOfVerbDeclared
lock_known g f i k l at s is = leb-false (length (locks g)) k (sym (acquire_unknown g k s) ∙ (verb_known g f i l (Acquire k s) at is).1)

-- the same for any line that acquires it
pub acquired_lock_known : ReservationOfLineDeclared
acquired_lock_known g f i k a =
    let l = verb_line g i (Acquire k (line_passes is_shared g i)) (acquire_is g i k a) in
    lock_known g f i k l.0 l.1 (line_passes is_shared g i) l.2

-- the lines of a graph before one of them, that line, and those after it
pub record IsCut (fm : Format) (decls : List Decl) (all before : List Line) (l : Line) (behind : List Line) : Type 0 where
  pub split : all ≡ before ++ l ∷ behind
  pub fits : line_fault (record { format = fm; decls = decls; lines = before }) l ≡ None

regroup : (a : List Line) (l : Line) (ls : List Line) → a ++ l ∷ ls ≡ (a ++ l ∷ []) ++ ls
regroup a l ls = sym (append_assoc a (l ∷ []) ls)

-- the cut at a line
pub cut_at : (fm : Format) (decls : List Decl) (before ls : List Line) → LinesFit fm decls before ls → (k : ℕ) (l : Line) → slice_get ls k ≡ Some l →
    (b : List Line) × (behind : List Line) × IsCut fm decls (before ++ ls) b l behind × (length b ≡ length before + k)
cut_at fm decls before [] f k l h = absurd (none-some l h)
cut_at fm decls before (m ∷ ls) f zero l h =
    (before, ls, subst (λ x. IsCut fm decls (before ++ m ∷ ls) before x ls) (same_Some m l h) (record { split = refl; fits = f.1 }), (let e : length before ≡ length before + 0 = omega arith in e))
cut_at fm decls before (m ∷ ls) f (suc k) l h =
    let c = cut_at fm decls (before ++ m ∷ []) ls f.2 k l h in
    let one : length (before ++ m ∷ []) ≡ length before + 1 = length-append before (m ∷ []) in
    let at : length c.0 ≡ length (before ++ m ∷ []) + k = c.3 in
    (c.0, c.1, record { split = regroup before m ls ∙ c.2.split; fits = c.2.fits }, (let e : length c.0 ≡ length before + suc k = omega arith in e))

-- whether the line at this place of a list passes
abbrev at_passes : (Verb → Bool) → List Line → ℕ → Bool
at_passes t ls i = option_map_or t (option_map (λ (l : Line). l.verb) (slice_get ls i)) false

at_middle : (b : List Line) (l : Line) (behind : List Line) → slice_get (b ++ l ∷ behind) (length b) ≡ Some l
at_middle [] l behind = refl
at_middle (x ∷ b) l behind = at_middle b l behind

passes_more : (t : Verb → Bool) (b more : List Line) (i : ℕ) → at_passes t b i ≡ true → at_passes t (b ++ more) i ≡ true
passes_more t [] more i h = absurd (true≢false (sym h))
passes_more t (x ∷ b) more zero h = h
passes_more t (x ∷ b) more (suc i) h = passes_more t b more i h

passes_before : (t : Verb → Bool) (b more : List Line) (i : ℕ) → i < length b → at_passes t (b ++ more) i ≡ true → list_any (λ (l : Line). t l.verb) b ≡ true
passes_before t [] more i h p = absurd (omega arith)
passes_before t (x ∷ b) more zero h p = or_left (t x.verb) (list_any (λ (l : Line). t l.verb) b) p
passes_before t (x ∷ b) more (suc i) h p = or_right (t x.verb) (list_any (λ (l : Line). t l.verb) b) (passes_before t b more i (omega arith) p)

acquire_by : (v : Verb) → is_acquire v ≡ true → (l : ℕ) × (s : Bool) × (v ≡ Acquire l s)
acquire_by (Acquire l s) h = (l, s, refl)
acquire_by v h = absurd (true≢false (sym h))

some_acquire : (o : Option Verb) → option_map_or is_acquire o false ≡ true → (l : ℕ) × (s : Bool) × (o ≡ Some (Acquire l s))
some_acquire None h = absurd (true≢false (sym h))
some_acquire (Some v) h = let a = acquire_by v h in (a.0, a.1, ap Some a.2)

-- the cut at a release
release_cut : (g : GraphValue) → IsGraph g → (r q : ℕ) → Releases g r q → (b : List Line) × (l : Line) × (behind : List Line) × IsCut g.format g.decls g.lines b l behind × (length b ≡ r) × (l.verb ≡ Release q)
release_cut g f r q h =
    let l = verb_line g r (Release q) (release_is g r q h) in
    let c = cut_at g.format g.decls [] g.lines f.lines r l.0 l.1 in
    let at : length c.0 ≡ 0 + r = c.3 in
    (c.0, l.0, c.1, c.2, (let e : length c.0 ≡ r = omega arith in e), l.2)

-- a release names an acquire
pub release_names : ReleaseNamesAcquire
release_names g f r q h =
    let c = release_cut g f r q h in
    let g' : GraphValue = record { format = g.format; decls = g.decls; lines = c.0 } in
    let others : Bool = on_unlike g.format c.1.verb c.1.on || format_lacks g.format c.1.verb in
    let kind = or_parts (verb_unlike g' c.1.verb) others (none_first (line_tests g' c.1) c.3.fits (verb_unlike g' c.1.verb || others, why.Kind) (2, omega arith, refl)) in
    let unlike : not (line_passes is_acquire (record { format = g.format; decls = g.decls; lines = c.0 }) q) ≡ false = ap (verb_unlike (record { format = g.format; decls = g.decls; lines = c.0 })) (sym c.5) ∙ kind.0 in
    let before : at_passes is_acquire c.0 q ≡ true = not-false (line_passes is_acquire (record { format = g.format; decls = g.decls; lines = c.0 }) q) unlike in
    let all : line_passes is_acquire g q ≡ true = ap (λ ls. at_passes is_acquire ls q) c.3.split ∙ passes_more is_acquire c.0 (c.1 ∷ c.2) q before in
    let l = some_acquire (verb_at g q) all in
    (l.0, is_acquire_from g q l.0 l.1 l.2)

repeats_not : (g : GraphValue) (l : Line) → line_fault g l ≡ None → verb_repeats g l.verb ≡ false
repeats_not g l h =
    let others_repeat : Bool = repeats nat_eq (map (λ (a : Access). a.column) (verb_accesses l.verb)) || repeats nat_eq l.on in
    let first = or_parts (is_used g l.name) (verb_repeats g l.verb || others_repeat) (none_first (line_tests g l) h (is_used g l.name || (verb_repeats g l.verb || others_repeat), why.Twice) (0, omega arith, refl)) in
    (or_parts (verb_repeats g l.verb) others_repeat first.1).0

no_earlier : (g : GraphValue) → IsGraph g → (r s q : ℕ) → Releases g r q → Releases g s q → s < r → ⊥
no_earlier g f r s q h k lower =
    let c = release_cut g f r q h in
    let at : length c.0 ≡ r = c.4 in
    let fresh : verb_repeats (record { format = g.format; decls = g.decls; lines = c.0 }) (Release q) ≡ false = ap (verb_repeats (record { format = g.format; decls = g.decls; lines = c.0 })) (sym c.5) ∙ repeats_not (record { format = g.format; decls = g.decls; lines = c.0 }) c.1 c.3.fits in
    true≢false (sym (passes_before (is_release_of q) c.0 (c.1 ∷ c.2) s (omega arith) (ap (λ ls. at_passes (is_release_of q) ls s) (sym c.3.split) ∙ k)) ∙ fresh)

-- an acquire has one release
pub one_release : OneRelease
one_release g f q r s h k = elim (cases_order r s) [
  | inl same ↦ same
  | inr (inl below) ↦ absurd (no_earlier g f s r q k h below)
  | inr (inr above) ↦ absurd (no_earlier g f r s q h k above)
]
