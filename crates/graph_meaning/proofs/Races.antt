-- Conflicts and exemptions seen from the other line. Lines of an accepted graph that conflict have a path between them, or are exempt.
use Rattle.std.proofs.Common.{◌≡◌, true, inl, inr, refl, sym, ◌∙◌, subst}
use Rattle.std.proofs.lemmas.Bool.{true≢false, cases_order}
use Rattle.graph_terms.specs.declared.verb.Mode.{Mode}
use Rattle.graph_terms.specs.declared.verb.Mode.TheVariants.{Read, Write, Sum, Least, Most}
use Rattle.graph_terms.specs.Access.{modes_clash}
use Rattle.graph_meaning.specs.Path.{last, first}
use Rattle.graph_terms.proofs.Public.{both_shared_swap}
use Rattle.graph_meaning.specs.Laws.{AccessesConflictBack, ModesCommuteBack, LinesConflictBack, ExemptBack, CommutingModes, ConflictHasPathOrExempt, BeforeEndedHasEnded}

-- SEEN FROM THE OTHER LINE
clash_back : (a b : Mode) → modes_clash a b ≡ modes_clash b a
clash_back Read Read = refl
clash_back Read Write = refl
clash_back Read Sum = refl
clash_back Read Least = refl
clash_back Read Most = refl
clash_back Write Read = refl
clash_back Write Write = refl
clash_back Write Sum = refl
clash_back Write Least = refl
clash_back Write Most = refl
clash_back Sum Read = refl
clash_back Sum Write = refl
clash_back Sum Sum = refl
clash_back Sum Least = refl
clash_back Sum Most = refl
clash_back Least Read = refl
clash_back Least Write = refl
clash_back Least Sum = refl
clash_back Least Least = refl
clash_back Least Most = refl
clash_back Most Read = refl
clash_back Most Write = refl
clash_back Most Sum = refl
clash_back Most Least = refl
clash_back Most Most = refl

pub commute_back : ModesCommuteBack
commute_back Read Read = refl
commute_back Read Write = refl
commute_back Read Sum = refl
commute_back Read Least = refl
commute_back Read Most = refl
commute_back Write Read = refl
commute_back Write Write = refl
commute_back Write Sum = refl
commute_back Write Least = refl
commute_back Write Most = refl
commute_back Sum Read = refl
commute_back Sum Write = refl
commute_back Sum Sum = refl
commute_back Sum Least = refl
commute_back Sum Most = refl
commute_back Least Read = refl
commute_back Least Write = refl
commute_back Least Sum = refl
commute_back Least Least = refl
commute_back Least Most = refl
commute_back Most Read = refl
commute_back Most Write = refl
commute_back Most Sum = refl
commute_back Most Least = refl
commute_back Most Most = refl

pub conflict_back : AccessesConflictBack
conflict_back g a b c = record { column = sym c.column; meet = (c.meet.0, c.meet.2, c.meet.1); clash = clash_back b.mode a.mode ∙ c.clash }

pub lines_back : LinesConflictBack
lines_back g i j c = record { different = λ e. c.different (sym e); one = c.other; other = c.one; one_in = c.other_in; other_in = c.one_in; conflict = conflict_back g c.one c.other c.conflict }

pub exempt_back : ExemptBack
exempt_back g i j x = record {
  commute = λ a b ha hb c. commute_back a.mode b.mode ∙ x.commute b a hb ha (conflict_back g a b c);
  lock = x.lock;
  one = x.other;
  other = x.one;
  different = λ e. x.different (sym e);
  apart = both_shared_swap g x.other x.one ∙ x.apart;
  one_section = x.other_section;
  other_section = x.one_section;
}

-- uses that commute are reductions of one kind
pub commute_parts : CommutingModes
commute_parts Sum Sum h = (refl, refl)
commute_parts Least Least h = (refl, refl)
commute_parts Most Most h = (refl, refl)
commute_parts m n h = absurd (true≢false (sym h))

-- ORDER
-- all lines with a path to a line whose sources have ended have ended, where each ended line's sources have
pub before_ended : BeforeEndedHasEnded
before_ended all ended closed i j sources (last e c p q) = subst (λ x. ended x ≡ true) p (sources e c q)
before_ended all ended closed i j sources (first e c p r) = subst (λ x. ended x ≡ true) p (closed e c (before_ended all ended closed e.to j sources r))

-- two lines that conflict have a path one way or the other, or are exempt
pub path_or_exempt : ConflictHasPathOrExempt
path_or_exempt g accepted i j c = elim (cases_order i j) [
  | inl same ↦ absurd (c.different same)
  | inr (inl below) ↦ accepted.races i j below c
  | inr (inr above) ↦ elim (accepted.races j i above (lines_back g i j c)) [
    | inl p ↦ inr (inl p)
    | inr (inl p) ↦ inl p
    | inr (inr x) ↦ inr (inr (exempt_back g j i x))
  ]
]
