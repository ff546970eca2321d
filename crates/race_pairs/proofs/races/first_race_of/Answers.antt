use Rattle.std.proofs.Common.{◌≡◌, inl, inr, subst, arith}
use Rattle.std.proofs.lemmas.Bool.{cases_lt}
use Rattle.graph_meaning.specs.Rules.{Everywhere, RaceAt}
use Rattle.sweep_base.proofs.Public.{some_of, none_of}
use Rattle.race_pairs.proofs.Freeing.{none_noted, all_lines_free}
use Rattle.race_pairs.proofs.races.first_race_of.Goals as goal

pub returns-then-unnoted-lines : goal.returns-then-unnoted-lines
returns-then-unnoted-lines c = none_noted c.args.graph.now c.args.racing.now c.lines-lines.result (omega (arith, c.requires.size, c.lines-lines.ensures.number)) c.requires.enough
    (λ r z low. c.unnoted_lines-unnoted.ensures.unnoted r (omega (arith, low, c.if-unnoted-lines.true)))

pub returns-then-free-lines : goal.returns-then-free-lines
returns-then-free-lines c = all_lines_free c.args.graph.now c.in_ok-free.free (omega (arith, c.if-free-lines.true, c.lines-lines.ensures.number)) c.in_ok-free.ensures

pub returns-in-Some : goal.returns-in-Some
returns-in-Some c =
    let e = some_of _ _ c.in_ok-rival.rival c.in-Some.other c.in-Some.is c.in_ok-rival.ensures in (
      omega (arith, c.if-free-lines.false, c.lines-lines.ensures.number),
      e.0,
      record { here = e.1; before = λ k m h. c.in_ok-free.ensures k h m; beside = e.2 },
    )

pub first_race_in-requires-clause-start : goal.first_race_in-requires-clause-start
first_race_in-requires-clause-start c k h = elim (cases_lt k c.in_ok-free.free) [
  | inl l ↦ c.in_ok-free.ensures k l
  | inr up ↦ subst (λ z. Everywhere (RaceAt c.args.graph.now z)) (let e : c.in_ok-free.free ≡ k = omega arith in e) (none_of _ _ c.in_ok-rival.rival c.in_default.is c.in_ok-rival.ensures)
]
