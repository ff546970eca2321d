use Rattle.std.proofs.Common.{ℕ, length, sym, ap, ◌∙◌, subst, arith}
use Rattle.std.specs.Prelude.{slice_index}
use Rattle.section_sweeps.specs.Passing.{HasBit}
use Rattle.graph_terms.specs.Reservations.{Acquires}
use Rattle.graph_meaning.specs.Rules.{Section}
use Rattle.sweep_base.specs.Bits.{bit_in}
use Rattle.sweep_base.proofs.Public.{none_left}
use Rattle.section_sweeps.proofs.RuleSteps.{inside_parts, inside_from, inside_section}
use Rattle.section_sweeps.proofs.group.Group.keeps_rules_at.Goals as goal

pub keep_all-requires-clause-sections : goal.keep_all-requires-clause-sections
keep_all-requires-clause-sections c b l low set a =
    let g = c.args.graph.now in
    let s = c.args.self.now in
    let two = inside_parts c.passed.result c.passed-2.result b set in
    let w = c.requires.swept in
    let is = ap (λ xs. slice_index xs b) c.as_slice-2.ensures.value in
    subst (λ q. Section g l q c.args.line) (sym is)
    (inside_section g w.0 s w.1 w.2 w.3 c.args.line b l (ap (λ z. bit_in z b) (sym c.passed.ensures) ∙ two.0) (ap (λ z. bit_in z b) (sym c.passed-2.ensures) ∙ two.1) (subst (λ q. Acquires g q l) is a))

pub returns-clause-passed : goal.returns-clause-passed
returns-clause-passed c h =
    let g = c.args.graph.now in
    let s = c.args.self.now in
    let w = c.requires.swept.3 in
    record {
      placed = c.outside.ensures c.if-outside-ne0.false;
      descends = λ b l k begun ended a other. (
          let low = (w.behind_is c.args.line b begun).0 in
          let is = ap (λ xs. slice_index xs b) c.as_slice.ensures.value in
          c.descends.ensures c.if-not-descends.false b l k (omega (arith, low, ap length c.as_slice.ensures.value))
          (inside_from c.passed.result c.passed-2.result b (ap (λ z. bit_in z b) c.passed.ensures ∙ begun) (ap (λ z. bit_in z b) c.passed-2.ensures ∙ ended)) (subst (λ q. Acquires g q l) (sym is) a) other);
      kept = λ b l begun ended a. (
          let low = (w.behind_is c.args.line b begun).0 in
          let is = ap (λ xs. slice_index xs b) c.as_slice-2.ensures.value in
          c.in_ok-keep_all.ensures.kept b l (omega (arith, low, ap length c.as_slice-2.ensures.value))
          (inside_from c.passed.result c.passed-2.result b (ap (λ z. bit_in z b) c.passed.ensures ∙ begun) (ap (λ z. bit_in z b) c.passed-2.ensures ∙ ended)) (subst (λ q. Acquires g q l) (sym is) a));
    }

pub returns-then-inside-eq0-clause-passed : goal.returns-then-inside-eq0-clause-passed
returns-then-inside-eq0-clause-passed c h =
    let none : (b : ℕ) → HasBit c.args.self.now.behind.passed.items c.args.line b → HasBit c.args.self.now.to_releases.passed.items c.args.line b → ⊥ = λ b begun ended.
    none_left _ b c.if-inside-eq0.true (inside_from c.passed.result c.passed-2.result b (ap (λ z. bit_in z b) c.passed.ensures ∙ begun) (ap (λ z. bit_in z b) c.passed-2.ensures ∙ ended)) in
    record {
      placed = c.outside.ensures c.if-outside-ne0.false;
      descends = λ b l k begun ended a other. absurd (none b begun ended);
      kept = λ b l begun ended a. absurd (none b begun ended);
    }
