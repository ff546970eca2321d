use Rattle.std.proofs.Common.{◌+◌, [], ◌∷◌, inl, inr, length, length-append, ◌∙◌, ap, sym, subst}
use Rattle.std.specs.Prelude.{◌≡◌, Vec, slice_get}
use Rattle.std.specs.Global.{Global}
use Rattle.sweep_base.specs.declared.line_sections.Kept.{Kept}
use Rattle.basics.proofs.ListParts.{got_cases}
use Rattle.sweep_base.proofs.Sections.{none_listed}
use Rattle.sweep_base.proofs.line_sections.Held.new.Goals as goal

pub loop-line-preserved : goal.loop-line-preserved
loop-line-preserved c = record {
  size = ap length c.in_ok-push.ensures.ok ∙ (length-append c.loop-line.lists.items (c.new.result ∷ []) ∙ ap (λ n. n + 1) c.loop-line.invariant.size);
  none = λ i v e. elim (got_cases c.loop-line.lists.items c.new.result i v (ap (λ xs. slice_get xs i) (sym c.in_ok-push.ensures.ok) ∙ e)) [
    | inl old ↦ c.loop-line.invariant.none i v old.1
    | inr new ↦ subst (λ (z : Vec Kept Global). z.items ≡ []) new.1 c.new.ensures.items
  ];
}

pub returns-clause-none : goal.returns-clause-none
returns-clause-none c l i = none_listed (record { lines = c.loop-line.lists }) l i (c.loop-line.invariant.none i)
