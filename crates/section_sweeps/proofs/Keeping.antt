-- What is kept of the sections of lines.
use Rattle.std.proofs.Common.{◌≡◌, ℕ, inl, inr, length, sym, ◌∙◌, subst}
use Rattle.std.specs.Prelude.{None}
use Rattle.std.proofs.lemmas.Option.{none-some}
use Rattle.graph_terms.specs.Graph.{GraphValue}
use Rattle.graph_terms.specs.Reservations.{Acquires}
use Rattle.graph_meaning.specs.Rules.{Section}
use Rattle.graph_terms.proofs.Public.{acquire_one}
use Rattle.sweep_base.specs.declared.line_sections.Held.{Held}
use Rattle.sweep_base.specs.Held.{IsKeeping, acquire_in}
use Rattle.section_sweeps.specs.Sections.{AreHeldSoFar, IsGrown, IsKept}

pub nothing_held : (g : GraphValue) (h : Held) → length h.lines.items ≡ length g.lines → ((l i : ℕ) → acquire_in h l i ≡ None) → AreHeldSoFar g h
nothing_held g h size none = record { size = size; is = λ l i q e. absurd (none-some q (sym (none l i) ∙ e)) }

-- one acquire more is kept for a line
module _ (g : GraphValue) (h after : Held) (l i q : ℕ) (k : IsKeeping h after l i q) where
  pub keep_held : AreHeldSoFar g h → Section g l q i → AreHeldSoFar g after
  keep_held so s = record {
    size = k.size ∙ so.size;
    is = λ m j p e. elim (k.is m j p e) [
      | inl old ↦ so.is m j p old
      | inr new ↦ subst (λ z. Section g z p j) (sym new.0) (subst (λ z. Section g l p z) (sym new.1) (subst (λ z. Section g l z i) (sym new.2) s))
    ];
  }

  pub keep_grown : IsGrown h after
  keep_grown m j kept none = k.grown m j kept none

  pub keep_kept : Acquires g q l → (m : ℕ) → Acquires g q m → IsKept after m i
  keep_kept acquires m other none = k.kept (subst (λ z. acquire_in after z i ≡ None) (acquire_one g q m l other acquires) none)
