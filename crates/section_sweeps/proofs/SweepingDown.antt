-- A sweep down, place by place.
use Rattle.std.proofs.Common.{◌≡◌, ℕ, ◌+◌, ◌<◌, ◌≤◌, inl, inr, List, length, sym, ◌∙◌, ap, subst, arith}
use Rattle.std.specs.Prelude.{slice_index, slice_set, Contains, Vec}
use Rattle.std.specs.Global.{Global}
use Rattle.graph_terms.specs.declared.verb.Edge.{Edge}
use Rattle.graph_terms.specs.Graph.{GraphValue}
use Rattle.graph_terms.specs.Edges.{edges}
use Rattle.section_sweeps.specs.declared.passing.Passing.{Passing}
use Rattle.section_sweeps.specs.declared.lookups.Table.{Table}
use Rattle.section_sweeps.specs.Table.{IsTable}
use Rattle.section_sweeps.specs.Passing.{HasBit, HasEither, HaveNone, AreWithin, IsSized, IsFromTargets, AreFromBehind, AreSourcesFrom}
use Rattle.section_sweeps.proofs.PassingSteps.{AreDownTo, down_begins, down_step, sources_step, either_cases}

-- the lines from place x on have been swept
pub record AreSweptDown (g : GraphValue) (places : List ℕ) (high : ℕ) (a r : Passing) (x stop : ℕ) : Type 0 where
  pub acquires_size : IsSized (length g.lines) a
  pub releases_size : IsSized (length g.lines) r
  pub acquires_is : AreFromBehind g a.own.items a.passed.items
  pub releases_is : AreFromBehind g r.own.items r.passed.items
  pub down : AreDownTo g places r.own.items r.passed.items x
  pub sources : AreSourcesFrom g places a r x stop
  pub acquires_within : AreWithin places a.passed.items x high
  pub releases_within : AreWithin places r.passed.items x high

-- a line was passed the bits of those that its edges lead to
pub record IsPassing (g : GraphValue) (line : ℕ) (old new : Passing) : Type 0 where
  pub own : new.own ≡ old.own
  pub word : ℕ
  pub passed : new.passed.items ≡ slice_set old.passed.items line word
  pub words : IsFromTargets g old.own.items old.passed.items line word

module _ (g : GraphValue) (t : Table) (is : IsTable g t) (high : ℕ) where
  pub down_none : (a r : Passing) (low : ℕ) → IsSized (length g.lines) a → IsSized (length g.lines) r → HaveNone a.passed.items → HaveNone r.passed.items → ((i b : ℕ) → HasBit r.own.items i b → slice_index t.places.items i < high) → AreSweptDown g t.places.items high a r high low
  down_none a r low sa sr na nr ends = record {
    acquires_size = sa;
    releases_size = sr;
    acquires_is = λ i b h. absurd (na i b h);
    releases_is = λ i b h. absurd (nr i b h);
    down = down_begins g t.lines.items t.places.items is.placed is.forward r.own.items r.passed.items high ends nr;
    sources = λ e b c few from has none. elim (either_cases r.own.items r.passed.items e.to b has) [
      | inl own ↦ (let l = ends e.to b own in absurd (omega (arith, l, from)))
      | inr passed ↦ absurd (nr e.to b passed)
    ];
    acquires_within = λ i b h. absurd (na i b h);
    releases_within = λ i b h. absurd (nr i b h);
  }

  pub down_more : (a r b s : Passing) (x line stop least : ℕ) → x < length g.lines → x < high → line ≡ slice_index t.lines.items x → AreSweptDown g t.places.items high a r (x + 1) stop → IsPassing g line a b → IsPassing g line r s → least ≤ stop →
      ((e : Edge) (k : ℕ) → Contains (edges g) e → k < 64 → e.to ≡ line → HasEither s.own.items s.passed.items line k → (HasEither b.own.items b.passed.items line k → ⊥) → least ≤ slice_index t.places.items e.from) → AreSweptDown g t.places.items high b s x least
  down_more a r b s x line stop least small below at w pa pr less here =
      let da = down_step g t.lines.items t.places.items is.placed is.forward a.own.items a.passed.items b.passed.items x line pa.word high small w.acquires_size.passed at pa.passed pa.words below w.acquires_is w.acquires_within in
      let dr = down_step g t.lines.items t.places.items is.placed is.forward r.own.items r.passed.items s.passed.items x line pr.word high small w.releases_size.passed at pr.passed pr.words below w.releases_is w.releases_within in
      record {
        acquires_size = record { own = ap (λ (v : Vec ℕ Global). length v.items) pa.own ∙ w.acquires_size.own; passed = da.0 };
        releases_size = record { own = ap (λ (v : Vec ℕ Global). length v.items) pr.own ∙ w.releases_size.own; passed = dr.0 };
        acquires_is = subst (λ (v : Vec ℕ Global). AreFromBehind g v.items b.passed.items) (sym pa.own) da.2;
        releases_is = subst (λ (v : Vec ℕ Global). AreFromBehind g v.items s.passed.items) (sym pr.own) dr.2;
        down = subst (λ (v : Vec ℕ Global). AreDownTo g t.places.items v.items s.passed.items x) (sym pr.own) (dr.1 w.down);
        sources = sources_step g t.lines.items t.places.items is.placed is.forward a r b s x line pa.word pr.word stop least small at pa.own pr.own pa.passed pr.passed less here w.sources;
        acquires_within = da.3;
        releases_within = dr.3;
      }
