use Rattle.std.proofs.Common.{◌+◌, ◌-◌, ◌≡◌, inl, inr, subst, arith}
use Rattle.std.specs.Prelude.{Contains}
use Rattle.std.proofs.lemmas.Bool.{cases_lt}
use Rattle.graph_terms.specs.Access.{all_accesses}
use Rattle.race_pairs.specs.Races.{IsAsked}
use Rattle.race_pairs.proofs.block_conflicts.Asked.new.Goals as goal

pub loop-line-init : goal.loop-line-init
loop-line-init c = record { asked = record { used_size = omega (arith, c.in_ok-filled.ensures.size, c.all_columns-columns.ensures); changed_size = omega (arith, c.in_ok-filled-2.ensures.size, c.all_columns-columns.ensures); each = λ b a h. absurd (omega arith) } }

pub loop-line-preserved : goal.loop-line-preserved
loop-line-preserved c =
    let e = c.add_line.ensures in
    let inv = c.loop-line.invariant.asked in
    let n = c.loop-line.line in
    let first = c.args.first in
    record {
      asked = record {
        used_size = e.used_size;
        changed_size = e.changed_size;
        each = λ b a h has. elim (cases_lt (first + b) n) [
          | inl low ↦ e.kept a b (inv.each b a low has)
          | inr up ↦ (
              let at : first + b ≡ n = omega arith in
              let bit : n - first ≡ b = omega arith in
              subst (λ z. IsAsked c.add_line.new.self.used.items c.add_line.new.self.changed.items a z) bit (e.added a (subst (λ z. Contains (all_accesses c.args.graph.now z) a) at has)))
        ];
      };
    }
