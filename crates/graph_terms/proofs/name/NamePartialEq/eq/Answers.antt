use Rattle.std.proofs.Common.{◌≡◌, ℕ, ◌≤◌, length, take, sym, ap, ◌∙◌, List, length-take, arith}
use Rattle.std.proofs.lemmas.Bool.{eqb-true}
use Rattle.graph_terms.specs.declared.format.Format.TheVariants.{Three}
use Rattle.graph_terms.specs.Name.{is_name_in}
use Rattle.graph_terms.proofs.NameOrder.{short_same}
use Rattle.graph_terms.proofs.name.NamePartialEq.eq.Goals.{then-self-other, else-self-other}
use Rattle.graph_terms.proofs.name.NamePartialEq.eq.Goals as goal

-- a name has as many bytes as were taken for it
as_many : (n : ℕ) (bytes name : List ℕ) → n ≤ length bytes → take n bytes ≡ name → n ≡ length name
as_many n bytes name h e = sym (let l : length (take n bytes) ≡ n = simp length-take (omega arith) in l) ∙ ap length e

pub returns-then-self-le8 : goal.returns-then-self-le8
returns-then-self-le8 c = elim c.if-self-other.branch [
  | then-self-other w ↦ (
      short_same c.args.self.now c.args.other.now (ap (is_name_in Three) (sym c.self.view_is) ∙ c.self.invariant.padded.named) (ap (is_name_in Three) (sym c.other.view_is) ∙ c.other.invariant.padded.named)
      c.self.inside.len c.other.inside.len w.front.result w.front-then-self-other.result
      (as_many c.self.inside.len c.self.inside.bytes c.args.self.now c.self.invariant.padded.short c.self.view_is)
      (as_many c.other.inside.len c.other.inside.bytes c.args.other.now c.other.invariant.padded.short c.other.view_is)
      w.front.ensures w.front-then-self-other.ensures
      (eqb-true w.front.result w.front-then-self-other.result (sym w.value-is ∙ c.if-front.true)) w.if-self-other.true c.if-self-le8.true
      )
  | else-self-other w ↦ absurd (w.if-self-other.false (eqb-true c.self.inside.len c.other.inside.len (sym w.value-is ∙ c.if-front.true)))
]
