use Rattle.std.proofs.Common.{length, ap, ◌∙◌, arith}
use Rattle.std.specs.Prelude.{slice_index}
use Rattle.race_check.proofs.Insides.{to_known}
use Rattle.race_check.proofs.KeepSteps.{sections_of_word, kept_here}
use Rattle.race_check.proofs.line_sections.keep_block.Goals as goal

pub loop-line-init : goal.loop-line-init
loop-line-init c = record { held = c.requires.held; grown = λ l i h. h; kept = λ q l i from to low. absurd (omega arith) }

pub of-requires-clause-inside : goal.of-requires-clause-inside
of-requires-clause-inside c = (c.args.first, c.in_ok-inside.ensures)

pub keep_all-requires-clause-few : goal.keep_all-requires-clause-few
keep_all-requires-clause-few c = omega (arith, ap length c.as_slice.ensures.value, c.in_ok-acquires.ensures.size, c.min.ensures)

pub keep_all-requires-clause-acquires : goal.keep_all-requires-clause-acquires
keep_all-requires-clause-acquires c b h =
    let size = ap length c.as_slice.ensures.value in
    let each = c.in_ok-acquires.ensures.each b (omega (arith, h, size, c.in_ok-acquires.ensures.size)) in
    let read = ap (λ xs. slice_index xs b) c.as_slice.ensures.value in
    omega (arith, h, size, c.in_ok-acquires.ensures.size, c.min.ensures, each, read, c.lines-lines.ensures.number)

pub keep_all-requires-clause-sections : goal.keep_all-requires-clause-sections
keep_all-requires-clause-sections c =
    let xs = c.as_slice.result.now in
    let size = ap length c.as_slice.ensures.value in
    sections_of_word c.args.graph.now c.args.first c.loop-line.line c.of.result xs (omega (arith, size, c.in_ok-acquires.ensures.size, c.min.ensures))
    (λ b h. ap (λ ys. slice_index ys b) c.as_slice.ensures.value ∙ c.in_ok-acquires.ensures.each b (omega (arith, h, size, c.in_ok-acquires.ensures.size))) (c.of.ensures c.args.first c.in_ok-inside.ensures)

pub loop-line-preserved : goal.loop-line-preserved
loop-line-preserved c =
    let g = c.args.graph.now in
    let first = c.args.first in
    let end = c.min.result in
    let xs = c.as_slice.result.now in
    let size = ap length c.as_slice.ensures.value in
    let e = c.in_ok-keep_all.ensures in
    let inv = c.loop-line.invariant in
    record {
      held = e.held;
      grown = λ l i h. e.grown l i (inv.grown l i h);
      kept = kept_here g c.loop-line.held c.keep_all.new.held first end c.loop-line.line c.of.result xs (size ∙ c.in_ok-acquires.ensures.size)
          (λ b h. ap (λ ys. slice_index ys b) c.as_slice.ensures.value ∙ c.in_ok-acquires.ensures.each b (omega (arith, h, size, c.in_ok-acquires.ensures.size)))
          (λ b few low. omega (arith, c.min.ensures, few, low, c.lines-lines.ensures.number)) (c.of.ensures first c.in_ok-inside.ensures) e.grown e.kept inv.kept;
    }

pub returns-clause-kept : goal.returns-clause-kept
returns-clause-kept c q l i from to sec =
    let g = c.args.graph.now in
    let known = to_known g (λ e k. c.edges_between_lines.ensures g e c.lines-lines.ensures.is_graph k) q i sec.entered in
    c.loop-line.invariant.kept q l i from to (omega (arith, known, c.loop-line-test.false, c.lines-lines.ensures.number)) sec
