use Rattle.std.proofs.Common.{◌≡◌, ◌+◌, ◌<◌, ℕ, length, sym, subst, arith}
use Rattle.section_sweeps.specs.PassedBlocks.{AreListed}
use Rattle.section_sweeps.proofs.Public.{passed_on, passed_back, few_listed, lines_known}
use Rattle.race_pairs.proofs.rivals.Rivals.new.Goals as goal

pub passed_forward-requires-clause-few : goal.passed_forward-requires-clause-few
passed_forward-requires-clause-few c = few_listed (λ q i. q ≡ i) c.args.first c.min-end.result c.as_slice-of.result.now (omega (arith, c.min-end.ensures)) (subst (AreListed (λ q i. q ≡ i) c.args.first c.min-end.result) (sym c.as_slice-of.ensures.value) c.in_ok-of.ensures)

pub passed_forward-requires-clause-known : goal.passed_forward-requires-clause-known
passed_forward-requires-clause-known c = lines_known (length c.args.graph.now.lines) c.args.first c.min-end.result c.as_slice-of.result.now (omega (arith, c.min-end.ensures, c.lines-lines.ensures.number)) (subst (AreListed (λ q i. q ≡ i) c.args.first c.min-end.result) (sym c.as_slice-of.ensures.value) c.in_ok-of.ensures)

pub passed_back-requires-clause-few : goal.passed_back-requires-clause-few
passed_back-requires-clause-few c = few_listed (λ q i. q ≡ i) c.args.first c.min-end.result c.as_slice-of.result.now (omega (arith, c.min-end.ensures)) (subst (AreListed (λ q i. q ≡ i) c.args.first c.min-end.result) (sym c.as_slice-of.ensures.value) c.in_ok-of.ensures)

pub passed_back-requires-clause-known : goal.passed_back-requires-clause-known
passed_back-requires-clause-known c = lines_known (length c.args.graph.now.lines) c.args.first c.min-end.result c.as_slice-of.result.now (omega (arith, c.min-end.ensures, c.lines-lines.ensures.number)) (subst (AreListed (λ q i. q ≡ i) c.args.first c.min-end.result) (sym c.as_slice-of.ensures.value) c.in_ok-of.ensures)

pub returns-clause-rivals : goal.returns-clause-rivals
returns-clause-rivals c =
    let g = c.args.graph.now in
    let t = c.args.table.now in
    let first = c.args.first in
    let end = c.min-end.result in
    let within : (b : ℕ) → b < 64 → first + b < length g.lines → first + b < end = λ b few low. omega (arith, c.min-end.ensures, few, low, c.lines-lines.ensures.number) in
    let lines = subst (AreListed (λ q i. q ≡ i) first end) (sym c.as_slice-of.ensures.value) c.in_ok-of.ensures in
    let e = c.in_ok-behind.ensures in
    let f = c.in_ok-before.ensures in
    record {
      known = c.requires.first;
      behind_is = passed_on g t c.requires.table (λ q i. q ≡ i) first end c.as_slice-of.result.now lines within c.in_ok-behind.behind e.size e.own c.lines-lines.result (omega (arith, c.lines-lines.ensures.number)) e.is e.all;
      before_is = passed_back g t c.requires.table (λ q i. q ≡ i) first end c.as_slice-of.result.now lines within c.in_ok-before.before f.size f.own f.is f.all;
      end = end;
      within = within;
      asked_is = c.in_ok-asked.ensures;
    }
