use Rattle.std.proofs.Common.{◌≡◌, ◌+◌, ◌<◌, ℕ, length, sym, subst, arith}
use Rattle.graph_terms.specs.Reservations.{Releases}
use Rattle.section_sweeps.specs.PassedBlocks.{AreListed}
use Rattle.section_sweeps.proofs.Public.{passed_on, passed_back, lines_known, few_listed}
use Rattle.race_check.proofs.RuleFacts.{releases_known}
use Rattle.race_check.proofs.inside.Inside.new.Goals as goal

pub passed_forward-requires-clause-few : goal.passed_forward-requires-clause-few
passed_forward-requires-clause-few c = few_listed (λ q i. q ≡ i) c.args.first c.min-end.result c.as_slice-of.result.now (omega (arith, c.min-end.ensures)) (subst (AreListed (λ q i. q ≡ i) c.args.first c.min-end.result) (sym c.as_slice-of.ensures.value) c.in_ok-of.ensures)

pub passed_forward-requires-clause-known : goal.passed_forward-requires-clause-known
passed_forward-requires-clause-known c = lines_known (length c.args.graph.now.lines) c.args.first c.min-end.result c.as_slice-of.result.now (omega (arith, c.min-end.ensures, c.lines-lines.ensures.number, c.requires.first)) (subst (AreListed (λ q i. q ≡ i) c.args.first c.min-end.result) (sym c.as_slice-of.ensures.value) c.in_ok-of.ensures)

pub passed_back-requires-clause-few : goal.passed_back-requires-clause-few
passed_back-requires-clause-few c = few_listed (λ q r. Releases c.args.graph.now r q) c.args.first c.min-end.result c.as_slice-releases.result.now (omega (arith, c.min-end.ensures)) (subst (AreListed (λ q r. Releases c.args.graph.now r q) c.args.first c.min-end.result) (sym c.as_slice-releases.ensures.value) c.in_ok-releases.ensures)

pub passed_back-requires-clause-known : goal.passed_back-requires-clause-known
passed_back-requires-clause-known c b r h =
    let listed = subst (AreListed (λ q r. Releases c.args.graph.now r q) c.args.first c.min-end.result) (sym c.as_slice-releases.ensures.value) c.in_ok-releases.ensures in
    releases_known c.args.graph.now (c.args.first + b) r (listed.is b r h)

pub returns : goal.returns
returns c =
    let g = c.args.graph.now in
    let t = c.args.table.now in
    let first = c.args.first in
    let end = c.min-end.result in
    let within : (b : ℕ) → b < 64 → first + b < length g.lines → first + b < end = λ b few low. omega (arith, c.min-end.ensures, few, low, c.lines-lines.ensures.number) in
    let lines = subst (AreListed (λ q i. q ≡ i) first end) (sym c.as_slice-of.ensures.value) c.in_ok-of.ensures in
    let releases = subst (AreListed (λ q r. Releases g r q) first end) (sym c.as_slice-releases.ensures.value) c.in_ok-releases.ensures in
    let e = c.in_ok-behind.ensures in
    let f = c.in_ok-to_releases.ensures in
    record {
      behind_is = passed_on g t c.requires.table (λ q i. q ≡ i) first end c.as_slice-of.result.now lines within c.in_ok-behind.behind e.size e.own c.lines-lines.result (omega (arith, c.lines-lines.ensures.number)) e.is e.all;
      releases_is = passed_back g t c.requires.table (λ q r. Releases g r q) first end c.as_slice-releases.result.now releases within c.in_ok-to_releases.to_releases f.size f.own f.is f.all;
    }
