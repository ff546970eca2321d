use Rattle.std.proofs.Common.{◌+◌, ◌<◌, ℕ, length, sym, subst, arith}
use Rattle.graph_terms.specs.Reservations.{Releases}
use Rattle.section_sweeps.specs.PassedBlocks.{AreListed}
use Rattle.section_sweeps.specs.PassedBlocks.{IsRelease}
use Rattle.section_sweeps.proofs.Public.{passed_on, passed_back, few_listed}
use Rattle.race_check.proofs.RuleFacts.{acquires_known, releases_known}
use Rattle.race_check.proofs.sections.Sides.new.Goals as goal

pub passed_back-requires-clause-few : goal.passed_back-requires-clause-few
passed_back-requires-clause-few c = few_listed (IsRelease c.args.graph.now) c.args.first c.min-end.result c.as_slice-releases.result.now (omega (arith, c.min-end.ensures)) (subst (AreListed (IsRelease c.args.graph.now) c.args.first c.min-end.result) (sym c.as_slice-releases.ensures.value) c.in_ok-releases.ensures)

pub passed_back-requires-clause-known : goal.passed_back-requires-clause-known
passed_back-requires-clause-known c b r h =
    let listed = subst (AreListed (IsRelease c.args.graph.now) c.args.first c.min-end.result) (sym c.as_slice-releases.ensures.value) c.in_ok-releases.ensures in
    let is = listed.is b r h in
    subst (λ z. z < length c.args.graph.now.lines) is.0 (releases_known c.args.graph.now is.1.0 (c.args.first + b) is.1.1)

pub passed_back-requires-2-clause-few : goal.passed_back-requires-2-clause-few
passed_back-requires-2-clause-few c = few_listed (λ r q. Releases c.args.graph.now r q) c.args.first c.min-end.result c.as_slice-acquires.result.now (omega (arith, c.min-end.ensures)) (subst (AreListed (λ r q. Releases c.args.graph.now r q) c.args.first c.min-end.result) (sym c.as_slice-acquires.ensures.value) c.in_ok-acquires.ensures)

pub passed_back-requires-2-clause-known : goal.passed_back-requires-2-clause-known
passed_back-requires-2-clause-known c b q h =
    let listed = subst (AreListed (λ r q. Releases c.args.graph.now r q) c.args.first c.min-end.result) (sym c.as_slice-acquires.ensures.value) c.in_ok-acquires.ensures in
    acquires_known c.args.graph.now c.lines-lines.ensures.is_graph (c.args.first + b) q (listed.is b q h)

pub passed_forward-requires-clause-known : goal.passed_forward-requires-clause-known
passed_forward-requires-clause-known c b q h =
    let listed = subst (AreListed (λ r q. Releases c.args.graph.now r q) c.args.first c.min-end.result) (sym c.as_slice-acquires.ensures.value) c.in_ok-acquires.ensures in
    acquires_known c.args.graph.now c.lines-lines.ensures.is_graph (c.args.first + b) q (listed.is b q h)

pub returns : goal.returns
returns c =
    let g = c.args.graph.now in
    let t = c.args.table.now in
    let first = c.args.first in
    let end = c.min-end.result in
    let within : (b : ℕ) → b < 64 → first + b < length g.lines → first + b < end = λ b few low. omega (arith, c.min-end.ensures, few, low, c.lines-lines.ensures.number) in
    let acquires = subst (AreListed (λ r q. Releases g r q) first end) (sym c.as_slice-acquires.ensures.value) c.in_ok-acquires.ensures in
    let releases = subst (AreListed (IsRelease g) first end) (sym c.as_slice-releases.ensures.value) c.in_ok-releases.ensures in
    let e = c.in_ok-to_releases.ensures in
    let f = c.in_ok-to_acquires.ensures in
    let h = c.in_ok-behind.ensures in
    record {
      releases_is = passed_back g t c.requires.table (IsRelease g) first end c.as_slice-releases.result.now releases within c.in_ok-to_releases.to_releases e.size e.own e.is e.all;
      acquires_is = passed_back g t c.requires.table (λ r q. Releases g r q) first end c.as_slice-acquires.result.now acquires within c.in_ok-to_acquires.to_acquires f.size f.own f.is f.all;
      behind_is = passed_on g t c.requires.table (λ r q. Releases g r q) first end c.as_slice-acquires.result.now acquires within c.in_ok-behind.behind h.size h.own c.lines-lines.result (omega (arith, c.lines-lines.ensures.number)) h.is h.all;
    }
