use Rattle.std.proofs.Common.{◌≤◌, ◌<◌, subst, arith}
use Rattle.run_core.specs.Core.{CoreValue}
use Rattle.run_core.specs.Finishing.{GoesOn, left_to_do}
use Rattle.run_core.proofs.FinishFacts.{goes_further, issued_goes, issued_less, kept_by_issue, quiet_after}
use Rattle.run_core.proofs.run.Core.advance.Goals as goal

pub returns-in-Issued-clause-goes_on : goal.returns-in-Issued-clause-goes_on
returns-in-Issued-clause-goes_on c =
    let a = c.in-Issued.ensures.answer in
    let old = c.args.self.now in
    let mid = c.issue.new.self in
    goes_further old mid c.start.new.self (issued_goes old mid a.2 c.is_sound.ensures.sound c.requires.nothing_out a.0 a.5) c.start.ensures.goes_on

pub returns-in-Issued-clause-moved : goal.returns-in-Issued-clause-moved
returns-in-Issued-clause-moved c _ =
    let a = c.in-Issued.ensures.answer in
    let old = c.args.self.now in
    let mid = c.issue.new.self in
    let less : left_to_do mid < left_to_do old = issued_less old mid a.2 c.is_sound.ensures.sound c.requires.nothing_out a.0 a.5 in
    let rest : left_to_do c.start.new.self ≤ left_to_do mid = c.start.ensures.goes_on.left in
    omega (arith, less, rest)

pub returns-in_default : goal.returns-in_default
returns-in_default c =
    let old = c.args.self.now in
    let mid = c.issue.new.self in
    let new = c.scan.new.self in
    let same = kept_by_issue old mid c.issue.result c.issue.ensures.answer c.in_default.not-Issued in
    record {
      goes_on = subst (λ (v : CoreValue). GoesOn v new) same c.scan.ensures.goes_on;
      moved = λ e. subst (λ (v : CoreValue). left_to_do new < left_to_do v) same (c.scan.ensures.moved e);
      unmoved = λ e. (let unmoved = c.scan.ensures.unmoved e in
          quiet_after old mid new c.issue.result c.is_sound.ensures.sound c.requires.nothing_out c.slots_suffice.ensures c.issue.ensures.answer c.in_default.not-Issued unmoved.0 unmoved.1);
    }
