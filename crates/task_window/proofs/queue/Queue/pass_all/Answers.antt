use Rattle.std.proofs.Common.{◌≡◌, ◌+◌, ◌-◌, ◌<◌, ◌≤◌, length, ap, sym, ◌∙◌, arith, refl, subst}
use Rattle.task_order.specs.Sequence.{is_over, is_lost}
use Rattle.task_window.specs.declared.queue.Queue.{Queue}
use Rattle.task_window.specs.Chains.{link_at}
use Rattle.task_window.specs.Waits.{status_at, IsPassing}
use Rattle.task_window.proofs.Steps.{walk_on, walk_ends}
use Rattle.task_window.proofs.Walking.{step_known, step_waits, step_room, step_spoiled, pass_step}
use Rattle.task_window.proofs.queue.Queue.pass_all.Goals as goal

pub loop-link-init : goal.loop-link-init
loop-link-init c =
    let q = c.args.self.now in
    record {
      passing = record {
        sized = c.requires.passing.sized;
        queue = walk_on q.links.links (length q.status.items) (status_at q.status.items) c.args.task q.waits.items q.spoiled.items q.ready.items q.started q.count (length q.links.links) c.last-link.result c.last-link.ensures c.requires.passing.queue;
      };
      status = refl;
      links = refl;
      within = c.last-link.ensures.within;
      is = c.last-link.ensures.is;
    }

pub pass-requires-clause-waits : goal.pass-requires-clause-waits
pass-requires-clause-waits c =
    let q = c.loop-link.self in
    let i = c.loop-link.invariant in
    let one : (c.loop-link.link - 1) + 1 ≡ c.loop-link.link = omega arith in
    let low : c.loop-link.link - 1 < length q.links.links = omega arith in (
      step_known q.links.links (status_at q.status.items) c.args.task c.loop-link.link (c.loop-link.link - 1) one (i.is (omega arith)) (length q.status.items) q.waits.items q.spoiled.items q.ready.items q.started q.count i.passing.queue low (i.passing.sized.ends (c.loop-link.link - 1) low).1 c.value-next.result (sym c.value-next.ensures),
      step_waits q.links.links (status_at q.status.items) c.args.task c.loop-link.link (c.loop-link.link - 1) one (i.is (omega arith)) (length q.status.items) q.waits.items q.spoiled.items q.ready.items q.started q.count i.passing.queue low (i.passing.sized.ends (c.loop-link.link - 1) low).1 c.value-next.result (sym c.value-next.ensures),
    )

pub pass-requires-clause-spoiled : goal.pass-requires-clause-spoiled
pass-requires-clause-spoiled c =
    let q = c.loop-link.self in
    let i = c.loop-link.invariant in
    let one : (c.loop-link.link - 1) + 1 ≡ c.loop-link.link = omega arith in
    let low : c.loop-link.link - 1 < length q.links.links = omega arith in
    step_spoiled q.links.links (status_at q.status.items) c.args.task c.loop-link.link (c.loop-link.link - 1) one (i.is (omega arith)) (length q.status.items) q.waits.items q.spoiled.items q.ready.items q.started q.count i.passing.queue low (i.passing.sized.ends (c.loop-link.link - 1) low).1 c.value-next.result (sym c.value-next.ensures)

pub pass-requires-clause-ready : goal.pass-requires-clause-ready
pass-requires-clause-ready c =
    let q = c.loop-link.self in
    let i = c.loop-link.invariant in
    let one : (c.loop-link.link - 1) + 1 ≡ c.loop-link.link = omega arith in
    let low : c.loop-link.link - 1 < length q.links.links = omega arith in
    step_room q.links.links (status_at q.status.items) c.args.task c.loop-link.link (c.loop-link.link - 1) one (i.is (omega arith)) (length q.status.items) q.waits.items q.spoiled.items q.ready.items q.started q.count i.passing.queue low (i.passing.sized.ends (c.loop-link.link - 1) low).1 c.value-next.result (sym c.value-next.ensures)

pub loop-link-preserved : goal.loop-link-preserved
loop-link-preserved c =
    let q = c.loop-link.self in
    let i = c.loop-link.invariant in
    let one : (c.loop-link.link - 1) + 1 ≡ c.loop-link.link = omega arith in
    let low : c.loop-link.link ≤ length q.links.links = i.within in
    let key : (link_at q.links.links (c.loop-link.link - 1)).key ≡ c.args.task = i.is (omega arith) in
    let links = ap (λ (r : Queue). r.links.links) c.pass.ensures.same in
    let over = ap (λ v. is_over (status_at v.items c.args.task)) i.status ∙ c.requires.over in
    let lost = c.requires.lost ∙ sym (ap (λ v. is_lost (status_at v.items c.args.task)) i.status) in
    let f = c.earlier-link.ensures in
    record {
      passing = pass_step q c.pass.new.self c.args.task c.loop-link.link (c.loop-link.link - 1) c.earlier-link.result c.value-next.result c.args.lost i.passing one low key c.value-next.ensures over lost
          c.pass.ensures.same c.pass.ensures.waits c.pass.ensures.spoiled c.pass.ensures.ready c.pass.ensures.count f;
      status = ap (λ (r : Queue). r.status) c.pass.ensures.same ∙ i.status;
      links = ap (λ (r : Queue). r.links) c.pass.ensures.same ∙ i.links;
      within = (let w : c.earlier-link.result ≤ c.loop-link.link - 1 = f.within in let e : length c.pass.new.self.links.links ≡ length q.links.links = ap length links in let r : c.earlier-link.result ≤ length c.pass.new.self.links.links = omega arith in r);
      is = λ p. f.is p ∙ (ap (λ ls. (link_at ls (c.loop-link.link - 1)).key) links ∙ key);
    }

pub returns-clause-rest : goal.returns-clause-rest
returns-clause-rest c =
    let q = c.loop-link.self in
    let i = c.loop-link.invariant in
    let none : c.loop-link.link ≡ 0 = omega arith in
    let p = subst (λ e. IsPassing q c.args.task e) none i.passing in
    record {
      sized = p.sized;
      queue = walk_ends q.links.links (length q.status.items) (status_at q.status.items) c.args.task q.waits.items q.spoiled.items q.ready.items q.started q.count p.queue;
    }
