use Rattle.std.proofs.Common.{◌≡◌, ◌-◌, ◌<◌, ◌≤◌, length, sym, arith, refl, subst, not}
use Rattle.std.specs.Prelude.{slice_set}
use Rattle.std.proofs.lemmas.List.{length-set}
use Rattle.basics.specs.Lists.{count_below}
use Rattle.task_order.specs.Sequence.{is_over}
use Rattle.task_window.specs.Chains.{link_at}
use Rattle.task_window.specs.Waits.{status_at}
use Rattle.task_window.proofs.Steps.{close_queue, close_left}
use Rattle.task_window.proofs.queue.Queue.close.Goals as goal

pub overflow_sub-self : goal.overflow_sub-self
overflow_sub-self c =
    let q = c.args.self.now in
    let l = close_left q.links.links q.status.items q.waits.items q.spoiled.items q.ready.items q.started q.count c.requires.rest.queue c.args.task c.requires.known c.requires.runs c.args.status c.requires.over (slice_set q.status.items c.args.task c.args.status) refl in
    omega (arith, l, c.requires.rest.sized.left)

pub pass_all-requires-clause-passing : goal.pass_all-requires-clause-passing
pass_all-requires-clause-passing c =
    let q = c.args.self.now in
    let s = c.requires.rest.sized in
    let xs = slice_set q.status.items c.args.task c.args.status in
    let same : length xs ≡ length q.status.items = length-set q.status.items c.args.task c.args.status in
    let l = close_left q.links.links q.status.items q.waits.items q.spoiled.items q.ready.items q.started q.count c.requires.rest.queue c.args.task c.requires.known c.requires.runs c.args.status c.requires.over xs refl in
    record {
      sized = record {
        few = (let a : length q.status.items ≤ 2147483648 = s.few in let r : length xs ≤ 2147483648 = omega arith in r);
        keys = (let a : length q.status.items ≤ q.links.keys = s.keys in let r : length xs ≤ q.links.keys = omega arith in r);
        left = (let e : q.left ≡ count_below (λ j. not (is_over (status_at q.status.items j))) (length q.status.items) = s.left in
            let r : q.left - 1 ≡ count_below (λ j. not (is_over (status_at xs j))) (length xs) = omega (arith, l) in r);
        links = s.links;
        ends = subst (λ n. (x : _) → x < length q.links.links → ((link_at q.links.links x).key < n) × ((link_at q.links.links x).value < n)) (sym same) s.ends;
      };
      queue = close_queue q.links.links q.status.items q.waits.items q.spoiled.items q.ready.items q.started q.count c.requires.rest.queue c.args.task c.requires.known c.requires.runs c.args.status c.requires.over xs refl;
    }
