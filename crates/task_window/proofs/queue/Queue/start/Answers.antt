use Rattle.std.proofs.Common.{◌≡◌, ◌<◌, ◌≤◌, length, sym, ◌∙◌, arith, refl, subst}
use Rattle.std.specs.Prelude.{slice_set}
use Rattle.std.proofs.lemmas.List.{get_or_read, length-set}
use Rattle.task_order.specs.declared.status.Status.TheVariants.{Running}
use Rattle.task_window.specs.Chains.{link_at}
use Rattle.task_window.proofs.Steps.{start_known, start_waits, start_none, start_queue, start_left}
use Rattle.task_window.proofs.Walking.{ready_within}
use Rattle.task_window.proofs.queue.Queue.start.Goals as goal

pub index-task-requires : goal.index-task-requires
index-task-requires c =
    let q = c.args.self.now in
    let w : q.count ≤ length q.status.items = ready_within _ _ _ _ _ _ _ _ _ _ c.requires.queue in
    let s : length q.status.items ≤ length q.ready.items = c.requires.queue.ready_size in
    omega (arith, q.ready.ok.0, c.if-self.false, c.requires.queue.within)

pub index_mut-requires : goal.index_mut-requires
index_mut-requires c =
    let q = c.args.self.now in
    let w : q.count ≤ length q.status.items = ready_within _ _ _ _ _ _ _ _ _ _ c.requires.queue in
    let s : length q.status.items ≤ length q.ready.items = c.requires.queue.ready_size in
    let more : q.started < q.count = omega (arith, c.if-self.false, c.requires.queue.within) in
    let at = get_or_read q.ready.items q.started c.index-task.result.now (omega arith) c.index-task.ensures 0 in
    let k : c.index-task.result.now < length q.status.items = start_known q.links.links q.status.items q.waits.items q.spoiled.items q.ready.items q.started q.count c.requires.queue more c.index-task.result.now at (slice_set q.status.items c.index-task.result.now Running) refl in
    omega (arith, q.status.ok.0)

pub returns-clause-rest : goal.returns-clause-rest
returns-clause-rest c =
    let q = c.args.self.now in
    let i = c.index-task.result.now in
    let s = c.requires.sized in
    let w : q.count ≤ length q.status.items = ready_within _ _ _ _ _ _ _ _ _ _ c.requires.queue in
    let rs : length q.status.items ≤ length q.ready.items = c.requires.queue.ready_size in
    let more : q.started < q.count = omega (arith, c.if-self.false, c.requires.queue.within) in
    let at = get_or_read q.ready.items q.started i (omega arith) c.index-task.ensures 0 in
    let same : length (slice_set q.status.items i Running) ≡ length q.status.items = length-set q.status.items i Running in
    record {
      sized = record {
        few = (let a : length q.status.items ≤ 2147483648 = s.few in let r : length (slice_set q.status.items i Running) ≤ 2147483648 = omega arith in r);
        keys = (let a : length q.status.items ≤ q.links.keys = s.keys in let r : length (slice_set q.status.items i Running) ≤ q.links.keys = omega arith in r);
        left = s.left ∙ sym (start_left q.links.links q.status.items q.waits.items q.spoiled.items q.ready.items q.started q.count c.requires.queue more i at (slice_set q.status.items i Running) refl);
        links = s.links;
        ends = subst (λ n. (x : _) → x < length q.links.links → ((link_at q.links.links x).key < n) × ((link_at q.links.links x).value < n)) (sym same) s.ends;
      };
      queue = start_queue q.links.links q.status.items q.waits.items q.spoiled.items q.ready.items q.started q.count c.requires.queue more i at (slice_set q.status.items i Running) refl;
    }

pub returns-clause-some : goal.returns-clause-some
returns-clause-some c =
    let q = c.args.self.now in
    let i = c.index-task.result.now in
    let w : q.count ≤ length q.status.items = ready_within _ _ _ _ _ _ _ _ _ _ c.requires.queue in
    let rs : length q.status.items ≤ length q.ready.items = c.requires.queue.ready_size in
    let more : q.started < q.count = omega (arith, c.if-self.false, c.requires.queue.within) in
    let at = get_or_read q.ready.items q.started i (omega arith) c.index-task.ensures 0 in
    record {
      known = start_known q.links.links q.status.items q.waits.items q.spoiled.items q.ready.items q.started q.count c.requires.queue more i at (slice_set q.status.items i Running) refl;
      waits = start_waits q.links.links q.status.items q.waits.items q.spoiled.items q.ready.items q.started q.count c.requires.queue more i at (slice_set q.status.items i Running) refl;
      none = start_none q.links.links q.status.items q.waits.items q.spoiled.items q.ready.items q.started q.count c.requires.queue more i at (slice_set q.status.items i Running) refl;
      status = refl;
      links = refl;
      spoiled = refl;
    }
