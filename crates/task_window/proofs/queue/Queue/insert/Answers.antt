use Rattle.std.proofs.Common.{◌≡◌, ◌+◌, ◌<◌, ◌≤◌, ◌++◌, [], ◌∷◌, length, ap, sym, ◌∙◌, arith, refl, subst, cond, not}
use Rattle.std.specs.Prelude.{slice_index, slice_set, ◌==◌}
use Rattle.std.proofs.lemmas.List.{append-nil, get_or_read, length_push}
use Rattle.std.proofs.lemmas.Bool.{false≢true}
use Rattle.basics.proofs.ListFacts.{count_below-max}
use Rattle.task_order.specs.declared.status.Status.TheVariants.{Waiting}
use Rattle.task_order.specs.Sequence.{is_over}
use Rattle.task_window.specs.declared.queue.Queue.{Queue}
use Rattle.task_window.specs.Chains.{link_at}
use Rattle.task_window.specs.Waits.{status_at, is_pending, is_spoiling, leads}
use Rattle.task_window.proofs.Walking.{ready_within}
use Rattle.task_window.proofs.Inserting.{none_leads, none_spoiled, linked_waits, linked_some, linked_each, linked_ends, linked_queue, linked_more, rest_added}
use Rattle.task_window.proofs.queue.Queue.insert.Goals as goal

pub loop-source-init : goal.loop-source-init
loop-source-init c =
    let q = c.args.self.now in
    let s = c.requires.rest.sized in
    let task : c.len-task.result ≡ length q.status.items = omega (arith, q.status.ok.0) in
    record {
      same = refl;
      queue = c.requires.rest.queue;
      waits = sym (none_leads q.links.links (is_pending q.links.links (status_at q.status.items)) c.len-task.result (λ x h. subst (λ n. (link_at q.links.links x).value < n) (sym task) (s.ends x h).1));
      some = λ e. absurd (false≢true e);
      each = λ t. absurd (none_spoiled q.links.links (is_spoiling q.links.links (status_at q.status.items)) c.len-task.result (λ x h. subst (λ n. (link_at q.links.links x).value < n) (sym task) (s.ends x h).1) t);
      ends = λ x h. (let p = s.ends x h in (p.0, (let l : (link_at q.links.links x).value < length q.status.items = p.1 in let r : (link_at q.links.links x).value < length q.status.items + 1 = omega arith in r)));
      few = s.links;
      keys = c.requires.room.keys;
      room = omega (arith, c.requires.room.links);
      links = sym (append-nil q.links.links);
    }

pub overflow_add-waits : goal.overflow_add-waits
overflow_add-waits c =
    let q = c.args.self.now in
    let i = c.loop-source.invariant in
    let k = slice_index c.args.sources.now c.loop-source.source-index in
    let known : k < length q.status.items = c.requires.known c.loop-source.source-index 0 (omega arith) in
    let items = ap (λ (x : Queue). x.status.items) i.same in
    let is = get_or_read c.loop-source.self.status.items k c.index-status.result.now (subst (λ xs. k < length xs) (sym items) known) c.index-status.ensures Waiting ∙ ap (λ xs. status_at xs k) items in
    let w = linked_waits c.loop-source.self.links.links (status_at q.status.items) k c.len-task.result c.index-status.result.now is c.put.new.self.links c.put.ensures.links c.loop-source.waits c.pending_links-waits.result i.waits c.pending_links-waits.ensures in
    let m = count_below-max (leads c.put.new.self.links (is_pending c.put.new.self.links (status_at q.status.items)) c.len-task.result) (length c.put.new.self.links) in
    omega (arith, w, m, c.put.ensures.few)

pub loop-source-preserved : goal.loop-source-preserved
loop-source-preserved c =
    let q = c.args.self.now in
    let i = c.loop-source.invariant in
    let ls = c.loop-source.self.links.links in
    let s = status_at q.status.items in
    let n = c.len-task.result in
    let k = slice_index c.args.sources.now c.loop-source.source-index in
    let at : c.loop-source.source-index < length c.args.sources.now = omega arith in
    let task : c.len-task.result ≡ length q.status.items = omega (arith, q.status.ok.0) in
    let known : k < length q.status.items = c.requires.known c.loop-source.source-index 0 at in
    let items = ap (λ (x : Queue). x.status.items) i.same in
    let is = get_or_read c.loop-source.self.status.items k c.index-status.result.now (subst (λ xs. k < length xs) (sym items) known) c.index-status.ensures Waiting ∙ ap (λ xs. status_at xs k) items in
    record {
      same = ap (λ (x : Queue). record x { links = c.put.new.self }) i.same;
      queue = linked_queue ls s k n c.index-status.result.now is c.put.new.self.links c.put.ensures.links (length q.status.items) q.waits.items q.spoiled.items q.ready.items q.started q.count (omega arith) i.queue;
      waits = linked_waits ls s k n c.index-status.result.now is c.put.new.self.links c.put.ensures.links c.loop-source.waits c.pending_links-waits.result i.waits c.pending_links-waits.ensures;
      some = linked_some ls s k n c.index-status.result.now is c.put.new.self.links c.put.ensures.links c.loop-source.is_spoiled c.is_lost-is_spoiled.result c.is_lost-is_spoiled.ensures i.some;
      each = linked_each ls s k n c.index-status.result.now is c.put.new.self.links c.put.ensures.links c.loop-source.is_spoiled c.is_lost-is_spoiled.result c.is_lost-is_spoiled.ensures i.each;
      ends = linked_ends ls s k n c.index-status.result.now is c.put.new.self.links c.put.ensures.links (length q.status.items) known task i.ends;
      few = c.put.ensures.few;
      keys = omega (arith, c.put.ensures.keys, i.keys);
      room = (
          let grown : length c.put.new.self.links ≡ length ls + 1 = ap length c.put.ensures.links ∙ length_push ls (record { key = k; value = n }) in
          omega (arith, c.put.ensures.room, i.room));
      links = linked_more ls s k n c.index-status.result.now is c.put.new.self.links c.put.ensures.links c.args.sources.now c.loop-source.source-index q.links.links at refl i.links;
    }

pub commit-requires-clause-ready : goal.commit-requires-clause-ready
commit-requires-clause-ready c =
    let q = c.args.self.now in
    let w : q.count ≤ length q.status.items = ready_within _ _ _ _ _ _ _ _ _ _ c.requires.rest.queue in
    let r : length q.status.items < length q.ready.items = c.requires.room.ready in
    let ready : length c.loop-source.self.ready.items ≡ length q.ready.items = ap (λ (x : Queue). length x.ready.items) c.loop-source.invariant.same in
    let count : c.loop-source.self.count ≡ q.count = ap (λ (x : Queue). x.count) c.loop-source.invariant.same in
    omega arith

pub commit-requires-clause-left : goal.commit-requires-clause-left
commit-requires-clause-left c =
    let q = c.args.self.now in
    let l = c.requires.rest.sized.left in
    let m = count_below-max (λ j. not (is_over (status_at q.status.items j))) (length q.status.items) in
    let left : c.loop-source.self.left ≡ q.left = ap (λ (x : Queue). x.left) c.loop-source.invariant.same in
    omega (arith, l, m, c.requires.few)

pub returns-clause-rest : goal.returns-clause-rest
returns-clause-rest c =
    let q = c.args.self.now in
    let i = c.loop-source.invariant in
    let e = c.commit.ensures in
    let o = i.same in
    let n = c.len-task.result in
    let task : c.len-task.result ≡ length q.status.items = omega (arith, q.status.ok.0) in
    let links = ap (λ (x : Queue). x.links) e.same in
    rest_added q c.commit.new.self c.loop-source.self.links.links n c.loop-source.waits c.loop-source.is_spoiled c.requires.rest.sized task c.requires.few i.queue i.waits i.some i.each i.ends i.few
    c.requires.room.waits c.requires.room.spoiled c.requires.room.ready
    (e.status ∙ ap (λ (x : Queue). x.status.items ++ Waiting ∷ []) o)
    (ap (λ (x : Queue). x.left) e.same ∙ ap (λ (x : Queue). x.left + 1) o)
    (ap (λ (x : Queue). x.links.links) e.same)
    (subst (λ x. length q.status.items < x.keys) (sym links) i.keys)
    (e.waits ∙ ap (λ (x : Queue). slice_set x.waits.items n c.loop-source.waits) o)
    (e.spoiled ∙ ap (λ (x : Queue). slice_set x.spoiled.items n c.loop-source.is_spoiled) o)
    (e.ready ∙ ap (λ (x : Queue). cond (c.loop-source.waits == 0) (slice_set x.ready.items x.count n) x.ready.items) o)
    (ap (λ (x : Queue). x.started) e.same ∙ ap (λ (x : Queue). x.started) o)
    (e.count ∙ ap (λ (x : Queue). cond (c.loop-source.waits == 0) (x.count + 1) x.count) o)
