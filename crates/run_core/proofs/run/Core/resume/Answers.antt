use Rattle.std.proofs.Common.{◌≡◌, ◌≤◌, map, length, sym, ap, subst, arith}
use Rattle.std.proofs.lemmas.List.{length-map}
use Rattle.run_parts.specs.Shown.{IsShown}
use Rattle.run_core.specs.Core.{CoreValue}
use Rattle.run_lists.specs.Stages.{shown_stage}
use Rattle.run_core.specs.Resumed.{InState}
use Rattle.run_core.proofs.PartsFacts.{shown_of}
use Rattle.run_core.proofs.run.Core.resume.Goals as goal
use Rattle.run_core.proofs.CoreFacts.{kept_core}

pub of_parts-requires-clause-room : goal.of_parts-requires-clause-room
of_parts-requires-clause-room c =
    let i = c.self.inside in
    let g = i.checked.now.graph in
    let core = kept_core _ c.self.invariant.core in
    let staged : length (map shown_stage i.stages.items) ≡ length g.lines = core.sound.on_lines.each_line in
    let mapped = length-map i.stages.items shown_stage in
    let waiting : i.events.table.waiters ≡ length g.lines = core.events.waiters in
    let valued : length i.values.items ≡ length g.lines = core.sound.on_phases.each_value in
    let marked = c.self.invariant.held.each_line in
    let locked = c.self.invariant.held.each_lock in
    let taken = c.self.invariant.kept.each_taker in
    record {
      stages = omega (arith, staged, mapped, i.stages.ok.0, i.stages.ok.1);
      handles = omega (arith, waiting, c.into_room-handles.ensures.handles);
      busy = omega (arith, waiting, c.into_room-handles.ensures.busy);
      values = omega (arith, valued, i.values.ok.0, i.values.ok.1);
      holding = omega (arith, marked, i.holders.holding.ok.0, i.holders.holding.ok.1);
      trace = c.self.invariant.trace;
      takers = omega (arith, taken, i.columns.takers.ok.0, i.columns.takers.ok.1);
      lent = (let homes = c.self.invariant.kept.each_home in let room = c.into_room.ensures in omega (arith, homes, room));
      held = omega (arith, locked, i.holders.held.ok.0, i.holders.held.ok.1);
      ends = c.self.invariant.ends;
      answers = c.self.invariant.answers;
      phases = c.self.invariant.phases;
    }

pub of_parts-requires-clause-enough : goal.of_parts-requires-clause-enough
of_parts-requires-clause-enough c =
    let own : length c.self.inside.events.table.slots ≡ length c.args.self.table.slots = ap (λ (x : CoreValue). length x.table.slots) c.self.view_is in
    let same = c.requires.shown.2.slots in
    let enough : c.need.result ≤ length c.self.inside.events.table.slots = (kept_core _ c.self.invariant.core).slots c.need.result c.need.ensures.need in
    omega (arith, own, same, enough, c.need.ensures.value)

pub of_parts-requires-clause-most : goal.of_parts-requires-clause-most
of_parts-requires-clause-most c =
    let own : length c.self.inside.events.table.slots ≡ length c.args.self.table.slots = ap (λ (x : CoreValue). length x.table.slots) c.self.view_is in
    let same = c.requires.shown.2.slots in
    omega (arith, own, same, c.into_room-handles.ensures.slots)

pub of_parts-requires-clause-shown : goal.of_parts-requires-clause-shown
of_parts-requires-clause-shown c =
    let w = c.requires.shown in (
      w.0,
      w.1,
      subst (λ h. IsShown h w.0 w.1 c.args.lines c.args.table c.args.homes c.args.phases) (sym (ap (λ (x : CoreValue). x.graph) c.self.view_is)) (shown_of c.args.self w.0 w.1 c.args.lines c.args.table c.args.homes c.args.phases w.2),
    )

pub returns : goal.returns
returns c =
    let graph = ap (λ (x : CoreValue). x.graph) c.self.view_is in
    record {
      state = λ run handles shows. subst (λ h. InState h run handles c.args.table c.of_parts.result) graph
          (c.of_parts.ensures.state run handles (subst (λ h. IsShown h run handles c.args.lines c.args.table c.args.homes c.args.phases) (sym graph) (shown_of c.args.self run handles c.args.lines c.args.table c.args.homes c.args.phases shows)));
    }
