use Rattle.std.proofs.Common.{◌≡◌, ◌<◌, [], length, sym, ◌∙◌, ap, subst}
use Rattle.std.specs.Prelude.{Some, Contains, slice_get}
use Rattle.basics.proofs.ListFacts.{contains_here}
use Rattle.graph_terms.specs.Fits.{IsGraph}
use Rattle.graph_terms.specs.Graph.{GraphValue, locks, is_shared}
use Rattle.graph_terms.specs.declared.verb.Verb.TheVariants.{Acquire}
use Rattle.graph_terms.proofs.Public.{verb_passes}
use Rattle.line_effects.proofs.Public.{verb_is}
use Rattle.word_steps.specs.Claims.{Ground}
use Rattle.word_steps.specs.Rule.{ground_of}
use Rattle.word_steps.specs.Table.{graph_of, events_of}
use Rattle.word_loads.proofs.Releasing.{line_acquires, line_releases, lock_there, acquire_there, is_acquire_there, not_freed, may_free, done_known, has_released}
use Rattle.word_loads.proofs.putting.free_lock.Goals as goal

pub look-found-requires-clause-line : goal.look-found-requires-clause-line
look-found-requires-clause-line c =
    let e = c.graph-graph.ensures.graph in
    let w = graph_of c.args.table.now in
    let f = subst IsGraph e c.line.ensures.is_graph in
    let at = subst (λ (h : GraphValue). slice_get h.lines c.args.line ≡ Some c.line.result.now) e c.line.ensures.line in
    acquire_there w f c.args.line c.in-Release.acquire (line_releases w c.args.line c.in-Release.acquire c.line.result.now at c.in-Release.is)

pub returns-then-found-ne-ENDED_DONE-clause-released : goal.returns-then-found-ne-ENDED_DONE-clause-released
returns-then-found-ne-ENDED_DONE-clause-released c = λ x v cl left i.
    (let e = c.graph-graph.ensures.graph in
    let w = graph_of c.args.table.now in
    let f = subst IsGraph e c.line.ensures.is_graph in
    let at = subst (λ (h : GraphValue). slice_get h.lines c.args.line ≡ Some c.line.result.now) e c.line.ensures.line in
    let keys = subst (λ (l : _). Contains l (ground_of w (events_of c.args.table.now))) (sym c.requires.at.1) (contains_here {X = Ground} (ground_of w (events_of c.args.table.now)) []) in
    not_freed w (events_of c.args.table.now) c.args.line x v cl left c.args.seat.now.me i f c.graph-graph.ensures.accepted keys c.in-Release.acquire c.look-found.result
    (line_releases w c.args.line c.in-Release.acquire c.line.result.now at c.in-Release.is) c.look-found.new.seat.me c.look-found.ensures.looked.0 c.look-found.ensures.looked.1 c.if-found-ne-ENDED_DONE.true)

pub line-requires-2 : goal.line-requires-2
line-requires-2 c = acquire_there c.graph-graph.result.now c.line.ensures.is_graph c.args.line c.in-Release.acquire (line_releases c.graph-graph.result.now c.args.line c.in-Release.acquire c.line.result.now c.line.ensures.line c.in-Release.is)

pub unreachable-requires : goal.unreachable-requires
unreachable-requires c = is_acquire_there c.graph-graph.result.now c.line.ensures.is_graph c.args.line c.in-Release.acquire (line_releases c.graph-graph.result.now c.args.line c.in-Release.acquire c.line.result.now c.line.ensures.line c.in-Release.is)
    c.line-2.result.now c.line-2.ensures.line c.in_default-verb.not-Acquire

pub free-requires-clause-known : goal.free-requires-clause-known
free-requires-clause-known c = subst (λ (h : GraphValue). c.in-Acquire.lock < length (locks h)) c.graph-graph.ensures.graph (lock_there c.graph-graph.result.now c.line.ensures.is_graph c.in-Release.acquire c.in-Acquire.lock c.line-2.result.now c.line-2.ensures.line c.in-Acquire.shared c.in-Acquire.is)

pub free-requires-clause-may : goal.free-requires-clause-may
free-requires-clause-may c =
    let e = c.graph-graph.ensures.graph in
    let w = graph_of c.args.table.now in
    let f = subst IsGraph e c.line.ensures.is_graph in
    let at = subst (λ (h : GraphValue). slice_get h.lines c.args.line ≡ Some c.line.result.now) e c.line.ensures.line in
    let r = c.requires.ending in
    let keys = subst (λ (l : _). Contains l (ground_of w (events_of c.args.table.now))) (sym c.requires.at.1) (contains_here {X = Ground} (ground_of w (events_of c.args.table.now)) []) in
    may_free w (events_of c.args.table.now) c.args.line r.0 r.1 r.2 r.3 c.args.seat.now.me r.4 f c.graph-graph.ensures.accepted keys c.in-Release.acquire c.look-found.result
    (line_releases w c.args.line c.in-Release.acquire c.line.result.now at c.in-Release.is) c.look-found.new.seat.me c.look-found.ensures.looked.0 c.look-found.ensures.looked.1

pub free-requires-clause-acquire : goal.free-requires-clause-acquire
free-requires-clause-acquire c = line_acquires (graph_of c.args.table.now) c.in-Release.acquire c.in-Acquire.lock c.line-2.result.now
    (subst (λ (h : GraphValue). slice_get h.lines c.in-Release.acquire ≡ Some c.line-2.result.now) c.graph-graph.ensures.graph c.line-2.ensures.line) c.in-Acquire.shared c.in-Acquire.is

pub free-requires-clause-done : goal.free-requires-clause-done
free-requires-clause-done c =
    let e = c.graph-graph.ensures.graph in
    let w = graph_of c.args.table.now in
    let f = subst IsGraph e c.line.ensures.is_graph in
    let at = subst (λ (h : GraphValue). slice_get h.lines c.args.line ≡ Some c.line.result.now) e c.line.ensures.line in
    let r = c.requires.ending in
    let keys = subst (λ (l : _). Contains l (ground_of w (events_of c.args.table.now))) (sym c.requires.at.1) (contains_here {X = Ground} (ground_of w (events_of c.args.table.now)) []) in
    done_known w (events_of c.args.table.now) c.args.line r.0 r.1 r.2 r.3 c.args.seat.now.me r.4 f c.graph-graph.ensures.accepted keys c.in-Release.acquire c.look-found.result
    (line_releases w c.args.line c.in-Release.acquire c.line.result.now at c.in-Release.is) c.look-found.new.seat.me c.look-found.ensures.looked.0 c.look-found.ensures.looked.1 c.if-found-ne-ENDED_DONE.false

pub returns-clause-released : goal.returns-clause-released
returns-clause-released c = λ x v cl left i.
    (let e = c.graph-graph.ensures.graph in
    let w = graph_of c.args.table.now in
    let f = subst IsGraph e c.line.ensures.is_graph in
    let at = subst (λ (h : GraphValue). slice_get h.lines c.args.line ≡ Some c.line.result.now) e c.line.ensures.line in
    let keys = subst (λ (l : _). Contains l (ground_of w (events_of c.args.table.now))) (sym c.requires.at.1) (contains_here {X = Ground} (ground_of w (events_of c.args.table.now)) []) in
    has_released w (events_of c.args.table.now) c.args.line x v cl left c.args.seat.now.me i f c.graph-graph.ensures.accepted keys c.in-Release.acquire c.look-found.result
    (line_releases w c.args.line c.in-Release.acquire c.line.result.now at c.in-Release.is) c.look-found.new.seat.me c.look-found.ensures.looked.0 c.look-found.ensures.looked.1 c.free.new.seat.me c.free.ensures.freed)

pub free-requires-clause-shared : goal.free-requires-clause-shared
free-requires-clause-shared c = sym (verb_passes is_shared (graph_of c.args.table.now) c.in-Release.acquire (Acquire c.in-Acquire.lock c.in-Acquire.shared)
    (verb_is (graph_of c.args.table.now) c.in-Release.acquire c.line-2.result.now (subst (λ (h : GraphValue). slice_get h.lines c.in-Release.acquire ≡ Some c.line-2.result.now) c.graph-graph.ensures.graph c.line-2.ensures.line)
    ∙ ap Some c.in-Acquire.is))
