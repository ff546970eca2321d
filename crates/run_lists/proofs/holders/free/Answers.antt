use Rattle.std.proofs.Common.{◌<◌, length, map, sym, ◌∙◌, ap, subst, arith}
use Rattle.run_state.specs.Run.{end_so_far}
use Rattle.run_state.specs.WholeLine.{holders_without}
use Rattle.run_lists.specs.Holders.{holders_by}
use Rattle.run_lists.specs.Stages.{shown_stage}
use Rattle.run_parts.specs.declared.progress.Progress.TheVariants.{Unissued}
use Rattle.run_lists.proofs.SourceFacts.{stage_read}
use Rattle.run_lists.proofs.HolderFacts.{acquire_known, frees_shown, lock_near, read_some, read_less, shown_less}
use Rattle.run_lists.proofs.holders.free.Goals as goal

pub bounds-stages-acquire : goal.bounds-stages-acquire
bounds-stages-acquire c = subst (λ n. c.in-Release.acquire < n) (sym c.requires.each) (acquire_known c.args.graph.now c.line.ensures.is_graph c.args.line c.in-Release.acquire c.line.result.now c.line.ensures.line c.in-Release.is)

pub index-requires : goal.index-requires
index-requires c = omega (arith, lock_near c.args.graph.now c.line.ensures.is_graph c.args.holders.now.holding.items c.args.holders.now.held.items c.requires.held c.in-Release.acquire c.in-Acquire.lock c.in-Acquire.shared c.line-2.result.now c.line-2.ensures.line c.in-Acquire.is, c.args.holders.now.held.ok.0)

pub index_mut-requires : goal.index_mut-requires
index_mut-requires c = omega (arith, lock_near c.args.graph.now c.line.ensures.is_graph c.args.holders.now.holding.items c.args.holders.now.held.items c.requires.held c.in-Release.acquire c.in-Acquire.lock c.in-Acquire.shared c.line-2.result.now c.line-2.ensures.line c.in-Acquire.is, c.args.holders.now.held.ok.0)

pub parted-state-requires : goal.parted-state-requires
parted-state-requires c =
    let known : c.in-Release.acquire < length c.args.stages.now = subst (λ n. c.in-Release.acquire < n) (sym c.requires.each) (acquire_known c.args.graph.now c.line.ensures.is_graph c.args.line c.in-Release.acquire c.line.result.now c.line.ensures.line c.in-Release.is) in
    let frees = frees_shown c.args.graph.now (map shown_stage c.args.stages.now) c.args.line c.in-Release.acquire c.in-Acquire.lock c.in-Acquire.shared c.line.result.now c.line-2.result.now c.line.ensures.line c.in-Release.is c.line-2.ensures.line c.in-Acquire.is
    (ap end_so_far (sym (stage_read c.args.stages.now c.in-Release.acquire Unissued known)) ∙ (sym c.end_of.ensures ∙ c.in-Done.is)) in
    read_some c.args.graph.now c.line.ensures.is_graph c.args.holders.now.holding.items c.args.holders.now.held.items c.requires.held c.in-Release.acquire c.in-Acquire.lock c.in-Acquire.shared c.line-2.result.now c.line-2.ensures.line c.in-Acquire.is c.index.result.now c.index.ensures (c.requires.holder c.in-Acquire.lock c.in-Release.acquire frees)

pub returns-in-Acquire-clause-held : goal.returns-in-Acquire-clause-held
returns-in-Acquire-clause-held c =
    let known : c.in-Release.acquire < length c.args.stages.now = subst (λ n. c.in-Release.acquire < n) (sym c.requires.each) (acquire_known c.args.graph.now c.line.ensures.is_graph c.args.line c.in-Release.acquire c.line.result.now c.line.ensures.line c.in-Release.is) in
    let frees = frees_shown c.args.graph.now (map shown_stage c.args.stages.now) c.args.line c.in-Release.acquire c.in-Acquire.lock c.in-Acquire.shared c.line.result.now c.line-2.result.now c.line.ensures.line c.in-Release.is c.line-2.ensures.line c.in-Acquire.is
    (ap end_so_far (sym (stage_read c.args.stages.now c.in-Release.acquire Unissued known)) ∙ (sym c.end_of.ensures ∙ c.in-Done.is)) in
    read_less c.args.graph.now c.line.ensures.is_graph c.args.holders.now.holding.items c.args.holders.now.held.items c.requires.held c.in-Release.acquire c.in-Acquire.lock c.in-Acquire.shared c.line-2.result.now c.line-2.ensures.line c.in-Acquire.is c.index.result.now c.index.ensures c.parted-state.result c.parted-state.ensures (c.requires.holder c.in-Acquire.lock c.in-Release.acquire frees)

pub returns-in-Acquire-clause-shown : goal.returns-in-Acquire-clause-shown
returns-in-Acquire-clause-shown c =
    let known : c.in-Release.acquire < length c.args.stages.now = subst (λ n. c.in-Release.acquire < n) (sym c.requires.each) (acquire_known c.args.graph.now c.line.ensures.is_graph c.args.line c.in-Release.acquire c.line.result.now c.line.ensures.line c.in-Release.is) in
    let frees = frees_shown c.args.graph.now (map shown_stage c.args.stages.now) c.args.line c.in-Release.acquire c.in-Acquire.lock c.in-Acquire.shared c.line.result.now c.line-2.result.now c.line.ensures.line c.in-Release.is c.line-2.ensures.line c.in-Acquire.is
    (ap end_so_far (sym (stage_read c.args.stages.now c.in-Release.acquire Unissued known)) ∙ (sym c.end_of.ensures ∙ c.in-Done.is)) in
    shown_less c.args.graph.now c.line.ensures.is_graph c.args.holders.now.holding.items c.args.holders.now.held.items c.requires.held c.in-Release.acquire c.in-Acquire.lock c.in-Acquire.shared c.line-2.result.now c.line-2.ensures.line c.in-Acquire.is
    ∙ ap (holders_without (holders_by c.args.graph.now c.args.holders.now.holding.items)) (sym frees)
