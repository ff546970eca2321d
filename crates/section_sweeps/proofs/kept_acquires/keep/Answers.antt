use Rattle.std.proofs.lemmas.Result.{on_ok_weaker}
use Rattle.section_sweeps.proofs.Keeping.{keep_held, keep_grown, keep_kept}
use Rattle.section_sweeps.proofs.kept_acquires.keep.Goals as goal

pub returns-in-Some-clause-held : goal.returns-in-Some-clause-held
returns-in-Some-clause-held c =
    let a = c.in-Some.ensures.0 in
    on_ok_weaker c.keep.result (λ k. keep_held c.args.graph.now c.args.held.now c.keep.new.self c.in-Some.lock c.args.line c.args.acquire k c.requires.held (c.requires.section c.in-Some.lock a)) c.keep.ensures

pub returns-in-Some-clause-grown : goal.returns-in-Some-clause-grown
returns-in-Some-clause-grown c = on_ok_weaker c.keep.result (λ k. keep_grown c.args.graph.now c.args.held.now c.keep.new.self c.in-Some.lock c.args.line c.args.acquire k) c.keep.ensures

pub returns-in-Some-clause-kept : goal.returns-in-Some-clause-kept
returns-in-Some-clause-kept c = on_ok_weaker c.keep.result (λ k. keep_kept c.args.graph.now c.args.held.now c.keep.new.self c.in-Some.lock c.args.line c.args.acquire k c.in-Some.ensures.0) c.keep.ensures
