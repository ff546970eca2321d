use Rattle.std.proofs.Common.{subst}
use Rattle.program_io.proofs.Public.{said_of_read}
use Rattle.flow_top.specs.Served.{IsServed}
use Rattle.flow_top.proofs.serving.serve_flow.Goals as goal

pub returns-in-Ok-clause-served : goal.returns-in-Ok-clause-served
returns-in-Ok-clause-served g c =
    let old = g.K.Sink.state c.args.sink.now in
    let new = g.K.Sink.state c.serve_bytes.new.sink in
    said_of_read (λ bytes. IsServed bytes c.args.commute c.args.format old new c.serve_bytes.result) _ _ c.in-Ok.bytes.items c.in-Ok.ensures.all c.in-Ok.ensures.end
    (subst (λ bytes. IsServed bytes c.args.commute c.args.format old new c.serve_bytes.result) c.as_slice.ensures.value c.serve_bytes.ensures.served)
