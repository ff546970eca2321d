use Rattle.std.proofs.Common.{sym, ◌∙◌}
use Rattle.std.proofs.lemmas.Option.{same_Some}
use Rattle.realm_top.proofs.Requests.{request_refused, request_cut_off, request_complete, request_done, request_paths, request_audited, request_upgraded, request_session, request_made}
use Rattle.realm_top.proofs.realm.Goals as goal

pub returns-in-Ok-clause-done : goal.returns-in-Ok-clause-done
returns-in-Ok-clause-done g c =
    λ e. (c.in-Ok.request, c.in-Ok.ensures.request, λ y. request_done c.in-Ok.request (g.S.Source.left c.args.source.now) _ _ c.answer_request.result c.answer_request.ensures.answered y e)

pub returns-in-Ok-clause-paths : goal.returns-in-Ok-clause-paths
returns-in-Ok-clause-paths g c =
    λ e. (c.in-Ok.request, c.in-Ok.ensures.request, λ y. request_paths c.in-Ok.request (g.S.Source.left c.args.source.now) _ _ c.answer_request.result c.answer_request.ensures.answered c.paths_tell_ends.ensures y e)

pub returns-in-Ok-clause-lawful : goal.returns-in-Ok-clause-lawful
returns-in-Ok-clause-lawful g c =
    λ e. (c.in-Ok.request, c.in-Ok.ensures.request, λ y. request_audited c.in-Ok.request (g.S.Source.left c.args.source.now) _ _ c.answer_request.result c.answer_request.ensures.answered y e)

pub returns-in-Ok-clause-upgraded : goal.returns-in-Ok-clause-upgraded
returns-in-Ok-clause-upgraded g c =
    λ e. (c.in-Ok.request, c.in-Ok.ensures.request, λ y. request_upgraded c.in-Ok.request (g.S.Source.left c.args.source.now) _ _ c.answer_request.result c.answer_request.ensures.answered y e)

pub returns-in-Ok-clause-session : goal.returns-in-Ok-clause-session
returns-in-Ok-clause-session g c =
    λ e. (c.in-Ok.request, c.in-Ok.ensures.request, λ y. request_session c.in-Ok.request (g.S.Source.left c.args.source.now) _ _ c.answer_request.result c.answer_request.ensures.answered y e)

pub returns-in-Ok-clause-made : goal.returns-in-Ok-clause-made
returns-in-Ok-clause-made g c =
    λ e. (c.in-Ok.request, c.in-Ok.ensures.request, λ y. request_made c.in-Ok.request (g.S.Source.left c.args.source.now) _ _ c.answer_request.result c.answer_request.ensures.answered y e)

pub returns-in-Ok-clause-refused : goal.returns-in-Ok-clause-refused
returns-in-Ok-clause-refused g c =
    λ e. (c.in-Ok.request, c.in-Ok.ensures.request, request_refused c.in-Ok.request (g.S.Source.left c.args.source.now) _ _ c.answer_request.result c.answer_request.ensures.answered e)

pub returns-in-Ok-clause-cut_off : goal.returns-in-Ok-clause-cut_off
returns-in-Ok-clause-cut_off g c =
    λ e. (c.in-Ok.request, c.in-Ok.ensures.request, request_cut_off c.in-Ok.request (g.S.Source.left c.args.source.now) _ _ c.answer_request.result c.answer_request.ensures.answered e)

pub returns-in-Ok-clause-complete : goal.returns-in-Ok-clause-complete
returns-in-Ok-clause-complete g c =
    λ request xs status w i a quiet silent.
    request_complete c.in-Ok.request (g.S.Source.left c.args.source.now) _ _ c.answer_request.result c.answer_request.ensures.answered c.answers_are_one.ensures (λ e. quiet (c.answer_request.ensures.read_fault e).0)
    request (same_Some _ _ (sym c.in-Ok.ensures.request ∙ w)) xs status i a silent
