use Rattle.std.proofs.Common.{◌≤◌, ◌∙◌, ap, map}
use Rattle.std.specs.String.{string_bytes}
use Rattle.std.specs.Prelude.{IfSome}
use Rattle.clap.specs.Words.{app_of, is_simple_and_free}
use Rattle.command_line.proofs.RequestFacts.{matched, requested, ranged, refused}
use Rattle.command_line.proofs.read_words.Goals as goal

pub returns-in-Ok-try_get_matches_from-clause-request : goal.returns-in-Ok-try_get_matches_from-clause-request
returns-in-Ok-try_get_matches_from-clause-request c =
    let words = map (λ word. string_bytes word) c.args.words.now in
    requested c.ok_or.result c.request_in.result words c.ok_or.ensures.value
    (c.request_in.ensures.request ∙ matched (app_of c.in-Ok.command) words c.in-Ok-try_get_matches_from.matches c.in-Ok.ensures c.in-Ok-try_get_matches_from.ensures.matches (c.in-Ok-try_get_matches_from.ensures.kinds (ap is_simple_and_free c.in-Ok.ensures)))

pub returns-in-Ok-try_get_matches_from-clause-size : goal.returns-in-Ok-try_get_matches_from-clause-size
returns-in-Ok-try_get_matches_from-clause-size c = ranged (λ q. (1 ≤ q.size) × (q.size ≤ 8192)) c.ok_or.result c.request_in.result c.ok_or.ensures.value c.request_in.ensures.size

pub returns-in-Ok-try_get_matches_from-clause-workers : goal.returns-in-Ok-try_get_matches_from-clause-workers
returns-in-Ok-try_get_matches_from-clause-workers c = ranged (λ q. q.workers ≤ 8) c.ok_or.result c.request_in.result c.ok_or.ensures.value c.request_in.ensures.workers

pub returns-in-Ok-try_get_matches_from-clause-slots : goal.returns-in-Ok-try_get_matches_from-clause-slots
returns-in-Ok-try_get_matches_from-clause-slots c = ranged (λ q. IfSome q.slots (λ n. (1 ≤ n) × (n ≤ 8192))) c.ok_or.result c.request_in.result c.ok_or.ensures.value c.request_in.ensures.slots

pub returns-in-Err-clause-request : goal.returns-in-Err-clause-request
returns-in-Err-clause-request c =
    let words = map (λ word. string_bytes word) c.args.words.now in
    refused (app_of c.in-Ok.command) words c.in-Err.error c.fault_of.result c.in-Ok.ensures c.fault_of.ensures (c.in-Err.ensures.kinds (ap is_simple_and_free c.in-Ok.ensures))
