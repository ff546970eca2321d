-- What may be read goes by the action and by the first bytes.
use Rattle.std.proofs.Common.{◌≡◌, ◌≤◌, ◌<◌, ℕ, ◌*◌, Bool, true, false, cond, List, length, refl, sym, ◌∙◌, ap, subst}
use Rattle.std.specs.Prelude.{vec_len, nat_eq}
use Rattle.std.specs.List.{starts_with}
use Rattle.std.proofs.lemmas.Result.{IfOk-weaker}
use Rattle.graph_terms.specs.declared.format.Format.TheVariants.{Three}
use Rattle.graph_terms.specs.Spelling.{header}
use Rattle.command_line.specs.declared.request.Action.{Action}
use Rattle.command_line.specs.declared.request.Action.TheVariants.{Audit}
use Rattle.realm_io.specs.Limit.{limit_by}
use Rattle.realm_top.specs.Answer.{input_limit}
use Rattle.realm_top.proofs.Requests.{limit_else}
use Rattle.realm_top.proofs.reading.read_input.Goals as goal

twice : (b : Bool) (m n : ℕ) → cond b (2 * m) (2 * n) ≡ 2 * cond b m n
twice true m n = refl
twice false m n = refl

audit_by : (action : Action) (bytes : List ℕ) → action ≡ Audit → limit_by (header Three) 33554432 2097152 bytes ≡ input_limit action bytes
audit_by action bytes e = twice (starts_with nat_eq bytes (header Three)) 16777216 1048576 ∙ ap (λ (a : Action). input_limit a bytes) (sym e)

pub returns-in-Audit-clause-within : goal.returns-in-Audit-clause-within
returns-in-Audit-clause-within g c =
    IfOk-weaker c.read_by_start.result _ _ (λ v h. subst (λ n. vec_len v ≤ n) (audit_by c.args.action v.items c.in-Audit.is) h) c.read_by_start.ensures.within

pub returns-in-Audit-clause-was_long : goal.returns-in-Audit-clause-was_long
returns-in-Audit-clause-was_long g c = λ xs h e. subst (λ n. n < length xs) (audit_by c.args.action xs c.in-Audit.is) (c.read_by_start.ensures.was_long xs h e)

pub returns-in_default-clause-within : goal.returns-in_default-clause-within
returns-in_default-clause-within g c =
    IfOk-weaker c.read_by_start-in_default.result _ _ (λ v h. subst (λ n. vec_len v ≤ n) (sym (limit_else c.args.action v.items c.in_default.not-Audit c.in_default.not-Session)) h) c.read_by_start-in_default.ensures.within

pub returns-in_default-clause-was_long : goal.returns-in_default-clause-was_long
returns-in_default-clause-was_long g c =
    λ xs h e. subst (λ n. n < length xs) (sym (limit_else c.args.action xs c.in_default.not-Audit c.in_default.not-Session)) (c.read_by_start-in_default.ensures.was_long xs h e)
