use Rattle.std.proofs.Common.{ap, ap₂, codes, true, false, ◌≡◌, ◌∙◌}
use Rattle.std.proofs.lemmas.Result.{IfOk-weaker}
use Rattle.clap.specs.Words.{Rule, new_rule, rule_of, with_rule}
use Rattle.clap.specs.declared.builder.arg.Arg.{Arg}
use Rattle.command_line.proofs.CommandFacts.{bare_is}
use Rattle.command_line.proofs.command.Goals as goal

pub returns : goal.returns
returns c =
    let action_is : rule_of c.required-action.result ≡ record (new_rule (codes "ACTION")) { required = true } = ap rule_of c.required-action.ensures ∙ ap (λ (r : Rule). record r { required = true }) c.new.ensures.rule in
    let local : c.required-action.result.global ≡ false = ap (λ (a : Arg). a.global) c.required-action.ensures ∙ c.new.ensures.optional.1 in
    let bare = bare_is c.new-2.result c.disable_help_flag.result c.disable_version_flag.result c.new-2.ensures.app c.disable_help_flag.ensures c.disable_version_flag.ensures in
    let a1 = c.in_ok-arg.ensures.shape local ∙ ap₂ with_rule bare action_is in
    let a2 = c.in_ok-arg-2.ensures.shape c.option.ensures.local ∙ ap₂ with_rule a1 c.option.ensures.rule in
    let a3 = c.in_ok-arg-3.ensures.shape c.option-2.ensures.local ∙ ap₂ with_rule a2 c.option-2.ensures.rule in
    let a4 = c.in_ok-arg-4.ensures.shape c.option-3.ensures.local ∙ ap₂ with_rule a3 c.option-3.ensures.rule in
    let a5 = c.in_ok-arg-5.ensures.shape c.option-4.ensures.local ∙ ap₂ with_rule a4 c.option-4.ensures.rule in
    let a6 = c.in_ok-arg-6.ensures.shape c.option-5.ensures.local ∙ ap₂ with_rule a5 c.option-5.ensures.rule in
    let a7 = c.in_ok-arg-7.ensures.shape c.option-6.ensures.local ∙ ap₂ with_rule a6 c.option-6.ensures.rule in
    let a8 = c.in_ok-arg-8.ensures.shape c.flag.ensures.local ∙ ap₂ with_rule a7 c.flag.ensures.rule in
    let a9 = c.in_ok-arg-9.ensures.shape c.flag-2.ensures.local ∙ ap₂ with_rule a8 c.flag-2.ensures.rule in
    let a10 = c.in_ok-arg-10.ensures.shape c.option-7.ensures.local ∙ ap₂ with_rule a9 c.option-7.ensures.rule in
    IfOk-weaker c.arg-11.result _ _ (λ r h. h.shape c.flag-3.ensures.local ∙ ap₂ with_rule a10 c.flag-3.ensures.rule) c.arg-11.ensures
