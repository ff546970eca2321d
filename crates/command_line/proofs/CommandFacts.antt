-- What the builders make.
use Rattle.std.proofs.Common.{◌≡◌, ◌∙◌, ap, codes, true}
use Rattle.clap.specs.Words.{App, app_of, new_app}
use Rattle.clap.specs.declared.builder.command.Command.TheViews.{out-Command as fields_of}
use Rattle.clap.specs.Simple.{app_of_fields}
use Rattle.clap.specs.declared.builder.command.Command.{Command}
use Rattle.command_line.specs.Request.{bare_command}

pub bare_is : (a b c : Command) → app_of a ≡ new_app (codes "realm") → fields_of b ≡ record (fields_of a) { disable_help_flag = true } → fields_of c ≡ record (fields_of b) { disable_version_flag = true } → app_of c ≡ bare_command
bare_is a b c e f g =
    ap app_of_fields g ∙ (ap (λ x. app_of_fields (record x { disable_version_flag = true })) f
    ∙ ap (λ (x : App). record { top = record x.top { disable_help_flag = true; disable_version_flag = true }; subs = x.subs }) e)
