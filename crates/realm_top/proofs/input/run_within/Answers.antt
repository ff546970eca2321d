use Rattle.std.proofs.Common.{◌≡◌, sym, ◌∙◌}
use Rattle.realm_top.proofs.Serving.{run_serves, short_serves}
use Rattle.realm_top.proofs.input.run_within.Goals as goal
