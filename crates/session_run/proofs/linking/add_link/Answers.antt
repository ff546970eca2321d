use Rattle.std.proofs.Common.{ap, sym, ◌∙◌}
use Rattle.std.specs.Prelude.{is_some}
use Rattle.std.proofs.lemmas.Bool.{true≢false}
use Rattle.session_text.proofs.Naming.{place_named}
use Rattle.session_run.proofs.linking.add_link.Goals as goal

pub unreachable-requires : goal.unreachable-requires
unreachable-requires c = true≢false (sym c.requires.user ∙ (place_named c.args.graph.now c.args.link.now.user ∙ ap is_some (sym c.in_default.ensures)))
