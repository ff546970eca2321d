use Rattle.std.proofs.Common.{sym, ◌∙◌}
use Rattle.told_names.proofs.NamedFacts.{name_is_kept}
use Rattle.told_names.proofs.name_list.NameList.add.Goals as goal

pub returns-then-is_at : goal.returns-then-is_at
returns-then-is_at c = c.go_on.ensures ∙ name_is_kept c.args.self.now c.self.inside.next c.args.name.now (sym c.is_at.ensures ∙ c.if-is_at.true)

pub returns-then-is_at-2 : goal.returns-then-is_at-2
returns-then-is_at-2 c = name_is_kept c.args.self.now _ c.args.name.now (sym c.is_at-2.ensures ∙ c.if-is_at-2.true)
