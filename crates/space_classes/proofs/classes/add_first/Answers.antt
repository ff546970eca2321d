use Rattle.std.proofs.Common.{subst}
use Rattle.std.specs.Prelude.{Contains}
use Rattle.space_classes.proofs.classes.add_first.Goals as goal

pub has_class-requires : goal.has_class-requires
has_class-requires c = λ a k. c.requires.known a (subst (λ xs. Contains xs a) c.deref.ensures.value k)
