use Rattle.std.proofs.Common.{length, refl, arith}
use Rattle.std.proofs.lemmas.Option.{slice_get_read}
use Rattle.conflict_classes.proofs.guards.Guarding.propose.Goals as goal

pub index-requires : goal.index-requires
index-requires c = let low = c.requires.classes.known c.args.number c.index-class.result.now (slice_get_read c.args.classes.now.of.items (length c.args.classes.now.of.items) c.args.number c.index-class.result.now refl c.requires.number c.index-class.ensures) in omega (arith, low)

pub index-requires-then-is_reduction : goal.index-requires-then-is_reduction
index-requires-then-is_reduction c = let low = c.requires.classes.known c.args.number c.index-class.result.now (slice_get_read c.args.classes.now.of.items (length c.args.classes.now.of.items) c.args.number c.index-class.result.now refl c.requires.number c.index-class.ensures) in omega (arith, low, c.requires.locks)
