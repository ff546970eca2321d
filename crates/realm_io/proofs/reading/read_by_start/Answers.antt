-- What was read before, and then what the last read gave, is what the source lost.
use Rattle.std.proofs.Common.{◌≡◌, ◌++◌, length, take, arith}
use Rattle.std.proofs.lemmas.Grind.{common_steps}
use Rattle.std.proofs.lemmas.List.{length-take-le}
use Rattle.std.proofs.KnownBytes.{Consumes-trans}
use Rattle.realm_io.specs.Limit.{limit_by, LostTooMany}
use Rattle.realm_io.proofs.LimitFacts.{within_still, too_many, was_long}
use Rattle.realm_io.proofs.reading.read_by_start.Given.{Over}
use Rattle.realm_io.proofs.reading.read_by_start.Goals as goal

lost : (g : Over) (c : goal.After-drop-all-then-n-free g) → LostTooMany (limit_by c.args.start.now c.args.most c.args.limit) (g.S.Source.left c.args.source.now) (g.S.Source.left c.read.new.self)
lost g c =
    let last = take c.in-Ok.n c.read.new.into in
    let many : length last ≡ c.in-Ok.n = length-take-le c.in-Ok.n c.read.new.into c.in-Ok.ensures.bound in
    too_many c.args.start.now c.args.most c.args.limit 4096 c.requires.more c.requires.known _ _ c.loop-n.all.items last (grind (arith, common_steps)) (grind (arith, common_steps))
    (Consumes-trans _ _ _ _ last c.loop-n.invariant.came c.in-Ok.ensures.bytes)

pub returns-then-n-free-clause-too_long : goal.returns-then-n-free-clause-too_long
returns-then-n-free-clause-too_long g c = λ _. lost g c

pub returns-then-n-free-clause-was_long : goal.returns-then-n-free-clause-was_long
returns-then-n-free-clause-was_long g c = λ xs is _. was_long c.args.start.now c.args.most c.args.limit 4096 c.requires.more c.requires.known _ _ (omega arith) (lost g c) xs is

pub returns-then-is_err-clause-no_memory : goal.returns-then-is_err-clause-no_memory
returns-then-is_err-clause-no_memory g c =
    let last = take c.in-Ok.n c.read.new.into in
    let many : length last ≡ c.in-Ok.n = length-take-le c.in-Ok.n c.read.new.into c.in-Ok.ensures.bound in
    λ _. (c.loop-n.all.items ++ last, within_still c.args.start.now c.args.most c.args.limit 4096 c.requires.more c.requires.known c.loop-n.all.items last (grind (arith, common_steps)) (grind (arith, common_steps)), Consumes-trans _ _ _ _ last c.loop-n.invariant.came c.in-Ok.ensures.bytes)
