use Rattle.std.proofs.Common.{◌≡◌, false, take}
use Rattle.session_text.specs.Fits.{names_op}
use Rattle.session_text.proofs.links.names_op.Given as goal

abbrev pub invariant-loop-place : goal.invariant-loop-place
invariant-loop-place l = names_op (take l.place l.before) l.link ≡ false
