use Rattle.std.proofs.Common.{◌≡◌, length, sym, subst, arith}
use Rattle.graph_meaning.specs.Laws.{KeepsToAccesses}
use Rattle.embedded_calls.specs.Accounts.{accounts_do}
use Rattle.embedded_calls.proofs.BodiesFit.{bodies_keep}
use Rattle.embedded_calls.proofs.Evaluated.{three_ends, all_read}
use Rattle.embedded_calls.proofs.running.run_once.Goals as goal

pub run_calls-requires-clause-keeps : goal.run_calls-requires-clause-keeps
run_calls-requires-clause-keeps c = subst (λ g. KeepsToAccesses g (accounts_do g)) (sym c.requires.graph) bodies_keep

pub at-requires : goal.at-requires
at-requires c = let n : length c.in_ok-outcome.outcome.ends ≡ 3 = three_ends c.args.checked.now.graph c.in_ok-outcome.outcome c.requires.graph c.in_ok-outcome.ensures.evaluated in omega (arith, n)

pub at-requires-2 : goal.at-requires-2
at-requires-2 c = let n : length c.in_ok-outcome.outcome.ends ≡ 3 = three_ends c.args.checked.now.graph c.in_ok-outcome.outcome c.requires.graph c.in_ok-outcome.ensures.evaluated in omega (arith, n)

pub at-requires-3 : goal.at-requires-3
at-requires-3 c = let n : length c.in_ok-outcome.outcome.ends ≡ 3 = three_ends c.args.checked.now.graph c.in_ok-outcome.outcome c.requires.graph c.in_ok-outcome.ensures.evaluated in omega (arith, n)

pub returns-clause-reading : goal.returns-clause-reading
returns-clause-reading c = all_read c.args.checked.now.graph c.in_ok-outcome.outcome c.args.accounts c.run_calls.new.bodies c.requires.graph c.in_ok-outcome.ensures.ends c.in_ok-outcome.ensures.memory
    c.at.result c.at-2.result c.at-3.result c.at.ensures c.at-2.ensures c.at-3.ensures
