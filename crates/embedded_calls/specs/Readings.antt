-- What is read after a run of the graph on the accounts.
use Rattle.std.specs.Prelude.{List, false}
use Rattle.graph_meaning.specs.Evaluation.{Step, cells_with, end_in, evaluation_with}
use Rattle.call_bodies.specs.Bodies.{host_does}
use Rattle.embedded_calls.specs.declared.accounts.Accounts.{Accounts}
use Rattle.embedded_calls.specs.declared.running.Reading.{Reading}
use Rattle.embedded_calls.specs.Accounts.{cells_of, accounts_in, accounts_do}
use Rattle.embedded_calls.specs.CallGraph.{call_graph}

-- the evaluation from these accounts, and what it leaves
abbrev pub evaluated : Accounts → List Step
evaluated a = evaluation_with (host_does call_graph (accounts_do call_graph) (λ i. false)) (cells_of a.x a.y) call_graph

abbrev pub reading_from : Accounts → Reading
reading_from a = record {
  halve = end_in (evaluated a) 0;
  carry = end_in (evaluated a) 1;
  double = end_in (evaluated a) 2;
  accounts = accounts_in (cells_with (cells_of a.x a.y) (evaluated a));
}
