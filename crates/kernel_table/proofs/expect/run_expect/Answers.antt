use Rattle.std.proofs.Common.{◌≡◌, ◌&&◌, if◌then◌else◌, nat_le, refl, ap, ◌∙◌, arith}
use Rattle.index_spaces.specs.Space.{points}
use Rattle.index_spaces.specs.Column.{cell_of}
use Rattle.graph_terms.specs.declared.outcome.Verdict.TheVariants.{Fine, Fault}
use Rattle.graph_terms.specs.declared.verb.Mode.TheVariants.{Read}
use Rattle.graph_terms.specs.declared.table.Kernel.TheVariants.{Expect}
use Rattle.graph_terms.specs.Graph.{space_at}
use Rattle.graph_terms.specs.Access.{access, kernel_accesses}
use Rattle.graph_meaning.specs.Effect.{all_within, seen}
use Rattle.kernel_table.proofs.Seen.{cell_is_seen}
use Rattle.kernel_table.proofs.Sums.{all_agree}
use Rattle.kernel_table.proofs.expect.run_expect.Goals as goal

pub returns : goal.returns
returns c =
    let old = c.args.held.now in
    let spaces = space_at c.args.graph.now in
    let accesses = kernel_accesses (Expect c.args.x c.args.s c.args.low c.args.high) in
    let space = spaces c.args.s in
    let from = c.source.result in
    let from_seen = cell_is_seen c.cells_by_point.ensures c.seen_cells.ensures spaces accesses (access c.args.x c.args.s Read) old from (0, omega arith, refl) refl c.source.ensures.column c.source.ensures.is_space c.requires.1 in
    let within : c.points_within.result ≡ all_within (cell_of from) c.args.low c.args.high (points space) = rw c.space-space.ensures at c.points_within.ensures in
    record {
      verdict = λ cells has.
          c.verdict_of.ensures
          ∙ ap (λ b. if b then Fine else Fault) (within
          ∙ all_agree (λ v. nat_le c.args.low v && nat_le v c.args.high) (cell_of from) (seen spaces accesses cells c.args.x) (points space)
          (λ q m. from_seen cells has q ((c.points_are_listed.ensures space q).0 m)));
      changes = record { number = refl; spaces = λ c. refl; lendings = λ c. refl; cells = λ cells has. has };
    }
