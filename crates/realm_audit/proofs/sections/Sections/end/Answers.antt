use Rattle.std.proofs.Common.{◌≡◌, ◌+◌, false, cond, ◌∙◌, arith}
use Rattle.std.specs.Prelude.{◌==◌, slice_set, not, ◌&&◌}
use Rattle.std.proofs.lemmas.List.{length-set}
use Rattle.realm_audit.specs.Prefix.{number_in, stands_in, open_count, is_exclusive_of}
use Rattle.graph_terms.specs.Graph.{is_acquire_of}
use Rattle.realm_audit.proofs.SectionCounts.{all_some, exclusive_some, all_counted, exclusive_counted, ends_at}
use Rattle.realm_audit.proofs.sections.Sections.end.Goals as goal

pub count_down-requires-clause-some : goal.count_down-requires-clause-some
count_down-requires-clause-some c = omega (arith, c.requires.counted.all c.args.lock, all_some c.args.graph.now c.args.acquire c.args.lock c.args.shared c.requires.acquires c.requires.shared c.args.self.now.opened.items c.requires.opened)

pub count_down_unless-requires-clause-some : goal.count_down_unless-requires-clause-some
count_down_unless-requires-clause-some c = λ alone.
    omega (arith, c.requires.counted.exclusive c.args.lock, exclusive_some c.args.graph.now c.args.acquire c.args.lock c.args.shared c.requires.acquires c.requires.shared c.args.self.now.opened.items c.requires.opened alone)

pub returns-clause-counted : goal.returns-clause-counted
returns-clause-counted c =
    let g = c.args.graph.now in
    let before = c.args.self.now.opened.items in
    let after = slice_set before c.args.acquire false in
    let ends = ends_at g c.args.acquire c.args.lock c.args.shared c.requires.acquires c.requires.shared before c.requires.counted.opened_size c.requires.opened in
    record {
      opened_size = length-set before c.args.acquire false ∙ c.requires.counted.opened_size;
      all_size = c.count_down.ensures.size ∙ c.requires.counted.all_size;
      exclusive_size = c.count_down_unless.ensures.size ∙ c.requires.counted.exclusive_size;
      all = λ l. (
          let counts : number_in c.args.self.now.all.items l ≡ cond (c.args.lock == l) 1 0 + number_in c.count_down.new.counts.items l = c.count_down.ensures.counts l in
          let was : number_in c.args.self.now.all.items l ≡ open_count g (stands_in before) (is_acquire_of l) = c.requires.counted.all l in
          let one : open_count g (stands_in before) (is_acquire_of l) ≡ cond (c.args.lock == l) 1 0 + open_count g (stands_in after) (is_acquire_of l) = all_counted g c.args.acquire c.args.lock c.args.shared c.requires.acquires c.requires.shared after before ends l in
          omega arith);
      exclusive = λ l. (
          let few = cond (not c.args.shared && (c.args.lock == l)) 1 0 in
          let counts : number_in c.args.self.now.exclusive.items l ≡ few + number_in c.count_down_unless.new.counts.items l = c.count_down_unless.ensures.counts l in
          let was : number_in c.args.self.now.exclusive.items l ≡ open_count g (stands_in before) (is_exclusive_of l) = c.requires.counted.exclusive l in
          let one : open_count g (stands_in before) (is_exclusive_of l) ≡ few + open_count g (stands_in after) (is_exclusive_of l) =
          exclusive_counted g c.args.acquire c.args.lock c.args.shared c.requires.acquires c.requires.shared after before ends l in
          omega arith);
    }
