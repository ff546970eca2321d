use Rattle.std.proofs.Common.{◌≡◌, ℕ, ◌+◌, ◌<◌, ◌≤◌, length, ap, sym, subst, ◌∙◌, arith}
use Rattle.std.specs.Prelude.{Contains, Vec, slice_index}
use Rattle.std.specs.Global.{Global}
use Rattle.std.proofs.lemmas.Grind.{common_steps}
use Rattle.graph_terms.specs.Edges.{edges}
use Rattle.line_marks.specs.Marking.{unmarked, IsMarking}
use Rattle.explanations.specs.Search.{near_end, far_end, way_edges, AreCounts, IsFarEndOfSome}
use Rattle.line_marks.proofs.Public.{unmarked_most}
use Rattle.explanations.proofs.Levels.{IsSearch, level_known, search_begins, search_ends, search_more}
use Rattle.explanations.proofs.search.search_from.Goals as goal

pub levels-init : goal.levels-init
levels-init c =
    let all = way_edges c.args.way c.args.ends.now (edges c.args.graph.now) in
    let m = c.in_ok-find_starts.ensures.marking in
    let size : length c.find_starts.new.self.marks.by_line.items ≡ length c.args.graph.now.lines = m.size ∙ c.in_ok-search.ensures.size in
    record {
      size = size;
      some = omega arith;
      search = search_begins all (near_end c.args.way) (far_end c.args.way) (Contains c.args.starts.now) c.in_ok-search.search.marks.by_line.items c.in_ok-search.search.marks.pending.items c.find_starts.new.self.marks.by_line.items c.find_starts.new.self.marks.pending.items c.in_ok-search.ensures.none (ap length c.in_ok-search.ensures.pending) m;
      origins = c.in_ok-find_starts.ensures.origins all (near_end c.args.way) (far_end c.args.way);
      room = (let work : unmarked c.find_starts.new.self.marks.by_line.items + length c.find_starts.new.self.marks.pending.items ≡ unmarked c.in_ok-search.search.marks.by_line.items + length c.in_ok-search.search.marks.pending.items = m.work in
          let none : length c.in_ok-search.search.marks.pending.items ≡ 0 = ap length c.in_ok-search.ensures.pending in
          let most : unmarked c.in_ok-search.search.marks.by_line.items ≤ length c.in_ok-search.search.marks.by_line.items = unmarked_most c.in_ok-search.search.marks.by_line.items in
          let all_lines : length c.in_ok-search.search.marks.by_line.items ≡ length c.args.graph.now.lines = c.in_ok-search.ensures.size in omega arith);
    }

pub follow_all-requires-clause-known : goal.follow_all-requires-clause-known
follow_all-requires-clause-known c = λ i m.
    subst (λ n. i < n) c.levels.invariant.size
    (level_known (way_edges c.args.way c.args.ends.now (edges c.args.graph.now)) (near_end c.args.way) (far_end c.args.way) (Contains c.args.starts.now) c.levels.search.marks.by_line.items c.levels.count c.levels.search.marks.pending.items c.levels.invariant.some c.levels.invariant.search i
    (subst (λ xs. Contains xs i) (c.as_slice.ensures.value ∙ ap (λ (v : Vec ℕ Global). v.items) c.replace-level.ensures.value) m))

pub follow_all-requires-clause-origins_size : goal.follow_all-requires-clause-origins_size
follow_all-requires-clause-origins_size c = c.levels.invariant.origins.size ∙ c.levels.invariant.size

pub follow_all-requires-clause-next : goal.follow_all-requires-clause-next
follow_all-requires-clause-next c = λ i m.
    (let is : slice_index c.levels.search.marks.by_line.items i ≡ c.levels.count = c.levels.invariant.search.listed i (subst (λ xs. Contains xs i) (c.as_slice.ensures.value ∙ ap (λ (v : Vec ℕ Global). v.items) c.replace-level.ensures.value) m) in
    let r : c.levels.count + 1 ≡ slice_index c.levels.search.marks.by_line.items i + 1 = omega arith in r)

pub levels-preserved : goal.levels-preserved
levels-preserved c =
    let all = way_edges c.args.way c.args.ends.now (edges c.args.graph.now) in
    let m : IsMarking (IsFarEndOfSome all (near_end c.args.way) (far_end c.args.way) c.as_slice.result.now) (c.levels.count + 1) c.levels.search.marks.by_line.items c.replace-level.new.dest.items c.follow_all.new.self.marks.by_line.items c.follow_all.new.self.marks.pending.items = c.in_ok-follow_all.ensures.marking in
    let empty : length c.replace-level.new.dest.items ≡ 0 = ap length (ap (λ (v : Vec ℕ Global). v.items) c.replace-level.ensures.after ∙ c.new-in-levels.ensures.items) in
    let more : 0 < length c.levels.search.marks.pending.items = grind (arith, common_steps) in
    let work = m.work in
    let room = c.levels.invariant.room in
    record {
      size = m.size ∙ c.levels.invariant.size;
      some = omega arith;
      search = search_more all (near_end c.args.way) (far_end c.args.way) (Contains c.args.starts.now)
          c.levels.search.marks.by_line.items c.replace-level.new.dest.items c.follow_all.new.self.marks.by_line.items c.as_slice.result.now c.follow_all.new.self.marks.pending.items c.levels.count c.levels.invariant.some empty
          (subst (λ xs. IsSearch all (near_end c.args.way) (far_end c.args.way) (Contains c.args.starts.now) (slice_index c.levels.search.marks.by_line.items) c.levels.count xs)
          (sym (c.as_slice.ensures.value ∙ ap (λ (v : Vec ℕ Global). v.items) c.replace-level.ensures.value)) c.levels.invariant.search)
          m;
      origins = c.in_ok-follow_all.ensures.origins c.args.starts.now c.levels.invariant.origins;
      room = omega (arith, work, room, empty, more);
    }

pub returns-clause-counts : goal.returns-clause-counts
returns-clause-counts c =
    let all = way_edges c.args.way c.args.ends.now (edges c.args.graph.now) in
    let none : length c.levels.search.marks.pending.items ≡ 0 = grind (arith, common_steps) in
    subst (λ (v : Vec ℕ Global). AreCounts all (near_end c.args.way) (far_end c.args.way) (Contains c.args.starts.now) (slice_index v.items)) (sym c.into_tree.ensures.counts)
    (search_ends all (near_end c.args.way) (far_end c.args.way) (Contains c.args.starts.now) (slice_index c.levels.search.marks.by_line.items) c.levels.count c.levels.search.marks.pending.items none c.levels.invariant.search)
