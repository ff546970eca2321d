use Rattle.std.proofs.Common.{◌≡◌, ◌<◌, ◌≤◌, length, sym, ap, subst, arith}
use Rattle.std.specs.Prelude.{None, slice_index}
use Rattle.std.proofs.lemmas.List.{get_or_read}
use Rattle.conflict_classes.specs.Classes.{place_at}
use Rattle.race_sweeps.specs.Members.{IsLastBelow}
use Rattle.race_sweeps.specs.Scan.{AreSettledWith, IsWalked}
use Rattle.race_sweeps.proofs.Walking.{rest_of, walk_begins, walk_stops, walk_ends, walk_more, rest_less, found_low, found_class}
use Rattle.race_sweeps.proofs.scan.Scan.walk.Goals as goal

pub loop-found-init : goal.loop-found-init
loop-found-init c =
    let t = c.args.table.now in
    let last = c.args.self.now.members.last.items in
    let listed = c.requires.listed.3 in
    let small : c.args.ask.class < length last = omega (arith, listed.lasts, c.requires.class) in
    record {
      size = c.requires.size;
      noted = λ i h. h;
      walking = walk_begins c.args.graph.now t c.args.racing.now.items c.args.first c.args.ask (length c.args.self.now.members.earlier.items) c.index-found.result.now
          (subst (λ m. IsLastBelow t.classes.items c.args.ask.class m c.index-found.result.now) (sym listed.members.size)
          (subst (λ o. IsLastBelow t.classes.items c.args.ask.class (slice_index t.begins.items c.requires.listed.0) o) (sym (get_or_read last c.args.ask.class c.index-found.result.now small c.index-found.ensures None)) (listed.members.last_is c.args.ask.class small)));
    }

pub loop-found-preserved : goal.loop-found-preserved
loop-found-preserved c =
    let g = c.args.graph.now in
    let t = c.args.table.now in
    let earlier = c.args.self.now.members.earlier.items in
    let listed = c.requires.listed.3 in
    let found = c.loop-found.found in
    let m = c.in-Some.number in
    let low = found_low g t c.loop-found.racing.items c.args.first c.args.ask (length earlier) found c.loop-found.invariant.walking m c.in-Some.is in
    let class = found_class g t c.loop-found.racing.items c.args.first c.args.ask (length earlier) found c.loop-found.invariant.walking m c.in-Some.is in
    let are = c.requires.table.classes_are in
    let listed' : m < length t.sites.items = (let l : m < length earlier = low in let all : slice_index t.begins.items c.requires.listed.0 ≤ length t.sites.items = (are.begin c.requires.listed.0 c.requires.listed.1).within in omega (arith, listed.members.size)) in
    let place = c.index-place.result.now in
    let at : place ≡ place_at t.sites.items m = get_or_read t.sites.items m place listed' c.index-place.ensures 0 in
    record {
      size = c.settle.ensures.size;
      noted = λ i h. c.settle.ensures.noted i (c.loop-found.invariant.noted i h);
      walking = walk_more g t c.loop-found.racing.items c.args.first c.args.ask (length earlier) found c.loop-found.invariant.walking m c.in-Some.is c.settle.new.racing.items c.settle.ensures.noted (subst (λ z. AreSettledWith g t.lines.items c.settle.new.racing.items c.args.first z c.args.ask.word) at c.settle.ensures.settled) c.index-found-in-Some.result.now
          (subst (λ o. IsLastBelow t.classes.items c.args.ask.class m o) (sym (get_or_read earlier m c.index-found-in-Some.result.now low c.index-found-in-Some.ensures None)) (listed.members.earlier_is m c.args.ask.class (omega (arith, low, listed.members.size)) class));
    }

pub loop-found-smaller : goal.loop-found-smaller
loop-found-smaller c =
    let g = c.args.graph.now in
    let t = c.args.table.now in
    let earlier = c.args.self.now.members.earlier.items in
    let listed = c.requires.listed.3 in
    let found = c.loop-found.found in
    let m = c.in-Some.number in
    let low = found_low g t c.loop-found.racing.items c.args.first c.args.ask (length earlier) found c.loop-found.invariant.walking m c.in-Some.is in
    let class = found_class g t c.loop-found.racing.items c.args.first c.args.ask (length earlier) found c.loop-found.invariant.walking m c.in-Some.is in
    let less = rest_less t.classes.items c.args.ask.class m c.index-found-in-Some.result.now
    (subst (λ o. IsLastBelow t.classes.items c.args.ask.class m o) (sym (get_or_read earlier m c.index-found-in-Some.result.now low c.index-found-in-Some.ensures None)) (listed.members.earlier_is m c.args.ask.class (omega (arith, low, listed.members.size)) class)) in
    subst (λ n. rest_of c.index-found-in-Some.result.now < n) (sym (ap rest_of c.in-Some.is)) less

pub returns-then-place-ask-clause-walked : goal.returns-then-place-ask-clause-walked
returns-then-place-ask-clause-walked c k listed =
    let g = c.args.graph.now in
    let t = c.args.table.now in
    let earlier = c.args.self.now.members.earlier.items in
    let found = c.loop-found.found in
    let m = c.in-Some.number in
    let walking = c.loop-found.invariant.walking in
    let low = found_low g t c.loop-found.racing.items c.args.first c.args.ask (length earlier) found walking m c.in-Some.is in
    let are = c.requires.table.classes_are in
    let listed' : m < length t.sites.items = (let l : m < length earlier = low in let all : slice_index t.begins.items c.requires.listed.0 ≤ length t.sites.items = (are.begin c.requires.listed.0 c.requires.listed.1).within in omega (arith, c.requires.listed.3.members.size)) in
    let place = c.index-place.result.now in
    let at : place ≡ place_at t.sites.items m = get_or_read t.sites.items m place listed' c.index-place.ensures 0 in
    subst (λ n. IsWalked g t c.loop-found.racing.items c.args.first n c.args.ask) listed.members.size
    (walk_stops g t c.loop-found.racing.items c.args.first c.args.ask (length earlier) found walking m c.in-Some.is are.numbered (omega (arith, at, c.if-place-ask.true)))

pub returns-clause-walked : goal.returns-clause-walked
returns-clause-walked c k listed =
    let g = c.args.graph.now in
    let t = c.args.table.now in
    let earlier = c.args.self.now.members.earlier.items in
    subst (λ n. IsWalked g t c.loop-found.racing.items c.args.first n c.args.ask) listed.members.size
    (walk_ends g t c.loop-found.racing.items c.args.first c.args.ask (length earlier) c.loop-found.found c.loop-found.invariant.walking c.in_default.is)
