-- A line gives the shares of a column back, and takes and gives back a column with all of them.
use Rattle.std.proofs.Common.{◌≡◌, ℕ, zero, suc, ◌<◌, ◌≤◌, ◌+◌, ◌-◌, ◌^◌, Bool, inl, inr, true, false, cond, List, [], ◌∷◌, ◌++◌, length, refl, sym, ◌∙◌, ap, subst, arith, ⊎_elim, eq-eqb, ne_eqb, append_assoc}
use Rattle.std.specs.Prelude.{Contains, Option, Some, None, option_map, ◌==◌, min}
use Rattle.std.proofs.lemmas.Bool.{cases_eq}
use Rattle.std.proofs.lemmas.Option.{none-some, same_Some}
use Rattle.std.proofs.lemmas.List.Elements.{Contains-append_left, Contains-append_right}
use Rattle.index_spaces.specs.Column.{ColumnValue}
use Rattle.index_spaces.specs.Shares.{ShareValue}
use Rattle.index_spaces.specs.Held.{HeldList, held_at, lending_at}
use Rattle.graph_terms.specs.Graph.{GraphValue, columns}
use Rattle.shared_events.specs.declared.events.Events.{Events}
use Rattle.basics.proofs.ListFacts.{contains_none, contains_here, contains_there, contains_cases}
use Rattle.run_state.specs.Sound.{home_cells}
use Rattle.run_state.specs.Work.{put_cells}
use Rattle.run_state.specs.Sharing.{ChangesColumn}
use Rattle.share_words.specs.Shares.{share_count}
use Rattle.word_steps.specs.declared.content.Content.{Content}
use Rattle.word_steps.specs.declared.content.Content.TheVariants.{Nothing, Cells, Lent, Share}
use Rattle.word_steps.specs.declared.view.View.{View}
use Rattle.word_steps.specs.Claims.{Claim, TakenShare}
use Rattle.word_steps.specs.Layout.{size_of, turn_word, share_word, column_slot, share_slot}
use Rattle.word_steps.specs.Rule.{ground_of, column_with, home_content, count_of, share_value}
use Rattle.word_steps.specs.Lending.{home_for, all_for, first_for, AreWhole}
use Rattle.word_steps.specs.Plays.{Sat, on_claim, took, saw_at, HasTurn, NotOwn, FreeByShares, missed, gives_share, reads_back, returns_unused, puts_back, unused, put_on, lent_anew, but_first, first_column, first_shared, shares_anew, top_lending, top_cells, read_on, without_share}
use Rattle.word_steps.specs.Premises.{Has, MayTake, MayGiveShare, MayReadBack, MayReturn, MayPut}
use Rattle.word_loads.specs.Laden.{AreFirst, slots_of}
use Rattle.word_loads.specs.declared.loads.Load.{Load}
use Rattle.word_loads.specs.Gathering.{with_shares, stacked, after, MayGather, IsGathered, GivesOne, without_first, SeenOnTop, MayRead, less_seen, less_read, WholeOnTop, less_whole, as_home, as_left, TakesWhole, FindsWhole, GainsOne}
use Rattle.atomic_table.specs.Table.{rest}
use Rattle.word_steps.proofs.Public.{has_key, first_none, first_some, first_all, whole_for}
use Rattle.word_loads.proofs.GatherFacts.{none_stacked, one_less, first_has, found_more, claim_with}

-- ONE SHARE, which lies in its slot again
module _ (g : GraphValue) (c j : ℕ) (m : Sat) (x : ShareValue) (w : GivesOne g c j m x) (n : Sat) (view : n.0 ≡ m.0) (hand : n.1 ≡ (share_slot (size_of g) c j, Share x) ∷ w.left) where
  abbrev pub may_give : MayGiveShare g c j n
  may_give = record {
    claim = w.claim;
    has = ap (λ (v : View). v.claim) view ∙ w.has;
    share = w.share;
    more = w.more;
    first = w.first;
    is = w.is;
    has_not = w.has_not;
    left = w.left;
    tops = hand ∙ ap (λ (y : ShareValue). (share_slot (size_of g) c j, Share y) ∷ w.left) w.value;
  }

  pub given : (o : Sat) → gives_share n o → o ≡ without_first m
  given o q = q ∙ (λ t. (on_claim without_share (view t), (ap (λ (l : List (ℕ × Content)). rest l) hand ∙ sym (ap (λ (l : List (ℕ × Content)). rest l) w.hand)) t))

-- FIRST SHARES given back, the last of them first
module _ (g : GraphValue) (c k : ℕ) (ss : List TakenShare) (x : ShareValue) (m n : Sat) (h : IsGathered g c (suc k) ss (Some x) m n) (few : suc k ≤ share_count g c) (small : share_count g c < 2 ^ 63) where
  pub value_is : x ≡ record { column = column_with g c h.cells; lending = h.lending; count = 2 ^ 63 + suc k - share_count g c }
  value_is = same_Some x (record { column = column_with g c h.cells; lending = h.lending; count = 2 ^ 63 + suc k - share_count g c })
      (h.together ∙ (first_some (share_count g c) h.lending (column_with g c h.cells) (suc k) (omega (arith, few)) ∙ ap (λ i. Some (record { column = column_with g c h.cells; lending = h.lending; count = 2 ^ 63 + i - share_count g c })) (let q : min (suc k) (share_count g c) ≡ suc k = omega (arith, few) in q)))

  pub count_is : x.count ≡ 2 ^ 63 + suc k - share_count g c
  count_is = ap (λ (y : ShareValue). y.count) value_is

  abbrev s : TakenShare
  s = h.first.0

  abbrev pub more : List TakenShare
  more = h.first.1

  last_in : Contains ss s
  last_in = subst (λ l. Contains l s) (sym h.first.2) (contains_here s more)

  now_more : n ≡ stacked g (s ∷ more) m
  now_more = h.now ∙ ap (λ l. stacked g l m) h.first.2

  -- the last of them lies on top
  pub gives_last : (y : ShareValue) → y ≡ record x { count = count_of g c k } → GivesOne g c k n y
  gives_last y is =
      let same = h.same s last_in in
      record {
        claim = with_shares (s ∷ more) h.claim;
        has = ap (λ (z : Sat). z.0.claim) now_more ∙ ap (option_map (with_shares (s ∷ more))) h.has;
        has_not = h.has_not;
        share = s;
        more = more ++ h.claim.shares;
        first = refl;
        is = (h.first.3, h.first.4);
        value = is ∙ (ap (λ (z : ShareValue). record z { count = count_of g c k }) value_is ∙ ap (λ (p : ℕ × List ℕ). share_value g c k p.0 p.1) (λ t. (sym same.1 t, sym same.0 t)));
        left = slots_of (size_of g) more m.1;
        hand = ap (λ (z : Sat). z.1) now_more ∙ ap (λ (i : ℕ × ℕ). (share_slot (size_of g) i.0 i.1, Nothing) ∷ slots_of (size_of g) more m.1) (λ t. (h.first.3 t, h.first.4 t));
      }

  -- and without it there are those before
  pub gathered_less : (o : Sat) (y : ShareValue) → 0 < k → y ≡ record x { count = x.count - 1 } → o ≡ without_first n → IsGathered g c k more (Some y) m o
  gathered_less o y up is gone = record {
    claim = h.claim;
    has = h.has;
    has_not = h.has_not;
    lending = h.lending;
    cells = h.cells;
    first = h.first.5;
    same = λ t t_in. h.same t (subst (λ l. Contains l t) (sym h.first.2) (contains_there s more t t_in));
    together = ap (λ (z : ShareValue). Some z) (is ∙ (ap (λ (z : ShareValue). record z { count = z.count - 1 }) value_is ∙ ap (λ i. record { column = column_with g c h.cells; lending = h.lending; count = i }) (let q : 2 ^ 63 + suc k - share_count g c - 1 ≡ 2 ^ 63 + min k (share_count g c) - share_count g c = omega (arith, few, small) in q)))
        ∙ sym (first_some (share_count g c) h.lending (column_with g c h.cells) k (omega (arith, few, up)));
    now = gone ∙ (ap without_first now_more ∙ one_less g s more m);
  }

  -- without the first there is none
  pub gathered_none : (o : Sat) → k ≡ 0 → o ≡ without_first n → o ≡ m
  gathered_none o z gone =
      let none : more ≡ [] = subst (λ i. AreFirst c i more) z h.first.5 in
      gone ∙ (ap without_first now_more ∙ (one_less g s more m ∙ (ap (λ l. stacked g l m) none ∙ none_stacked g m)))

-- what was gathered is something where there is a share
pub some_gathered : (g : GraphValue) (c k : ℕ) (ss : List TakenShare) (all : Option ShareValue) (x : ShareValue) (m n : Sat) → IsGathered g c k ss all m n → all ≡ Some x → 0 < k
some_gathered g c k ss all x m n h is = elim (cases_eq k 0) [
  | inl q ↦ absurd (none-some x (sym (first_none (share_count g c) h.lending (column_with g c h.cells) k (let z : min k (share_count g c) ≡ 0 = omega (arith, q) in z)) ∙ (sym h.together ∙ is)))
  | inr ne ↦ omega (arith, ne)
]

pub nothing_gathered : (g : GraphValue) (c k : ℕ) (ss : List TakenShare) (all : Option ShareValue) (m n : Sat) → k ≤ share_count g c → IsGathered g c k ss all m n → all ≡ None → n ≡ m
nothing_gathered g c k ss all m n few h is = elim (cases_eq k 0) [
  | inl q ↦ (let none : ss ≡ [] = subst (λ i. AreFirst c i ss) q h.first in h.now ∙ (ap (λ l. stacked g l m) none ∙ none_stacked g m))
  | inr ne ↦ absurd (none-some (record { column = column_with g c h.cells; lending = h.lending; count = 2 ^ 63 + min k (share_count g c) - share_count g c })
      (sym is ∙ (h.together ∙ first_some (share_count g c) h.lending (column_with g c h.cells) k (omega (arith, few, ne)))))
]

-- A COLUMN WITH ALL ITS SHARES is taken
module _ (g : GraphValue) (e : Events) (line c : ℕ) (m n : Sat) (cl : Claim) (has : m.0.claim ≡ Some cl) (may : MayGather g line c cl) (near : c < length (columns g)) (small : share_count g c < 2 ^ 63)
    (found : List (ℕ × ℕ)) (ss : List TakenShare) (all : Option ShareValue) (h : IsGathered g c (share_count g c) ss all (after found m) n) (free : (j : ℕ) → j < share_count g c → Contains found (share_word (size_of g) c j, 0)) where
  claim_now : n.0.claim ≡ Some (with_shares ss cl)
  claim_now = ap (λ (y : Sat). y.0.claim) h.now ∙ claim_with g ss found m cl has

  pub may_take : ChangesColumn g line c → Has n.0 (λ d. (d.line ≡ line) × MayTake g c d)
  may_take changes = (
    with_shares ss cl,
    claim_now,
    (
      may.line_is,
      record {
        going = may.going;
        changed = subst (λ i. ChangesColumn g i c) (sym may.line_is) changes;
        real = may.real;
        new = may.new;
        all = λ j few. let l = first_has c (share_count g c) ss h.first j few in (l.0, Contains-append_left ss cl.shares l.0 l.1, l.2, l.3);
      },
    ),
  )

  keys_now : m.0.keys ≡ ground_of g e ∷ [] → n.0.keys ≡ ground_of g e ∷ []
  keys_now key = ap (λ (y : Sat). y.0.keys) h.now ∙ key

  -- the word was found with another line: then the column has no shares
  pub finds_turn : (o : Sat) (r : ℕ) (x : Load) → m.0.keys ≡ ground_of g e ∷ [] → (r ≡ 0 → ⊥) → missed (turn_word (size_of g) c) n r o × NotOwn (turn_word (size_of g) c) n.0 r → FreeByShares (turn_word (size_of g) c) n.0 r → FindsWhole g line c m x o x
  finds_turn o r x key ne (now, not_own) by_shares =
      let key_n = has_key n.0.keys (ground_of g e) (keys_now key) in
      let none : ss ≡ [] = (elim (cases_eq (share_count g c) 0) [
        | inl q ↦ subst (λ i. AreFirst c i ss) q h.first
        | inr more ↦ (let l = first_has c (share_count g c) ss h.first 0 (omega (arith, more)) in
            absurd (ne (by_shares (ground_of g e) c (with_shares ss cl) l.0 key_n refl claim_now may.has_not (Contains-append_left ss cl.shares l.0 l.1) l.2)))
      ]) in
      let then : List (ℕ × ℕ) = found ++ (turn_word (size_of g) c, r) ∷ [] in (
        then,
        turn_word (size_of g) c,
        inl refl,
        (
          r,
          Contains-append_right found ((turn_word (size_of g) c, r) ∷ []) (turn_word (size_of g) c, r) (contains_here {X = ℕ × ℕ} (turn_word (size_of g) c, r) []),
          ne,
          (λ q. not_own (ground_of g e) c (with_shares ss cl) key_n refl claim_now may.has_not (q ∙ ap (λ i. i + 1) (sym may.line_is))),
        ),
        now ∙ (ap (after ((turn_word (size_of g) c, r) ∷ [])) (h.now ∙ (ap (λ l. stacked g l (after found m)) none ∙ none_stacked g (after found m))) ∙ found_more found ((turn_word (size_of g) c, r) ∷ []) m),
        refl,
      )

  -- it was found free
  module _ (key : m.0.keys ≡ ground_of g e ∷ []) (o : Sat) (turn : HasTurn (turn_word (size_of g) c) n o) where
    abbrev pub column : ColumnValue
    column = column_with g c (home_cells g turn.back c)

    abbrev pub content : Content
    content = home_for (share_count g c) turn.lending column

    now : o ≡ (on_claim (took c turn.back) (saw_at n.0 (turn_word (size_of g) c) 0), (column_slot (size_of g) c, content) ∷ n.1)
    now = turn.now (ground_of g e) c (has_key n.0.keys (ground_of g e) (keys_now key)) refl

    pub turn_keys : o.0.keys ≡ ground_of g e ∷ []
    turn_keys = ap (λ (y : Sat). y.0.keys) now ∙ keys_now key

    pub on_top : (s : ℕ) → s ≡ column_slot (size_of g) c → o.1 ≡ (s, content) ∷ n.1
    on_top s q = ap (λ (y : Sat). y.1) now ∙ ap (λ (i : ℕ). (i, content) ∷ n.1) (sym q)

    -- the shares make the column
    all_is : all ≡ all_for (share_count g c) turn.lending column
    all_is = elim (cases_eq (share_count g c) 0) [
      | inl q ↦ h.together ∙ (first_none (share_count g c) h.lending (column_with g c h.cells) (share_count g c) (omega (arith, q)) ∙ sym (ap (λ b. cond b None (Some (record { column = column; lending = turn.lending; count = 2 ^ 63 }))) (eq-eqb (share_count g c) 0 q)))
      | inr more ↦ (
          let l = first_has c (share_count g c) ss h.first 0 (omega (arith, more)) in
          let a = turn.same (ground_of g e) c (with_shares ss cl) l.0 (has_key n.0.keys (ground_of g e) (keys_now key)) refl claim_now (Contains-append_left ss cl.shares l.0 l.1) l.2 in
          let b = h.same l.0 l.1 in
          h.together ∙ (first_all (share_count g c) h.lending (column_with g c h.cells) small (share_count g c) (omega arith)
          ∙ ap (λ (p : ℕ × List ℕ). all_for (share_count g c) p.0 (column_with g c p.1)) (λ t. ((sym b.1 ∙ a.0) t, (sym b.0 ∙ a.1) t))))
    ]

    pub whole : (x : Content) → content ≡ x → AreWhole x all column
    whole x is = subst (λ (y : Content). AreWhole y all column) is (subst (λ (y : Option ShareValue). AreWhole content y column) (sym all_is) (whole_for (share_count g c) turn.lending column))

    pub takes : (p : Sat) (x y : Load) → y.numbers ≡ x.numbers → p.0 ≡ o.0 → p.1 ≡ (column_slot (size_of g) c, Nothing) ∷ n.1 → GainsOne c column None x y → TakesWhole g c m x p y
    takes p x y numbers view hand gains =
        let word : ℕ × ℕ = (turn_word (size_of g) c, 0) in (
          found ++ word ∷ [],
          ss,
          turn.back,
          h.first,
          (λ w is. ⊎_elim
              (λ (q : w ≡ turn_word (size_of g) c). subst (λ i. Contains {X = ℕ × ℕ} (found ++ word ∷ []) (i, 0)) (sym q) (Contains-append_right found (word ∷ []) word (contains_here {X = ℕ × ℕ} word [])))
              (λ (q : (j : ℕ) × (j < share_count g c) × (w ≡ share_word (size_of g) c j)). subst (λ i. Contains {X = ℕ × ℕ} (found ++ word ∷ []) (i, 0)) (sym q.2) (Contains-append_left found (word ∷ []) (share_word (size_of g) c q.0, 0) (free q.0 q.1)))
              is),
          (λ t. (
            (view ∙ (ap (λ (z : Sat). z.0) now ∙ (ap (λ (z : Sat). on_claim (took c turn.back) (saw_at z.0 (turn_word (size_of g) c) 0)) h.now
                ∙ ap (λ (l : List (ℕ × ℕ)). on_claim (took c turn.back) (on_claim (with_shares ss) (record m.0 { saw = l }))) (append_assoc m.0.saw found (word ∷ []))))) t,
            (hand ∙ ap (λ (z : Sat). (column_slot (size_of g) c, Nothing) ∷ z.1) h.now) t,
          )),
          gains,
          numbers,
        )

-- a share that may be read is one
pub one_of : (g : GraphValue) (c j : ℕ) → 0 < j → count_of g c j ≡ 1
one_of g c zero l = absurd (omega arith)
one_of g c (suc i) l = refl

-- A SHARE that is given back with the line put back on its column
module _ (g : GraphValue) (c j : ℕ) (m : Sat) (held : HeldList) (t : SeenOnTop g c j m held) (x : ShareValue) (column : held_at held c ≡ Some x.column) (lending : lending_at held c ≡ Some x.lending) (one : x.count ≡ 1) (up : 0 < j) where
  pub value : x ≡ share_value g c j t.share.lending t.share.cells
  value =
      let col = same_Some x.column (column_with g c t.share.cells) (sym column ∙ t.holds) in
      let lend = same_Some x.lending t.share.lending (sym lending ∙ t.lending) in
      let count = one ∙ sym (one_of g c j up) in
      λ i. record { column = col i; lending = lend i; count = count i }

  abbrev pub gives_seen : GivesOne g c j m x
  gives_seen = record { claim = t.claim; has = t.has; has_not = t.has_not; share = t.share; more = t.more; first = t.first; is = t.is; value = value; left = t.left; hand = t.hand }

  pub less_one : (o : Sat) → o ≡ without_first m → o ≡ less_seen m.0 t.claim t.more t.left
  less_one o q = q ∙ (λ i. (
    record m.0 { claim = (ap (option_map without_share) t.has ∙ ap (λ (l : List TakenShare). Some (record t.claim { shares = but_first l })) t.first) i },
    ap (λ (l : List (ℕ × Content)). rest l) t.hand i,
  ))

  module _ (n : Sat) (view : n.0 ≡ m.0) (hand : n.1 ≡ (share_slot (size_of g) c j, Share x) ∷ t.left) where
    pub may_read_back : MayRead g c t.claim → MayReadBack g c j n
    may_read_back may = record { gives = may_give g c j m x gives_seen n view hand; going = may.going; reads = may.reads; real = may.real; new = may.new }

    pub read_put : (o : Sat) → reads_back n o → o ≡ less_read c m.0 t.claim t.more t.left
    read_put o q = q ∙ (λ i. (
      (ap (on_claim read_on) view ∙ (λ k. record m.0 {
        claim = (ap (option_map read_on) t.has ∙ (ap (λ (l : List TakenShare). Some (record t.claim { shares = but_first l; puts = first_shared l ++ t.claim.puts })) t.first
            ∙ ap (λ d. Some (record t.claim { shares = t.more; puts = d ∷ t.claim.puts })) t.is.0)) k;
      })) i,
      ap (λ (l : List (ℕ × Content)). rest l) hand i,
    ))

-- A COLUMN that goes home with its shares, which are of a new lending
anew_more : (c d : ℕ) (xs : List ℕ) (ss ts : List TakenShare) → lent_anew c d xs (ss ++ ts) ≡ lent_anew c d xs ss ++ lent_anew c d xs ts
anew_more c d xs [] ts = refl
anew_more c d xs (s ∷ ss) ts = ap (λ l. cond (s.column == c) (record s { cells = xs; lending = d }) s ∷ l) (anew_more c d xs ss ts)

anew_others : (c d : ℕ) (xs : List ℕ) (ss : List TakenShare) → ((s : TakenShare) → Contains ss s → s.column ≡ c → ⊥) → lent_anew c d xs ss ≡ ss
anew_others c d xs [] n = refl
anew_others c d xs (s ∷ ss) n = λ i. ap (λ b. cond b (record s { cells = xs; lending = d }) s) (ne_eqb s.column c (n s (contains_here s ss))) i ∷ anew_others c d xs ss (λ t h. n t (contains_there s ss t h)) i

-- the first shares of the column in it
anew_first : (c d : ℕ) (xs : List ℕ) (k : ℕ) (ss : List TakenShare) → AreFirst c k ss → AreFirst c k (lent_anew c d xs ss) × ((s : TakenShare) → Contains (lent_anew c d xs ss) s → (s.cells ≡ xs) × (s.lending ≡ d))
anew_first c d xs zero ss f = (ap (lent_anew c d xs) f, λ s m. absurd (contains_none s (subst (λ l. Contains (lent_anew c d xs l) s) f m)))
anew_first c d xs (suc k) ss f =
    let s = f.0 in
    let new : TakenShare = record s { cells = xs; lending = d } in
    let here : cond (s.column == c) new s ≡ new = ap (λ b. cond b new s) (eq-eqb s.column c f.3) in
    let r = anew_first c d xs k f.1 f.5 in
    let is : lent_anew c d xs ss ≡ new ∷ lent_anew c d xs f.1 = ap (lent_anew c d xs) f.2 ∙ ap (λ t. t ∷ lent_anew c d xs f.1) here in (
      (new, lent_anew c d xs f.1, is, f.3, f.4, r.0),
      (λ t m. ⊎_elim
          (λ (q : new ≡ t). subst (λ (u : TakenShare). (u.cells ≡ xs) × (u.lending ≡ d)) q (refl, refl))
          (λ (h : Contains (lent_anew c d xs f.1) t). r.1 t h)
          (contains_cases new (lent_anew c d xs f.1) t (subst (λ l. Contains l t) is m))),
    )

anew_slots : (g : GraphValue) (c d : ℕ) (xs : List ℕ) (ss : List TakenShare) (left : List (ℕ × Content)) → slots_of (size_of g) (lent_anew c d xs ss) left ≡ slots_of (size_of g) ss left
anew_slots g c d xs [] left = refl
anew_slots g c d xs (s ∷ ss) left = λ i. (share_slot (size_of g) (place (s.column == c) i).0 (place (s.column == c) i).1, Nothing) ∷ anew_slots g c d xs ss left i
  where
    place : (b : Bool) → ◌≡◌ {A = ℕ × ℕ} ((cond b (record s { cells = xs; lending = d }) s).column, (cond b (record s { cells = xs; lending = d }) s).number) (s.column, s.number)
    place true = refl
    place false = refl

-- what the top of the hand tells of all the shares
told_all : (g : GraphValue) (c d : ℕ) (xs : List ℕ) (b : Bool) (k : ℕ) (more : List (ℕ × Content)) →
    let hand : List (ℕ × Content) = (k, cond b (Cells (column_with g c xs)) (Lent (record { column = column_with g c xs; lending = d }))) ∷ more in
    cond {A = Option ShareValue} b None (Some (record { column = column_with g c xs; lending = d; count = 2 ^ 63 })) ≡ cond {A = Option ShareValue} b None (Some (record { column = column_with g c (top_cells hand); lending = top_lending hand; count = 2 ^ 63 }))
told_all g c d xs true k more = refl
told_all g c d xs false k more = refl

module _ (g : GraphValue) (c : ℕ) (by : Claim → List ℕ → List ℕ) (m : Sat) (held : HeldList) (t : WholeOnTop g c by m held) (small : share_count g c < 2 ^ 63) (count d : ℕ) (x : ColumnValue) (content : Content) (all : Option ShareValue)
    (counted : count ≡ share_count g c) (is : held_at held c ≡ Some x) (content_is : content ≡ home_for count d x) (all_is : all ≡ all_for count d x)
    (n : Sat) (view : n.0 ≡ m.0) (hand : n.1 ≡ (column_slot (size_of g) c, content) ∷ slots_of (size_of g) t.shares t.left) where
  abbrev pub xs : List ℕ
  xs = by t.claim t.back

  column_is : x ≡ column_with g c xs
  column_is = same_Some x (column_with g c xs) (sym is ∙ t.holds)

  abbrev pub under : List (ℕ × Content)
  under = slots_of (size_of g) t.shares t.left

  abbrev pub on : List (ℕ × Content)
  on = (column_slot (size_of g) c, home_content g c d xs) ∷ under

  tops : n.1 ≡ on
  tops = hand ∙ ap (λ (y : Content). (column_slot (size_of g) c, y) ∷ under) (content_is ∙ (λ i. home_for (counted i) d (column_is i)))

  abbrev pub d' : ℕ
  d' = top_lending on

  abbrev pub xs' : List ℕ
  xs' = top_cells on

  abbrev pub ss : List TakenShare
  ss = lent_anew c d' xs' t.shares

  all_first : all ≡ first_for (share_count g c) (share_count g c) d' (column_with g c xs')
  all_first = all_is ∙ ((λ i. all_for (counted i) d (column_is i)) ∙ (told_all g c d xs (share_count g c == 0) (column_slot (size_of g) c) under ∙ sym (first_all (share_count g c) d' (column_with g c xs') small (share_count g c) (omega arith))))

  shares_now : lent_anew c d' xs' t.claim.shares ≡ ss ++ t.more
  shares_now = ap (lent_anew c d' xs') t.all ∙ (anew_more c d' xs' t.shares t.more ∙ ap (λ l. ss ++ l) (anew_others c d' xs' t.more t.others))

  -- after the step the shares are left
  gathered : (o : Sat) (puts : List ℕ) → o ≡ (record m.0 { claim = Some (record t.claim { columns = t.columns; puts = puts; shares = ss ++ t.more }) }, slots_of (size_of g) ss t.left) → IsGathered g c count ss all (less_whole m.0 t.claim t.columns puts t.more t.left) o
  gathered o puts q =
      let f = anew_first c d' xs' (share_count g c) t.shares t.are_first in
      subst (λ i. IsGathered g c i ss all (less_whole m.0 t.claim t.columns puts t.more t.left) o) (sym counted) (record {
        claim = record t.claim { columns = t.columns; puts = puts; shares = t.more };
        has = refl;
        has_not = t.once;
        lending = d';
        cells = xs';
        first = f.0;
        same = f.1;
        together = all_first;
        now = q;
      })

  under_now : rest n.1 ≡ slots_of (size_of g) ss t.left
  under_now = ap (λ (l : List (ℕ × Content)). rest l) tops ∙ sym (anew_slots g c d' xs' t.shares t.left)

  unused_now : (e' : ℕ) (ys : List ℕ) → e' ≡ d' → ys ≡ xs' → on_claim (unused e' ys) n.0 ≡ record m.0 { claim = Some (record t.claim { columns = t.columns; shares = ss ++ t.more }) }
  unused_now e' ys p q = (λ i. on_claim (unused (p i) (q i)) (view i))
      ∙ (λ i. record m.0 {
        claim = (ap (option_map (unused d' xs')) t.has ∙ (ap (λ (l : List (ℕ × List ℕ)). Some (record t.claim { columns = but_first l; shares = shares_anew l d' xs' t.claim.shares })) t.first
            ∙ ap (λ (l : List TakenShare). Some (record t.claim { columns = t.columns; shares = l })) shares_now)) i;
      })

  put_now : (e' : ℕ) (ys : List ℕ) → e' ≡ d' → ys ≡ xs' → on_claim (put_on e' ys) n.0 ≡ record m.0 { claim = Some (record t.claim { columns = t.columns; puts = c ∷ t.claim.puts; shares = ss ++ t.more }) }
  put_now e' ys p q = (λ i. on_claim (put_on (p i) (q i)) (view i))
      ∙ (λ i. record m.0 {
        claim = (ap (option_map (put_on d' xs')) t.has ∙ (ap (λ (l : List (ℕ × List ℕ)). Some (record t.claim { columns = but_first l; puts = first_column l ++ t.claim.puts; shares = shares_anew l d' xs' t.claim.shares })) t.first
            ∙ ap (λ (l : List TakenShare). Some (record t.claim { columns = t.columns; puts = c ∷ t.claim.puts; shares = l })) shares_now)) i;
      })

  pub returned : (o : Sat) → returns_unused n o → IsGathered g c count ss all (less_whole m.0 t.claim t.columns t.claim.puts t.more t.left) o
  returned o q = gathered o t.claim.puts (q ∙ (λ i. (unused_now (top_lending n.1) (top_cells n.1) (ap (λ (l : List (ℕ × Content)). top_lending l) tops) (ap (λ (l : List (ℕ × Content)). top_cells l) tops) i, under_now i)))

  pub put : (o : Sat) → puts_back n o → IsGathered g c count ss all (less_whole m.0 t.claim t.columns (c ∷ t.claim.puts) t.more t.left) o
  put o q = gathered o (c ∷ t.claim.puts) (q ∙ (λ i. (put_now (top_lending n.1) (top_cells n.1) (ap (λ (l : List (ℕ × Content)). top_lending l) tops) (ap (λ (l : List (ℕ × Content)). top_cells l) tops) i, under_now i)))

-- the column on top may go home
pub may_return : (g : GraphValue) (c : ℕ) (m : Sat) (held : HeldList) (t : WholeOnTop g c (as_home g c) m held) (count d : ℕ) (x : ColumnValue) (content : Content) → count ≡ share_count g c → held_at held c ≡ Some x → content ≡ home_for count d x
    → (n : Sat) → n.0 ≡ m.0 → n.1 ≡ (column_slot (size_of g) c, content) ∷ slots_of (size_of g) t.shares t.left → MayReturn g c n
may_return g c m held t count d x content counted is content_is n view hand = record {
  claim = t.claim;
  has = ap (λ (v : View). v.claim) view ∙ t.has;
  ks = t.back;
  more = t.columns;
  first = record { first = t.first; once = t.once };
  left = slots_of (size_of g) t.shares t.left;
  tops = (d, hand ∙ ap (λ (y : Content). (column_slot (size_of g) c, y) ∷ slots_of (size_of g) t.shares t.left) (content_is ∙ (λ i. home_for (counted i) d (same_Some x (column_with g c (home_cells g t.back c)) (sym is ∙ t.holds) i))));
}

pub may_put : (g : GraphValue) (c : ℕ) (m : Sat) (held : HeldList) (t : WholeOnTop g c (as_left g c) m held) (count d : ℕ) (x : ColumnValue) (content : Content) → count ≡ share_count g c → held_at held c ≡ Some x → content ≡ home_for count d x
    → (n : Sat) → n.0 ≡ m.0 → n.1 ≡ (column_slot (size_of g) c, content) ∷ slots_of (size_of g) t.shares t.left → MayPut g c n
may_put g c m held t count d x content counted is content_is n view hand = record {
  claim = t.claim;
  has = ap (λ (v : View). v.claim) view ∙ t.has;
  ks = t.back;
  more = t.columns;
  first = record { first = t.first; once = t.once };
  left = slots_of (size_of g) t.shares t.left;
  tops = (d, hand ∙ ap (λ (y : Content). (column_slot (size_of g) c, y) ∷ slots_of (size_of g) t.shares t.left) (content_is ∙ (λ i. home_for (counted i) d (same_Some x (column_with g c (put_cells g t.claim.line t.back c)) (sym is ∙ t.holds) i))));
}
