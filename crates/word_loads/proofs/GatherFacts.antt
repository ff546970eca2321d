-- A line takes the shares of a column one after another, and gives them back.
use Rattle.std.proofs.Common.{◌≡◌, ℕ, zero, suc, ◌<◌, ◌+◌, ◌^◌, inl, inr, List, [], ◌∷◌, ◌++◌, length, refl, sym, ◌∙◌, ap, subst, arith, ⊎_elim, append_assoc}
use Rattle.std.specs.Prelude.{Contains, Option, Some, None, option_map}
use Rattle.std.proofs.lemmas.Bool.{cases_eq}
use Rattle.std.proofs.lemmas.Option.{same_Some}
use Rattle.std.proofs.lemmas.List.{append-nil}
use Rattle.std.proofs.lemmas.List.Elements.{Contains-append_cases, Contains-append_left, Contains-append_right}
use Rattle.index_spaces.specs.Shares.{ShareValue}
use Rattle.graph_terms.specs.Graph.{GraphValue, columns}
use Rattle.shared_events.specs.declared.events.Events.{Events}
use Rattle.basics.proofs.ListFacts.{contains_none, contains_here, contains_there, contains_cases}
use Rattle.share_words.specs.Shares.{share_count}
use Rattle.word_steps.specs.declared.content.Content.{Content}
use Rattle.word_steps.specs.declared.content.Content.TheVariants.{Nothing, PendingEvent, EventReceipt, Cells, Lent, Share, Issuer}
use Rattle.word_steps.specs.Claims.{Claim, TakenShare}
use Rattle.word_steps.specs.Layout.{size_of, share_word, share_slot}
use Rattle.word_steps.specs.Rule.{ground_of, column_with, count_of, share_value}
use Rattle.word_steps.specs.Lending.{count_for, first_for, place_for, MayJoin, joined}
use Rattle.word_steps.specs.Plays.{Sat, on_claim, took_share, GotShare, NotOwnShare, missed, without_share, saw_all}
use Rattle.word_steps.specs.Premises.{Has, MayTakeShare, ListsShare}
use Rattle.word_loads.specs.Laden.{AreFirst, slots_of, FoundOther}
use Rattle.word_loads.specs.Gathering.{with_share, MayAdd, with_shares, stacked, after, GetsShare, FindsShare, MayGather, IsGathered, without_first}
use Rattle.word_steps.proofs.Public.{has_key, may_join, join_next, place_some, first_none}

-- SEATS WITH SHARES. One with none is as it was
claim_same : (o : Option Claim) → option_map (with_shares []) o ≡ o
claim_same None = refl
claim_same (Some cl) = refl

pub none_stacked : (g : GraphValue) (m : Sat) → stacked g [] m ≡ m
none_stacked g m = λ t. (record m.0 { claim = claim_same m.0.claim t }, m.1)

-- and one after another
claim_more : (s : TakenShare) (ss : List TakenShare) (o : Option Claim) → option_map (with_shares (s ∷ [])) (option_map (with_shares ss) o) ≡ option_map (with_shares (s ∷ ss)) o
claim_more s ss None = refl
claim_more s ss (Some cl) = refl

pub one_more : (g : GraphValue) (s : TakenShare) (ss : List TakenShare) (m : Sat) → stacked g (s ∷ []) (stacked g ss m) ≡ stacked g (s ∷ ss) m
one_more g s ss m = λ t. (record m.0 { claim = claim_more s ss m.0.claim t }, slots_of (size_of g) (s ∷ ss) m.1)

claim_less : (s : TakenShare) (ss : List TakenShare) (o : Option Claim) → option_map without_share (option_map (with_shares (s ∷ ss)) o) ≡ option_map (with_shares ss) o
claim_less s ss None = refl
claim_less s ss (Some cl) = refl

pub one_less : (g : GraphValue) (s : TakenShare) (ss : List TakenShare) (m : Sat) → without_first (stacked g (s ∷ ss) m) ≡ stacked g ss m
one_less g s ss m = λ t. (record m.0 { claim = claim_less s ss m.0.claim t }, slots_of (size_of g) ss m.1)

pub found_more : (first more : List (ℕ × ℕ)) (m : Sat) → after more (after first m) ≡ after (first ++ more) m
found_more first more m = λ t. (record m.0 { saw = append_assoc m.0.saw first more t }, m.1)

pub found_none : (m : Sat) → m ≡ after [] m
found_none m = λ t. (record m.0 { saw = sym (append-nil m.0.saw) t }, m.1)

pub claim_with : (g : GraphValue) (ss : List TakenShare) (found : List (ℕ × ℕ)) (m : Sat) (cl : Claim) → m.0.claim ≡ Some cl → (stacked g ss (after found m)).0.claim ≡ Some (with_shares ss cl)
claim_with g ss found m cl has = ap (option_map (with_shares ss)) has

-- THE FIRST SHARES. Each is one of them
pub first_is : (c n : ℕ) (ss : List TakenShare) → AreFirst c n ss → (s : TakenShare) → Contains ss s → (s.column ≡ c) × (s.number < n)
first_is c zero ss f s m = absurd (contains_none s (subst (λ l. Contains l s) f m))
first_is c (suc n) ss f s m = ⊎_elim
    (λ (q : f.0 ≡ s). subst (λ (y : TakenShare). (y.column ≡ c) × (y.number < suc n)) q (f.3, (let k = f.4 in omega (arith, k))))
    (λ (r : Contains f.1 s). let h = first_is c n f.1 f.5 s r in (h.0, (let k = h.1 in omega (arith, k))))
    (contains_cases f.0 f.1 s (subst (λ l. Contains l s) f.2 m))

-- and they are all of them
pub first_has : (c n : ℕ) (ss : List TakenShare) → AreFirst c n ss → (j : ℕ) → j < n → ListsShare ss c j
first_has c zero ss f j low = absurd (omega arith)
first_has c (suc n) ss f j low = elim (cases_eq j n) [
  | inl q ↦ (f.0, subst (λ l. Contains l f.0) (sym f.2) (contains_here f.0 f.1), f.3, f.4 ∙ sym q)
  | inr ne ↦ (let h = first_has c n f.1 f.5 j (omega (arith, low, ne)) in (h.0, subst (λ l. Contains l h.0) (sym f.2) (contains_there f.0 f.1 h.0 h.1), h.2, h.3))
]

-- ONE SHARE TAKEN
abbrev share_in : ShareValue → Content → ShareValue
share_in d (Share x) = x
share_in d Nothing = d
share_in d (PendingEvent p) = d
share_in d (EventReceipt p) = d
share_in d (Cells x) = d
share_in d (Lent x) = d
share_in d (Issuer x) = d

pub share_one : (x y : ShareValue) → Share x ≡ Share y → x ≡ y
share_one x y q = ap (share_in x) q

module _ (g : GraphValue) (e : Events) (c j : ℕ) (m n : Sat) (key : m.0.keys ≡ ground_of g e ∷ []) (near : c < length (columns g)) (few : j < share_count g c) (h : GotShare (share_word (size_of g) c j) m n) where
  abbrev pub got : TakenShare
  got = record { column = c; number = j; cells = h.cells; lending = h.lending }

  abbrev pub value : ShareValue
  value = share_value g c j h.lending h.cells

  pub now : n ≡ (on_claim (took_share got) (saw_all m.0 ((share_word (size_of g) c j, 0) ∷ [])), (share_slot (size_of g) c j, Share value) ∷ m.1)
  now = h.now (ground_of g e) c j (has_key m.0.keys (ground_of g e) key) near few refl

  pub keys : n.0.keys ≡ ground_of g e ∷ []
  keys = ap (λ (y : Sat). y.0.keys) now ∙ key

  pub on_top : (s : ℕ) → s ≡ share_slot (size_of g) c j → n.1 ≡ (s, Share value) ∷ m.1
  on_top s q = ap (λ (y : Sat). y.1) now ∙ ap (λ (k : ℕ). (k, Share value) ∷ m.1) (sym q)

  pub gets : (o : Sat) (x : ShareValue) (s : ℕ) → s ≡ share_slot (size_of g) c j → Share value ≡ Share x → o.0 ≡ n.0 → o.1 ≡ (s, Nothing) ∷ m.1 → GetsShare g c j m o x
  gets o x s slot is view hand = (
    got,
    refl,
    refl,
    sym (share_one value x is),
    (λ t. ((view ∙ ap (λ (y : Sat). y.0) now) t, (hand ∙ ap (λ (k : ℕ). (k, Nothing) ∷ m.1) slot) t)),
    (λ cl u has m_in at. h.same (ground_of g e) c j cl u (has_key m.0.keys (ground_of g e) key) near few refl has m_in at),
    h.back,
    h.shows (ground_of g e) c j (has_key m.0.keys (ground_of g e) key) near few refl,
  )

pub finds : (g : GraphValue) (e : Events) (line c j : ℕ) (m n : Sat) (r : ℕ) → m.0.keys ≡ ground_of g e ∷ [] → c < length (columns g) → j < share_count g c → Has m.0 (λ cl. cl.line ≡ line) → Has m.0 (λ cl. ListsShare cl.shares c j → ⊥) → (r ≡ 0 → ⊥)
    → missed (share_word (size_of g) c j) m r n × NotOwnShare (share_word (size_of g) c j) m.0 r → FindsShare g line c j m n
finds g e line c j m n r key near few (cl, has, is) (d, had, notin) ne (now, not_own) =
    let same : d ≡ cl = same_Some d cl (sym had ∙ has) in (
      r,
      ne,
      (λ q. not_own (ground_of g e) c j cl (has_key m.0.keys (ground_of g e) key) near few refl has (λ s s_in at number. notin (s, subst (λ (y : Claim). Contains y.shares s) (sym same) s_in, at, number)) (q ∙ ap (λ (k : ℕ). k + 1) (sym is))),
      now,
    )

-- GATHERED. A share that is added to those before
count_same : (g : GraphValue) (c j : ℕ) → count_of g c j ≡ count_for (share_count g c) j
count_same g c zero = refl
count_same g c (suc j) = refl

value_is : (g : GraphValue) (c j d : ℕ) (xs : List ℕ) → j < share_count g c → Share (share_value g c j d xs) ≡ place_for (share_count g c) j d (column_with g c xs)
value_is g c j d xs few = ap (λ k. Share (record { column = column_with g c xs; lending = d; count = k })) (count_same g c j) ∙ sym (place_some (share_count g c) d (column_with g c xs) j few)

add_joins : (o : Option ShareValue) (s : ShareValue) → joined o (Share s) ≡ Some (with_share o s)
add_joins None s = refl
add_joins (Some t) s = refl

may_add : (o : Option ShareValue) (s : ShareValue) → MayJoin o (Share s) → MayAdd o s
may_add None s h = tt
may_add (Some t) s h = h

module _ (g : GraphValue) (line c j : ℕ) (cl : Claim) (m : Sat) (has : m.0.claim ≡ Some cl) (may : MayGather g line c cl) (small : share_count g c < 2 ^ 63) (few : j < share_count g c)
    (found : List (ℕ × ℕ)) (ss : List TakenShare) (all : Option ShareValue) (n : Sat) (h : IsGathered g c j ss all (after found m) n) where
  claim_now : n.0.claim ≡ Some (with_shares ss cl)
  claim_now = ap (λ (y : Sat). y.0.claim) h.now ∙ claim_with g ss found m cl has

  pub may_next : Has n.0 (λ d. (d.line ≡ line) × MayTakeShare g c j d)
  may_next = (with_shares ss cl, claim_now, (may.line_is, record { going = may.going; accessed = may.accessed; real = may.real; new = may.new; has_not = may.has_not }))

  pub not_listed : Has n.0 (λ d. ListsShare d.shares c j → ⊥)
  not_listed = (
    with_shares ss cl,
    claim_now,
    (λ l. ⊎_elim
        (λ (r : Contains ss l.0). let f = first_is c j ss h.first l.0 r in let k = f.1 in let q = l.3 in absurd (omega (arith, k, q)))
        (λ (r : Contains cl.shares l.0). may.none l.0 r l.2)
        (Contains-append_cases ss cl.shares l.0 l.1)),
  )

  module _ (o : Sat) (x : ShareValue) (next : GetsShare g c j n o x) where
    abbrev s : TakenShare
    s = next.0

    -- what is known of the share by those before
    alike : (t : TakenShare) → Contains ss t → (s.lending ≡ h.lending) × (s.cells ≡ h.cells)
    alike t t_in =
        let a = next.5 (with_shares ss cl) t claim_now (Contains-append_left ss cl.shares t t_in) ((first_is c j ss h.first t t_in).0 ∙ sym next.1) in
        let b = h.same t t_in in
        (sym a.0 ∙ b.1, sym a.1 ∙ b.0)

    -- the lending and the cells of all, which the first share tells
    lending_cells : (d : ℕ) × (xs : List ℕ) × ((t : TakenShare) → Contains ss t → (t.cells ≡ xs) × (t.lending ≡ d)) × (all ≡ first_for (share_count g c) j d (column_with g c xs)) × (s.lending ≡ d) × (s.cells ≡ xs)
    lending_cells = elim (cases_eq j 0) [
      | inl q ↦ (
        s.lending,
        s.cells,
        (λ t t_in. absurd (let k = (first_is c j ss h.first t t_in).1 in omega (arith, k, q))),
        h.together ∙ (first_none (share_count g c) h.lending (column_with g c h.cells) j (omega (arith, q)) ∙ sym (first_none (share_count g c) s.lending (column_with g c s.cells) j (omega (arith, q)))),
        refl,
        refl,
      )
      | inr ne ↦ (
          let one = first_has c j ss h.first 0 (omega (arith, ne)) in
          let a = alike one.0 one.1 in
          (h.lending, h.cells, h.same, h.together, a.0, a.1))
    ]

    abbrev d : ℕ
    d = lending_cells.0

    abbrev xs : List ℕ
    xs = lending_cells.1

    value_here : Share x ≡ place_for (share_count g c) j d (column_with g c xs)
    value_here = ap (λ (y : ShareValue). Share y) (next.3 ∙ ap (λ (p : ℕ × List ℕ). share_value g c j p.0 p.1) (λ t. (lending_cells.4 t, lending_cells.5 t))) ∙ value_is g c j d xs few

    pub may_be_added : MayAdd all x
    may_be_added = may_add all x (subst (λ (y : Option ShareValue). MayJoin y (Share x)) (sym lending_cells.3) (subst (MayJoin (first_for (share_count g c) j d (column_with g c xs))) (sym value_here) (may_join (share_count g c) d (column_with g c xs) small j)))

    pub gathered : (y : ShareValue) → y ≡ with_share all x → IsGathered g c (suc j) (s ∷ ss) (Some y) (after (found ++ (share_word (size_of g) c j, 0) ∷ []) m) o
    gathered y is = record {
      claim = cl;
      has = has;
      has_not = may.has_not;
      lending = d;
      cells = xs;
      first = (s, ss, refl, next.1, next.2, h.first);
      same = λ t t_in. ⊎_elim
          (λ (q : s ≡ t). subst (λ (u : TakenShare). (u.cells ≡ xs) × (u.lending ≡ d)) q (lending_cells.5, lending_cells.4))
          (λ (r : Contains ss t). lending_cells.2 t r)
          (contains_cases s ss t t_in);
      together = ap (λ (z : ShareValue). Some z) is ∙ (sym (add_joins all x) ∙ (ap (λ (z : Option ShareValue). joined z (Share x)) lending_cells.3 ∙ (ap (joined (first_for (share_count g c) j d (column_with g c xs))) value_here
          ∙ (join_next (share_count g c) d (column_with g c xs) small j ∙ ap (λ k. first_for (share_count g c) k d (column_with g c xs)) (let q : j + 1 ≡ suc j = omega arith in q)))));
      now = next.4 ∙ (ap (λ (z : Sat). stacked g (s ∷ []) (after ((share_word (size_of g) c j, 0) ∷ []) z)) h.now
          ∙ (one_more g s ss (after ((share_word (size_of g) c j, 0) ∷ []) (after found m)) ∙ ap (stacked g (s ∷ ss)) (found_more found ((share_word (size_of g) c j, 0) ∷ []) m)));
    }

  pub stopped : (o : Sat) (f : FindsShare g line c j n o) → IsGathered g c j ss all (after (found ++ (share_word (size_of g) c j, f.0) ∷ []) m) o × FoundOther line (share_word (size_of g) c j) (found ++ (share_word (size_of g) c j, f.0) ∷ [])
  stopped o f = (
    record {
      claim = cl;
      has = has;
      has_not = may.has_not;
      lending = h.lending;
      cells = h.cells;
      first = h.first;
      same = h.same;
      together = h.together;
      now = f.3 ∙ (ap (after ((share_word (size_of g) c j, f.0) ∷ [])) h.now ∙ ap (stacked g ss) (found_more found ((share_word (size_of g) c j, f.0) ∷ []) m));
    },
    (f.0, Contains-append_right found ((share_word (size_of g) c j, f.0) ∷ []) (share_word (size_of g) c j, f.0) (contains_here {X = ℕ × ℕ} (share_word (size_of g) c j, f.0) []), f.1, f.2),
  )

-- nothing is gathered yet
pub none_gathered : (g : GraphValue) (line c : ℕ) (m : Sat) → Has m.0 (MayGather g line c) → IsGathered g c 0 [] None (after [] m) m
none_gathered g line c m (cl, has, may) = record {
  claim = cl;
  has = has;
  has_not = may.has_not;
  lending = 0;
  cells = [];
  first = refl;
  same = λ s s_in. absurd (contains_none s s_in);
  together = sym (first_none (share_count g c) 0 (column_with g c []) 0 (omega arith));
  now = found_none m ∙ sym (none_stacked g (after [] m));
}

pub free_next : (g : GraphValue) (c j : ℕ) (found : List (ℕ × ℕ)) → ((i : ℕ) → i < j → Contains found (share_word (size_of g) c i, 0)) → (i : ℕ) → i < suc j → Contains (found ++ (share_word (size_of g) c j, 0) ∷ []) (share_word (size_of g) c i, 0)
free_next g c j found free i low = elim (cases_eq i j) [
  | inl q ↦ Contains-append_right found ((share_word (size_of g) c j, 0) ∷ []) (share_word (size_of g) c i, 0) (subst (λ k. Contains {X = ℕ × ℕ} ((share_word (size_of g) c j, 0) ∷ []) (share_word (size_of g) c k, 0)) (sym q) (contains_here {X = ℕ × ℕ} (share_word (size_of g) c j, 0) []))
  | inr n ↦ Contains-append_left found ((share_word (size_of g) c j, 0) ∷ []) (share_word (size_of g) c i, 0) (free i (omega (arith, low, n)))
]
