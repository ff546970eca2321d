-- The graph of an entry with the lines of its links so far.
use Rattle.std.proofs.Common.{◌≡◌, ℕ, zero, suc, ◌+◌, ◌<◌, ◌≤◌, Bool, true, false, not, List, [], ◌∷◌, ◌++◌, length, map, take, refl, sym, ◌∙◌, ap, subst, append_assoc, append-nil, length-append, arith}
use Rattle.std.specs.Prelude.{◌==◌, Option, Some, None, slice_get, option_map, bytes_eq}
use Rattle.std.specs.Option.{option_map_or}
use Rattle.std.specs.List.{list_any}
use Rattle.std.proofs.lemmas.Bool.{true≢false, or_parts, or_from, and_parts}
use Rattle.std.proofs.lemmas.List.{map-append, take_more}
use Rattle.std.proofs.lemmas.List.Folds.{list_any-append}
use Rattle.event_table.specs.declared.handle.Answer.{Answer}
use Rattle.event_table.specs.declared.handle.Answer.TheVariants.{Pending, Triggered, Poisoned}
use Rattle.graph_terms.specs.declared.verb.Line.{Line}
use Rattle.graph_terms.specs.declared.verb.Verb.TheVariants.{Trigger, Cancel}
use Rattle.graph_terms.specs.Graph.{GraphValue, line_passes, is_user}
use Rattle.graph_terms.specs.declared.why.Why.TheVariants as why
use Rattle.graph_terms.specs.Name.{is_name_in}
use Rattle.graph_terms.specs.Fits.{first_reason, with_line, line_fault}
use Rattle.session_text.specs.declared.entry.Link.{Link}
use Rattle.std.proofs.lemmas.Option.{none-some, same_Some, slice_get_within, get_or_from_slice_get}
use Rattle.graph_terms.specs.declared.why.Why.{Why}
use Rattle.graph_reader.specs.FirstFault.{or_else}
use Rattle.word_meanings.specs.WordFaults.{is_line_name}
use Rattle.session_text.specs.declared.entry.Entry.{Entry}
use Rattle.session_text.specs.Fits.{names_op, format_of, is_named, trigger_line, with_trigger, with_triggers, trigger_reason, link_reason, LinksFit}
use Rattle.session_run.specs.Running.{CanLink}
use Rattle.session_text.proofs.Entries.{triggers_push}
use Rattle.session_run.specs.Linked.{LinkedGraph, link_answer, cancel_line, with_answer, with_links}
use Rattle.session_run.proofs.Leaner.{longer, name_of, link_as, ender, ends_it, IsLeaner, LinkFits, pushed, text_push, text_less, count_less, edges_count, edges_less, link_fits}

-- the last of the lines is no user line
snoc_passes : (xs : List Line) (t : Line) (i : ℕ) → is_user t.verb ≡ false → option_map_or is_user (option_map (λ (l : Line). l.verb) (slice_get (xs ++ t ∷ []) i)) false ≡ true → option_map_or is_user (option_map (λ (l : Line). l.verb) (slice_get xs i)) false ≡ true
snoc_passes [] t zero n h = absurd (true≢false (sym h ∙ n))
snoc_passes [] t (suc i) n h = h
snoc_passes (x ∷ xs) t zero n h = h
snoc_passes (x ∷ xs) t (suc i) n h = snoc_passes xs t i n h

users_push : (g : GraphValue) (ts : List Line) (l : Link) (u : ℕ) → ((i : ℕ) → line_passes is_user (longer g ts) i ≡ true → i < length g.lines) → (i : ℕ) → line_passes is_user (longer g (ts ++ link_as l (Trigger u) ∷ [])) i ≡ true → i < length g.lines
users_push g ts l u h i e = h i (snoc_passes (g.lines ++ ts) (link_as l (Trigger u)) i refl (ap (λ ls. option_map_or is_user (option_map (λ (x : Line). x.verb) (slice_get ls i)) false) (append_assoc g.lines ts (link_as l (Trigger u) ∷ [])) ∙ e))

same_end : (w u : ℕ) (b : Bool) (l : Link) → ends_it w (link_as l (ender b u)) ≡ (u == w)
same_end w u true l = refl
same_end w u false l = refl

-- both have one line more
both_push : (g : GraphValue) (ts ks : List Line) (l : Link) (u : ℕ) (b : Bool) → IsLeaner g ts ks → u < length g.lines → IsLeaner g (ts ++ link_as l (Trigger u) ∷ []) (ks ++ link_as l (ender b u) ∷ [])
both_push g ts ks l u b r near = record {
  names = λ w h.
      let p = or_parts (list_any (bytes_eq w) (map name_of ts)) (list_any (bytes_eq w) (l.line ∷ [])) (sym (ap (list_any (bytes_eq w)) (map-append name_of ts (link_as l (Trigger u) ∷ [])) ∙ list_any-append (bytes_eq w) (map name_of ts) (l.line ∷ [])) ∙ h) in
      ap (list_any (bytes_eq w)) (map-append name_of ks (link_as l (ender b u) ∷ [])) ∙ (list_any-append (bytes_eq w) (map name_of ks) (l.line ∷ []) ∙ or_from (list_any (bytes_eq w) (map name_of ks)) (list_any (bytes_eq w) (l.line ∷ [])) (r.names w p.0) p.1);
  ends = λ w h.
      let p = or_parts (list_any (ends_it w) ts) (list_any (ends_it w) (link_as l (Trigger u) ∷ [])) (sym (list_any-append (ends_it w) ts (link_as l (Trigger u) ∷ [])) ∙ h) in
      let q = or_parts (u == w) false p.1 in
      list_any-append (ends_it w) ks (link_as l (ender b u) ∷ []) ∙ or_from (list_any (ends_it w) ks) (list_any (ends_it w) (link_as l (ender b u) ∷ [])) (r.ends w p.0) (or_from (ends_it w (link_as l (ender b u))) false (same_end w u b l ∙ q.0) refl);
  users = users_push g ts l u r.users;
  text = text_less g ts ks l u b r near;
  count = count_less g ts ks (link_as l (ender b u)) (link_as l (Trigger u)) r.count;
  edges = edges_less g ts ks l u b r;
}

-- the first lines alone have one more
first_push : (g : GraphValue) (ts ks : List Line) (l : Link) (u : ℕ) → IsLeaner g ts ks → IsLeaner g (ts ++ link_as l (Trigger u) ∷ []) ks
first_push g ts ks l u r = record {
  names = λ w h. r.names w (or_parts (list_any (bytes_eq w) (map name_of ts)) (list_any (bytes_eq w) (l.line ∷ [])) (sym (ap (list_any (bytes_eq w)) (map-append name_of ts (link_as l (Trigger u) ∷ [])) ∙ list_any-append (bytes_eq w) (map name_of ts) (l.line ∷ [])) ∙ h)).0;
  ends = λ w h. r.ends w (or_parts (list_any (ends_it w) ts) (list_any (ends_it w) (link_as l (Trigger u) ∷ [])) (sym (list_any-append (ends_it w) ts (link_as l (Trigger u) ∷ [])) ∙ h)).0;
  users = users_push g ts l u r.users;
  text = (let x = text_push g ts (link_as l (Trigger u)) in omega (arith, x, r.text));
  count = omega (arith, length-append ts (link_as l (Trigger u) ∷ []), r.count);
  edges = (let x = edges_count g ts (link_as l (Trigger u)) in omega (arith, x, r.edges));
}

-- the links so far, as triggers, and as the lines that they add
pub record Linking (before : List LinkedGraph) (g : GraphValue) (done : List Link) (k : GraphValue) : Type 0 where
  pub triggers : List Line
  pub lines : List Line
  pub triggers_are : with_triggers g done ≡ longer g triggers
  pub lines_are : k ≡ longer g lines
  pub linked : with_links before g done ≡ k
  pub leaner : IsLeaner g triggers lines
  pub counted : length triggers ≡ length done

itself : (g : GraphValue) → g ≡ longer g []
itself g = ap (λ ls. record { format = g.format; decls = g.decls; lines = ls }) (sym (append-nil g.lines))

passes_within : (xs : List Line) (i : ℕ) → option_map_or is_user (option_map (λ (l : Line). l.verb) (slice_get xs i)) false ≡ true → i < length xs
passes_within [] i h = absurd (true≢false (sym h))
passes_within (x ∷ xs) zero h = omega arith
passes_within (x ∷ xs) (suc i) h = let k : i < length xs = passes_within xs i h in omega arith

pub no_links : (before : List LinkedGraph) (g : GraphValue) → Linking before g [] g
no_links before g = record {
  triggers = [];
  lines = [];
  triggers_are = itself g;
  lines_are = itself g;
  linked = refl;
  leaner = record {
    names = λ w h. h;
    ends = λ u h. h;
    users = λ i h. passes_within g.lines i (ap (λ ls. option_map_or is_user (option_map (λ (l : Line). l.verb) (slice_get ls i)) false) (sym (append-nil g.lines)) ∙ h);
    text = omega arith;
    count = omega arith;
    edges = omega arith;
  };
  counted = refl;
}

links_push : (before : List LinkedGraph) (g : GraphValue) (ls : List Link) (l : Link) → with_links before g (ls ++ l ∷ []) ≡ with_answer (with_links before g ls) l (link_answer before l)
links_push before g [] l = refl
links_push before g (k ∷ ls) l = links_push before (with_answer g k (link_answer before k)) ls l

-- one link more, by the answer of its operation
module _ (before : List LinkedGraph) (g : GraphValue) (done : List Link) (k : GraphValue) (l : Link) (s : Linking before g done k) (f : LinkFits g s.triggers s.lines l) where
  pushed_trigger : with_triggers g (done ++ l ∷ []) ≡ longer g (s.triggers ++ link_as l (Trigger f.number) ∷ [])
  pushed_trigger = triggers_push g done l ∙ (ap (λ h. with_trigger h l) s.triggers_are
      ∙ (ap (λ n. with_line (longer g s.triggers) (link_as l (Trigger n))) f.number_in ∙ pushed g s.triggers (link_as l (Trigger f.number))))

  pushed_links : with_links before g (done ++ l ∷ []) ≡ with_answer k l (link_answer before l)
  pushed_links = links_push before g done l ∙ ap (λ h. with_answer h l (link_answer before l)) s.linked

  counted_one : length (s.triggers ++ link_as l (Trigger f.number) ∷ []) ≡ length (done ++ l ∷ [])
  counted_one = omega (arith, length-append s.triggers (link_as l (Trigger f.number) ∷ []), length-append done (l ∷ []), s.counted)

  lines_by : (a : Answer) → link_answer before l ≡ a → Linking before g (done ++ l ∷ []) (with_answer k l a)
  lines_by Triggered e = record {
    triggers = s.triggers ++ link_as l (Trigger f.number) ∷ [];
    lines = s.lines ++ link_as l (Trigger f.number) ∷ [];
    triggers_are = pushed_trigger;
    lines_are = ap (λ h. with_line h (trigger_line h l)) s.lines_are ∙ (ap (λ n. with_line (longer g s.lines) (link_as l (Trigger n))) f.number_is ∙ pushed g s.lines (link_as l (Trigger f.number)));
    linked = pushed_links ∙ ap (with_answer k l) e;
    leaner = both_push g s.triggers s.lines l f.number true s.leaner f.near;
    counted = counted_one;
  }
  lines_by Poisoned e = record {
    triggers = s.triggers ++ link_as l (Trigger f.number) ∷ [];
    lines = s.lines ++ link_as l (Cancel f.number) ∷ [];
    triggers_are = pushed_trigger;
    lines_are = ap (λ h. with_line h (cancel_line h l)) s.lines_are ∙ (ap (λ n. with_line (longer g s.lines) (link_as l (Cancel n))) f.number_is ∙ pushed g s.lines (link_as l (Cancel f.number)));
    linked = pushed_links ∙ ap (with_answer k l) e;
    leaner = both_push g s.triggers s.lines l f.number false s.leaner f.near;
    counted = counted_one;
  }
  lines_by Pending e = record {
    triggers = s.triggers ++ link_as l (Trigger f.number) ∷ [];
    lines = s.lines;
    triggers_are = pushed_trigger;
    lines_are = s.lines_are;
    linked = pushed_links ∙ ap (with_answer k l) e;
    leaner = first_push g s.triggers s.lines l f.number s.leaner;
    counted = counted_one;
  }

  pub one_link : Linking before g (done ++ l ∷ []) (with_answer k l (link_answer before l))
  one_link = lines_by (link_answer before l) refl

-- the line of a link that fits
or_else_none : (a b : Option Why) → or_else a b ≡ None → (a ≡ None) × (b ≡ None)
or_else_none None b h = (refl, h)
or_else_none (Some w) b h = absurd (none-some w (sym h))

-- one of the links, after those before it
pub fits_at : (before : List Entry) (name : List ℕ) (g : GraphValue) (done : List Link) (ls : List Link) (i : ℕ) (l : Link) → LinksFit before (record { name = name; graph = g; links = done }) ls → slice_get ls i ≡ Some l
    → trigger_reason (with_triggers g (done ++ take i ls)) l ≡ None
fits_at before name g done [] i l f h = absurd (none-some l h)
fits_at before name g done (k ∷ ls) zero l f h =
    let same : k ≡ l = same_Some k l h in
    ap (λ ds. trigger_reason (with_triggers g ds) l) (append-nil done)
    ∙ (ap (trigger_reason (with_triggers g done)) (sym same) ∙ (or_else_none _ _ (or_else_none _ _ f.0).1).0)
fits_at before name g done (k ∷ ls) (suc i) l f h =
    ap (λ ds. trigger_reason (with_triggers g ds) l) (sym (append_assoc done (k ∷ []) (take i ls))) ∙ fits_at before name g (done ++ k ∷ []) ls i l f.1 h

pub link_there : (before : List LinkedGraph) (g : GraphValue) (ls : List Link) (i : ℕ) (k : GraphValue) (l : Link) (c : CanLink g ls) → (s : Linking before g (take i ls) k) → slice_get ls i ≡ Some l → LinkFits g s.triggers s.lines l
link_there before g ls i k l c s h = link_fits g s.triggers s.lines l s.leaner (ap (λ t. trigger_reason t l) (sym s.triggers_are) ∙ fits_at c.0 c.1 g [] ls i l c.2 h)

-- and its name
first_false : (b : Bool) (w : Why) (ts : List (Bool × Why)) → first_reason ((b, w) ∷ ts) ≡ None → b ≡ false
first_false true w ts h = absurd (none-some w (sym h))
first_false false w ts h = refl

unnot : (b : Bool) → not b ≡ false → b ≡ true
unnot true h = refl
unnot false h = absurd (true≢false h)

named_first : (before : List Entry) (e : Entry) (l : Link) → link_reason before e l ≡ None → is_name_in e.graph.format l.line ≡ true
named_first before e l h =
    let named : Bool = is_named e.graph.format (format_of before l.graph) l in
    (and_parts (is_name_in e.graph.format l.line) _ (unnot named (first_false (not named) why.Name ((not (names_op before l), why.Unknown) ∷ []) (or_else_none _ _ h).0))).0

name_at : (before : List Entry) (name : List ℕ) (g : GraphValue) (done : List Link) (ls : List Link) (i : ℕ) (l : Link) → LinksFit before (record { name = name; graph = g; links = done }) ls → slice_get ls i ≡ Some l
    → is_name_in g.format l.line ≡ true
name_at before name g done [] i l f h = absurd (none-some l h)
name_at before name g done (k ∷ ls) zero l f h =
    named_first before (record { name = name; graph = g; links = done }) l (subst (λ x. link_reason before (record { name = name; graph = g; links = done }) x ≡ None) (same_Some k l h) f.0)
name_at before name g done (k ∷ ls) (suc i) l f h = name_at before name g (done ++ k ∷ []) ls i l f.1 h

-- what is asked of a link that is put at the end
pub record CanPut (k : GraphValue) (l : Link) : Type 0 where
  pub name : is_name_in k.format l.line ≡ true
  pub user : is_line_name k l.user ≡ true
  pub trigger : line_fault k (trigger_line k l) ≡ None
  pub cancel : line_fault k (cancel_line k l) ≡ None

pub can_put : (before : List LinkedGraph) (g : GraphValue) (ls : List Link) (i : ℕ) (k : GraphValue) (l : Link) (c : CanLink g ls) → Linking before g (take i ls) k → slice_get ls i ≡ Some l → CanPut k l
can_put before g ls i k l c s h =
    let f = link_there before g ls i k l c s h in
    subst (λ t. CanPut t l) (sym s.lines_are) (record { name = name_at c.0 c.1 g [] ls i l c.2 h; user = f.named; trigger = f.trigger; cancel = f.cancel })

pub linked_more : (before : List LinkedGraph) (g : GraphValue) (ls : List Link) (i : ℕ) (k next : GraphValue) (l : Link) (c : CanLink g ls) → Linking before g (take i ls) k → slice_get ls i ≡ Some l → next ≡ with_answer k l (link_answer before l) → Linking before g (take (i + 1) ls) next
linked_more before g ls i k next l c s h e =
    let more : take (i + 1) ls ≡ take i ls ++ l ∷ [] = take_more ls i l (slice_get_within ls i l h) ∙ ap (λ x. take i ls ++ x ∷ []) (get_or_from_slice_get ls i l l h) in
    subst (λ t. Linking before g t next) (sym more) (subst (Linking before g (take i ls ++ l ∷ [])) (sym e) (one_link before g (take i ls) k l s (link_there before g ls i k l c s h)))

take_all : {X : Type 0} (xs : List X) (n : ℕ) → n ≡ length xs → take n xs ≡ xs
take_all [] zero e = refl
take_all [] (suc n) e = absurd (omega arith)
take_all (x ∷ xs) zero e = absurd (omega arith)
take_all (x ∷ xs) (suc n) e = ap (λ l. x ∷ l) (take_all xs n (omega arith))

-- all links are put
pub all_linked : (before : List LinkedGraph) (g : GraphValue) (ls : List Link) (n : ℕ) (k : GraphValue) → n ≡ length ls → Linking before g (take n ls) k → (k ≡ with_links before g ls) × (length k.lines ≤ length g.lines + length ls)
all_linked before g ls n k e s = let t = subst (λ x. Linking before g x k) (take_all ls n e) s in (sym t.linked, omega (arith, ap (λ (h : GraphValue). length h.lines) t.lines_are, length-append g.lines t.lines, t.leaner.count, t.counted))
