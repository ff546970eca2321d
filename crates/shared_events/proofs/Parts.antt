-- The parts of what holds of a view. A part speaks of some lists alone, so views that have these lists in common have the part in common.
use Rattle.std.proofs.Common.{◌≡◌, ℕ, ◌+◌, ◌%◌, ◌<◌, ◌≤◌, ◌⊎◌, List, [], get_or, arith}
use Rattle.std.specs.Prelude.{Contains}
use Rattle.event_table.specs.declared.handle.Handle.{Handle}
use Rattle.event_table.specs.declared.handle.Fate.{Fate}
use Rattle.event_table.specs.declared.handle.Shape.{Shape}
use Rattle.shared_events.specs.declared.view.View.{View}
use Rattle.event_table.specs.Words.{turns_of, mark, fate_code, IsMade, IsPending, IsEnded, Linked}
use Rattle.shared_events.specs.Rule.{Fits}
use Rattle.shared_events.specs.Plays.{no_view}
use Rattle.basics.proofs.ListFacts.{contains_none}
use Rattle.shared_events.proofs.Frames.{Placings}

-- what was seen, and of which handles a fate is known, which were left and which have ended
pub record FactsFit (key : Shape) (ws ts : List ℕ) (ks : List Shape) (hs : List Handle) (fs : List (Handle × Fate)) (ls ps : List Handle) : Type 0 where
  pub keys : (x : Shape) → Contains ks x → x ≡ key
  pub seen : (h : Handle) → Contains hs h → IsMade ts h
  pub known_seen : (h : Handle) (f : Fate) → Contains fs (h, f) → Contains hs h
  pub known : (h : Handle) (f : Fate) → Contains fs (h, f) → IsEnded ts h × (mark key ws h ≡ fate_code f)
  pub left_seen : (h : Handle) → Contains ls h → Contains hs h
  pub left : (h : Handle) → Contains ls h → IsPending ts h
  pub past_seen : (h : Handle) → Contains ps h → Contains hs h
  pub past : (h : Handle) → Contains ps h → IsEnded ts h

-- what was placed and given, and which handles were emptied
pub record PlacingsFit (ts : List ℕ) (log xs gs : Placings) (es : List Handle) : Type 0 where
  pub placed : (p : ℕ × Handle) → Contains xs p → Contains log p
  pub given : (p : ℕ × Handle) → Contains gs p → Contains log p × IsEnded ts p.1
  pub emptied : (h : Handle) → Contains es h → IsEnded ts h × ((k : ℕ) → Contains log (k, h) → Contains gs (k, h))

-- which handles may be ended, and which of them are marked
pub record RightsFit (key : Shape) (ws ts : List ℕ) (hs rs ms : List Handle) : Type 0 where
  pub seen : (h : Handle) → Contains rs h → Contains hs h
  pub pending : (h : Handle) → Contains rs h → IsPending ts h
  pub marked : (h : Handle) → Contains ms h → mark key ws h ≡ 1
  pub clear : (h : Handle) → Contains rs h → (Contains ms h → ⊥) → mark key ws h ≡ 0

-- the chain that was taken
pub record ChaseFits (key : Shape) (ws ts : List ℕ) (log gs : Placings) (hs : List Handle) (cs : List ℕ) : Type 0 where
  pub caught : Linked key ws cs
  pub chased : (h : Handle) → Contains hs h → IsEnded ts h × ((k : ℕ) → Contains log (k, h) → Contains cs k ⊎ Contains gs (k, h))
  pub chain : (h : Handle) (k : ℕ) → Contains hs h → Contains cs k → Contains log (k, h)

-- the right to create
pub record MakingFits (key : Shape) (ws ts : List ℕ) (makes : ℕ) (ms : List Handle) (ps : List (ℕ × ℕ)) : Type 0 where
  pub own : (h : Handle) → Contains ms h → IsMade ts h
  pub made : makes ≡ 1 → (h : Handle) → IsMade ts h → Contains ms h
  pub spare : makes ≡ 1 → (p : ℕ × ℕ) → Contains ps p → (p.0 < key.slots) × (get_or ws p.0 0 ≡ p.1) × (get_or ts p.0 0 % 2 ≡ 0)

abbrev pub SawFits : List ℕ → List (ℕ × ℕ) → Type 0
SawFits ts ss = (p : ℕ × ℕ) → Contains ss p → turns_of p.1 ≤ get_or ts p.0 0

abbrev pub HandFits : Shape → List ℕ → List (ℕ × ℕ) → Type 0
HandFits key ws hs = (p : ℕ × ℕ) → Contains hs p → (p.0 < key.waiters) × (get_or ws (key.slots + p.0) 0 ≡ p.1)

module _ {key : Shape} {ws ts : List ℕ} {log : Placings} where
  -- The parts make the whole
  pub whole : (v : View) → FactsFit key ws ts v.keys v.seen v.known v.left v.past → SawFits ts v.saw → PlacingsFit ts log v.placed v.given v.emptied → RightsFit key ws ts v.seen v.rights v.marked
      → HandFits key ws v.hand → ChaseFits key ws ts log v.given v.chased v.caught → MakingFits key ws ts v.makes v.made v.spare → Fits key ws ts log v
  whole v f s p r h c m = record {
    keys = f.keys;
    all_seen = (f.known_seen, f.left_seen, f.past_seen, r.seen);
    seen = f.seen;
    known = f.known;
    placed = p.placed;
    given = p.given;
    emptied = p.emptied;
    left = f.left;
    past = f.past;
    saw = s;
    rights = r.pending;
    marked = r.marked;
    clear = r.clear;
    hand = h;
    caught = c.caught;
    chased = c.chased;
    chain = c.chain;
    own = m.own;
    made = m.made;
    spare = m.spare;
  }

  -- The parts of the whole
  pub facts_fit : {v : View} → Fits key ws ts log v → FactsFit key ws ts v.keys v.seen v.known v.left v.past
  facts_fit o = record { keys = o.keys; seen = o.seen; known_seen = o.all_seen.0; known = o.known; left_seen = o.all_seen.1; left = o.left; past_seen = o.all_seen.2; past = o.past }

  pub placings_fit : {v : View} → Fits key ws ts log v → PlacingsFit ts log v.placed v.given v.emptied
  placings_fit o = record { placed = o.placed; given = o.given; emptied = o.emptied }

  pub rights_fit : {v : View} → Fits key ws ts log v → RightsFit key ws ts v.seen v.rights v.marked
  rights_fit o = record { seen = o.all_seen.3; pending = o.rights; marked = o.marked; clear = o.clear }

  pub chase_fits : {v : View} → Fits key ws ts log v → ChaseFits key ws ts log v.given v.chased v.caught
  chase_fits o = record { caught = o.caught; chased = o.chased; chain = o.chain }

  pub making_fits : {v : View} → Fits key ws ts log v → MakingFits key ws ts v.makes v.made v.spare
  making_fits o = record { own = o.own; made = o.made; spare = o.spare }

module _ {key : Shape} {ws ts : List ℕ} {ks : List Shape} {hs : List Handle} {fs : List (Handle × Fate)} {ls ps : List Handle} where
  -- another list in the place of one
  pub with_known : (fs' : List (Handle × Fate)) → ((h : Handle) (f : Fate) → Contains fs' (h, f) → Contains hs h × IsEnded ts h × (mark key ws h ≡ fate_code f)) → FactsFit key ws ts ks hs fs ls ps → FactsFit key ws ts ks hs fs' ls ps
  with_known fs' is f = record { keys = f.keys; seen = f.seen; known_seen = λ h y c. (is h y c).0; known = λ h y c. let a = is h y c in (a.1, a.2); left_seen = f.left_seen; left = f.left; past_seen = f.past_seen; past = f.past }

  pub with_left : (ls' : List Handle) → ((h : Handle) → Contains ls' h → Contains hs h × IsPending ts h) → FactsFit key ws ts ks hs fs ls ps → FactsFit key ws ts ks hs fs ls' ps
  with_left ls' is f = record { keys = f.keys; seen = f.seen; known_seen = f.known_seen; known = f.known; left_seen = λ h c. (is h c).0; left = λ h c. (is h c).1; past_seen = f.past_seen; past = f.past }

  pub with_past : (ps' : List Handle) → ((h : Handle) → Contains ps' h → Contains hs h × IsEnded ts h) → FactsFit key ws ts ks hs fs ls ps → FactsFit key ws ts ks hs fs ls ps'
  with_past ps' is f = record { keys = f.keys; seen = f.seen; known_seen = f.known_seen; known = f.known; left_seen = f.left_seen; left = f.left; past_seen = λ h c. (is h c).0; past = λ h c. (is h c).1 }

module _ {ts : List ℕ} {log : Placings} where
  pub no_placings : PlacingsFit ts log [] [] []
  no_placings = record { placed = λ p c. absurd (contains_none p c); given = λ p c. absurd (contains_none p c); emptied = λ h c. absurd (contains_none h c) }

  pub given_alone : {xs gs : Placings} {es : List Handle} → PlacingsFit ts log xs gs es → PlacingsFit ts log [] gs []
  given_alone f = record { placed = λ p c. absurd (contains_none p c); given = f.given; emptied = λ h c. absurd (contains_none h c) }

module _ {key : Shape} {ws ts : List ℕ} where
  -- handles that were seen, and no more of them
  pub seen_alone : {ks : List Shape} {hs : List Handle} → ((x : Shape) → Contains ks x → x ≡ key) → ((h : Handle) → Contains hs h → IsMade ts h) → FactsFit key ws ts ks hs [] [] []
  seen_alone keys seen = record {
    keys = keys;
    seen = seen;
    known_seen = λ h f c. absurd (contains_none {X = Handle × Fate} (h, f) c);
    known = λ h f c. absurd (contains_none {X = Handle × Fate} (h, f) c);
    left_seen = λ h c. absurd (contains_none h c);
    left = λ h c. absurd (contains_none h c);
    past_seen = λ h c. absurd (contains_none h c);
    past = λ h c. absurd (contains_none h c);
  }

  -- what is known of those that were seen, and no more
  pub known_alone : {ks : List Shape} {hs : List Handle} {fs : List (Handle × Fate)} {ls ps : List Handle} → FactsFit key ws ts ks hs fs ls ps → FactsFit key ws ts ks hs fs [] []
  known_alone f = with_left [] (λ h c. absurd (contains_none h c)) (with_past [] (λ h c. absurd (contains_none h c)) f)

  pub fewer_rights : {hs rs ms : List Handle} (rs' : List Handle) → ((h : Handle) → Contains rs' h → Contains rs h) → RightsFit key ws ts hs rs ms → RightsFit key ws ts hs rs' ms
  fewer_rights rs' are f = record { seen = λ h c. f.seen h (are h c); pending = λ h c. f.pending h (are h c); marked = f.marked; clear = λ h c n. f.clear h (are h c) n }

  pub no_rights : {hs : List Handle} → RightsFit key ws ts hs [] []
  no_rights = record { seen = λ h c. absurd (contains_none h c); pending = λ h c. absurd (contains_none h c); marked = λ h c. absurd (contains_none h c); clear = λ h c n. absurd (contains_none h c) }

  pub no_chase : {log gs : Placings} → ChaseFits key ws ts log gs [] []
  no_chase = record { caught = tt; chased = λ h c. absurd (contains_none h c); chain = λ h k c d. absurd (contains_none h c) }

  pub no_making : MakingFits key ws ts 0 [] []
  no_making = record { own = λ h c. absurd (contains_none h c); made = λ e. absurd (omega arith); spare = λ e. absurd (omega arith) }

  pub none_noted : {n : ℕ} {ms : List Handle} {ps : List (ℕ × ℕ)} → MakingFits key ws ts n ms ps → MakingFits key ws ts n ms []
  none_noted m = record { own = m.own; made = m.made; spare = λ e p c. absurd (contains_none p c) }

-- a view with nothing
pub blank : (key : Shape) (ws ts : List ℕ) (log : Placings) → Fits key ws ts log no_view
blank key ws ts log = whole no_view (seen_alone (λ x c. absurd (contains_none x c)) (λ h c. absurd (contains_none h c))) (λ p c. absurd (contains_none p c)) no_placings no_rights (λ p c. absurd (contains_none p c)) no_chase no_making
