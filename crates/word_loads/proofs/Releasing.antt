-- A line that is ending frees the reservation that it releases, where the acquire is done.
use Rattle.std.proofs.Common.{◌≡◌, ◌≢◌, ℕ, zero, suc, ◌-◌, ◌<◌, ◌≤◌, Bool, false, length, List, [], refl, sym, ◌∙◌, ap, subst, arith}
use Rattle.std.specs.Prelude.{Contains, Some, slice_get}
use Rattle.std.proofs.lemmas.Bool.{eq-eqb}
use Rattle.std.proofs.lemmas.List.Elements.{Contains-append_right}
use Rattle.std.proofs.lemmas.Option.{same_Some}
use Rattle.line_effects.proofs.Public.{verb_is}
use Rattle.basics.proofs.ListFacts.{contains_here}
use Rattle.shared_events.specs.declared.events.Events.{Events}
use Rattle.graph_terms.specs.declared.outcome.End.{End}
use Rattle.graph_terms.specs.declared.outcome.End.TheVariants.{Done}
use Rattle.graph_terms.specs.declared.verb.Line.{Line}
use Rattle.graph_terms.specs.declared.verb.Verb.TheVariants.{Acquire, Release}
use Rattle.graph_terms.specs.Graph.{GraphValue, locks, line_passes, is_acquire_of, is_shared, is_release_of}
use Rattle.graph_terms.specs.Fits.{IsGraph}
use Rattle.graph_meaning.specs.Path.{HasPath}
use Rattle.graph_terms.specs.Reservations.{Acquires, Releases}
use Rattle.graph_meaning.specs.Rules.{Accepted}
use Rattle.graph_meaning.specs.Evaluation.{eval_end}
use Rattle.graph_terms.proofs.Public.{acquire_is, release_is, verb_passes, verb_below, release_one, acquired_lock_known, release_names, one_release}
use Rattle.word_steps.specs.declared.content.Content.{Content}
use Rattle.word_steps.specs.declared.view.View.{View}
use Rattle.word_steps.specs.Claims.{Claim}
use Rattle.word_steps.specs.Rule.{ground_of}
use Rattle.word_steps.specs.Plays.{Sat, on_claim, has_freed, looked_at, ended_by, end_of_code, Told}
use Rattle.word_steps.specs.Premises.{Has}
use Rattle.word_loads.specs.Laden.{IsEnding, IsReleased}

-- the verbs of acquires and releases
pub line_acquires : (g : GraphValue) (i l : ℕ) (line : Line) → slice_get g.lines i ≡ Some line → (s : Bool) → line.verb ≡ Acquire l s → Acquires g i l
line_acquires g i l line h s e = verb_passes (is_acquire_of l) g i (Acquire l s) (verb_is g i line h ∙ ap (λ v. Some v) e) ∙ eq-eqb l l refl

pub line_releases : (g : GraphValue) (i q : ℕ) (line : Line) → slice_get g.lines i ≡ Some line → line.verb ≡ Release q → Releases g i q
line_releases g i q line h e = verb_passes (is_release_of q) g i (Release q) (verb_is g i line h ∙ ap (λ v. Some v) e) ∙ eq-eqb q q refl

pub lock_there : (g : GraphValue) → IsGraph g → (i l : ℕ) (line : Line) → slice_get g.lines i ≡ Some line → (s : Bool) → line.verb ≡ Acquire l s → l < length (locks g)
lock_there g is i l line h s e = acquired_lock_known g is i l (line_acquires g i l line h s e)

pub acquire_there : (g : GraphValue) → IsGraph g → (i q : ℕ) → Releases g i q → q < length g.lines
acquire_there g is i q rel =
    let a = release_names g is i q rel in
    verb_below g q (Acquire a.0 (line_passes is_shared g q)) (acquire_is g q a.0 a.1)

pub is_acquire_there : (g : GraphValue) → IsGraph g → (i q : ℕ) → Releases g i q → (line : Line) → slice_get g.lines q ≡ Some line → ((l : ℕ) (s : Bool) → line.verb ≡ Acquire l s → ⊥) → ⊥
is_acquire_there g is i q rel line h n =
    let a = release_names g is i q rel in
    n a.0 (line_passes is_shared g q) (same_Some line.verb (Acquire a.0 (line_passes is_shared g q)) (sym (verb_is g q line h) ∙ acquire_is g q a.0 a.1))

pub no_release : (g : GraphValue) (i : ℕ) (line : Line) → slice_get g.lines i ≡ Some line → ((q : ℕ) → line.verb ≡ Release q → ⊥) → (q : ℕ) → Releases g i q → ⊥
no_release g i line h n q rel = n q (same_Some line.verb (Release q) (sym (verb_is g i line h) ∙ release_is g i q rel))

-- the path from an acquire to its release
pub release_path : (g : GraphValue) → IsGraph g → Accepted g → (r q : ℕ) → Releases g r q → HasPath g q r
release_path g f a r q rel =
    let l = release_names g f r q rel in
    let p = a.released q l.0 l.1 in
    subst (HasPath g q) (one_release g f q p.0 r p.1 rel) p.2

not_done : (n : ℕ) → n ≢ 0 → end_of_code n ≢ Done
not_done zero ne e = ne refl
not_done (suc zero) ne e = cc
not_done (suc (suc zero)) ne e = cc
not_done (suc (suc (suc k))) ne e = cc

module _ (g : GraphValue) (e : Events) (line : ℕ) (x : End) (v : View) (cl : Claim) (left : List (ℕ × Content)) (m : Sat) (i : IsEnding line x v cl left m) where
  pub releases_none : ((q : ℕ) → Releases g line q → ⊥) → IsReleased g line x v cl left m
  releases_none none = record {
    issued = v.issued;
    ended = v.ended;
    saw = v.saw;
    claim = i.claim;
    now = i.now;
    line_is = i.line_is;
    event = i.event;
    ends = i.ends;
    stored = i.stored;
    freed = λ q r d. absurd (none q r);
  }

  module _ (f : IsGraph g) (a : Accepted g) (keys : Contains m.0.keys (ground_of g e)) (q r : ℕ) (rel : Releases g line q) (o : Sat) (looks : o ≡ (looked_at m.0 q r, m.1)) (told : Told m.0 q r) where
    now_looked : o ≡ (record (looked_at v q r) { claim = Some i.claim }, left)
    now_looked = looks ∙ ap (λ (y : Sat). (looked_at y.0 q r, y.1)) i.now

    is_over : 8 ≤ r
    is_over = told.before (ground_of g e) i.claim keys (ap (λ (y : Sat). y.0.claim) i.now) (subst (HasPath g q) (sym i.line_is) (release_path g f a line q rel))

    pub not_freed : r ≢ 8 → IsReleased g line x v cl left o
    not_freed ne = record {
      issued = (looked_at v q r).issued;
      ended = (looked_at v q r).ended;
      saw = (looked_at v q r).saw;
      claim = i.claim;
      now = now_looked;
      line_is = i.line_is;
      event = i.event;
      ends = i.ends;
      stored = i.stored;
      freed = λ k rk d. (let over : 8 ≤ r = is_over in absurd (not_done (r - 8) (λ z. ne (omega (arith, z, over)))
          (sym (told.known (ground_of g e) keys over) ∙ (ap (eval_end g) (release_one g line q k rel rk) ∙ d))));
    }

    pub may_free : Has o.0 (λ c. (y : End) × (c.ends ≡ Some y) × Releases g c.line q × (c.freed ≡ false))
    may_free = (i.claim, ap (λ (y : Sat). y.0.claim) now_looked, (x, i.ends, subst (λ j. Releases g j q) (sym i.line_is) rel, i.unfreed))

    pub done_known : r ≡ 8 → Contains o.0.ended (q, Done)
    done_known is = subst (λ (l : List (ℕ × End)). Contains l (q, Done)) (sym (ap (λ (y : Sat). y.0.ended) now_looked))
        (Contains-append_right v.ended (ended_by q r) (q, Done) (subst (λ k. Contains (ended_by q k) (q, Done)) (sym is) (contains_here {X = ℕ × End} (q, Done) [])))

    pub has_released : (p : Sat) → p ≡ (on_claim has_freed o.0, o.1) → IsReleased g line x v cl left p
    has_released p fr = record {
      issued = (looked_at v q r).issued;
      ended = (looked_at v q r).ended;
      saw = (looked_at v q r).saw;
      claim = has_freed i.claim;
      now = fr ∙ ap (λ (y : Sat). (on_claim has_freed y.0, y.1)) now_looked;
      line_is = i.line_is;
      event = i.event;
      ends = i.ends;
      stored = i.stored;
      freed = λ k rk d. refl;
    }
