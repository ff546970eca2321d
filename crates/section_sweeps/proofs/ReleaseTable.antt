-- The table of releases, line by line.
use Rattle.std.proofs.Common.{◌≡◌, ℕ, ◌+◌, ◌<◌, inl, inr, List, length, sym, ◌∙◌, ap, subst, arith}
use Rattle.std.specs.Prelude.{Option, Some, None, slice_set}
use Rattle.std.proofs.lemmas.Bool.{cases_lt, cases_eq}
use Rattle.std.proofs.lemmas.List.{get_or-set_same, get_or-set_other}
use Rattle.std.proofs.lemmas.Option.{none-some, same_Some}
use Rattle.graph_terms.specs.declared.verb.Verb.TheVariants.{Release}
use Rattle.graph_terms.specs.Graph.{GraphValue, is_release_of}
use Rattle.graph_terms.specs.Fits.{IsGraph}
use Rattle.graph_terms.specs.Reservations.{Releases}
use Rattle.graph_terms.proofs.Public.{release_is, passes_below, one_release}
use Rattle.section_sweeps.specs.Releases.{IsReleaseTable, AreReleases, release_in}

-- the table of releases after the first i lines
pub record IsReleaseTableTo (g : GraphValue) (release : ℕ → Option ℕ) (i : ℕ) : Type 0 where
  pub is : (q r : ℕ) → release q ≡ Some r → Releases g r q
  pub listed : (q r : ℕ) → r < i → Releases g r q → release q ≡ Some r

-- line i is the release of q, and is put into the table
table_release : (g : GraphValue) → IsGraph g → (release after : ℕ → Option ℕ) (i q : ℕ) → IsReleaseTableTo g release i → Releases g i q → after q ≡ Some i → ((k : ℕ) → (k ≡ q → ⊥) → after k ≡ release k) → IsReleaseTableTo g after (i + 1)
table_release g f release after i q t rel here other = record {
  is = λ k r h. elim (cases_eq k q) [
    | inl same ↦ (let e : i ≡ r = same_Some i r (sym here ∙ (ap after (sym same) ∙ h)) in subst (λ z. Releases g z k) e (subst (λ z. Releases g i z) (sym same) rel))
    | inr apart ↦ t.is k r (sym (other k apart) ∙ h)
  ];
  listed = λ k r b h. elim (cases_eq k q) [
    | inl same ↦ ap after same ∙ (here ∙ ap Some (one_release g f q i r rel (subst (λ z. Releases g r z) same h)))
    | inr apart ↦ other k apart ∙ t.listed k r (earlier k r b h apart) h
  ];
}
  where
    releases_one : (k r : ℕ) → Releases g r k → Releases g r q → k ≡ q
    releases_one k r a b = (let e : Some (Release k) ≡ Some (Release q) = sym (release_is g r k a) ∙ release_is g r q b in cc)

    earlier : (k r : ℕ) → r < i + 1 → Releases g r k → (k ≡ q → ⊥) → r < i
    earlier k r b h apart = elim (cases_lt r i) [ inl l ↦ l | inr up ↦ absurd (let e : i ≡ r = omega arith in apart (releases_one k r h (subst (λ z. Releases g z q) e rel))) ]

-- line i is no release
pub table_other : (g : GraphValue) (release : ℕ → Option ℕ) (i : ℕ) → IsReleaseTableTo g release i → ((q : ℕ) → Releases g i q → ⊥) → IsReleaseTableTo g release (i + 1)
table_other g release i t none = record {
  is = t.is;
  listed = λ q r b h. elim (cases_lt r i) [ inl l ↦ t.listed q r l h | inr up ↦ absurd (let e : r ≡ i = omega arith in none q (subst (λ z. Releases g z q) e h)) ];
}

pub table_done : (g : GraphValue) (release : ℕ → Option ℕ) → IsReleaseTableTo g release (length g.lines) → IsReleaseTable g release
table_done g release t = (t.is, λ q r h. t.listed q r (passes_below (is_release_of q) g r h) h)

-- the same as a list
pub releases_begun : (g : GraphValue) (releases : List (Option ℕ)) → ((q : ℕ) → release_in releases q ≡ None) → IsReleaseTableTo g (release_in releases) 0
releases_begun g releases nones = record {
  is = λ q r h. absurd (none-some r (sym (nones q) ∙ h));
  listed = λ q r h. absurd (omega arith);
}

pub releases_more : (g : GraphValue) → IsGraph g → (releases : List (Option ℕ)) (i q : ℕ) → q < length releases → IsReleaseTableTo g (release_in releases) i → Releases g i q → IsReleaseTableTo g (release_in (slice_set releases q (Some i))) (i + 1)
releases_more g f releases i q below t rel = table_release g f (release_in releases) (release_in (slice_set releases q (Some i))) i q t rel
    (get_or-set_same releases q (Some i) None below) (λ k apart. get_or-set_other releases q k (Some i) None apart)

pub releases_done : (g : GraphValue) (releases : List (Option ℕ)) (n : ℕ) → n ≡ length g.lines → length releases ≡ length g.lines → IsReleaseTableTo g (release_in releases) n → AreReleases g releases
releases_done g releases n all size t = record { size = size; table = table_done g (release_in releases) (subst (λ k. IsReleaseTableTo g (release_in releases) k) all t) }
