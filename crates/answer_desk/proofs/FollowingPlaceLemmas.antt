-- IAR cause by cause: what each try adds to the causes that it is through with.
use Rattle.std.proofs.Common.{◌≡◌, ℕ, suc, ◌+◌, ◌<◌, ◌≤◌, ◌⊎◌, ◌↔◌, inl, inr, List, [], ◌∷◌, length, Contains, Bool, true, false, not, ◌&&◌, ◌||◌}
use Rattle.std.proofs.Common.{true≢false, refl, sym, subst, ap, ◌∙◌, arith, Option, Some, None}
use Rattle.std.specs.Prelude.{slice_index_or}
use Rattle.std.proofs.lemmas.Bool.{cases_Bool, or_cases, or_left, or_right}
use Rattle.clause_meaning.specs.Refutation.{IsWithin}
use Rattle.report_text.specs.declared.line.Line.{Line}
use Rattle.report_text.specs.declared.line.How.{How}
use Rattle.report_text.specs.declared.line.How.TheVariants as how
use Rattle.report_text.specs.declared.line.Question.TheVariants as question
use Rattle.answer_evidence.specs.declared.aim.Aim.TheVariants as aim
use Rattle.answer_evidence.specs.Aims as aims
use Rattle.answer_evidence.specs.declared.evidence.Evidence.{Evidence}
use Rattle.answer_evidence.specs.Sets.{SomeWithin}
use Rattle.answer_evidence.specs.Shown.{SeesCore, SeesRefuted, SeesSpent, SeesIar, SaysHow, is_undecided, all_true}
use Rattle.answer_evidence.specs.Shown.{verdict_in, verdict_by, is_yes, is_no, is_ar_no, is_brave_no}
use Rattle.answer_desk.specs.PlacesOver.{PlaceIsOver, PlacesStayOver, FactIsSeen}
use Rattle.answer_desk.specs.Trying.{Try, Search, Tries}
use Rattle.answer_desk.specs.Following.{IarIsOver}
use Rattle.answer_desk.proofs.FollowingStepLemmas.{iar_settled_stays, decided_cases, decided_yes, decided_no}

-- ---- what stays over

pub places_same : (causes : List (List ℕ)) (e : Evidence) → PlacesStayOver causes e e
places_same causes e place below over = over

pub places_then : (causes : List (List ℕ)) (a b c : Evidence) → PlacesStayOver causes a b → PlacesStayOver causes b c → PlacesStayOver causes a c
places_then causes a b c first second place below over = second place below (first place below over)

pub places_after_core : (causes : List (List ℕ)) (kept dropped : List ℕ) (old new : Evidence) → length old.cut.items ≡ length causes
    → SeesCore causes kept dropped old new → PlacesStayOver causes old new
places_after_core causes kept dropped old new all sees place below (inl settled) = inl (iar_settled_stays causes kept dropped old new all sees settled)
places_after_core causes kept dropped old new all sees place below (inr (inl cut)) = inr (inl ((sees.cut.exact place below).1 (inl cut)))
places_after_core causes kept dropped old new all sees place below (inr (inr (f, m, s))) =
    inr (inr (f, m, subst (λ (xs : List ℕ). Contains xs f) (sym sees.only.spent) s))

pub places_after_refuted : (causes : List (List ℕ)) (fact : ℕ) (old new : Evidence) → SeesRefuted causes fact old new → PlacesStayOver causes old new
places_after_refuted causes fact old new sees place below (inl settled) =
    inl (elim (decided_cases (is_yes old question.Iar) (is_no old question.Iar) settled) [
      | inl sure ↦ decided_yes (is_yes new question.Iar) (is_no new question.Iar) (sees.sure.1 (inl sure))
      | inr shown ↦ decided_no (is_yes new question.Iar) (is_no new question.Iar) (ap (λ (e : Evidence). is_no e question.Iar) sees.rest ∙ shown)
    ])
places_after_refuted causes fact old new sees place below (inr (inl cut)) =
    inr (inl (ap (λ (e : Evidence). slice_index_or e.cut.items place false) sees.rest ∙ cut))
places_after_refuted causes fact old new sees place below (inr (inr (f, m, s))) =
    inr (inr (f, m, subst (λ (xs : List ℕ). Contains xs f) (sym (ap (λ (e : Evidence). e.spent) sees.rest)) s))

pub places_after_spent : (causes : List (List ℕ)) (fact : ℕ) (old new : Evidence) → SeesSpent fact old new → PlacesStayOver causes old new
places_after_spent causes fact old new sees place below (inl settled) =
    inl (ap (λ (e : Evidence). is_undecided (verdict_in e question.Iar)) sees.rest ∙ settled)
places_after_spent causes fact old new sees place below (inr (inl cut)) =
    inr (inl (ap (λ (e : Evidence). slice_index_or e.cut.items place false) sees.rest ∙ cut))
places_after_spent causes fact old new sees place below (inr (inr (f, m, s))) = inr (inr (f, m, (sees.spent f).1 (inl s)))

-- ---- after a try of a fact

module _ (t : Try) (s : Search) (causes : List (List ℕ)) (place fact : ℕ) (is : t.aim ≡ aim.WithoutFact fact) (below : place < length causes)
    (member : Contains (slice_index_or causes place []) fact) (old : Evidence) (all : length old.cut.items ≡ length causes) (was now : Option (List Line)) where
  pub fact_seen : (mid new : Evidence) (h : How) → Tries t s causes old mid was now h → SeesIar causes fact h mid new
      → PlacesStayOver causes old new × FactIsSeen causes place fact old new h
  fact_seen mid new how.Refuted x sees = (
    places_after_refuted causes fact old new seen,
    ((seen.refuted fact).1 (inr refl), ap (λ (e : Evidence). e.cut) seen.rest, (λ f m. (seen.refuted f).1 (inl m))),
  )
    where
      seen : SeesRefuted causes fact old new
      seen = subst (λ (e : Evidence). SeesRefuted causes fact e new) x.ends.2 sees
  fact_seen mid new how.Spent x sees = (places_after_spent causes fact old new seen, (seen.spent fact).1 (inr refl))
    where
      seen : SeesSpent fact old new
      seen = subst (λ (e : Evidence). SeesSpent fact e new) x.ends.2 sees
  fact_seen mid new how.Model x sees =
      let (kept, dropped, core, last, seen) = x.ends in (
        subst (PlacesStayOver causes old) (sym sees) (places_after_core causes kept dropped old mid all seen),
        ap (λ (e : Evidence). slice_index_or e.cut.items place false) sees
            ∙ (seen.cut.exact place below).1 (inr (fact, member, subst (λ a. aims.Shows a kept dropped) is core.shows)),
      )

-- a fact whose try ended before
pub fact_known : (causes : List (List ℕ)) (place fact : ℕ) (e : Evidence) (h : How) → SaysHow e fact (Some h) → FactIsSeen causes place fact e e h
fact_known causes place fact e how.Refuted m = (m, refl, (λ f n. n))
fact_known causes place fact e how.Spent m = m
fact_known causes place fact e how.Model m = absurd m

-- a fact that isn't refuted ends its cause
pub place_over : (causes : List (List ℕ)) (place fact : ℕ) (old new : Evidence) (h : How) → Contains (slice_index_or causes place []) fact
    → FactIsSeen causes place fact old new h → (h ≡ how.Refuted → ⊥) → PlaceIsOver causes new place
place_over causes place fact old new how.Refuted member seen other = absurd (other refl)
place_over causes place fact old new how.Spent member seen other = inr (inr (fact, member, seen))
place_over causes place fact old new how.Model member seen other = inr (inl seen)

-- where each place is over IAR is
pub places_over : (causes : List (List ℕ)) (e : Evidence) → ((place : ℕ) → place < length causes → PlaceIsOver causes e place) → IarIsOver causes e
places_over causes e each = go (is_undecided (verdict_in e question.Iar)) refl
  where
    go : (b : Bool) → is_undecided (verdict_in e question.Iar) ≡ b → IarIsOver causes e
    go false settled = inl settled
    go true unsettled = inr (λ i l. elim (each i l) [ inl settled ↦ absurd (true≢false (sym unsettled ∙ settled)) | inr rest ↦ rest ])
