-- No table has two first faults, nor one where all records are right.
use Rattle.std.proofs.Common.{◌≡◌, ◌⊎◌, inl, inr, ℕ, zero, suc, ◌+◌, ◌≤◌, ◌<◌, List, [], ◌∷◌, ◌++◌, length, slice_get, Some, refl, sym, ap, ◌∙◌, arith, subst}
use Rattle.std.proofs.lemmas.Bool.{cases_lt}
use Rattle.std.proofs.lemmas.List.{append-nil, length-append}
use Rattle.std.specs.List.{AllByRecursion}
use Rattle.fact_tables.specs.Tables.{Fields, HasOneReading, IsFirstFault}

-- the record after others stands at the place that is their number
at_end : (before : List Fields) (fields : Fields) (after : List Fields) → slice_get (before ++ fields ∷ after) (length before) ≡ Some fields
at_end [] fields after = refl
at_end (r ∷ before) fields after = at_end before fields after

-- what holds of each of the records at the front holds of that at a place among them
among : (P : Fields → Type 0) (before after : List Fields) (i : ℕ) (fields : Fields) → AllByRecursion P before → i < length before
    → slice_get (before ++ after) i ≡ Some fields → P fields
among P [] after i fields all within at = absurd (omega (arith, within))
among P (r ∷ before) after zero fields all within at = let e : r ≡ fields = cc at in subst P e all.0
among P (r ∷ before) after (suc i) fields all within at = among P before after i fields all.1 (omega (arith, within)) at

module _ (Fault : Type 0) (IsRight : Fields → Type 0) (most : ℕ) (HasFault : Fault → ℕ → Fields → Type 0)
    (wrong : (fault : Fault) (number : ℕ) (fields : Fields) → HasFault fault number fields → IsRight fields → number ≡ most + 1)
    (same : (fault other : Fault) (number : ℕ) (fields : Fields) → HasFault fault number fields → HasFault other number fields → fault ≡ other) where
  -- no first fault comes before another
  not_before : (rows : List Fields) (fault other : Fault) (number place : ℕ) (x : IsFirstFault IsRight most (HasFault fault) rows number)
      (y : IsFirstFault IsRight most (HasFault other) rows place) → length x.before < length y.before → ⊥
  not_before rows fault other number place x y less =
      let at = subst (λ l. slice_get l (length x.before) ≡ Some x.fields) (sym x.cut ∙ y.cut) (at_end x.before x.fields x.after) in
      let right = among IsRight y.before (y.fields ∷ y.after) (length x.before) x.fields y.right less at in
      let last = wrong fault number x.fields x.has_fault right in
      omega (arith, last, x.place, less, y.few)

  not_both : (rows : List Fields) (fault : Fault) (number : ℕ) → AllByRecursion IsRight rows → length rows ≤ most
      → ¬ (IsFirstFault IsRight most (HasFault fault) rows number)
  not_both rows fault number all few x =
      let size = ap length x.cut ∙ length-append x.before (x.fields ∷ x.after) in
      let at : slice_get (rows ++ []) (length x.before) ≡ Some x.fields =
      subst (λ l. slice_get l (length x.before) ≡ Some x.fields) (sym x.cut ∙ sym (append-nil rows)) (at_end x.before x.fields x.after) in
      let right = among IsRight rows [] (length x.before) x.fields all (omega (arith, size)) at in
      let last = wrong fault number x.fields x.has_fault right in
      omega (arith, last, x.place, size, few)

  one_fault : (rows : List Fields) (fault other : Fault) (number place : ℕ) → IsFirstFault IsRight most (HasFault fault) rows number
      → IsFirstFault IsRight most (HasFault other) rows place → (fault ≡ other) × (number ≡ place)
  one_fault rows fault other number place x y = by (cases_lt (length x.before) (length y.before)) (cases_lt (length y.before) (length x.before))
    where
      here : length x.before ≡ length y.before → (fault ≡ other) × (number ≡ place)
      here e =
          let numbers : number ≡ place = omega (arith, x.place, y.place, e) in
          let at_y : slice_get rows (length x.before) ≡ Some y.fields =
          subst (λ l. slice_get rows l ≡ Some y.fields) (sym e) (subst (λ l. slice_get l (length y.before) ≡ Some y.fields) (sym y.cut)
          (at_end y.before y.fields y.after)) in
          let at_x : slice_get rows (length x.before) ≡ Some x.fields =
          subst (λ l. slice_get l (length x.before) ≡ Some x.fields) (sym x.cut) (at_end x.before x.fields x.after) in
          let fields : y.fields ≡ x.fields = cc (sym at_y ∙ at_x) in (
            same fault other number x.fields x.has_fault (subst (λ f. HasFault other number f) fields
                (subst (λ n. HasFault other n y.fields) (sym numbers) y.has_fault)),
            numbers,
          )

      by : (length x.before < length y.before) ⊎ (length y.before ≤ length x.before) → (length y.before < length x.before)
          ⊎ (length x.before ≤ length y.before) → (fault ≡ other) × (number ≡ place)
      by (inl less) more = absurd (not_before rows fault other number place x y less)
      by (inr a) (inl less) = absurd (not_before rows other fault place number y x less)
      by (inr a) (inr b) = here (omega (arith, a, b))

  pub one_reading : HasOneReading Fault IsRight most HasFault
  one_reading = record { not_both = not_both; one_fault = one_fault }
