-- Bindings that grow, and valuations that agree.
use Rattle.std.proofs.Common.{◌≡◌, ℕ, ◌<◌, Bool, true, false, cond, eqb, List, [], ◌∷◌, ◌++◌, length, get_or, All, Contains, ◌⊎◌, inl, inr, refl, sym, ap}
use Rattle.std.proofs.Common.{◌∙◌, subst, arith, IsTrue, Result, Ok, Err, IfOk, OnOk}
use Rattle.std.proofs.lemmas.Bool.Decides.{nat_tests, Decides-eqb}
use Rattle.std.proofs.lemmas.List.Elements.{All-push, All-contains, Contains-get_or, Contains-append_left, Contains-push}
use Rattle.std.proofs.lemmas.List.{append-nil, append_assoc}
use Rattle.cq_terms.specs.declared.query.Term.TheVariants as term
use Rattle.query_matching.specs.declared.bindings.Binding.{Binding}
use Rattle.query_matching.specs.Bindings.{Agrees, AreConsistent, IsBound, IsVar, TermIs, Binds}

-- a bound variable has the individual of its binding
pub value_of : (bindings : List Binding) (b : Binding) (v : ℕ → ℕ) → Contains bindings b → Agrees bindings v → b.individual ≡ v b.variable
value_of bindings b v there agrees = sym (All-contains (λ (x : Binding). v x.variable ≡ x.individual) bindings b agrees there)

pub bound_by : (bindings : List Binding) (b : Binding) (l : ℕ) → Contains bindings b → b.variable ≡ l → IsBound bindings l
bound_by bindings b l (k, within, at) e = (k, b, within, at, e)

-- more bindings bind what was bound
pub bound_more : (bindings more : List Binding) (l : ℕ) → IsBound bindings l → IsBound (bindings ++ more) l
bound_more bindings more l (k, b, within, at, e) =
    let h = Contains-append_left bindings more b (k, within, at) in
    (h.0, b, h.1, h.2, e)

-- nothing is bound where it isn't among the bindings
pub not_bound : (bindings : List Binding) (l : ℕ) → All (λ b. b.variable ≡ l → ⊥) bindings → IsBound bindings l → ⊥
not_bound bindings l none (k, b, within, at, e) = All-contains (λ (x : Binding). x.variable ≡ l → ⊥) bindings b none (k, within, at) e

-- nothing changes
pub binds_none : (P : (ℕ → ℕ) → Type 0) (stands : ℕ → Type 0) (bindings : List Binding) → AreConsistent bindings → ((v : ℕ → ℕ) → Agrees bindings v → P v)
    → ((l : ℕ) → stands l → IsBound bindings l) → Binds P stands bindings bindings true
binds_none P stands bindings consistent holds bound = record {
  grown = ([], sym (append-nil bindings));
  consistent = λ _. consistent;
  exact = λ _ v. ((λ agrees. (agrees, holds v agrees)), (λ h. h.0));
  bound = λ _. bound;
  never = λ h. cc h;
}

pub binds_never : (P : (ℕ → ℕ) → Type 0) (stands : ℕ → Type 0) (bindings : List Binding) → ((v : ℕ → ℕ) → Agrees bindings v → P v → ⊥)
    → Binds P stands bindings bindings false
binds_never P stands bindings never = record {
  grown = ([], sym (append-nil bindings));
  consistent = λ h. cc h;
  exact = λ h. cc h;
  bound = λ h. cc h;
  never = λ _. never;
}

-- the valuation with one value changed
changed : (ℕ → ℕ) → ℕ → ℕ → ℕ → ℕ
changed v l c m = cond (eqb m l) c (v m)

changed_here : (v : ℕ → ℕ) (l c : ℕ) → changed v l c l ≡ c
unfolding changed
changed_here v l c = let h : eqb l l ≡ true = (Decides-eqb l l).1 refl in rw h refl

changed_other : (v : ℕ → ℕ) (l c m : ℕ) → (m ≡ l → ⊥) → changed v l c m ≡ v m
unfolding changed
changed_other v l c m other = let h : eqb m l ≡ false = grind (arith, nat_tests) in rw h refl

changed_agrees : (bindings : List Binding) (v : ℕ → ℕ) (l c : ℕ) → (IsBound bindings l → ⊥) → Agrees bindings v → Agrees bindings (changed v l c)
changed_agrees bindings v l c free agrees k d within =
    let b = get_or bindings k d in
    let here = Contains-at bindings k d within in
    changed_other v l c b.variable (λ e. free (bound_by bindings b l here e)) ∙ agrees k d within
  where
    Contains-at : (xs : List Binding) (k : ℕ) (d : Binding) → k < length xs → Contains xs (get_or xs k d)
    Contains-at xs k d l = Contains-get_or xs k d l

same_var : (l m : ℕ) → term.Var l ≡ term.Var m → l ≡ m
same_var l m e = cc

-- a bound variable has to be its individual
pub binds_bound : (bindings : List Binding) (l c d : ℕ) (fits : Bool) → AreConsistent bindings → IsBound bindings l
    → ((v : ℕ → ℕ) → Agrees bindings v → d ≡ v l) → fits ≡ eqb d c → Binds (λ v. TermIs v (term.Var l) c) (IsVar (term.Var l)) bindings bindings fits
binds_bound bindings l c d true consistent bound value is =
    let same : d ≡ c = (Decides-eqb d c).0 (sym is) in
    binds_none (λ v. TermIs v (term.Var l) c) (IsVar (term.Var l)) bindings consistent (λ v agrees. sym same ∙ value v agrees)
    (λ m e. subst (IsBound bindings) (same_var l m e) bound)
binds_bound bindings l c d false consistent bound value is =
    binds_never (λ v. TermIs v (term.Var l) c) (IsVar (term.Var l)) bindings (λ v agrees e.
    let same : eqb d c ≡ true = (Decides-eqb d c).1 (value v agrees ∙ sym e) in
    let both : false ≡ true = is ∙ same in
    cc both)

-- a variable is bound for the first time
pub binds_variable : (bindings : List Binding) (l c : ℕ) → AreConsistent bindings → (IsBound bindings l → ⊥)
    → Binds (λ v. TermIs v (term.Var l) c) (IsVar (term.Var l)) bindings (bindings ++ (record { variable = l; individual = c }) ∷ []) true
binds_variable bindings l c consistent free =
    let b : Binding = record { variable = l; individual = c } in
    record {
      grown = (b ∷ [], refl);
      consistent = λ _. (
        changed consistent.0 l c,
        All-push (λ (x : Binding). changed consistent.0 l c x.variable ≡ x.individual) bindings b (changed_agrees bindings consistent.0 l c free consistent.1)
            (changed_here consistent.0 l c),
      );
      exact = λ _ v. (
        (λ agrees. (
          agrees_before bindings (b ∷ []) v agrees,
          value_of (bindings ++ b ∷ []) b v (Contains-push bindings b) agrees,
        )),
        (λ h. All-push (λ (x : Binding). v x.variable ≡ x.individual) bindings b h.0 (sym h.1)),
      );
      bound = λ _ m e. bound_by (bindings ++ b ∷ []) b m (Contains-push bindings b) (same_var l m e);
      never = λ h. cc h;
    }
  where
    agrees_before : (xs ys : List Binding) (v : ℕ → ℕ) → Agrees (xs ++ ys) v → Agrees xs v
    agrees_before xs ys v agrees k d within =
        let h = Contains-append_left xs ys (get_or xs k d) (Contains-get_or xs k d within) in
        All-contains (λ (x : Binding). v x.variable ≡ x.individual) (xs ++ ys) (get_or xs k d) agrees h

-- two terms one after the other
pub binds_both : (P Q R : (ℕ → ℕ) → Type 0) (first second stands : ℕ → Type 0) (old mid new : List Binding) (fits : Bool)
    → ((v : ℕ → ℕ) → R v → P v × Q v) → ((v : ℕ → ℕ) → P v → Q v → R v) → ((l : ℕ) → stands l → first l ⊎ second l)
    → Binds P first old mid true → Binds Q second mid new fits → Binds R stands old new fits
binds_both P Q R first second stands old mid new fits parts both either left right =
    let grown : new ≡ old ++ (left.grown.0 ++ right.grown.0) = right.grown.1 ∙ ap (λ xs. xs ++ right.grown.0) left.grown.1
    ∙ append_assoc old left.grown.0 right.grown.0 in
    record {
      grown = (left.grown.0 ++ right.grown.0, grown);
      consistent = right.consistent;
      exact = λ both_fit v. (
        (λ agrees.
            let q = (right.exact both_fit v).0 agrees in
            let p = (left.exact refl v).0 q.0 in
            (p.0, both v p.1 q.1)),
        (λ h.
            let pq = parts v h.1 in
            (right.exact both_fit v).1 ((left.exact refl v).1 (h.0, pq.0), pq.1)),
      );
      bound = λ both_fit l here. bound_either both_fit l (either l here);
      never = λ not_fit v agrees r.
          let pq = parts v r in
          right.never not_fit v ((left.exact refl v).1 (agrees, pq.0)) pq.1;
    }
  where
    bound_either : IsTrue fits → (l : ℕ) → first l ⊎ second l → IsBound new l
    bound_either both_fit l (inl here) = subst (λ (xs : List Binding). IsBound xs l) (sym right.grown.1)
        (bound_more mid right.grown.0 l (left.bound refl l here))
    bound_either both_fit l (inr here) = right.bound both_fit l here

-- the first of two doesn't fit
pub binds_not_first : (P R : (ℕ → ℕ) → Type 0) (first stands : ℕ → Type 0) (old mid : List Binding) → ((v : ℕ → ℕ) → R v → P v) → Binds P first old mid false
    → Binds R stands old mid false
binds_not_first P R first stands old mid part left = record {
  grown = left.grown;
  consistent = λ h. cc h;
  exact = λ h. cc h;
  bound = λ h. cc h;
  never = λ _ v agrees r. left.never refl v agrees (part v r);
}

-- what holds of the value in an `Ok`
pub ok_then : {T E : Type 0} (r : Result T E) (P Q : T → Type 0) → ((x : T) → P x → Q x) → IfOk r P → IfOk r Q
ok_then (Ok x) P Q h p = h x p
ok_then (Err e) P Q h p = p

pub ok_with : {T E : Type 0} (r : Result T E) (P Q : T → Type 0) (O : Type 0) → ((x : T) → P x → O → Q x) → IfOk r P → OnOk r O → IfOk r Q
ok_with (Ok x) P Q O h p o = h x p o
ok_with (Err e) P Q O h p o = p
