-- One move after the other while a closure is searched.
use Rattle.std.proofs.Common.{◌≡◌, ◌≢◌, ℕ, ◌+◌, ◌^◌, ◌<◌, ◌≤◌, ◌⊎◌, inl, inr, Option, Some, List, [], ◌∷◌, ◌++◌, length, get_or, refl, ap, sym, ◌∙◌, subst}
use Rattle.std.proofs.Common.{arith, Contains, All}
use Rattle.std.specs.List.{slice_get, Any}
use Rattle.std.proofs.lemmas.Bool.{cases_lt}
use Rattle.std.proofs.lemmas.List.{length_push}
use Rattle.std.proofs.lemmas.List.Elements.{All-push}
use Rattle.std.proofs.lemmas.Option.{slice_get_within, slice_get-get_or, get_or_from_slice_get}
use Rattle.cq_terms.specs.declared.axioms.Axiom.{Axiom}
use Rattle.cq_terms.specs.Query.{Query}
use Rattle.cq_steps.specs.declared.moves.Move.{Move}
use Rattle.cq_steps.specs.declared.moves.Move.TheVariants as move
use Rattle.cq_steps.specs.declared.closure.Member.{Member}
use Rattle.cq_steps.specs.Moves.{IsMove, IsBefore, AreSuccessors}
use Rattle.cq_steps.specs.Closing.{IsQueryOf}
use Rattle.cq_steps.proofs.Anywhere.{Any-head, Any-later, Any-cases, Any-nil}
use Rattle.cq_steps.proofs.Derivations.{slice_get-push, slice_get-stays, IsDerivation-push}
use Rattle.perfect_ref.specs.BreadthFirst.{IsEarlier}
use Rattle.perfect_ref.specs.Search.{AreFound, AreBehind, AreTried}
use Rattle.perfect_ref.proofs.Shorter.{move_shorter}

-- ---- lists

Any-append : {X : Type 0} (P : X → Type 0) (xs : List X) (y : X) → Any P xs → Any P (xs ++ y ∷ [])
Any-append P [] y some = absurd (Any-nil P some)
Any-append P (x ∷ xs) y some =
    elim (Any-cases P x xs some) [ inl p ↦ Any-head P x (xs ++ y ∷ []) p | inr later ↦ Any-later P x (xs ++ y ∷ []) (Any-append P xs y later) ]

Any-last : {X : Type 0} (P : X → Type 0) (xs : List X) (y : X) → P y → Any P (xs ++ y ∷ [])
Any-last P [] y p = Any-head P y [] p
Any-last P (x ∷ xs) y p = Any-later P x (xs ++ y ∷ []) (Any-last P xs y p)

some_same : {X : Type 0} (o : Option X) (x y : X) → o ≡ Some x → o ≡ Some y → x ≡ y
some_same o x y e f = cc

-- inside a list the default plays no part
any_default : {X : Type 0} (xs : List X) (k : ℕ) (d e : X) → k < length xs → get_or xs k d ≡ get_or xs k e
any_default xs k d e h = some_same (slice_get xs k) (get_or xs k d) (get_or xs k e) (slice_get-get_or xs k d h) (slice_get-get_or xs k e h)

pub Contains-at : {X : Type 0} (xs : List X) (k : ℕ) (x : X) → slice_get xs k ≡ Some x → Contains xs x
Contains-at xs k x at = (k, slice_get_within xs k x at, get_or_from_slice_get xs k x x at)

-- ---- the order of moves

not_before_itself : (s : Move) → IsBefore s s → ⊥
not_before_itself (move.Axiom i n) (inl h) = omega arith
not_before_itself (move.Axiom i n) (inr h) = omega (arith, h.1)
not_before_itself (move.Reduce i n) (inl h) = omega arith
not_before_itself (move.Reduce i n) (inr h) = omega (arith, h.1)

not_both : (s t : Move) → IsBefore s t → IsBefore t s → ⊥
not_both (move.Axiom i n) (move.Axiom j m) (inl h) (inl g) = omega arith
not_both (move.Axiom i n) (move.Axiom j m) (inl h) (inr g) = omega (arith, g.0)
not_both (move.Axiom i n) (move.Axiom j m) (inr h) (inl g) = omega (arith, h.0)
not_both (move.Axiom i n) (move.Axiom j m) (inr h) (inr g) = omega (arith, h.1, g.1)
not_both (move.Axiom i n) (move.Reduce j m) h g = g
not_both (move.Reduce i n) (move.Axiom j m) h g = h
not_both (move.Reduce i n) (move.Reduce j m) (inl h) (inl g) = omega arith
not_both (move.Reduce i n) (move.Reduce j m) (inl h) (inr g) = omega (arith, g.0)
not_both (move.Reduce i n) (move.Reduce j m) (inr h) (inl g) = omega (arith, h.0)
not_both (move.Reduce i n) (move.Reduce j m) (inr h) (inr g) = omega (arith, h.1, g.1)

-- ---- the moves on one member

-- at the beginning none was tried
pub none_tried : (from : ℕ) (moves : List (Move × Query)) (members : List Member) → AreBehind from members → AreTried from moves 0 members
none_tried from moves members behind = record {
  known = λ j d h lt. absurd (omega arith);
  source = λ i m a at e. let less = behind i m a at e in omega arith;
  behind = λ i j m a d at e h lt. inl (behind i m a at e);
}

-- a move whose result is a member was tried
pub known_tried : (from : ℕ) (moves : List (Move × Query)) (n : ℕ) (members : List Member) (x : Move × Query) → n < length moves → x ≡ get_or moves n x
    → IsQueryOf members x.1 → AreTried from moves n members → AreTried from moves (n + 1) members
known_tried from moves n members x inside is some so = record {
  known = λ j d h lt. by_place j d h lt (cases_lt j n);
  source = so.source;
  behind = λ i j m a d at e h lt. so.behind i j m a d at e (omega arith) lt;
}
  where
    here : (j : ℕ) (d : Move × Query) → j ≡ n → IsQueryOf members ((get_or moves j d).1)
    here j d e = subst (λ (y : Move × Query). IsQueryOf members y.1) (is ∙ any_default moves n x d inside ∙ ap (λ (k : ℕ). get_or moves k d) (sym e)) some

    by_place : (j : ℕ) (d : Move × Query) → j < n + 1 → j < length moves → (j < n) ⊎ (n ≤ j) → IsQueryOf members ((get_or moves j d).1)
    by_place j d h lt (inl less) = so.known j d less lt
    by_place j d h lt (inr more) = here j d (omega arith)

-- the member that a move makes
abbrev pub made_by : ℕ → Move × Query → Member
made_by from x = record { query = x.1; step = Some (from, x.0) }

-- a move whose result is new was tried, and its result goes last
pub new_tried : (axioms : List Axiom) (from : ℕ) (q : Query) (moves : List (Move × Query)) (n : ℕ) (members : List Member) (x : Move × Query)
    → n < length moves → x ≡ get_or moves n x
    → AreSuccessors axioms q moves → AreTried from moves n members → AreTried from moves (n + 1) (members ++ made_by from x ∷ [])
new_tried axioms from q moves n members x inside is all so = record {
  known = λ j d h lt. by_place j d h lt (cases_lt j n);
  source = λ i m a at e. elim (slice_get-push members (made_by from x) i m at) [
    | inl old ↦ so.source i m a old e
    | inr new ↦ let same = own m a new.1 e in omega (arith, ap (λ (b : ℕ × Move). b.0) same)
  ];
  behind = λ i j m a d at e h lt. elim (slice_get-push members (made_by from x) i m at) [
    | inl old ↦ so.behind i j m a d old e (omega arith) lt
    | inr new ↦ subst (λ (b : ℕ × Move). IsEarlier b (from, (get_or moves j d).0)) (own m a new.1 e) (later j d (omega arith) lt)
  ];
}
  where
    own : (m : Member) (a : ℕ × Move) → made_by from x ≡ m → m.step ≡ Some a → (from, x.0) ≡ a
    own m a e f = let steps = ap (λ (y : Member). y.step) e ∙ f in cc

    later : (j : ℕ) (d : Move × Query) → n < j → j < length moves → IsEarlier (from, x.0) (from, (get_or moves j d).0)
    later j d h lt = inr (
      refl,
      subst (λ (s : Move). IsBefore s (get_or moves j d).0)
          (ap (λ (y : Move × Query). y.0) (sym (is ∙ any_default moves n x d inside))) (all.ascending n j d h lt),
    )

    here : (j : ℕ) (d : Move × Query) → j ≡ n → IsQueryOf (members ++ made_by from x ∷ []) ((get_or moves j d).1)
    here j d e = Any-last (λ m. m.query ≡ (get_or moves j d).1) members (made_by from x)
        (ap (λ (y : Move × Query). y.1) (is ∙ any_default moves n x d inside ∙ ap (λ (k : ℕ). get_or moves k d) (sym e)))

    by_place : (j : ℕ) (d : Move × Query) → j < n + 1 → j < length moves → (j < n) ⊎ (n ≤ j) → IsQueryOf (members ++ made_by from x ∷ []) ((get_or moves j d).1)
    by_place j d h lt (inl less) = Any-append (λ m. m.query ≡ (get_or moves j d).1) members (made_by from x) (so.known j d less lt)
    by_place j d h lt (inr more) = here j d (omega arith)

-- ---- the members

steps_same : (m n : Member) (a b : ℕ × Move) → m ≡ n → m.step ≡ Some a → n.step ≡ Some b → a ≡ b
steps_same m n a b e f g = let steps = ap (λ (y : Member). y.step) e in cc

-- a new result of a move on the member at place `from` goes last
pub new_found : (axioms : List Axiom) (limit from : ℕ) (p : Member) (moves : List (Move × Query)) (n : ℕ) (members : List Member) (x : Move × Query)
    → n < length moves → x ≡ get_or moves n x → slice_get members from ≡ Some p → AreSuccessors axioms p.query moves → AreTried from moves n members
    → All (λ m. m.query ≢ x.1) members → length members < limit → limit < 2 ^ 32 → AreFound axioms limit from members
    → AreFound axioms limit from (members ++ made_by from x ∷ [])
new_found axioms limit from p moves n members x inside is at all tried new room fits so = record {
  derivation = IsDerivation-push members (made_by from x) so.derivation new (from, x.0, refl, from_inside) (omega arith);
  steps = λ i k m s at_i e. elim (slice_get-push members (made_by from x) i m at_i) [
    | inl old ↦ let source = so.steps i k m s old e in (source.0, slice_get-stays members (made_by from x) k source.0 source.1, source.2)
    | inr last ↦ by_new i k m s last.1 e
  ];
  closed = λ k m s r less at_k move. elim (slice_get-push members (made_by from x) k m at_k) [
    | inl old ↦ Any-append (λ w. w.query ≡ r) members (made_by from x) (so.closed k m s r less old move)
    | inr last ↦ absurd (omega (arith, last.0, from_inside))
  ];
  order = record { ascending = ascending; earliest = earliest };
  short = All-push (λ m. length m.query.body < 2 ^ 31) members (made_by from x) so.short (omega (arith, move_shorter axioms p.query x.1 x.0 moved, p_short));
  few = let more = length_push members (made_by from x) in omega arith;
}
  where
    from_inside : from < length members
    from_inside = slice_get_within members from p at

    p_short : length p.query.body < 2 ^ 31
    p_short = subst (λ (m : Member). length m.query.body < 2 ^ 31) (get_or_from_slice_get members from p p at)
        (so.short from p (slice_get_within members from p at))

    moved : IsMove axioms p.query x.0 x.1
    moved = subst (λ (y : Move × Query). IsMove axioms p.query y.0 y.1) (sym is) (all.sound n x inside)

    by_new : (i k : ℕ) (m : Member) (s : Move) → made_by from x ≡ m → m.step ≡ Some (k, s) → (w : Member)
        × (slice_get (members ++ made_by from x ∷ []) k ≡ Some w) × IsMove axioms w.query s m.query
    by_new i k m s e f =
        let steps = steps_same (made_by from x) m (from, x.0) (k, s) e refl f in
        let place : from ≡ k = ap (λ (b : ℕ × Move). b.0) steps in
        let step : x.0 ≡ s = ap (λ (b : ℕ × Move). b.1) steps in
        let query : x.1 ≡ m.query = ap (λ (w : Member). w.query) e in (
          p,
          subst (λ (l : ℕ). slice_get (members ++ made_by from x ∷ []) l ≡ Some p) place (slice_get-stays members (made_by from x) from p at),
          subst (λ (r : Query). IsMove axioms p.query s r) query (subst (λ (t : Move). IsMove axioms p.query t x.1) step moved),
        )

    ascending : (i j : ℕ) (m w : Member) (a b : ℕ × Move) → i < j → slice_get (members ++ made_by from x ∷ []) i ≡ Some m
        → slice_get (members ++ made_by from x ∷ []) j ≡ Some w
        → m.step ≡ Some a → w.step ≡ Some b → IsEarlier a b
    ascending i j m w a b less at_i at_j e f =
        elim (slice_get-push members (made_by from x) i m at_i) [
          | inl old ↦ elim (slice_get-push members (made_by from x) j w at_j) [
            | inl old_j ↦ so.order.ascending i j m w a b less old old_j e f
            | inr last ↦ subst (λ (s : ℕ × Move). IsEarlier a s) (steps_same (made_by from x) w (from, x.0) b last.1 refl f)
                (subst (λ (y : Move × Query). IsEarlier a (from, y.0)) (sym is) (tried.behind i n m a x old e (omega arith) inside))
          ]
          | inr last ↦ absurd (omega (arith, last.0, slice_get_within (members ++ made_by from x ∷ []) j w at_j, length_push members (made_by from x)))
        ]

    is_new : (l : ℕ) (w : Member) → slice_get members l ≡ Some w → w.query ≢ x.1
    is_new l w at_l e = new l w (slice_get_within members l w at_l) (ap (λ (y : Member). y.query) (get_or_from_slice_get members l w w at_l) ∙ e)

    not_a_member : IsQueryOf members x.1 → ⊥
    not_a_member (l, w, lt, at_l, e) = new l w lt (ap (λ (y : Member). y.query) at_l ∙ e)

    no_earlier_move : (t : Move) (j : ℕ) → j < length moves → get_or moves j (t, x.1) ≡ (t, x.1) → IsBefore t x.0 → (j < n) ⊎ (n ≤ j) → (n < j) ⊎ (j ≤ n) → ⊥
    no_earlier_move t j lt e before (inl less) other =
        not_a_member (subst (λ (y : Move × Query). IsQueryOf members y.1) e (tried.known j (t, x.1) less lt))
    no_earlier_move t j lt e before (inr more) (inl after) =
        let first : IsBefore x.0 t = subst (λ (y : Move × Query). IsBefore x.0 y.0) e
        (subst (λ (y : Move × Query). IsBefore y.0 (get_or moves j (t, x.1)).0) (sym (is ∙ any_default moves n x (t, x.1) inside))
        (all.ascending n j (t, x.1) after lt)) in
        not_both x.0 t first before
    no_earlier_move t j lt e before (inr more) (inr back) =
        let place : j ≡ n = omega arith in
        let same : x ≡ (t, x.1) = is ∙ any_default moves n x (t, x.1) inside ∙ ap (λ (k : ℕ). get_or moves k (t, x.1)) (sym place) ∙ e in
        not_before_itself x.0 (subst (λ (s : Move). IsBefore s x.0) (ap (λ (y : Move × Query). y.0) (sym same)) before)

    at_from : (t : Move) → IsBefore t x.0 → IsMove axioms p.query t x.1 → ⊥
    at_from t before move = by_place (all.complete t x.1 move)
      where
        by_place : Contains moves (t, x.1) → ⊥
        by_place (j, lt, e) = no_earlier_move t j lt e before (cases_lt j n) (cases_lt n j)

    none_earlier : (l : ℕ) (w : Member) (t : Move) → IsEarlier (l, t) (from, x.0) → slice_get members l ≡ Some w → IsMove axioms w.query t x.1 → ⊥
    none_earlier l w t (inl less) at_l move = not_a_member (so.closed l w t x.1 less at_l move)
    none_earlier l w t (inr same) at_l move =
        let is_p : w ≡ p = some_same (slice_get members l) w p at_l (ap (slice_get members) same.0 ∙ at) in
        at_from t same.1 (subst (λ (y : Member). IsMove axioms y.query t x.1) is_p move)

    source_place : (l : ℕ) (t : Move) (a : ℕ × Move) → IsEarlier (l, t) a → l ≤ a.0
    source_place l t a (inl less) = omega arith
    source_place l t a (inr same) = omega (arith, same.0)

    in_members : (l : ℕ) (w : Member) → l ≤ from → slice_get (members ++ made_by from x ∷ []) l ≡ Some w → slice_get members l ≡ Some w
    in_members l w le at_l = elim (slice_get-push members (made_by from x) l w at_l)
        [ inl old ↦ old | inr last ↦ absurd (omega (arith, last.0, slice_get_within members from p at)) ]

    earliest : (i l : ℕ) (m w : Member) (a : ℕ × Move) (t : Move) → slice_get (members ++ made_by from x ∷ []) i ≡ Some m → m.step ≡ Some a → IsEarlier (l, t) a
        → slice_get (members ++ made_by from x ∷ []) l ≡ Some w → ¬ IsMove axioms w.query t m.query
    earliest i l m w a t at_i e before at_l =
        elim (slice_get-push members (made_by from x) i m at_i) [
          | inl old ↦ so.order.earliest i l m w a t old e before (in_members l w (omega (arith, source_place l t a before, tried.source i m a old e)) at_l)
          | inr last ↦
              let own = steps_same (made_by from x) m (from, x.0) a last.1 refl e in
              let before_new = subst (λ (b : ℕ × Move). IsEarlier (l, t) b) (sym own) before in
              let place = source_place l t (from, x.0) before_new in
              λ move. none_earlier l w t before_new (in_members l w place at_l) (subst (λ (y : Member). IsMove axioms w.query t y.query) (sym last.1) move)
        ]
