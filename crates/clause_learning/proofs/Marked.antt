-- Marks by literal: what marks, touched literals and the count show together.
use Rattle.std.proofs.Common.{◌≡◌, ◌≢◌, ℕ, ◌<◌, ◌≤◌, ◌+◌, ◌*◌, inl, inr, List, [], ◌∷◌, ◌++◌, length, take, get_or, set, Contains, All, Bool, true, false}
use Rattle.std.proofs.Common.{eqb, not, refl, sym, subst, ap, ◌∙◌, arith}
use Rattle.std.specs.List.{filter}
use Rattle.std.proofs.lemmas.Bool.{cases_eq, cases_lt, eq-eqb, eqb-true}
use Rattle.std.proofs.lemmas.List.{get_or_default, length-set, length_push, take_more}
use Rattle.std.proofs.lemmas.List.Elements.{All-push, Contains-append_left, Contains-push, Contains-push_cases, Contains-get_or}
use Rattle.std.proofs.lemmas.List.Quantifiers.{all_pairs_push}
use Rattle.std.proofs.lemmas.List.Filters.{length-filter_both}
use Rattle.std.proofs.lemmas.List.Kept.{AllPairs-filter}
use Rattle.clause_meaning.specs.Literals.{opposite_of}
use Rattle.clause_meaning.specs.Marks.{HasMark}
use Rattle.clause_meaning.proofs.MarkLemmas.{HasMark-below, HasMark-set_cases, HasMark-set_at, HasMark-set_stays, HasMark-gone_cases, HasMark-gone_stays}
use Rattle.clause_meaning.proofs.Members.{Contains-nil, Contains-cons_cases}
use Rattle.cdcl_trail.specs.Choices.{DifferInPairs}
use Rattle.cdcl_trail.specs.State.{State}
use Rattle.clause_learning.specs.declared.resolving.Resolvent.{Resolvent}
use Rattle.clause_learning.specs.Levels.{IsOnLevel}
use Rattle.clause_learning.specs.Resolving.{IsOpen, Joins, TakesOut, HasOther}
use Rattle.clause_learning.specs.Marking.{IsCovered, AreNewest, Shows, CountsAs, JoinsIn, Lists}
use Rattle.clause_learning.proofs.Sieve.{Contains-filter, filter_contains, TakesOut-filter}
use Rattle.clause_learning.proofs.Additions.{Joins-none, Joins-pushed, Joins-append}

-- one mark more, of a literal that was put in
pub IsCovered-put : (variables : ℕ) (old new : Resolvent) (l : ℕ) → IsCovered variables old → l < 2 * variables → new.marks.items ≡ set old.marks.items l true
    → new.touched.items ≡ old.touched.items ++ l ∷ [] → new.newest ≤ old.newest + 1 → IsCovered variables new
IsCovered-put variables old new l covered below marks touched few = record {
  room = ap length marks ∙ (length-set old.marks.items l true ∙ covered.room);
  marked = λ k m. subst (λ (xs : List ℕ). Contains xs k) (sym touched)
      (elim (HasMark-set_cases old.marks.items l k (subst (λ (xs : List Bool). HasMark xs k) marks m)) [
        | inl e ↦ subst (Contains (old.touched.items ++ l ∷ [])) e (Contains-push old.touched.items l)
        | inr was ↦ Contains-append_left old.touched.items (l ∷ []) k (covered.marked k was)
      ]);
  in_range = subst (All (λ (k : ℕ). k < 2 * variables)) (sym touched) (All-push (λ (k : ℕ). k < 2 * variables) old.touched.items l covered.in_range below);
  few = (let more : length new.touched.items ≡ length old.touched.items + 1 = ap length touched ∙ length_push old.touched.items l in
      omega (arith, more, few, covered.few));
}

-- marks that are taken away
pub IsCovered-less : (variables : ℕ) (old new : Resolvent) → IsCovered variables old → length new.marks.items ≡ length old.marks.items
    → ((k : ℕ) → HasMark new.marks.items k → HasMark old.marks.items k) → new.touched.items ≡ old.touched.items → new.newest ≤ old.newest
    → IsCovered variables new
IsCovered-less variables old new covered long stays touched few = record {
  room = long ∙ covered.room;
  marked = λ k m. subst (λ (xs : List ℕ). Contains xs k) (sym touched) (covered.marked k (stays k m));
  in_range = subst (All (λ (k : ℕ). k < 2 * variables)) (sym touched) covered.in_range;
  few = (let same = ap length touched in omega (arith, same, few, covered.few));
}

-- a literal of the current level more
AreNewest-push : (trail : State) (literals newest : List ℕ) (l : ℕ) → AreNewest trail literals newest → (Contains literals l → ⊥)
    → IsOnLevel trail.entries trail.level (opposite_of l) → AreNewest trail (literals ++ l ∷ []) (newest ++ l ∷ [])
AreNewest-push trail literals newest l are new on = record {
  from = λ k m. elim (Contains-push_cases newest l k m) [
    | inl was ↦ (Contains-append_left literals (l ∷ []) k (are.from k was).0, (are.from k was).1)
    | inr e ↦ (subst (Contains (literals ++ l ∷ [])) e (Contains-push literals l), subst (λ (y : ℕ). IsOnLevel trail.entries trail.level (opposite_of y)) e on)
  ];
  all = λ k m at. elim (Contains-push_cases literals l k m) [
    | inl was ↦ Contains-append_left newest (l ∷ []) k (are.all k was at)
    | inr e ↦ subst (Contains (newest ++ l ∷ [])) e (Contains-push newest l)
  ];
  once = all_pairs_push (λ (x y : ℕ). x ≡ y → ⊥) newest l are.once (λ k d p e. new (are.from l (subst (Contains newest) e (Contains-get_or newest k d p))).0);
}

-- one of an earlier level
AreNewest-same : (trail : State) (literals newest : List ℕ) (l : ℕ) → AreNewest trail literals newest
    → (IsOnLevel trail.entries trail.level (opposite_of l) → ⊥) → AreNewest trail (literals ++ l ∷ []) newest
AreNewest-same trail literals newest l are off = record {
  from = λ k m. (Contains-append_left literals (l ∷ []) k (are.from k m).0, (are.from k m).1);
  all = λ k m at. elim (Contains-push_cases literals l k m) [
    | inl was ↦ are.all k was at
    | inr e ↦ absurd (off (subst (λ (y : ℕ). IsOnLevel trail.entries trail.level (opposite_of y)) (sym e) at))
  ];
  once = are.once;
}

AreNewest-out : (trail : State) (literals newest middle rest : List ℕ) (q : ℕ) → AreNewest trail literals newest → TakesOut literals middle q
    → TakesOut newest rest q
    → AreNewest trail middle rest
AreNewest-out trail literals newest middle rest q are literal counted = record {
  from = λ k m. (let was = counted.from k m in let h = are.from k was.0 in (literal.keeps k h.0 was.1, h.1));
  all = λ k m at. (let was = literal.from k m in counted.keeps k (are.all k was.0 at) was.1);
  once = counted.once are.once;
}

-- in a list without repeats a literal stands once
stands_once : (xs : List ℕ) (q : ℕ) → DifferInPairs xs → Contains xs q → length (filter (λ x. eqb x q) xs) ≡ 1
stands_once xs q once m =
    let (i, p, is) = Contains-filter (λ x. eqb x q) xs q m (eq-eqb q q refl) in
    elim (cases_lt (length (filter (λ x. eqb x q) xs)) 2) [
      | inl h ↦ omega (arith, p, h)
      | inr h ↦ absurd (AllPairs-filter (λ (x y : ℕ). x ≡ y → ⊥) (λ x. eqb x q) xs once 0 1 0 (omega arith) (omega (arith, h))
          (at 0 (omega (arith, h)) ∙ sym (at 1 (omega (arith, h)))))
    ]
  where
    at : (i : ℕ) → i < length (filter (λ x. eqb x q) xs) → get_or (filter (λ x. eqb x q) xs) i 0 ≡ q
    at i p = eqb-true _ q (filter_contains (λ x. eqb x q) xs _ (Contains-get_or (filter (λ x. eqb x q) xs) i 0 p)).1

one_less : (xs : List ℕ) (q : ℕ) → DifferInPairs xs → Contains xs q → length (filter (λ x. not (eqb x q)) xs) + 1 ≡ length xs
one_less xs q once m =
    let one = stands_once xs q once m in
    let both = length-filter_both (λ (x : ℕ). eqb x q) (λ (x : ℕ). not (eqb x q)) (λ x. refl) xs in
    omega (arith, one, both)

-- a literal is put in
pub Shows-put : (trail : State) (old new : Resolvent) (literals : List ℕ) (l count : ℕ) → Shows trail old literals → l < length old.marks.items
    → (HasMark old.marks.items l → ⊥)
    → new.marks.items ≡ set old.marks.items l true
    → CountsAs trail l count → new.newest ≡ old.newest + count
    → Shows trail new (literals ++ l ∷ [])
Shows-put trail old new literals l count shows below fresh marks counts more = record {
  marked = λ k m. elim (HasMark-set_cases old.marks.items l k (subst (λ (xs : List Bool). HasMark xs k) marks m)) [
    | inl e ↦ subst (Contains (literals ++ l ∷ [])) e (Contains-push literals l)
    | inr was ↦ Contains-append_left literals (l ∷ []) k (shows.marked k was)
  ];
  has = λ k m. subst (λ (xs : List Bool). HasMark xs k) (sym marks) (elim (Contains-push_cases literals l k m) [
    | inl was ↦ HasMark-set_stays old.marks.items l k below (shows.has k was)
    | inr e ↦ HasMark-set_at old.marks.items l k below e
  ]);
  counted = elim counts [
    | inl (on, one) ↦ (
      shows.counted.0 ++ l ∷ [],
      AreNewest-push trail literals shows.counted.0 l shows.counted.1 (λ m. fresh (shows.has l m)) on,
      (let long = length_push shows.counted.0 l in omega (arith, long, one, more, shows.counted.2)),
    )
    | inr (off, none) ↦ (shows.counted.0, AreNewest-same trail literals shows.counted.0 l shows.counted.1 off, omega (arith, none, more, shows.counted.2))
  ];
}

-- a literal of the current level is taken out
pub Shows-out : (trail : State) (old new : Resolvent) (literals : List ℕ) (q : ℕ) → Shows trail old literals → Contains literals q
    → IsOnLevel trail.entries trail.level (opposite_of q)
    → new.marks.items ≡ set old.marks.items q false → new.newest + 1 ≡ old.newest → Shows trail new (filter (λ x. not (eqb x q)) literals)
Shows-out trail old new literals q shows member on marks less =
    let newest = shows.counted.0 in
    let out = TakesOut-filter literals (filter (λ x. not (eqb x q)) literals) q refl in
    record {
      marked = λ k m. (let was = HasMark-gone_cases old.marks.items q k (HasMark-below old.marks.items q (shows.has q member))
          (subst (λ (xs : List Bool). HasMark xs k) marks m) in out.keeps k (shows.marked k was.1) was.0);
      has = λ k m. (let was = out.from k m in subst (λ (xs : List Bool). HasMark xs k) (sym marks)
          (HasMark-gone_stays old.marks.items q k was.1 (shows.has k was.0)));
      counted = (
        filter (λ x. not (eqb x q)) newest,
        AreNewest-out trail literals newest (filter (λ x. not (eqb x q)) literals) (filter (λ x. not (eqb x q)) newest) q shows.counted.1 out
            (TakesOut-filter newest (filter (λ x. not (eqb x q)) newest) q refl),
        (let fewer = one_less newest q shows.counted.1.once (shows.counted.1.all q member on) in omega (arith, fewer, less, shows.counted.2)),
      );
    }

-- where one literal is counted, it has no other beside it
pub alone : (trail : State) (r : Resolvent) (literals : List ℕ) (q : ℕ) → Shows trail r literals → Contains literals q
    → IsOnLevel trail.entries trail.level (opposite_of q)
    → r.newest ≡ 1 → HasOther trail literals q → ⊥
alone trail r literals q shows member on one (k, m, n, at) =
    let newest = shows.counted.0 in
    let (i, p, is) = shows.counted.1.all q member on in
    let (j, h, was) = shows.counted.1.all k m at in
    let same : j ≡ i = omega (arith, p, h, one, shows.counted.2) in
    n (sym was ∙ (ap (λ (x : ℕ). get_or newest x k) same ∙ (get_or_default newest i k q p ∙ is)))

-- where it isn't one, there is another beside each
pub beside : (trail : State) (r : Resolvent) (literals : List ℕ) (q : ℕ) → Shows trail r literals → Contains literals q
    → IsOnLevel trail.entries trail.level (opposite_of q)
    → r.newest ≢ 1 → HasOther trail literals q
beside trail r literals q shows member on several =
    let (i, p, is) = shows.counted.1.all q member on in
    let two : 1 < length newest = omega (arith, p, several, shows.counted.2) in
    elim (cases_eq (get_or newest 0 0) q) [
      | inl e ↦ other 1 two (λ f. shows.counted.1.once 0 1 0 (omega arith) two (e ∙ sym f))
      | inr n ↦ other 0 (omega (arith, two)) n
    ]
  where
    newest : List ℕ
    newest = shows.counted.0

    other : (i : ℕ) → i < length newest → get_or newest i 0 ≢ q → HasOther trail literals q
    other i p n = (let h = shows.counted.1.from (get_or newest i 0) (Contains-get_or newest i 0 p) in (get_or newest i 0, h.0, n, h.1))

-- a literal that is put in is joined
pub JoinsIn-put : (trail : State) (old new : Resolvent) (l count : ℕ) → IsOpen trail.entries l → l < length old.marks.items → (HasMark old.marks.items l → ⊥)
    → new.marks.items ≡ set old.marks.items l true
    → CountsAs trail l count → new.newest ≡ old.newest + count
    → JoinsIn trail old (l ∷ []) new
JoinsIn-put trail old new l count fresh below unmarked marks counts more literals shows = (
  literals ++ l ∷ [],
  Shows-put trail old new literals l count shows below unmarked marks counts more,
  Joins-pushed trail.entries literals l (λ m. unmarked (shows.has l m)) fresh,
)

pub JoinsIn-none : (trail : State) (r : Resolvent) → JoinsIn trail r [] r
JoinsIn-none trail r literals shows = (literals, shows, Joins-none trail.entries literals)

pub JoinsIn-more : (trail : State) (old middle new : Resolvent) (clause : List ℕ) (i : ℕ) → i < length clause → JoinsIn trail old (take i clause) middle
    → JoinsIn trail middle (get_or clause i 0 ∷ []) new → JoinsIn trail old (take (i + 1) clause) new
JoinsIn-more trail old middle new clause i below a b literals shows =
    let (m, shows_m, joins_m) = a literals shows in
    let (n, shows_n, joins_n) = b m shows_m in (
      n,
      shows_n,
      subst (λ (xs : List ℕ). Joins trail.entries literals xs n) (sym (take_more clause i 0 below))
          (Joins-append trail.entries literals (take i clause) m (get_or clause i 0 ∷ []) n joins_m joins_n),
    )

pub Lists-none : (marks : List Bool) → Lists marks [] marks []
Lists-none marks = record {
  stays = λ k m. m;
  gone = λ k m. absurd (Contains-nil k m);
  from = λ k m. absurd (Contains-nil k m);
  all = λ k m. inl m;
  once = λ i j d h p. absurd (omega arith);
}

-- a literal that has no mark
pub Lists-pass : (start : List Bool) (done : List ℕ) (marks : List Bool) (literals : List ℕ) (l : ℕ) → (HasMark marks l → ⊥) → Lists start done marks literals
    → Lists start (l ∷ done) marks literals
Lists-pass start done marks literals l none lists = record {
  stays = lists.stays;
  gone = λ k m has. elim (Contains-cons_cases l done k m) [ inl e ↦ none (subst (HasMark marks) (sym e) has) | inr t ↦ lists.gone k t has ];
  from = lists.from;
  all = lists.all;
  once = lists.once;
}

-- a literal that loses its mark and is listed
pub Lists-move : (start : List Bool) (done : List ℕ) (marks : List Bool) (literals : List ℕ) (l : ℕ) → l < length marks → HasMark marks l
    → Lists start done marks literals
    → Lists start (l ∷ done) (set marks l false) (literals ++ l ∷ [])
Lists-move start done marks literals l below has lists = record {
  stays = λ k m. lists.stays k (HasMark-gone_cases marks l k below m).1;
  gone = λ k m still. (let was = HasMark-gone_cases marks l k below still in
      elim (Contains-cons_cases l done k m) [ inl e ↦ was.0 (sym e) | inr t ↦ lists.gone k t was.1 ]);
  from = λ k m. elim (Contains-push_cases literals l k m) [
    | inl was ↦ ((lists.from k was).0, λ still. (lists.from k was).1 (HasMark-gone_cases marks l k below still).1)
    | inr e ↦ (subst (HasMark start) e (lists.stays l has), λ still. (HasMark-gone_cases marks l k below still).0 (sym e))
  ];
  all = λ k m. elim (lists.all k m) [
    | inl still ↦ elim (cases_eq k l) [
      | inl e ↦ inr (subst (Contains (literals ++ l ∷ [])) (sym e) (Contains-push literals l))
      | inr n ↦
          inl (HasMark-gone_stays marks l k n still)
    ]
    | inr was ↦ inr (Contains-append_left literals (l ∷ []) k was)
  ];
  once = all_pairs_push (λ (x y : ℕ). x ≡ y → ⊥) literals l lists.once
      (λ k d p e. (lists.from l (subst (Contains literals) e (Contains-get_or literals k d p))).1 has);
}

-- the count of a literal is one or none
pub CountsAs-few : (trail : State) (l n : ℕ) → CountsAs trail l n → n ≤ 1
CountsAs-few trail l n (inl (on, one)) = omega (arith, one)
CountsAs-few trail l n (inr (off, none)) = omega (arith, none)

-- a literal of the current level is counted
pub counted_some : (trail : State) (r : Resolvent) (literals : List ℕ) (q : ℕ) → Shows trail r literals → Contains literals q
    → IsOnLevel trail.entries trail.level (opposite_of q) → 0 < r.newest
counted_some trail r literals q shows member on = (let (i, p, is) = shows.counted.1.all q member on in omega (arith, p, shows.counted.2))

-- what is listed in the end is what had marks
pub listed : (trail : State) (variables : ℕ) (r : Resolvent) (literals done : List ℕ) (marks : List Bool) (clause : List ℕ) → IsCovered variables r
    → Shows trail r literals
    → ((k : ℕ) → Contains r.touched.items k → Contains done k) → Lists r.marks.items done marks clause → (k : ℕ) → Contains literals k → Contains clause k
listed trail variables r literals done marks clause covered shows all lists k m =
    let has = shows.has k m in
    elim (lists.all k has) [ inl still ↦ absurd (lists.gone k (all k (covered.marked k has)) still) | inr in_clause ↦ in_clause ]

pub unlisted : (trail : State) (r : Resolvent) (literals done : List ℕ) (marks : List Bool) (clause : List ℕ) → Shows trail r literals
    → Lists r.marks.items done marks clause
    → (k : ℕ) → Contains clause k → Contains literals k
unlisted trail r literals done marks clause shows lists k m = shows.marked k (lists.from k m).0
