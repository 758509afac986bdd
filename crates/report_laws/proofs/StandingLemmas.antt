-- What is kept of the lines so far.
use Rattle.std.proofs.Common.{◌≡◌, ℕ, zero, suc, ◌+◌, ◌⊎◌, ◌↔◌, inl, inr, List, [], ◌∷◌, ◌++◌, length, filter, Contains, true, false, cond, not, Option, Some}
use Rattle.std.proofs.Common.{None, slice_get, refl, sym, subst, ap, ◌∙◌, arith, eq-eqb, eqb}
use Rattle.std.proofs.lemmas.Bool.{cases_eq, ne_eqb}
use Rattle.std.proofs.lemmas.List.{length-append, append-nil, append_assoc}
use Rattle.std.specs.Prelude.{reverse}
use Rattle.std.proofs.lemmas.List.Elements.{Contains-push, Contains-push_cases, Contains-append_left}
use Rattle.cq_terms.specs.Query.{Query}
use Rattle.cq_meaning.proofs.Listed.{append_cases}
use Rattle.cq_meaning.proofs.Members.{Contains-cases, Contains-head, Contains-later, Contains-nil}
use Rattle.report_text.specs.declared.line.Line.{Line}
use Rattle.report_text.specs.declared.line.Line.TheVariants as line
use Rattle.report_text.specs.declared.line.Origin.{Origin}
use Rattle.report_text.specs.declared.line.Origin.TheVariants as origin
use Rattle.report_text.specs.declared.line.Question.{Question}
use Rattle.report_text.specs.declared.line.How.{How}
use Rattle.report_rules.specs.declared.place.Place.TheVariants.{InAnswer, InTry, AfterCore}
use Rattle.report_rules.specs.Inputs.{Input}
use Rattle.report_rules.specs.Order.{place_of}
use Rattle.report_rules.specs.Told.{same_origin, is_query, conflicts_of, answered, count_answers}
use Rattle.report_rules.specs.Tries.{Tried, Ended, NamesCore, question_of, assumed}
use Rattle.report_rules.specs.Accepted.{AreRight}
use Rattle.report_laws.specs.Laws.{tuple_of, tuples_of}
use Rattle.report_laws.proofs.ListLemmas.{reverse-cons}
use Rattle.report_laws.specs.Standing.{Block, with_query, blocks_of, members_at, Core, cores_of, EndedTry, ended_of, named_of, one_number, count_conflicts}
use Rattle.report_laws.specs.Standing.{count_all_answers, LinesMoveOn, BlocksAreListed, EndedAreListed, TriedHaveEnded, NamedAreListed, CoresAreListed}
use Rattle.report_laws.specs.Standing.{CoresAreCounted, LawsOfStanding}

-- ---- one more line

pub moves_on : LinesMoveOn
moves_on facts b (line.Head axioms budget count keep repairs version) = refl
moves_on facts b (line.Cq o q step) = refl
moves_on facts b (line.Conflict numbers rule member) = refl
moves_on facts b (line.Ask candidate tuple causes members) = refl
moves_on facts b (line.Try q assume) = refl
moves_on facts b (line.Learn number clause) = refl
moves_on facts b (line.Core number kept dropped) = refl
moves_on facts b (line.Done how core) = refl
moves_on facts b (line.Forget numbers) = refl
moves_on facts b (line.Answer brave ar iar cores names tuple) = refl
moves_on facts b (line.End answers brave ar iar undecided) = refl

-- ---- blocks

-- two origins are the same or not, and the test says which
pub same_or_not : (a b : Origin) → ((same_origin a b ≡ true) × (a ≡ b)) ⊎ ((same_origin a b ≡ false) × (a ≡ b → ⊥))
same_or_not origin.Query origin.Query = inl (refl, refl)
same_or_not origin.Query (origin.Negative j) = inr (refl, λ e. cc e)
same_or_not (origin.Negative i) origin.Query = inr (refl, λ e. cc e)
same_or_not (origin.Negative i) (origin.Negative j) = elim (cases_eq i j) [
  | inl e ↦ inl (eq-eqb i j e, ap origin.Negative e)
  | inr n ↦ inr (ne_eqb i j n, λ e. let same : i ≡ j = cc e in n same)
]

at_with : (blocks : List Block) (o o' : Origin) (q : Query) → members_at (with_query blocks o q) o'
    ≡ cond (same_origin o' o) (members_at blocks o' ++ q ∷ []) (members_at blocks o')
at_with [] o o' q = refl
at_with (b ∷ blocks) o o' q = by (same_or_not o b.origin) (same_or_not o' b.origin) (same_or_not o' o) (at_with blocks o o' q)
  where
    by : ((same_origin o b.origin ≡ true) × (o ≡ b.origin)) ⊎ ((same_origin o b.origin ≡ false) × (o ≡ b.origin → ⊥))
        → ((same_origin o' b.origin ≡ true) × (o' ≡ b.origin)) ⊎ ((same_origin o' b.origin ≡ false) × (o' ≡ b.origin → ⊥))
        → ((same_origin o' o ≡ true) × (o' ≡ o)) ⊎ ((same_origin o' o ≡ false) × (o' ≡ o → ⊥))
        → members_at (with_query blocks o q) o' ≡ cond (same_origin o' o) (members_at blocks o' ++ q ∷ []) (members_at blocks o')
        → members_at (with_query (b ∷ blocks) o q) o' ≡ cond (same_origin o' o) (members_at (b ∷ blocks) o' ++ q ∷ []) (members_at (b ∷ blocks) o')
    by (inl x) (inl y) (inl z) again = rw (x.0, y.0, z.0) refl
    by (inl x) (inl y) (inr z) again = absurd (z.1 (y.1 ∙ sym x.1))
    by (inl x) (inr y) (inl z) again = absurd (y.1 (z.1 ∙ x.1))
    by (inl x) (inr y) (inr z) again = rw (x.0, y.0, z.0) refl
    by (inr x) (inl y) (inl z) again = absurd (x.1 (sym z.1 ∙ y.1))
    by (inr x) (inl y) (inr z) again = rw (x.0, y.0, z.0) refl
    by (inr x) (inr y) (inl z) again = rw (x.0, y.0) again
    by (inr x) (inr y) (inr z) again = rw (x.0, y.0) again

at_end : (blocks : List Block) (o : Origin) → members_at (filter (λ b. not (is_query b.origin)) blocks) o ≡ cond (is_query o) [] (members_at blocks o)
at_end [] origin.Query = refl
at_end [] (origin.Negative i) = refl
at_end (b ∷ blocks) o = go b.origin o (at_end blocks o)
  where
    kept : List Block
    kept = filter (λ c. not (is_query c.origin)) blocks

    go : (p : Origin) (o : Origin) → members_at (filter (λ c. not (is_query c.origin)) blocks) o ≡ cond (is_query o) [] (members_at blocks o)
        → members_at (cond (not (is_query p)) (record { origin = p; members = b.members } ∷ filter (λ c. not (is_query c.origin)) blocks)
        (filter (λ c. not (is_query c.origin)) blocks)) o
        ≡ cond (is_query o) [] (cond (same_origin o p) b.members (members_at blocks o))
    go origin.Query origin.Query again = again
    go origin.Query (origin.Negative i) again = again
    go (origin.Negative j) origin.Query again = again
    go (origin.Negative j) (origin.Negative i) again = ap (cond (eqb i j) b.members) again

pub blocks_listed : BlocksAreListed
blocks_listed [] o = refl
blocks_listed (line.Cq o' q step ∷ b) o = at_with (blocks_of b) o' o q ∙ ap (λ (ms : List Query). cond (same_origin o o') (ms ++ q ∷ []) ms) (blocks_listed b o)
blocks_listed (line.End answers brave ar iar undecided ∷ b) o = at_end (blocks_of b) o ∙ ap (λ (ms : List Query). cond (is_query o) [] ms) (blocks_listed b o)
blocks_listed (line.Head axioms budget facts keep repairs version ∷ b) p = blocks_listed b p
blocks_listed (line.Conflict facts rule member ∷ b) p = blocks_listed b p
blocks_listed (line.Ask candidate tuple causes members ∷ b) p = blocks_listed b p
blocks_listed (line.Try question assume ∷ b) p = blocks_listed b p
blocks_listed (line.Learn number clause ∷ b) p = blocks_listed b p
blocks_listed (line.Core number kept dropped ∷ b) p = blocks_listed b p
blocks_listed (line.Done how core ∷ b) p = blocks_listed b p
blocks_listed (line.Forget clauses ∷ b) p = blocks_listed b p
blocks_listed (line.Answer brave ar iar cores names tuple ∷ b) p = blocks_listed b p

-- ---- tries

abbrev ended_so : Question → List ℕ → How → EndedTry
ended_so q assume how = record { question = q; assume = assume; how = how }

pub ended_listed : EndedAreListed
ended_listed [] q a h = ((λ w. absurd w), (λ m. absurd (Contains-nil (ended_so q a h) m)))
ended_listed (line.Ask candidate tuple causes members ∷ b) q a h = ((λ w. absurd w), (λ m. absurd (Contains-nil (ended_so q a h) m)))
ended_listed (line.Done how core ∷ b) q a h = (to (ended_listed b q a h), from (ended_listed b q a h))
  where
    last : EndedTry
    last = ended_so (question_of b) (assumed b) how

    to : Ended q a h b ↔ Contains (ended_of b) (ended_so q a h) → ((question_of b ≡ q) × (assumed b ≡ a) × (how ≡ h)) ⊎ Ended q a h b
        → Contains (ended_of b ++ ended_so (question_of b) (assumed b) how ∷ []) (ended_so q a h)
    to again (inl (x, y, z)) = subst (Contains (ended_of b ++ ended_so (question_of b) (assumed b) how ∷ [])) same
        (Contains-push (ended_of b) (ended_so (question_of b) (assumed b) how))
      where
        same : ended_so (question_of b) (assumed b) how ≡ ended_so q a h
        same = ap (λ (p : Question). ended_so p (assumed b) how) x ∙ ap (λ (xs : List ℕ). ended_so q xs how) y ∙ ap (λ (g : How). ended_so q a g) z
    to again (inr w) = Contains-append_left (ended_of b) (ended_so (question_of b) (assumed b) how ∷ []) (ended_so q a h) (again.0 w)

    from : Ended q a h b ↔ Contains (ended_of b) (ended_so q a h) → Contains (ended_of b ++ ended_so (question_of b) (assumed b) how ∷ []) (ended_so q a h)
        → ((question_of b ≡ q) × (assumed b ≡ a) × (how ≡ h)) ⊎ Ended q a h b
    from again m = elim (Contains-push_cases (ended_of b) (ended_so (question_of b) (assumed b) how) (ended_so q a h) m) [
      | inl k ↦ inr (again.1 k)
      | inr e ↦ inl (ap (λ (t : EndedTry). t.question) e, ap (λ (t : EndedTry). t.assume) e, ap (λ (t : EndedTry). t.how) e)
    ]
ended_listed (line.Head axioms budget facts keep repairs version ∷ b) q a h = ended_listed b q a h
ended_listed (line.Cq o query step ∷ b) q a h = ended_listed b q a h
ended_listed (line.Conflict facts rule member ∷ b) q a h = ended_listed b q a h
ended_listed (line.Try question assume ∷ b) q a h = ended_listed b q a h
ended_listed (line.Learn number clause ∷ b) q a h = ended_listed b q a h
ended_listed (line.Core number kept dropped ∷ b) q a h = ended_listed b q a h
ended_listed (line.Forget clauses ∷ b) q a h = ended_listed b q a h
ended_listed (line.Answer brave ar iar cores names tuple ∷ b) q a h = ended_listed b q a h
ended_listed (line.End answers brave ar iar undecided ∷ b) q a h = ended_listed b q a h

pub named_listed : NamedAreListed
named_listed [] n = ((λ w. absurd w), (λ m. absurd (Contains-nil n m)))
named_listed (line.Ask candidate tuple causes members ∷ b) n = ((λ w. absurd w), (λ m. absurd (Contains-nil n m)))
named_listed (line.Done how core ∷ b) n = go core (named_listed b n)
  where
    go : (core : Option ℕ) → NamesCore b n ↔ Contains (named_of b) n → ((core ≡ Some n) ⊎ NamesCore b n) ↔ Contains (named_of b ++ one_number core) n
    go None again = (
      elim [ inl e ↦ absurd (cc e) | inr w ↦ Contains-append_left (named_of b) [] n (again.0 w) ],
      (λ m. elim (append_cases (named_of b) [] n m) [ inl k ↦ inr (again.1 k) | inr k ↦ absurd (Contains-nil n k) ]),
    )
    go (Some m) again = (
      elim [
        | inl e ↦ subst (Contains (named_of b ++ m ∷ [])) (one m e) (Contains-push (named_of b) m)
        | inr w ↦
            Contains-append_left (named_of b) (m ∷ []) n (again.0 w)
      ],
      (λ k. elim (Contains-push_cases (named_of b) m n k) [ inl l ↦ inr (again.1 l) | inr e ↦ inl (ap Some e) ]),
    )
      where
        one : (m : ℕ) → Some m ≡ Some n → m ≡ n
        one m e = cc e
named_listed (line.Head axioms budget facts keep repairs version ∷ b) n = named_listed b n
named_listed (line.Cq o query step ∷ b) n = named_listed b n
named_listed (line.Conflict facts rule member ∷ b) n = named_listed b n
named_listed (line.Try question assume ∷ b) n = named_listed b n
named_listed (line.Learn number clause ∷ b) n = named_listed b n
named_listed (line.Core number kept dropped ∷ b) n = named_listed b n
named_listed (line.Forget clauses ∷ b) n = named_listed b n
named_listed (line.Answer brave ar iar cores names tuple ∷ b) n = named_listed b n
named_listed (line.End answers brave ar iar undecided ∷ b) n = named_listed b n

-- some try of the list asked so
abbrev HasEnded : List Line → Question → List ℕ → Type 0
HasEnded b q a = (h : How) × Contains (ended_of b) (record { question = q; assume = a; how = h })

-- the open try asks so
abbrev AsksNow : List Line → Question → List ℕ → Type 0
AsksNow b q a = (question_of b ≡ q) × (assumed b ≡ a)

mutual
  tried_between : (input : Input) (b : List Line) → AreRight input b → place_of b ≡ InAnswer → (q : Question) (a : List ℕ) → Tried q a b ↔ HasEnded b q a
  tried_between input (line.Ask candidate tuple causes members ∷ b) (r, rs) e q a = ((λ w. absurd w), (λ (h, m). absurd (Contains-nil (ended_so q a h) m)))
  tried_between input (line.Done how core ∷ b) (r, rs) e q a = (to (tried_within input b rs r.order q a), from (tried_within input b rs r.order q a))
    where
      to : Tried q a b ↔ (AsksNow b q a ⊎ HasEnded b q a) → Tried q a b → HasEnded (line.Done how core ∷ b) q a
      to again w = elim (again.0 w) [
        | inl x ↦ (
          how,
          subst (Contains (ended_of b ++ ended_so (question_of b) (assumed b) how ∷ []))
              (ap (λ (p : Question). ended_so p (assumed b) how) x.0 ∙ ap (λ (xs : List ℕ). ended_so q xs how) x.1)
              (Contains-push (ended_of b) (ended_so (question_of b) (assumed b) how)),
        )
        | inr x ↦ (x.0, Contains-append_left (ended_of b) (ended_so (question_of b) (assumed b) how ∷ []) (ended_so q a x.0) x.1)
      ]

      from : Tried q a b ↔ (AsksNow b q a ⊎ HasEnded b q a) → HasEnded (line.Done how core ∷ b) q a → Tried q a b
      from again (h, m) = again.1 (elim (Contains-push_cases (ended_of b) (ended_so (question_of b) (assumed b) how) (ended_so q a h) m) [
        | inl k ↦ inr (h, k)
        | inr e ↦ inl (ap (λ (t : EndedTry). t.question) e, ap (λ (t : EndedTry). t.assume) e)
      ])
  tried_between input (line.Head axioms budget facts keep repairs version ∷ b) r e q a = absurd (cc)
  tried_between input (line.Cq o query step ∷ b) r e q a = absurd (cc)
  tried_between input (line.Conflict facts rule member ∷ b) r e q a = absurd (cc)
  tried_between input (line.Try question assume ∷ b) r e q a = absurd (cc)
  tried_between input (line.Learn number clause ∷ b) r e q a = absurd (cc)
  tried_between input (line.Core number kept dropped ∷ b) r e q a = absurd (cc)
  tried_between input (line.Forget clauses ∷ b) r e q a = absurd (cc)
  tried_between input (line.Answer brave ar iar cores names tuple ∷ b) r e q a = absurd (cc)
  tried_between input (line.End answers brave ar iar undecided ∷ b) r e q a = absurd (cc)
  tried_between input [] r e q a = absurd (cc)

  tried_within : (input : Input) (b : List Line) → AreRight input b → (place_of b ≡ InTry) ⊎ (place_of b ≡ AfterCore) → (q : Question) (a : List ℕ)
      → Tried q a b ↔ (AsksNow b q a ⊎ HasEnded b q a)
  tried_within input (line.Try question assume ∷ b) (r, rs) e q a = (to (tried_between input b rs r.order q a), from (tried_between input b rs r.order q a))
    where
      to : Tried q a b ↔ HasEnded b q a → ((question ≡ q) × (assume ≡ a)) ⊎ Tried q a b → ((question ≡ q) × (assume ≡ a)) ⊎ HasEnded b q a
      to again (inl x) = inl x
      to again (inr w) = inr (again.0 w)

      from : Tried q a b ↔ HasEnded b q a → ((question ≡ q) × (assume ≡ a)) ⊎ HasEnded b q a → ((question ≡ q) × (assume ≡ a)) ⊎ Tried q a b
      from again (inl x) = inl x
      from again (inr w) = inr (again.1 w)
  tried_within input (line.Learn number clause ∷ b) (r, rs) e q a = tried_within input b rs (inl r.order) q a
  tried_within input (line.Core number kept dropped ∷ b) (r, rs) e q a = tried_within input b rs (inl r.order) q a
  tried_within input (line.Head axioms budget facts keep repairs version ∷ b) r e q a = absurd (elim e [ inl x ↦ (cc) | inr x ↦ (cc) ])
  tried_within input (line.Cq o query step ∷ b) r e q a = absurd (elim e [ inl x ↦ (cc) | inr x ↦ (cc) ])
  tried_within input (line.Conflict facts rule member ∷ b) r e q a = absurd (elim e [ inl x ↦ (cc) | inr x ↦ (cc) ])
  tried_within input (line.Ask candidate tuple causes members ∷ b) r e q a = absurd (elim e [ inl x ↦ (cc) | inr x ↦ (cc) ])
  tried_within input (line.Done how core ∷ b) r e q a = absurd (elim e [ inl x ↦ (cc) | inr x ↦ (cc) ])
  tried_within input (line.Forget clauses ∷ b) r e q a = absurd (elim e [ inl x ↦ (cc) | inr x ↦ (cc) ])
  tried_within input (line.Answer brave ar iar cores names tuple ∷ b) r e q a = absurd (elim e [ inl x ↦ (cc) | inr x ↦ (cc) ])
  tried_within input (line.End answers brave ar iar undecided ∷ b) r e q a = absurd (elim e [ inl x ↦ (cc) | inr x ↦ (cc) ])
  tried_within input [] r e q a = absurd (elim e [ inl x ↦ (cc) | inr x ↦ (cc) ])

pub tried_ended : TriedHaveEnded
tried_ended input b r e q a = tried_between input b r e q a

-- ---- cores

-- what stands in the front of a list stays, and the next is the first behind it
pub get_left : {X : Type 0} (xs ys : List X) (k : ℕ) (x : X) → slice_get xs k ≡ Some x → slice_get (xs ++ ys) k ≡ Some x
get_left [] ys k x e = absurd (cc e)
get_left (y ∷ xs) ys zero x e = e
get_left (y ∷ xs) ys (suc k) x e = get_left xs ys k x e

pub get_next : {X : Type 0} (xs : List X) (y : X) → slice_get (xs ++ y ∷ []) (length xs) ≡ Some y
get_next [] y = refl
get_next (x ∷ xs) y = get_next xs y

-- what stands in a list with one more at its end
get_cases : {X : Type 0} (xs : List X) (y : X) (k : ℕ) (x : X) → slice_get (xs ++ y ∷ []) k ≡ Some x → (slice_get xs k ≡ Some x) ⊎ ((k ≡ length xs) × (y ≡ x))
get_cases [] y zero x e = let same : y ≡ x = cc e in inr (refl, same)
get_cases [] y (suc k) x e = absurd (cc e)
get_cases (z ∷ xs) y zero x e = inl e
get_cases (z ∷ xs) y (suc k) x e = elim (get_cases xs y k x e) [ inl l ↦ inl l | inr w ↦ inr (ap suc w.0, w.1) ]

abbrev core_so : List ℕ → List ℕ → Core
core_so k d = record { kept = k; dropped = d }

pub cores_counted : CoresAreCounted
cores_counted [] = refl
cores_counted (line.Core number kept dropped ∷ b) = length-append (cores_of b) (record { kept = kept; dropped = dropped } ∷ [])
    ∙ (ap (λ (n : ℕ). n + 1) (cores_counted b) ∙ omega arith)
cores_counted (line.Head axioms budget facts keep repairs version ∷ b) = cores_counted b
cores_counted (line.Cq o query step ∷ b) = cores_counted b
cores_counted (line.Conflict facts rule member ∷ b) = cores_counted b
cores_counted (line.Ask candidate tuple causes members ∷ b) = cores_counted b
cores_counted (line.Try question assume ∷ b) = cores_counted b
cores_counted (line.Learn number clause ∷ b) = cores_counted b
cores_counted (line.Done how core ∷ b) = cores_counted b
cores_counted (line.Forget clauses ∷ b) = cores_counted b
cores_counted (line.Answer brave ar iar cores names tuple ∷ b) = cores_counted b
cores_counted (line.End answers brave ar iar undecided ∷ b) = cores_counted b

pub conflicts_counted : (b : List Line) → count_conflicts b ≡ length (conflicts_of b)
conflicts_counted [] = refl
conflicts_counted (line.Conflict facts rule member ∷ b) = ap suc (conflicts_counted b) ∙ (omega arith ∙ sym (length-append (conflicts_of b) (facts ∷ [])))
conflicts_counted (line.Head axioms budget facts keep repairs version ∷ b) = conflicts_counted b
conflicts_counted (line.Cq o query step ∷ b) = conflicts_counted b
conflicts_counted (line.Ask candidate tuple causes members ∷ b) = conflicts_counted b
conflicts_counted (line.Try question assume ∷ b) = conflicts_counted b
conflicts_counted (line.Learn number clause ∷ b) = conflicts_counted b
conflicts_counted (line.Core number kept dropped ∷ b) = conflicts_counted b
conflicts_counted (line.Done how core ∷ b) = conflicts_counted b
conflicts_counted (line.Forget clauses ∷ b) = conflicts_counted b
conflicts_counted (line.Answer brave ar iar cores names tuple ∷ b) = conflicts_counted b
conflicts_counted (line.End answers brave ar iar undecided ∷ b) = conflicts_counted b

pub answers_counted : (b : List Line) → count_answers (λ v w u. true) b ≡ length (answered b)
answers_counted [] = refl
answers_counted (line.Answer brave ar iar cores names tuple ∷ b) = ap suc (answers_counted b) ∙ (omega arith ∙ sym (length-append (answered b) (tuple ∷ [])))
answers_counted (line.End answers brave ar iar undecided ∷ b) = refl
answers_counted (line.Head axioms budget facts keep repairs version ∷ b) = answers_counted b
answers_counted (line.Cq o query step ∷ b) = answers_counted b
answers_counted (line.Conflict facts rule member ∷ b) = answers_counted b
answers_counted (line.Ask candidate tuple causes members ∷ b) = answers_counted b
answers_counted (line.Try question assume ∷ b) = answers_counted b
answers_counted (line.Learn number clause ∷ b) = answers_counted b
answers_counted (line.Core number kept dropped ∷ b) = answers_counted b
answers_counted (line.Done how core ∷ b) = answers_counted b
answers_counted (line.Forget clauses ∷ b) = answers_counted b

-- one line more in the order of the report
tuples_more : (xs : List Line) (l : Line) → tuples_of (xs ++ l ∷ []) ≡ tuples_of xs ++ tuple_of l
tuples_more [] l = append-nil (tuple_of l)
tuples_more (x ∷ xs) l = ap (λ (ts : List (List ℕ)). tuple_of x ++ ts) (tuples_more xs l) ∙ sym (append_assoc (tuple_of x) (tuples_of xs) (tuple_of l))

tuples_next : (l : Line) (b : List Line) → length (tuples_of (reverse (l ∷ b))) ≡ length (tuples_of (reverse b)) + length (tuple_of l)
tuples_next l b = ap (λ (ls : List Line). length (tuples_of ls)) (reverse-cons l b)
    ∙ (ap length (tuples_more (reverse b) l) ∙ length-append (tuples_of (reverse b)) (tuple_of l))

pub all_counted : (b : List Line) → count_all_answers b ≡ length (tuples_of (reverse b))
all_counted [] = refl
all_counted (line.Answer brave ar iar cores names tuple ∷ b) =
    ap suc (all_counted b) ∙ (omega arith ∙ sym (tuples_next (line.Answer brave ar iar cores names tuple) b))
all_counted (line.Head axioms budget facts keep repairs version ∷ b) =
    all_counted b ∙ (omega arith ∙ sym (tuples_next (line.Head axioms budget facts keep repairs version) b))
all_counted (line.Cq o query step ∷ b) = all_counted b ∙ (omega arith ∙ sym (tuples_next (line.Cq o query step) b))
all_counted (line.Conflict facts rule member ∷ b) = all_counted b ∙ (omega arith ∙ sym (tuples_next (line.Conflict facts rule member) b))
all_counted (line.Ask candidate tuple causes members ∷ b) = all_counted b ∙ (omega arith ∙ sym (tuples_next (line.Ask candidate tuple causes members) b))
all_counted (line.Try question assume ∷ b) = all_counted b ∙ (omega arith ∙ sym (tuples_next (line.Try question assume) b))
all_counted (line.Learn number clause ∷ b) = all_counted b ∙ (omega arith ∙ sym (tuples_next (line.Learn number clause) b))
all_counted (line.Core number kept dropped ∷ b) = all_counted b ∙ (omega arith ∙ sym (tuples_next (line.Core number kept dropped) b))
all_counted (line.Done how core ∷ b) = all_counted b ∙ (omega arith ∙ sym (tuples_next (line.Done how core) b))
all_counted (line.Forget clauses ∷ b) = all_counted b ∙ (omega arith ∙ sym (tuples_next (line.Forget clauses) b))
all_counted (line.End answers brave ar iar undecided ∷ b) = all_counted b ∙ (omega arith ∙ sym (tuples_next (line.End answers brave ar iar undecided) b))

-- a line of another kind adds none
other_line : (l : Line) (b : List Line) (n : ℕ) (kept dropped : List ℕ) → (l ≡ line.Core n kept dropped → ⊥)
    → Contains b (line.Core n kept dropped) ↔ (slice_get (cores_of b) n ≡ Some (record { kept = kept; dropped = dropped }))
    → Contains (l ∷ b) (line.Core n kept dropped) ↔ (slice_get (cores_of b) n ≡ Some (record { kept = kept; dropped = dropped }))
other_line l b n kept dropped other again = (
  (λ m. elim (Contains-cases l b (line.Core n kept dropped) m) [ inl e ↦ absurd (other e) | inr k ↦ again.0 k ]),
  (λ e. Contains-later l b (line.Core n kept dropped) (again.1 e)),
)

pub cores_listed : CoresAreListed
cores_listed input [] r n k d = ((λ m. absurd (Contains-nil (line.Core n k d) m)), (λ e. absurd (cc e)))
cores_listed input (line.Core number kept dropped ∷ b) (r, rs) n k d = (to (cores_listed input b rs n k d), from (cores_listed input b rs n k d))
  where
    at : number ≡ length (cores_of b)
    at = r.own.counts ∙ sym (cores_counted b)

    to : Contains b (line.Core n k d) ↔ (slice_get (cores_of b) n ≡ Some (record { kept = k; dropped = d }))
        → Contains (line.Core number kept dropped ∷ b) (line.Core n k d)
        → slice_get (cores_of b ++ record { kept = kept; dropped = dropped } ∷ []) n ≡ Some (record { kept = k; dropped = d })
    to again m = elim (Contains-cases (line.Core number kept dropped) b (line.Core n k d) m) [
      | inl e ↦ (let x : number ≡ n = cc e in let y : kept ≡ k = cc e in let z : dropped ≡ d = cc e in
          subst (λ (i : ℕ). slice_get (cores_of b ++ record { kept = kept; dropped = dropped } ∷ []) i ≡ Some (record { kept = k; dropped = d })) (sym at ∙ x)
          (get_next (cores_of b) (record { kept = kept; dropped = dropped }) ∙ both y z))
      | inr h ↦ get_left (cores_of b) (record { kept = kept; dropped = dropped } ∷ []) n (record { kept = k; dropped = d }) (again.0 h)
    ]
      where
        both : kept ≡ k → dropped ≡ d → Some (core_so kept dropped) ≡ Some (core_so k d)
        both y z = ap (λ (ks : List ℕ). Some (core_so ks dropped)) y ∙ ap (λ (ds : List ℕ). Some (core_so k ds)) z

    from : Contains b (line.Core n k d) ↔ (slice_get (cores_of b) n ≡ Some (record { kept = k; dropped = d }))
        → slice_get (cores_of b ++ record { kept = kept; dropped = dropped } ∷ []) n ≡ Some (record { kept = k; dropped = d })
        → Contains (line.Core number kept dropped ∷ b) (line.Core n k d)
    from again e = elim (get_cases (cores_of b) (record { kept = kept; dropped = dropped }) n (record { kept = k; dropped = d }) e) [
      | inl h ↦ Contains-later (line.Core number kept dropped) b (line.Core n k d) (again.1 h)
      | inr w ↦ subst (Contains (line.Core number kept dropped ∷ b)) (same (at ∙ sym w.0) (ap (λ (c : Core). c.kept) w.1) (ap (λ (c : Core). c.dropped) w.1))
          (Contains-head (line.Core number kept dropped) b)
    ]
      where
        same : number ≡ n → kept ≡ k → dropped ≡ d → line.Core number kept dropped ≡ line.Core n k d
        same x y z = ap (λ (i : ℕ). line.Core i kept dropped) x ∙ ap (λ (ks : List ℕ). line.Core n ks dropped) y ∙ ap (λ (ds : List ℕ). line.Core n k ds) z
cores_listed input (line.Head axioms budget facts keep repairs version ∷ b) (r, rs) n k d =
    other_line (line.Head axioms budget facts keep repairs version) b n k d (λ e. cc e) (cores_listed input b rs n k d)
cores_listed input (line.Cq o query step ∷ b) (r, rs) n k d = other_line (line.Cq o query step) b n k d (λ e. cc e) (cores_listed input b rs n k d)
cores_listed input (line.Conflict facts rule member ∷ b) (r, rs) n k d =
    other_line (line.Conflict facts rule member) b n k d (λ e. cc e) (cores_listed input b rs n k d)
cores_listed input (line.Ask candidate tuple causes members ∷ b) (r, rs) n k d =
    other_line (line.Ask candidate tuple causes members) b n k d (λ e. cc e) (cores_listed input b rs n k d)
cores_listed input (line.Try question assume ∷ b) (r, rs) n k d = other_line (line.Try question assume) b n k d (λ e. cc e) (cores_listed input b rs n k d)
cores_listed input (line.Learn number clause ∷ b) (r, rs) n k d = other_line (line.Learn number clause) b n k d (λ e. cc e) (cores_listed input b rs n k d)
cores_listed input (line.Done how core ∷ b) (r, rs) n k d = other_line (line.Done how core) b n k d (λ e. cc e) (cores_listed input b rs n k d)
cores_listed input (line.Forget clauses ∷ b) (r, rs) n k d = other_line (line.Forget clauses) b n k d (λ e. cc e) (cores_listed input b rs n k d)
cores_listed input (line.Answer brave ar iar cores names tuple ∷ b) (r, rs) n k d =
    other_line (line.Answer brave ar iar cores names tuple) b n k d (λ e. cc e) (cores_listed input b rs n k d)
cores_listed input (line.End answers brave ar iar undecided ∷ b) (r, rs) n k d =
    other_line (line.End answers brave ar iar undecided) b n k d (λ e. cc e) (cores_listed input b rs n k d)

pub laws : LawsOfStanding
laws = record {
  moves_on = moves_on;
  blocks = blocks_listed;
  ended = ended_listed;
  tried = tried_ended;
  named = named_listed;
  cores = cores_listed;
  counted =
      cores_counted;
  counts = λ b. (conflicts_counted b, answers_counted b, all_counted b);
}
