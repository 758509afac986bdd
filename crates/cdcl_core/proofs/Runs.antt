-- What a search has done so far: the clauses that it learned, one after another.
use Rattle.std.proofs.Common.{◌≡◌, ℕ, ◌<◌, ◌≤◌, ◌+◌, inl, inr, List, [], ◌∷◌, ◌++◌, length, map, Option, Some, None, Result, Ok, Err, refl, sym, subst, ap}
use Rattle.std.proofs.Common.{◌∙◌, arith}
use Rattle.std.proofs.lemmas.List.{append-nil, append_assoc, length_push}
use Rattle.std.proofs.lemmas.List.Elements.{Contains-append_left, Contains-push, Contains-push_cases}
use Rattle.clause_meaning.proofs.Members.{Contains-map}
use Rattle.clause_meaning.specs.Learning.{With, AreLearnable}
use Rattle.clause_learning.proofs.OneSided.{learned_one_sided}
use Rattle.cdcl_core.specs.declared.outcome.Budget.{Budget}
use Rattle.cdcl_core.specs.declared.outcome.Outcome.{Outcome}
use Rattle.cdcl_core.specs.declared.outcome.SolveFault.{SolveFault}
use Rattle.cdcl_core.specs.declared.outcome.SolveFault.TheVariants as fault
use Rattle.cdcl_core.specs.State.{State, LiveClause, LiveIn}
use Rattle.cdcl_core.specs.Store.{StoreState}
use Rattle.proof_logs.specs.Logs.{Learned, LogContent, IsWhole, HasWhatItHad, Appends, TearsAt, Rises}
use Rattle.cdcl_core.specs.Learning.{IsRefuted, IsNew, MayLearn, AreLearned, JoinNothing, with_learned, with_all}
use Rattle.cdcl_core.specs.Solving.{Affords, Learns, LogGets, LogFailsOn, LogEnds}
use Rattle.cdcl_core.specs.Seeking.{Seeks, FailsOn, bare}
use Rattle.cdcl_core.proofs.Bare.{IsLearnable-same}

-- the live clauses with one more
live_more : (s : State) (e : Learned) (c : List ℕ) → LiveIn s c → LiveIn (with_learned s e) c
live_more s e c (k, x, p, is, same) =
    let m = Contains-append_left s.live (record { number = Some e.number; literals = e.clause } ∷ []) x (k, p, is) in
    (m.0, x, m.1, m.2, same)

live_last : (s : State) (e : Learned) (c : List ℕ) → c ≡ e.clause → LiveIn (with_learned s e) c
live_last s e c same =
    let x : LiveClause = record { number = Some e.number; literals = e.clause } in
    let m = Contains-push s.live x in
    (m.0, x, m.1, m.2, sym same)

pub live_cases : (s : State) (e : Learned) (c : List ℕ) → LiveIn (with_learned s e) c → With (LiveIn s) e.clause c
live_cases s e c (k, x, p, is, same) =
    let new : LiveClause = record { number = Some e.number; literals = e.clause } in
    elim (Contains-push_cases s.live new x (k, p, is)) [
      | inl m ↦ inl (m.0, x, m.1, m.2, same)
      | inr d ↦ inr (sym same ∙ sym (ap (λ (y : LiveClause). y.literals) d))
    ]

-- each of the clauses may be learned behind those before it
are_learnable : (S : List ℕ → Type 0) (s : State) (scope assume : List ℕ) (entries : List Learned) → ((c : List ℕ) → S c → LiveIn s c)
    → ((c : List ℕ) → LiveIn s c → S c)
    → AreLearned s scope assume entries → AreLearnable S (map (λ e. e.clause) entries)
are_learnable S s scope assume [] to from h = tt
are_learnable S s scope assume (e ∷ es) to from (may, rest) = (
  IsLearnable-same (LiveIn s) S e.clause from to may.fresh.lesson.learnable,
  are_learnable (With S e.clause) (with_learned s e) scope assume es next back rest,
)
  where
    next : (c : List ℕ) → With S e.clause c → LiveIn (with_learned s e) c
    next c (inl m) = live_more s e c (to c m)
    next c (inr same) = live_last s e c same

    back : (c : List ℕ) → LiveIn (with_learned s e) c → With S e.clause c
    back c m = elim (live_cases s e c m) [ inl old ↦ inl (from c old) | inr same ↦ inr same ]

-- so they join nothing
pub JoinNothing-learned : (s : State) (scope assume : List ℕ) (entries : List Learned) → AreLearned s scope assume entries → JoinNothing s entries
JoinNothing-learned s scope assume entries h m never part parts entry has free =
    learned_one_sided (LiveIn s) (map (λ (e : Learned). e.clause) entries) m part (are_learnable (LiveIn s) s scope assume entries (λ c m. m) (λ c m. m) h)
    never parts entry.clause
    (Contains-map (λ (e : Learned). e.clause) entries entry has) free

-- one more at the end
AreLearned-push : (s : State) (scope assume : List ℕ) (entries : List Learned) (e : Learned) → AreLearned s scope assume entries
    → MayLearn (with_all s entries) scope assume e
    → AreLearned s scope assume (entries ++ e ∷ [])
AreLearned-push s scope assume [] e h may = (may, tt)
AreLearned-push s scope assume (x ∷ xs) e (first, rest) may = (first, AreLearned-push (with_learned s x) scope assume xs e rest may)

with_all-push : (s : State) (entries : List Learned) (e : Learned) → with_all s (entries ++ e ∷ []) ≡ with_learned (with_all s entries) e
with_all-push s [] e = refl
with_all-push s (x ∷ xs) e = with_all-push (with_learned s x) xs e

pub next_after : (s : State) (entries : List Learned) → (with_all s entries).next ≡ s.next + length entries
next_after s [] = omega arith
next_after s (x ∷ xs) = (let rest = next_after (with_learned s x) xs in omega (arith, rest))

-- the log with one more
LogGets-push : (before mid after : Option LogContent) (entries : List Learned) (e : Learned) → LogGets before mid entries
    → Appends mid after e.number e.clause → LogGets before after (entries ++ e ∷ [])
LogGets-push None None after entries e whole more = more
LogGets-push None (Some mid) after entries e whole more = subst IsWhole (sym more) whole
LogGets-push (Some before) mid after entries e got more =
    subst (λ (m : Option LogContent). Appends m after e.number e.clause) got more
    ∙ ap (λ (xs : List Learned). Some (record before { clauses = xs })) (append_assoc before.clauses entries (e ∷ []))

LogFailsOn-torn : (before mid after : Option LogContent) (entries : List Learned) (e : Learned) → LogGets before mid entries
    → TearsAt mid after e.number e.clause → LogFailsOn before after entries e
LogFailsOn-torn None mid after entries e got torn = tt
LogFailsOn-torn (Some before) mid after entries e got torn = subst (λ (m : Option LogContent). TearsAt m after e.number e.clause) got torn

-- or the log has what it had
LogGets-stays : (before mid after : Option LogContent) (entries : List Learned) → LogGets before mid entries → HasWhatItHad mid after
    → LogGets before after entries
LogGets-stays None None after entries whole same = same
LogGets-stays None (Some mid) after entries whole same = subst IsWhole (sym same) whole
LogGets-stays (Some before) mid after entries got same = subst (λ (m : Option LogContent). HasWhatItHad m after) got same

pub HasWhatItHad-same : (before : Option LogContent) → HasWhatItHad before before
HasWhatItHad-same None = tt
HasWhatItHad-same (Some before) = refl

pub LogGets-whole : (before mid : Option LogContent) (entries : List Learned) → IsWhole before → LogGets before mid entries → IsWhole mid
LogGets-whole None mid entries whole got = got
LogGets-whole (Some before) mid entries whole got = subst IsWhole (sym got) whole

LogGets-none : (before : Option LogContent) → IsWhole before → LogGets before before []
LogGets-none None whole = tt
LogGets-none (Some before) whole = ap (λ (xs : List Learned). Some (record before { clauses = xs })) (sym (append-nil before.clauses))

-- so far
pub record Ran (start state : State) (scope assume : List ℕ) (was now : Budget) (before after : Option LogContent) (f g : ℕ) (entries : List Learned) : Type
    0 where
  pub learns : Learns start state scope assume was now entries
  pub got : LogGets before after entries
  pub faults : g ≡ f
  pub affords : Affords state now

pub Ran-start : (start state : State) (scope assume : List ℕ) (was : Budget) (before : Option LogContent) (f : ℕ) → Affords start was → IsWhole before
    → state ≡ start
    → Ran start state scope assume was was before before f f []
Ran-start start state scope assume was before f affords whole same =
    subst (λ (s : State). Ran start s scope assume was was before before f f []) (sym same) (record {
      learns = record {
        may = tt;
        join = JoinNothing-learned start scope assume [] tt;
        live = refl;
        used = omega arith;
        limit = refl;
        within = affords.within;
      };
      got = LogGets-none before whole;
      faults = refl;
      affords = affords;
    })

pub Ran-same : (start state new : State) (scope assume : List ℕ) (was now : Budget) (before after : Option LogContent) (f g : ℕ) (entries : List Learned)
    → Ran start state scope assume was now before after f g entries → new ≡ state → Ran start new scope assume was now before after f g entries
Ran-same start state new scope assume was now before after f g entries ran same =
    subst (λ (s : State). Ran start s scope assume was now before after f g entries) (sym same) ran

-- one more clause was learned
pub Ran-push : (start state new : State) (scope assume : List ℕ) (was now next : Budget) (before mid after : Option LogContent) (f g h : ℕ)
    (entries : List Learned) (e : Learned)
    → Ran start state scope assume was now before mid f g entries → (IsRefuted state scope assume → ⊥) → IsNew state scope e → new ≡ with_learned state e
    → Appends mid after e.number e.clause → h ≡ g → now.used < now.limit → next.used ≡ now.used + 1 → next.limit ≡ now.limit
    → Ran start new scope assume was next before after f h (entries ++ e ∷ [])
Ran-push start state new scope assume was now next before mid after f g h entries e ran unrefuted fresh is more stays below one limit =
    let used = ran.learns.used in
    let within = ran.learns.within in
    let numbers = ran.affords.numbers in
    let long = length_push entries e in
    let may : MayLearn (with_all start entries) scope assume e =
    subst (λ (s : State). MayLearn s scope assume e) ran.learns.live (record { unrefuted = unrefuted; fresh = fresh }) in
    let all : AreLearned start scope assume (entries ++ e ∷ []) = AreLearned-push start scope assume entries e ran.learns.may may in
    let rises : new.next ≡ state.next + 1 = ap (λ (s : State). s.next) is in record {
      learns = record {
        may = all;
        join = JoinNothing-learned start scope assume (entries ++ e ∷ []) all;
        live = is ∙ (ap (λ (s : State). with_learned s e) ran.learns.live ∙ sym (with_all-push start entries e));
        used = omega (arith, used, one, long);
        limit = limit ∙ ran.learns.limit;
        within = omega (arith, one, limit, below);
      };
      got = LogGets-push before mid after entries e ran.got more;
      faults = stays ∙ ran.faults;
      affords = record { within = omega (arith, one, limit, below); numbers = omega (arith, rises, one, limit, below, numbers) };
    }

pub record RunHolds (start : State) (scope assume : List ℕ) (was now : Budget) (before after : Option LogContent) (f g : ℕ) (parts : StoreState) (assumed : ℕ)
    (entries : List Learned) : Type 0 where
  pub ran : Ran start (bare parts) scope assume was now before after f g entries
  pub seeks : Seeks assume parts.trail parts.arena assumed
  pub focus : parts.trail.focus ≡ scope

-- how it ended, with no fault
abbrev pub Ended : State → State → List ℕ → List ℕ → Budget → Budget → Option LogContent → Option LogContent → ℕ → ℕ → Result Outcome SolveFault → Type 0
Ended start state scope assume was now before after f g result =
    (entries : List Learned) × Learns start state scope assume was now entries × LogEnds state scope assume now before after f g entries result

pub Ended-ok : (start state : State) (scope assume : List ℕ) (was now : Budget) (before after : Option LogContent) (f g : ℕ) (entries : List Learned)
    (outcome : Outcome)
    → Ran start state scope assume was now before after f g entries → Ended start state scope assume was now before after f g (Ok outcome)
Ended-ok start state scope assume was now before after f g entries outcome ran = (entries, ran.learns, (ran.got, ran.faults))

-- or with one
pub Ended-fault : (start state new : State) (scope assume : List ℕ) (was now : Budget) (before mid after : Option LogContent) (f g h : ℕ)
    (entries : List Learned) (x : SolveFault)
    → Ran start state scope assume was now before mid f g entries → (IsRefuted state scope assume → ⊥) → now.used < now.limit
    → FailsOn state new scope mid after g h x
    → Ended start new scope assume was now before after f h (Err x)
Ended-fault start state new scope assume was now before mid after f g h entries fault.Log ran unrefuted below (e, fresh, same, torn, rises) = (
  entries,
  (Ran-same start state new scope assume was now before mid f g entries ran same).learns,
  (
    subst (λ (n : ℕ). Rises n h) ran.faults rises,
    e,
    record {
      may = subst (λ (s : State). MayLearn s scope assume e) (sym same) (record { unrefuted = unrefuted; fresh = fresh });
      affords = below;
      told = LogFailsOn-torn before mid after entries e ran.got torn;
    },
  ),
)
Ended-fault start state new scope assume was now before mid after f g h entries fault.NoMemory ran unrefuted below (same, told, stays) = (
  entries,
  (Ran-same start state new scope assume was now before mid f g entries ran same).learns,
  (
    LogGets-stays before mid after entries ran.got told,
    stays ∙ ran.faults,
  ),
)

-- the next clause may be learned: there is a number for it
pub less_than_limit : (budget : Budget) → budget.used ≤ budget.limit → (budget.used ≡ budget.limit → ⊥) → budget.used < budget.limit
less_than_limit budget within n = omega (arith, within, n)
