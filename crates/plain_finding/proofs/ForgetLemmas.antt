-- Which clauses a checker has, as lists, when those of some numbers are forgotten.
use Rattle.std.proofs.Common.{◌≡◌, ◌<◌, ◌⊎◌, inl, inr, ℕ, List, [], length, map, Contains, All, Bool, true, not, refl, sym, subst, ap, ◌∙◌}
use Rattle.std.proofs.Common.{arith, true≢false, filter}
use Rattle.std.proofs.lemmas.List.{length-map}
use Rattle.std.proofs.lemmas.List.Elements.{All-contains}
use Rattle.clause_meaning.proofs.Members.{Contains-map}
use Rattle.cq_terms.specs.Lists.{IsAscending}
use Rattle.cq_meaning.proofs.Ascending.{All-of}
use Rattle.cq_meaning.proofs.Members.{Contains-nil}
use Rattle.priority_graph.specs.Split.{has}
use Rattle.priority_graph.proofs.SplitLemmas.{has_true, has_not}
use Rattle.rup_check.specs.State.{Numbered, IsLive}
use Rattle.report_laws.proofs.ListLemmas.{Contains-filter, filter-Contains}
use Rattle.plain_finding.specs.Kept.{Kept, IsNumbered, Holds, kept_at}
use Rattle.plain_finding.proofs.NumberLemmas.{any_of, of_any}
use Rattle.plain_finding.proofs.PartLemmas.{map-kept_at, kept_within, in_a_part, kept_ascending, parts_apart}

-- the live clauses of other numbers
abbrev pub without_all : List Numbered → List ℕ → List Numbered
without_all live gone = filter (λ (e : Numbered). not (has gone e.number)) live

passes : (gone : List ℕ) (n : ℕ) → ¬ Contains gone n → not (has gone n) ≡ true
passes gone n out = ap not (has_not gone n out)

fails : (gone : List ℕ) (n : ℕ) → not (has gone n) ≡ true → ¬ Contains gone n
fails gone n t m = true≢false (sym t ∙ ap not (has_true gone n m))

stays : (live : List Numbered) (gone : List ℕ) (x : Numbered) → Contains live x → ¬ Contains gone x.number → Contains (without_all live gone) x
stays live gone x m out = filter-Contains (λ (e : Numbered). not (has gone e.number)) live x m (passes gone x.number out)

was : (live : List Numbered) (gone : List ℕ) (x : Numbered) → Contains (without_all live gone) x → Contains live x × (¬ Contains gone x.number)
was live gone x m = let w = Contains-filter (λ (e : Numbered). not (has gone e.number)) live x m in (w.0, fails gone x.number w.1)

-- a live number that isn't forgotten stays live
pub still_live : (live : List Numbered) (gone : List ℕ) (n : ℕ) → IsLive live n → ¬ Contains gone n → IsLive (without_all live gone) n
still_live live gone n w out = let (x, m, is) = of_any (λ (e : Numbered). e.number ≡ n) live w in
    any_of (λ (e : Numbered). e.number ≡ n) (without_all live gone) x (stays live gone x m (subst (λ (i : ℕ). ¬ Contains gone i) (sym is) out)) is

still_below : (live : List Numbered) (gone : List ℕ) (next : ℕ) → All (λ (e : Numbered). e.number < next) live
    → All (λ (e : Numbered). e.number < next) (without_all live gone)
still_below live gone next below = All-of (λ (e : Numbered). e.number < next) (without_all live gone)
    (λ x m. All-contains (λ (e : Numbered). e.number < next) live x below (was live gone x m).0)

all_still : (live : List Numbered) (gone numbers : List ℕ) → All (IsLive live) numbers → ((n : ℕ) → Contains numbers n → ¬ Contains gone n)
    → All (IsLive (without_all live gone)) numbers
all_still live gone numbers all out = All-of (IsLive (without_all live gone)) numbers
    (λ n m. still_live live gone n (All-contains (IsLive live) numbers n all m) (out n m))

-- the number of an entry is among the numbers
number_in : (entries : List Numbered) (numbers : List ℕ) → map (λ (e : Numbered). e.number) entries ≡ numbers → (x : Numbered) → Contains entries x
    → Contains numbers x.number
number_in entries numbers are x m = subst (λ (ns : List ℕ). Contains ns x.number) are (Contains-map (λ (e : Numbered). e.number) entries x m)

none_in_none : (entries : List Numbered) → All (λ (e : Numbered). ¬ Contains [] e.number) entries
none_in_none entries = All-of (λ (e : Numbered). ¬ Contains [] e.number) entries (λ x m n. absurd (Contains-nil x.number n))

module _ (k : Kept) (h : IsNumbered k) where
  abbrev closed : Kept
  closed = record k { live = without_all k.live k.open_numbers; open_numbers = [] }

  pub numbered_closed : IsNumbered (record k { live = filter (λ (e : Numbered). not (has k.open_numbers e.number)) k.live; open_numbers = [] })
  numbered_closed = record {
    below = still_below k.live k.open_numbers k.next h.below;
    open_live = All-of (IsLive (without_all k.live k.open_numbers)) [] (λ n m. absurd (Contains-nil n m));
    learned_live = all_still k.live k.open_numbers k.learned_numbers h.learned_live (λ n m o. h.apart n o m);
    open_ascending = λ i j d l m. absurd (omega arith);
    learned_ascending = h.learned_ascending;
    apart = λ n m. absurd (Contains-nil n m);
  }

  pub holds_closed : (base causes learned : List (List ℕ)) → Holds k base causes learned
      → Holds (record k { live = filter (λ (e : Numbered). not (has k.open_numbers e.number)) k.live; open_numbers = [] }) base [] learned
  holds_closed base causes learned w = record {
    base_entries = w.base_entries;
    open_entries = [];
    learned_entries = w.learned_entries;
    base_are = w.base_are;
    open_are = record { numbers_are = refl; clauses_are = refl };
    learned_are = w.learned_are;
    exact = λ x. (to x, from x);
    not_open = none_in_none w.base_entries;
    not_learned = w.not_learned;
  }
    where
      to : (x : Numbered) → Contains (without_all k.live k.open_numbers) x
          → Contains w.base_entries x ⊎ (Contains [] x ⊎ Contains w.learned_entries x)
      to x m = let (v, out) = was k.live k.open_numbers x m in elim ((w.exact x).0 v) [
        | inl b ↦ inl b
        | inr o ↦ elim o [
          | inl n ↦ absurd (out (number_in w.open_entries k.open_numbers w.open_are.numbers_are x n))
          | inr l ↦ inr (inr l)
        ]
      ]

      from : (x : Numbered) → Contains w.base_entries x ⊎ (Contains [] x ⊎ Contains w.learned_entries x)
          → Contains (without_all k.live k.open_numbers) x
      from x (inl b) = stays k.live k.open_numbers x ((w.exact x).1 (inl b))
          (All-contains (λ (e : Numbered). ¬ Contains k.open_numbers e.number) w.base_entries x w.not_open b)
      from x (inr (inl n)) = absurd (Contains-nil x n)
      from x (inr (inr l)) = stays k.live k.open_numbers x ((w.exact x).1 (inr (inr l)))
          (λ o. h.apart x.number o (number_in w.learned_entries k.learned_numbers w.learned_are.numbers_are x l))

  module _ (marks : List Bool) where
    abbrev gone : List ℕ
    gone = kept_at (map not marks) k.learned_numbers

    abbrev staying : List ℕ
    staying = kept_at marks k.learned_numbers

    gone_within : (n : ℕ) → Contains gone n → Contains k.learned_numbers n
    gone_within n m = kept_within (map not marks) k.learned_numbers n m

    -- what is forgotten is live, and ascends
    pub gone_live : All (IsLive k.live) (kept_at (map not marks) k.learned_numbers)
    gone_live = All-of (IsLive k.live) gone (λ n m. All-contains (IsLive k.live) k.learned_numbers n h.learned_live (gone_within n m))

    pub gone_ascending : IsAscending (kept_at (map not marks) k.learned_numbers)
    gone_ascending = kept_ascending (map not marks) k.learned_numbers h.learned_ascending

    pub numbered_kept : IsNumbered (record k {
      live = filter (λ (e : Numbered). not (has (kept_at (map not marks) k.learned_numbers) e.number)) k.live;
      learned_numbers = kept_at marks k.learned_numbers;
    })
    numbered_kept = record {
      below = still_below k.live gone k.next h.below;
      open_live = all_still k.live gone k.open_numbers h.open_live (λ n o g. h.apart n o (gone_within n g));
      learned_live = All-of (IsLive (without_all k.live gone)) staying
          (λ n m. still_live k.live gone n (All-contains (IsLive k.live) k.learned_numbers n h.learned_live (kept_within marks k.learned_numbers n m))
          (parts_apart marks k.learned_numbers h.learned_ascending n m));
      open_ascending = h.open_ascending;
      learned_ascending = kept_ascending marks k.learned_numbers h.learned_ascending;
      apart = λ n o m. h.apart n o (kept_within marks k.learned_numbers n m);
    }

    pub holds_kept : (base causes learned : List (List ℕ)) → length learned ≡ length marks → Holds k base causes learned → Holds (record k {
      live = filter (λ (e : Numbered). not (has (kept_at (map not marks) k.learned_numbers) e.number)) k.live;
      learned_numbers = kept_at marks k.learned_numbers;
    }) base causes (kept_at marks learned)
    holds_kept base causes learned size w = record {
      base_entries = w.base_entries;
      open_entries = w.open_entries;
      learned_entries = kept_at marks w.learned_entries;
      base_are = w.base_are;
      open_are = w.open_are;
      learned_are = record {
        numbers_are = map-kept_at (λ (e : Numbered). e.number) marks w.learned_entries ∙ ap (kept_at marks) w.learned_are.numbers_are;
        clauses_are = map-kept_at (λ (e : Numbered). e.literals) marks w.learned_entries ∙ ap (kept_at marks) w.learned_are.clauses_are;
      };
      exact = λ x. (to x, from x);
      not_open = w.not_open;
      not_learned = All-of (λ (e : Numbered). ¬ Contains staying e.number) w.base_entries
          (λ x m n. All-contains (λ (e : Numbered). ¬ Contains k.learned_numbers e.number) w.base_entries x w.not_learned m
          (kept_within marks k.learned_numbers x.number n));
    }
      where
        same_size : length w.learned_entries ≡ length marks
        same_size = sym (length-map w.learned_entries (λ (e : Numbered). e.literals)) ∙ (ap length w.learned_are.clauses_are ∙ size)

        -- the numbers of the entries that are forgotten
        number_gone : (x : Numbered) → Contains (kept_at (map not marks) w.learned_entries) x → Contains gone x.number
        number_gone x m = number_in (kept_at (map not marks) w.learned_entries) gone
            (map-kept_at (λ (e : Numbered). e.number) (map not marks) w.learned_entries ∙ ap (kept_at (map not marks)) w.learned_are.numbers_are) x m

        number_stays : (x : Numbered) → Contains (kept_at marks w.learned_entries) x → Contains staying x.number
        number_stays x m = number_in (kept_at marks w.learned_entries) staying
            (map-kept_at (λ (e : Numbered). e.number) marks w.learned_entries ∙ ap (kept_at marks) w.learned_are.numbers_are) x m

        to : (x : Numbered) → Contains (without_all k.live gone) x
            → Contains w.base_entries x ⊎ (Contains w.open_entries x ⊎ Contains (kept_at marks w.learned_entries) x)
        to x m = let (v, out) = was k.live gone x m in elim ((w.exact x).0 v) [
          | inl b ↦ inl b
          | inr o ↦ elim o [
            | inl n ↦ inr (inl n)
            | inr l ↦ elim (in_a_part marks w.learned_entries x same_size l) [
              | inl s ↦ inr (inr s)
              | inr g ↦ absurd (out (number_gone x g))
            ]
          ]
        ]

        from : (x : Numbered) → Contains w.base_entries x ⊎ (Contains w.open_entries x ⊎ Contains (kept_at marks w.learned_entries) x)
            → Contains (without_all k.live gone) x
        from x (inl b) = stays k.live gone x ((w.exact x).1 (inl b))
            (λ g. All-contains (λ (e : Numbered). ¬ Contains k.learned_numbers e.number) w.base_entries x w.not_learned b (gone_within x.number g))
        from x (inr (inl n)) = stays k.live gone x ((w.exact x).1 (inr (inl n)))
            (λ g. h.apart x.number (number_in w.open_entries k.open_numbers w.open_are.numbers_are x n) (gone_within x.number g))
        from x (inr (inr l)) = stays k.live gone x ((w.exact x).1 (inr (inr (kept_within marks w.learned_entries x l))))
            (parts_apart marks k.learned_numbers h.learned_ascending x.number (number_stays x l))
