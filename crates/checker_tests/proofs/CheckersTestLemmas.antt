-- The clauses that tests add.
use Rattle.std.proofs.Common.{◌≡◌, ℕ, List, sym, subst, refl}
use Rattle.std.proofs.lemmas.List.Quantifiers.{Any-push}
use Rattle.rup_check.specs.State.{Numbered, State, IsLive, with_clause}

-- the clause that was added last is live
pub newest_is_live : (old new : State) (clause : List ℕ) → new ≡ with_clause old clause → IsLive new.live old.next
newest_is_live old new clause is =
    subst (λ (s : State). IsLive s.live old.next) (sym is)
    (Any-push (λ (entry : Numbered). entry.number ≡ old.next) old.live (record { number = old.next; literals = clause }) refl)
