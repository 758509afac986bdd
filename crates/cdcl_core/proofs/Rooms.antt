-- An arena with more room has the same clauses, and a search goes on over it.
use Rattle.std.proofs.Common.{◌≡◌, ℕ, List, sym, subst}
use Rattle.clause_arena.specs.State.{State as Arena, HeldClause, Holds}
use Rattle.cdcl_trail.specs.State.{State as Trail}
use Rattle.clause_learning.specs.Searching.{Searched, IsSearching}
use Rattle.clause_learning.specs.Lessons.{IsLesson}
use Rattle.cdcl_core.specs.Seeking.{Seeks}

same_arena : (v w s : ℕ) (xs ys : List HeldClause) → v ≡ w → xs ≡ ys
    → record { variables = v; live = xs; spare = s } ≡ (let a : Arena = record { variables = w; live = ys; spare = s } in a)
same_arena v w s xs ys e f = cc

-- only the spare number differs
room_is : (arena roomy : Arena) → Holds arena roomy arena.live → roomy ≡ record arena { spare = roomy.spare }
room_is arena roomy holds = same_arena roomy.variables arena.variables roomy.spare roomy.live arena.live holds.variables holds.live

with_spare : (trail : Trail) (arena : Arena) (n : ℕ) → IsSearching trail arena → IsSearching trail (record arena { spare = n })
with_spare trail arena n s = record {
  fits = record {
    same_variables = s.fits.same_variables;
    consistent = s.fits.consistent;
    reasons = s.fits.reasons;
    few = s.fits.few;
    settled = s.fits.settled;
    pending = s.fits.pending;
  };
  proper = s.proper;
  separates = s.separates;
  searched = record {
    in_focus = s.searched.in_focus;
    up_to = s.searched.up_to;
    ascending = s.searched.ascending;
    guesses = s.searched.guesses;
    units = s.searched.units;
    closed = s.searched.closed;
  };
}

pub IsSearching-room : (trail : Trail) (arena roomy : Arena) → Holds arena roomy arena.live → IsSearching trail arena → IsSearching trail roomy
IsSearching-room trail arena roomy holds s = subst (IsSearching trail) (sym (room_is arena roomy holds)) (with_spare trail arena roomy.spare s)

pub IsLesson-room : (trail : Trail) (arena roomy : Arena) (clause : List ℕ) (asserting back : ℕ) → Holds arena roomy arena.live
    → IsLesson (Searched trail arena) trail clause asserting back
    → IsLesson (Searched trail roomy) trail clause asserting back
IsLesson-room trail arena roomy clause asserting back holds h =
    subst (λ (a : Arena). IsLesson (Searched trail a) trail clause asserting back) (sym (room_is arena roomy holds)) h

pub Seeks-room : (assume : List ℕ) (trail : Trail) (arena roomy : Arena) (assumed : ℕ) → Holds arena roomy arena.live → Seeks assume trail arena assumed
    → Seeks assume trail roomy assumed
Seeks-room assume trail arena roomy assumed holds s =
    subst (λ (a : Arena). Seeks assume trail a assumed) (sym (room_is arena roomy holds)) (record {
      searching = with_spare trail arena roomy.spare s.searching;
      stand = s.stand;
      counted = s.counted;
      in_range = s.in_range;
      inside = s.inside;
      reached = s.reached;
      given = s.given;
      sought = s.sought;
      known = s.known;
    })
