-- Ends under their table's rule: after a step, after a split, and what their lists state.
use Rattle.table_theory.proofs.Common.{◌≡◌, ℕ, List, [], ◌∷◌, ◌++◌, length, set, refl, ◌∙◌, some, get_elem?, AbsState, EndState, ObjectModel, Step, TableInv, IsValidView, IsValidStep, Performed, at_last, at_longer, set_here}
use mathlib.Core.Option.{Option}
use Rattle.atomic_table.specs.Table.{State, Splits}
use Rattle.table_theory.specs.Ruled.{InvHolds}
use Rattle.table_theory.proofs.Owned.{at_below}
use Rattle.table_theory.proofs.Reaching.{entries_real}
use Rattle.table_theory.proofs.Stepping as ends

module _ {Key S K O : Type 0} (Rule : Key → State S (EndState K O) → Type 0) (now : (key : Key) (state : State S (EndState K O)) → Rule key state → AbsState O) where
  abbrev Ruled : EndState K O → Type 0
  Ruled v = InvHolds Rule now v

  -- the end is under the rule that is kept by its step
  pub ruled_now : (key : Key) (words : List ℕ) (homes : List (Option S)) (s : State S (EndState K O)) (id : ℕ) (v w : EndState K O) → get_elem? s.views id ≡ some v
      → (r : Rule key record { words = words; homes = homes; views = set s.views id w }) × (w.seen ≡ now key record { words = words; homes = homes; views = set s.views id w } r) → Ruled w
  ruled_now key words homes s id v w at r = record { key = key; state = record { words = words; homes = homes; views = set s.views id w }; rule = r.0; number = id; here = set_here s.views id w (at_below s.views id v at); seen = r.1 }

  -- both ends of a split, which have seen what the end had seen, are under the rule, which leaves the object as it is
  module _ (v rest born : EndState K O) (splits : (key : Key) (id : ℕ) → Splits (Rule key) id v rest born)
      (still : (key : Key) (id : ℕ) (s : State S (EndState K O)) (k : Rule key s) (at : get_elem? s.views id ≡ some v) → now key s k ≡ now key record { words = s.words; homes = s.homes; views = set s.views id rest ++ born ∷ [] } (splits key id s k at))
      (r : Ruled v) where
    abbrev left : List (EndState K O)
    left = set r.state.views r.number rest

    parted : (w : EndState K O) (number : ℕ) → get_elem? (left ++ born ∷ []) number ≡ some w → w.seen ≡ v.seen → Ruled w
    parted w number here seen = record {
      key = r.key;
      state = record { words = r.state.words; homes = r.state.homes; views = left ++ born ∷ [] };
      rule = splits r.key r.number r.state r.rule r.here;
      number = number;
      here = here;
      seen = seen ∙ (r.seen ∙ still r.key r.number r.state r.rule r.here);
    }

    pub rest_ruled : rest.seen ≡ v.seen → Ruled rest
    rest_ruled same = parted rest r.number (at_longer left (born ∷ []) r.number rest (set_here r.state.views r.number rest (at_below r.state.views r.number v r.here))) same

    pub born_ruled : born.seen ≡ v.seen → Ruled born
    born_ruled same = parted born (length left) (at_last left born (length left) refl) same

  -- what the end lists under the rule is true, as is the entry of its last step
  module _ {T : ObjectModel O} {nothing : K} {first : Key → O} (stands : (key : Key) (s : State S (EndState K O)) (k : Rule key s) → TableInv T nothing (first key) (now key s k) s.words s.views) where
    pub honest : (v : EndState K O) → Ruled v → IsValidView T v
    honest v r = ends.honest (stands r.key r.state r.rule) r.number v r.here

    pub step_real : (v w : EndState K O) (e : Step O) (own : K) → Ruled w → Performed v (e ∷ []) own w → IsValidStep T e
    step_real v w e own ruled made = (entries_real T v w (e ∷ []) (honest w ruled) made.adds).0
