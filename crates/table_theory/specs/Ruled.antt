-- An end whose last step was made under its table's rule.
use Rattle.std.specs.Prelude.{◌≡◌, ℕ}
use mathlib.Core.Option.{some}
use lib.ListN.{get_elem?}
use Rattle.atomic_table.specs.Table.{State}
use Rattle.table_theory.specs.declared.views.EndState.{EndState}
use Rattle.table_theory.specs.declared.views.AbsState.{AbsState}

-- The end's last step was made in a state in which the rule held and the end has this view. The end saw the object as
-- the rule has it
pub record InvHolds {Key S K O : Type 0} (Rule : Key → State S (EndState K O) → Type 0)
    (now : (key : Key) (state : State S (EndState K O)) → Rule key state → AbsState O) (v : EndState K O) : Type 0 where
  pub key : Key
  pub state : State S (EndState K O)
  pub rule : Rule key state
  pub number : ℕ
  pub here : get_elem? state.views number ≡ some v
  pub seen : v.seen ≡ now key state rule
