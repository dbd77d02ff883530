use Rattle.thread_table.proofs.Common.{rules, ◌≡◌, replicate, sym, subst, arith, merely, WORDS, Shape, View, newcomer, IsValidHandView}
use Rattle.thread_table.proofs.Hands.OnlyLoads.{valid_first}
use Rattle.thread_table.proofs.Shown.Laying.{zeros_open}
use Rattle.thread_table.proofs.hand.ThreadTable.new_at.Goals as goal

pub of_words-requires : goal.of_words-requires
of_words-requires c = let zs : c.as_mut_slice-row.result.now ≡ replicate WORDS 0 = search rules in
    zeros_open (record { first = c.args.first }) WORDS c.as_mut_slice-row.result.now c.lay_rings.new.words c.lay_free.new.words (let bounded = c.requires in omega arith) (omega arith) zs c.lay_rings.ensures c.lay_free.ensures

pub invariant_of-hand-clause-valid : goal.invariant_of-hand-clause-valid
invariant_of-hand-clause-valid c = let key : Shape = record { first = c.args.first } in let is : c.in_ok-table.seat.me.0 ≡ newcomer key = search rules in
    subst (λ (v : View). ∥ IsValidHandView v ∥₁) (sym is) (merely (valid_first key))
