use Rattle.boot_picture.proofs.Common.{◌≤◌, ◌<◌, ◌+◌, ◌-◌, ◌∙◌, ℕ, ⊎_elim, ap, arith, sym, cases_lt, slice_get, ended}
use Rattle.boot_picture.proofs.order.last_time_of.Goals as goal

pub returns : goal.returns
returns c =
    let block = c.args.ordered.now.block in
    let track = slice_get c.args.tracks.now c.args.ordered.now.processor in
    let n : ℕ = block.first + block.turns - 1 in
    let end = c.saturating_add-end.ensures in
    let last = c.saturating_sub.ensures in
    ⊎_elim (λ (past : 18446744073709551615 < block.first + block.turns).
    c.ended.ensures.time ∙ (c.ended.ensures.past c.saturating_sub.result (omega arith) ∙ sym (c.ended.ensures.past n (omega arith))))
    (λ (fits : block.first + block.turns ≤ 18446744073709551615).
    c.ended.ensures.time ∙ ap (λ (turn : ℕ). ended track turn) (omega arith))
    (cases_lt 18446744073709551615 (block.first + block.turns))
