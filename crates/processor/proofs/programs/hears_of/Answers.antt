use Rattle.processor.proofs.Common.{ap, subst, ◌∙◌, ◌≡◌, ◌<◌, List, length, arith, get_or, count_by, PlannedThread, is_hear, hears_in, sum_by_more_le, sum_by-take-le}
use Rattle.processor.proofs.Hearing.{few_hears}
use Rattle.processor.proofs.programs.hears_of.Goals as goal

pub overflow_add-hears : goal.overflow_add-hears
overflow_add-hears c =
    let threads : List PlannedThread = c.args.plan.now.threads in
    let at = c.loop-thread.thread-index in
    let thread = c.thread-item.result in
    let items = c.as_slice-thread-items.ensures in
    let inside : at < length threads = subst (λ (z : List PlannedThread). at < length z) items c.loop-thread-test.true in
    let more = sum_by_more_le hears_in threads at thread inside in
    let is : thread ≡ get_or threads at thread = subst (λ (z : List PlannedThread). thread ≡ get_or z at thread) items c.thread-item.is in
    let this : c.hears_in-hears.result ≡ hears_in (get_or threads at thread) = c.hears_in-hears.ensures ∙ ap (count_by is_hear) c.as_slice.ensures ∙ ap hears_in is in
    omega (arith, c.loop-thread.invariant, more, this, few_hears c.args.plan.now)

pub returns-clause-few : goal.returns-clause-few
returns-clause-few c =
    let plan = c.args.plan.now in
    omega (arith, c.loop-thread.invariant, sum_by-take-le hears_in plan.threads c.loop-thread.thread-index, few_hears plan)
