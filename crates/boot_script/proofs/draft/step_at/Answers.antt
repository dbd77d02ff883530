use Rattle.boot_script.proofs.Common.{◌≡◌, ◌<◌, ◌≤◌, sym, ap, ◌∙◌, arith, length, PlannedThread, with_step}
use Rattle.boot_script.proofs.Drafts.Drawn.{change_set, change_past, on_ok}
use Rattle.boot_script.proofs.draft.step_at.Goals as goal

pub returns-then-thread-as_slice : goal.returns-then-thread-as_slice
returns-then-thread-as_slice c = λ done.
    let threads = c.args.threads.now.items in
    let old : PlannedThread = c.index_mut.result.now in
    let within : c.args.thread < length threads = omega (arith, c.if-thread-as_slice.true, ap length c.as_slice.ensures.value) in
    let steps = on_ok c.push.result (sym c.is_ok.ensures.value ∙ done) c.push.ensures.pushed in
    let new : PlannedThread = record { name = old.name; steps = c.push.new.self } in
    let changed : new ≡ with_step c.args.step old = ap {B = PlannedThread} (λ s. record { name = old.name; steps = s }) steps in
    change_set (with_step c.args.step) threads c.args.thread new old within (changed ∙ ap (with_step c.args.step) c.index_mut.ensures.value)

pub returns-else-thread-as_slice : goal.returns-else-thread-as_slice
returns-else-thread-as_slice c = λ done.
    let threads = c.args.threads.now.items in
    let past : length threads ≤ c.args.thread = omega (arith, c.if-thread-as_slice.false, ap length c.as_slice.ensures.value) in
    sym (change_past (with_step c.args.step) threads c.args.thread past)
