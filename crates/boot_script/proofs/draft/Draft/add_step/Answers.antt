use Rattle.boot_script.proofs.Common.{◌≡◌, ◌<◌, ◌+◌, sym, ap, ◌∙◌, arith, length, slice_index_or, slice_set, length-set, nat_lt, if◌then◌else◌, steps_at, change_at, with_step, kept_plan}
use Rattle.boot_script.proofs.Drafts.Drawn.{goes_ok, step_fits, counts_of_steps, change_length, with_threads}
use Rattle.boot_script.proofs.draft.Draft.add_step.Goals as goal

pub returns : goal.returns
returns c = λ d drawn.
    let threads = d.plan.threads in
    let counts = c.args.self.now.step_counts in
    let at : c.from-at.result ≡ c.args.thread = c.from-at.ensures ∙ c.number.ensures.value in
    let below : c.args.thread < 64 = omega (arith, at, c.from-at.ensures, c.number.ensures.within) in
    let here : slice_index_or counts c.args.thread 0 ≡ length (steps_at threads c.args.thread) = drawn.steps c.args.thread below in
    let few : length (steps_at threads c.args.thread) < 64 = omega (arith, c.if-self-at-ge-MOST_STEPS.false, ap (λ i. slice_index_or counts i 0) at, here) in
    let within : c.args.thread < length counts = omega (arith, below, drawn.sizes.1) in
    let there : nat_lt c.args.thread (length threads) ≡ c.has_thread-there.result =
    ap (λ i. nat_lt i (length threads)) (sym at) ∙ sym (c.has_thread-there.ensures d drawn) in (
      _,
      goes_ok _ _ _ (step_fits _ few),
      record {
        names = drawn.names;
        going = drawn.going;
        ttys = drawn.ttys;
        threads = drawn.threads ∙ sym (change_length (with_step c.args.step) threads c.args.thread);
        typed = drawn.typed;
        alarms = drawn.alarms;
        steps = λ thread h.
            let stored = ap (λ n. slice_index_or (slice_set counts c.from-at.result n) thread 0) c.count_if.ensures in
            stored ∙ (ap (λ i. slice_index_or (slice_set counts i (if c.has_thread-there.result then slice_index_or counts i 0 + 1 else slice_index_or counts i 0)) thread 0) at
            ∙ counts_of_steps c.has_thread-there.result c.args.step threads counts c.args.thread thread there within (drawn.steps thread h) here);
        sizes = (drawn.sizes.0, length-set counts c.from-at.result c.count_if.result ∙ drawn.sizes.1);
        plan = λ kept. let k = c.both-self.ensures kept in
            ap (with_threads (kept_plan c.args.self.now)) (c.step_at-stepped.ensures k.0 ∙ ap (change_at (with_step c.args.step) c.args.self.now.threads.items) at)
            ∙ ap (λ p. with_threads p (change_at (with_step c.args.step) p.threads c.args.thread)) (drawn.plan k.1);
      },
    )
