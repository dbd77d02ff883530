use Rattle.boot_script.proofs.Common.{◌<◌, ◌≤◌, ◌∷◌, ◌++◌, ◌+◌, [], sym, ap, ◌∙◌, arith, length, length-append, added, kept_plan}
use Rattle.boot_script.proofs.Drafts.Drawn.{goes_ok, goes_wrong, alarm_fits, alarm_many, with_alarms}
use Rattle.boot_script.proofs.draft.Draft.add_alarm.Goals as goal

pub returns-then-self-ge-MOST_ALARMS : goal.returns-then-self-ge-MOST_ALARMS
unfolding added
returns-then-self-ge-MOST_ALARMS c = λ version d drawn.
    let many : 16 ≤ length d.plan.alarms = omega (arith, c.if-self-ge-MOST_ALARMS.true, drawn.alarms) in
    goes_wrong _ _ _ (alarm_many d.plan.alarms many)

pub returns : goal.returns
unfolding added
returns c = λ version d drawn.
    let few : length d.plan.alarms < 16 = omega (arith, c.if-self-ge-MOST_ALARMS.false, drawn.alarms) in (
      _,
      goes_ok _ _ _ (alarm_fits d.plan.alarms few),
      record {
        names = drawn.names;
        going = drawn.going;
        ttys = drawn.ttys;
        threads = drawn.threads;
        typed = drawn.typed;
        alarms = ap (λ n. n + 1) drawn.alarms ∙ sym (length-append d.plan.alarms (c.args.alarm ∷ []));
        steps = drawn.steps;
        sizes = drawn.sizes;
        plan = λ kept. let k = c.keep-self.ensures kept in
            ap (with_alarms (kept_plan c.args.self.now)) k.1 ∙ ap (λ p. with_alarms p (p.alarms ++ c.args.alarm ∷ [])) (drawn.plan k.0);
      },
    )
