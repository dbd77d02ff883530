use Rattle.boot_script.proofs.Common.{◌∷◌, ◌++◌, ◌+◌, [], refl, sym, ap, ◌∙◌, Some, length, length-append, count_of, room_of, with_name, added, kept_plan}
use Rattle.boot_data.specs.declared.kind.Kind.TheVariants as kind
use Rattle.boot_script.proofs.Drafts.Drawn.{goes_ok, goes_wrong, count_other, count_same, steps_more, with_threads, element_of, few_threads}
use Rattle.boot_script.proofs.draft.Draft.add_thread.Goals as goal

pub returns-in-Ok : goal.returns-in-Ok
unfolding added
returns-in-Ok c = λ d drawn.
    let names = ap (with_name kind.Thread c.args.name) drawn.names in
    let room = ap (room_of c.args.version kind.Thread) (sym drawn.names) ∙ sym c.in-Ok.ensures.room in (
      _,
      goes_ok _ _ _ room,
      record {
        names = c.in-Ok.ensures.added ∙ names;
        going = element_of c.new-self.result c.count-number.result c.new-self.ensures.known.1 c.new-self.ensures.value (few_threads c.args.version c.args.self.now.names c.count-number.result c.count-number.ensures.count (sym c.in-Ok.ensures.room)) ∙ ap (λ n. Some n) (c.count-number.ensures.count ∙ ap (count_of kind.Thread) drawn.names);
        ttys = count_other kind.Tty kind.Thread c.args.name d.names refl ∙ drawn.ttys;
        threads = count_same kind.Thread c.args.name d.names refl ∙ (ap (λ n. n + 1) drawn.threads ∙ sym (length-append d.plan.threads (record { name = c.args.name; steps = [] } ∷ [])));
        typed = drawn.typed;
        alarms = drawn.alarms;
        steps = λ thread few. drawn.steps thread few ∙ ap length (sym (steps_more d.plan.threads c.args.name thread));
        sizes = drawn.sizes;
        plan = λ kept. let k = c.keep-self.ensures kept in
            ap (with_threads (kept_plan c.args.self.now)) (k.1 ∙ ap (λ t. c.args.self.now.threads.items ++ record { name = c.args.name; steps = t } ∷ []) (c.new-steps.ensures ∙ c.new.ensures.items)) ∙ ap (λ p. with_threads p (p.threads ++ record { name = c.args.name; steps = [] } ∷ [])) (drawn.plan k.0);
      },
    )

pub returns-in-Err : goal.returns-in-Err
unfolding added
returns-in-Err c = λ d drawn. goes_wrong _ _ _ (ap (room_of c.args.version kind.Thread) (sym drawn.names) ∙ sym c.in-Err.ensures.room)
