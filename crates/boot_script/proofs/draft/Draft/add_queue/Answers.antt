use Rattle.boot_script.proofs.Common.{◌∷◌, ◌++◌, [], refl, sym, ap, ◌∙◌, room_of, with_name, added, kept_plan}
use Rattle.boot_data.specs.declared.kind.Kind.TheVariants as kind
use Rattle.boot_script.proofs.Drafts.Drawn.{goes_ok, goes_wrong, count_other, with_queues}
use Rattle.boot_script.proofs.draft.Draft.add_queue.Goals as goal

pub returns-in-Ok : goal.returns-in-Ok
unfolding added
returns-in-Ok c = λ d drawn.
    let names = ap (with_name kind.Queue c.args.queue.name) drawn.names in
    let room = ap (room_of c.args.version kind.Queue) (sym drawn.names) ∙ sym c.in-Ok.ensures.room in (
      _,
      goes_ok _ _ _ room,
      record {
        names = c.in-Ok.ensures.added ∙ names;
        going = drawn.going;
        ttys = count_other kind.Tty kind.Queue c.args.queue.name d.names refl ∙ drawn.ttys;
        threads = count_other kind.Thread kind.Queue c.args.queue.name d.names refl ∙ drawn.threads;
        typed = drawn.typed;
        alarms = drawn.alarms;
        steps = drawn.steps;
        sizes = drawn.sizes;
        plan = λ kept. let k = c.keep-self.ensures kept in
            ap (with_queues (kept_plan c.args.self.now)) k.1 ∙ ap (λ p. with_queues p (p.queues ++ c.args.queue ∷ [])) (drawn.plan k.0);
      },
    )

pub returns-in-Err : goal.returns-in-Err
unfolding added
returns-in-Err c = λ d drawn. goes_wrong _ _ _ (ap (room_of c.args.version kind.Queue) (sym drawn.names) ∙ sym c.in-Err.ensures.room)
