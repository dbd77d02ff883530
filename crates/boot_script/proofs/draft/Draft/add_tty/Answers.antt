use Rattle.boot_script.proofs.Common.{◌∷◌, ◌++◌, ◌+◌, [], refl, sym, ap, ◌∙◌, length, length-append, room_of, with_name, added, kept_plan}
use Rattle.boot_data.specs.declared.kind.Kind.TheVariants as kind
use Rattle.boot_script.proofs.Drafts.Drawn.{goes_ok, goes_wrong, count_other, count_same, typed_more, with_ttys}
use Rattle.boot_script.proofs.draft.Draft.add_tty.Goals as goal

pub returns-in-Ok : goal.returns-in-Ok
unfolding added
returns-in-Ok c = λ d drawn.
    let names = ap (with_name kind.Tty c.args.name) drawn.names in
    let room = ap (room_of c.args.version kind.Tty) (sym drawn.names) ∙ sym c.in-Ok.ensures.room in (
      _,
      goes_ok _ _ _ room,
      record {
        names = c.in-Ok.ensures.added ∙ names;
        going = drawn.going;
        ttys = count_same kind.Tty c.args.name d.names refl ∙ (ap (λ n. n + 1) drawn.ttys ∙ sym (length-append d.plan.ttys (record { name = c.args.name; typed = [] } ∷ [])));
        threads = count_other kind.Thread kind.Tty c.args.name d.names refl ∙ drawn.threads;
        typed = λ tty few. drawn.typed tty few ∙ ap length (sym (typed_more d.plan.ttys c.args.name tty));
        alarms = drawn.alarms;
        steps = drawn.steps;
        sizes = drawn.sizes;
        plan = λ kept. let k = c.keep-self.ensures kept in
            ap (with_ttys (kept_plan c.args.self.now)) (k.1 ∙ ap (λ t. c.args.self.now.ttys.items ++ record { name = c.args.name; typed = t } ∷ []) c.new-typed.ensures) ∙ ap (λ p. with_ttys p (p.ttys ++ record { name = c.args.name; typed = [] } ∷ [])) (drawn.plan k.0);
      },
    )

pub returns-in-Err : goal.returns-in-Err
unfolding added
returns-in-Err c = λ d drawn. goes_wrong _ _ _ (ap (room_of c.args.version kind.Tty) (sym drawn.names) ∙ sym c.in-Err.ensures.room)
