use Rattle.boot_script.proofs.Common.{◌≡◌, ◌<◌, ◌≤◌, ◌+◌, sym, ap, ◌∙◌, arith, length, PlannedTty, typed_at, with_text}
use Rattle.boot_script.proofs.Drafts.Drawn.{change_set, change_past, typed_is}
use Rattle.boot_script.proofs.draft.type_at.Goals as goal

pub returns-then-tty-as_slice : goal.returns-then-tty-as_slice
returns-then-tty-as_slice c = λ room.
    let ttys = c.args.ttys.now.items in
    let old : PlannedTty = c.index_mut.result.now in
    let within : c.args.tty < length ttys = omega (arith, c.if-tty-as_slice.true, ap length c.as_slice.ensures.value) in
    let here : typed_at ttys c.args.tty ≡ old.typed = typed_is ttys c.args.tty old within ∙ ap (λ (t : PlannedTty). t.typed) (sym c.index_mut.ensures.value) in
    let fits : length old.typed + length c.args.text.now ≤ 1024 = omega (arith, room, ap length here) in
    let typed = c.append.ensures.appended (c.append.ensures.room.1 fits) in
    let new : PlannedTty = record { name = old.name; typed = c.append.new.self } in
    let changed : new ≡ with_text c.args.text.now old = ap {B = PlannedTty} (λ t. record { name = old.name; typed = t }) typed in
    change_set (with_text c.args.text.now) ttys c.args.tty new old within (changed ∙ ap (with_text c.args.text.now) c.index_mut.ensures.value)

pub returns-else-tty-as_slice : goal.returns-else-tty-as_slice
returns-else-tty-as_slice c = λ room.
    let ttys = c.args.ttys.now.items in
    let past : length ttys ≤ c.args.tty = omega (arith, c.if-tty-as_slice.false, ap length c.as_slice.ensures.value) in
    sym (change_past (with_text c.args.text.now) ttys c.args.tty past)
