use Rattle.quajects.proofs.Common.{rules, ◌≡◌, [], false, length, ◌<◌, ap, ◌∙◌, cooked}
use Rattle.quajects.proofs.Cooks.{no_items, cooked_more, nothing_held, nothing_held_if, some_taken, cooked_some, not_in, as_not_in, cooked_raw}
use Rattle.quajects.proofs.terminal.CookedTty.refill.Goals as goal

pub invariant_of-self-2 : goal.invariant_of-self-2
invariant_of-self-2 c =
    let h = c.if-not-is_empty.false in let t = c.if-not-try_line.false in let tty = c.args.self.now in
    let none : tty.held.items ≡ [] = search (rules, no_items) in
    let some : 0 < length c.try_line.new.line.items = search (rules, some_taken) in
    let is : c.cooked_line-self.result.items ≡ cooked c.try_line.new.line.items = c.cooked_line-self.ensures ∙ ap cooked c.as_slice.ensures.value in
    let out : tty.in_line ≡ false = not_in tty.in_line tty.held.items none tty.full in
    record {
      lines = as_not_in tty.in_line _ _ _ out (cooked_more _ _ _ _ _ (nothing_held_if _ _ _ _ none tty.lines) c.try_line.ensures.effect some is);
      screens = cooked_more _ _ _ _ _ (nothing_held _ _ _ none tty.screens) c.try_line.ensures.effect some is;
      full = λ e. cooked_some c.try_line.new.line.items _ is;
    }

pub returns-clause-tried : goal.returns-clause-tried
returns-clause-tried c =
    let h = c.if-not-is_empty.false in
    let none : c.args.self.now.held.items ≡ [] = search (rules, no_items) in
    cooked_raw _ _ _ _ c.try_line.new.line.items c.try_line.result none c.if-not-try_line.false (c.cooked_line-self.ensures ∙ ap cooked c.as_slice.ensures.value) c.try_line.ensures.tried
