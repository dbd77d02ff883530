use Rattle.batch_queue.proofs.Common.{List, ap, arith, get_or, mod-lt, sym, ℕ, ◌%◌, ◌+◌, ◌<◌, ◌∙◌, ◌≡◌}
use Rattle.std.specs.Prelude.{Some}
use Rattle.std.specs.Mem.Slots.{slots_items, slots_counts}
use Rattle.atomic_table.proofs.Lists.{at_index}
use Rattle.table_theory.proofs.Reading.{read_word}
use Rattle.batch_queue.proofs.Settling.{read_get, read_none}
use Rattle.batch_queue.proofs.left.LeftItems.get.Goals as goal

pub returns-then-index-self : goal.returns-then-index-self
returns-then-index-self c = let t = c.if-index-self.true in let left = c.args.self.now in sym (read_none left.room (slots_items left.closed.slots) left.start left.count c.args.index (omega arith))

pub returns : goal.returns
returns c = let f = c.if-index-self.false in let left = c.args.self.now in let slots : List ℕ = slots_items left.closed.slots in let p : ℕ = left.start + c.args.index in let long = (slots_counts left.closed.slots).0 in let full = left.full.1 in
    let near : p % left.room < left.room = mod-lt p left.sized.0 in let at = c.place-slot.ensures in
    let is : get_or slots (p % left.room) 0 ≡ c.get.result.now = ap (λ (z : ℕ). get_or slots z 0) (sym at) ∙ read_word slots c.place-slot.result c.get.result.now (at_index slots c.place-slot.result c.get.result.now (omega arith) c.get.ensures) in
    sym (read_get left.room slots left.start left.count c.args.index (omega arith) ∙ ap Some is)
