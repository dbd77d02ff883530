use Rattle.batch_queue.proofs.Common.{List, ap, arith, get_or, inl, inr, length, mark_word, subst, sym, ℕ, ◌+◌, ◌-◌, ◌/◌, ◌<◌, ◌∙◌, ◌≡◌}
use Rattle.std.specs.Mem.Slots.{slots_items}
use Rattle.table_theory.proofs.Reading.{read_length, read_word}
use Rattle.batch_queue.specs.Lefts.{items_left, mark_left}
use Rattle.batch_queue.specs.Walks.{LeadsOn}
use Rattle.batch_queue.proofs.left.LeftItems.published_from.Goals as goal

pub returns-then-index-self : goal.returns-then-index-self
returns-then-index-self c = let t = c.if-index-self.true in let left = c.args.self.now in let long : length (items_left left) ≡ left.count = read_length _ left.start left.count in inl (omega arith)

pub returns-then-not-leads_on : goal.returns-then-not-leads_on
returns-then-not-leads_on c = let left = c.args.self.now in let words : List ℕ = slots_items left.closed.words in
    let is : mark_left left c.args.index ≡ c.word-mark.result = ap (λ (z : ℕ). get_or words z 0) (sym c.mark_word.ensures) ∙ read_word words c.mark_word.result c.word-mark.result c.word-mark.ensures in
    inr (λ e h. c.if-not-leads_on.ensures (subst (LeadsOn 0 (left.start + c.args.index)) is h.0))

pub returns : goal.returns
returns c = let left = c.args.self.now in let words : List ℕ = slots_items left.closed.words in let f = c.if-index-self.false in let on = c.if-not-leads_on.ensures in let past = on.1 in
    let is : mark_left left c.args.index ≡ c.word-mark.result = ap (λ (z : ℕ). get_or words z 0) (sym c.mark_word.ensures) ∙ read_word words c.mark_word.result c.word-mark.result c.word-mark.ensures in
    let long : length (items_left left) ≡ left.count = read_length _ left.start left.count in let end : left.start + (c.word-mark.result / 2 - left.start) ≡ c.word-mark.result / 2 = omega arith in
    (omega arith, (subst (LeadsOn 0 (left.start + c.args.index)) (sym is) on, end ∙ ap (λ (z : ℕ). z / 2) (sym is)))
