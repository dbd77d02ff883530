use Rattle.std.proofs.Common.{◌≡◌, arith, [], ap, ◌∙◌}
use Rattle.proc_chain.specs.Handles.{view_of, me_of}
use Rattle.proc_chain.specs.Own.{View}
use Rattle.serial.specs.Made.{IsMadeBy}
use Rattle.serial.specs.Texts.{collected}
use Rattle.serial.proofs.Closing.{Collected, collected_all, joined_runs, sent_all}
use Rattle.serial.proofs.Ports.{small}
use Rattle.serial.proofs.device.collect.Goals as goal

all : (g : _) (c : goal.In-Ok-close g) → Collected IsMadeBy c.args.first.now c.args.second.now c.in-Ok-close.closed.put c.in-Ok-close.closed.taken c.in-Ok-close.closed.left.items c.in-Ok-close.closed.quaject
all g c =
    let u : View = view_of c.split-other.new.end in
    let none : u.own.runs ≡ [] = (λ i. (c.split-other.ensures.trace.own i).runs) ∙ (λ i. (c.in-Ok.ensures.ok.5 i).own.runs) in
    let born : View = view_of c.split-other.result in
    let none' : born.own.runs ≡ [] = (λ i. (c.split-other.ensures.born i).own.runs) in
    let s = c.join-back.ensures in
    let a = sent_all u (view_of c.join-back.result.0) _ none s.first.1 in
    let b = sent_all born (view_of c.join-back.result.1) _ none' s.second.1 in
    let runs = joined_runs _ (me_of c.join-back.result.0) (me_of c.join-back.result.1) (me_of c.join.new.end) s.second.0.1 c.join.ensures.trace in
    collected_all IsMadeBy _ (view_of c.join-back.result.0) (view_of c.join-back.result.1) (view_of c.join.new.end) c.args.first.now c.args.second.now _ _ _ _ _
    (small c.args.first.now (λ k. let h = c.type_inv.first k in omega arith)) (small c.args.second.now (λ k. let h = c.type_inv.second k in omega arith)) a.0 a.1 b.0 b.1 runs c.in-Ok-close.ensures.closed

pub returns-clause-chained : goal.returns-clause-chained
returns-clause-chained g c = let h = all g c in (h.many, h.all_taken, h.none_left)

pub returns-clause-collected : goal.returns-clause-collected
returns-clause-collected g c = let h = all g c in (h.made_by.0 ∙ ap collected h.hold.0, h.made_by.1 ∙ ap collected h.hold.1)
