use Rattle.bindings.proofs.Calls.{◌≡◌, ◌≤◌, ◌-◌, ◌∙◌, ℕ, List, sym, ap, subst, arith, length, take}
use Rattle.batch_queue.specs.Closings.{ClosedNow}
use Rattle.batch_queue.specs.Lefts.{items_left}
use Rattle.bindings.specs.BatchHeld.{view_of, room_of}
use Rattle.bindings.proofs.BatchEnds.{left_within}
use Rattle.bindings.proofs.Publishing.{all_copied, all_of, counted}
use Rattle.bindings.proofs.batch.closing.close_queue.Goals as goal

pub copy_left-left-requires : goal.copy_left-left-requires
copy_left-left-requires c = let d = c.in-Ok.closed in
    let small = left_within c.args.queue c.args.end d.put d.taken (items_left d.left) c.requires.queue c.in-Ok.ensures.effect in let room = c.requires.buffer in omega arith

pub returns : goal.returns
returns c = let d = c.in-Ok.closed in let l = c.copy_left-left in let e = c.in-Ok.ensures.effect in let n : ℕ = length (items_left d.left) in
    let small = left_within c.args.queue c.args.end d.put d.taken (items_left d.left) c.requires.queue e in let room = c.requires.buffer in
    let all : take l.result l.new.out ≡ items_left d.left = all_copied d.left n (take l.result l.new.out) c.in-Ok.ensures.published l.ensures.copied ∙ all_of (items_left d.left) in
    let number = l.ensures.number in let long = l.ensures.rest.1 in let many : l.result ≡ n = counted l.result l.new.out (items_left d.left) (omega arith) all in
    let fits : l.result ≤ room_of c.args.queue = omega arith in let len = c.len.ensures in
    (fits, l.ensures.rest, subst (ClosedNow (view_of c.args.end) d.put d.taken) (sym all) e, (let none : c.len.result - l.result ≡ 0 = omega arith in none))
