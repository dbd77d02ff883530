use Rattle.boot_threads.proofs.Common.{◌-◌, ℕ, subst, ◌∙◌, range_with_len, claims, Moved, call_of, view_of}
use Rattle.boot_threads.proofs.Handling.{prepared}
use Rattle.boot_threads.proofs.elements.prepare.Goals as goal

pub returns-clause-prepared : goal.returns-clause-prepared
returns-clause-prepared g c =
    let a = c.take_all.new.hand in let b = c.put_all.new.hand in let d = c.put_all-2.new.hand in
    let taken = c.take_all.ensures.handle.1 in
    prepared (call_of c.args.hand) c.args.count (view_of c.args.hand) (view_of a) (view_of b) (view_of d) c.requires.most c.take_all.ensures.took
    (subst (λ (z : ℕ). Moved (claims z 0 (range_with_len 0 (c.args.count - 0))) (view_of a) (view_of b)) taken c.put_all.ensures.moved)
    (subst (λ (z : ℕ). Moved (claims z 1 (range_with_len c.args.count (64 - c.args.count))) (view_of b) (view_of d)) (c.put_all.ensures.handle.1 ∙ taken) c.put_all-2.ensures.moved) c.put_all-2.ensures.holds
