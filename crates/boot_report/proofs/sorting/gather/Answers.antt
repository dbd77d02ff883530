use Rattle.boot_report.proofs.Common.{◌≡◌, ℕ, ◌+◌, ◌≤◌, ◌++◌, List, length, map, arith, ap, ◌∙◌, sym, subst, drop, numbered, length-append, append-nil, drop_all, AllByRecursion, HeardPlace, Heard, IsPlace, heard_at, place_of}
use Rattle.boot_report.proofs.Numbering.{as_many}
use Rattle.boot_report.proofs.Placing.{places_from, places_first, as_many_places, of_all}
use Rattle.boot_report.proofs.sorting.gather.Goals as goal

pub loop-processor-init : goal.loop-processor-init
loop-processor-init c =
    let all = as_many_places 0 c.args.heard.now in let room = c.requires.room.1 in
    let none = ap length c.requires.room.0 in
    record { items = ap (λ (z : List HeardPlace). z ++ places_from 0 c.args.heard.now) c.requires.room.0; room = omega arith }

pub append-requires : goal.append-requires
append-requires c =
    let p = c.loop-processor.processor in let lines = c.index-heard-processor.result.lines in
    let low = c.loop-processor-test.true in let room = c.loop-processor.invariant.room in
    let first = ap length (places_first p p c.args.heard.now c.index-heard-processor.result (omega arith) c.index-heard-processor.is) in
    let both = length-append (numbered (place_of p) 0 lines) (places_from (p + 1) (drop (p + 1) c.args.heard.now)) in
    let many = as_many (place_of p) 0 lines in
    record { room = omega arith }

-- at the end the list has the places of all
whole : (processors : List Heard) (places : List HeardPlace) (p : ℕ) → length processors ≤ p → places ++ places_from p (drop p processors) ≡ places_from 0 processors → places ≡ places_from 0 processors
whole processors places p past is =
    sym (append-nil places) ∙ ap (λ (z : List Heard). places ++ places_from p z) (sym (drop_all p processors past)) ∙ is

pub returns-clause-places : goal.returns-clause-places
returns-clause-places c =
    let past = c.loop-processor-test.false in
    subst (AllByRecursion (IsPlace c.args.heard.now)) (sym (whole c.args.heard.now c.loop-processor.places.items c.loop-processor.processor (omega arith) c.loop-processor.invariant.items)) (of_all c.args.heard.now).0

pub returns-clause-lines : goal.returns-clause-lines
returns-clause-lines c =
    let past = c.loop-processor-test.false in
    ap (map (heard_at c.args.heard.now)) (whole c.args.heard.now c.loop-processor.places.items c.loop-processor.processor (omega arith) c.loop-processor.invariant.items) ∙ (of_all c.args.heard.now).1
