use Rattle.proc_chain.proofs.Common.{◌≡◌, ℕ, ◌+◌, ◌-◌, ◌<◌, ◌≤◌, ◌∙◌, [], ◌∷◌, ◌++◌, map, ap, subst, sym, refl, arith, length, get_or, dite, dec_lt, at_map, raise_note, Cell, Positions, change, blank, place_at, item_at, stage_at, with_write, run_stands, raised_below, GatedQueue, IsChainEvent, with_note, with_raise, with_taken, with_gate, part_of, run, head_word, tail_word, gate_word}
use Rattle.table_theory.specs.Seeing.{RunIsIn}
use Rattle.proc_chain.proofs.Becoming.{raise_is}
use Rattle.proc_chain.proofs.Events.{claim_event, raise_event, take_event, won_event, notify_event, round_event, leave_event}
use Rattle.proc_chain.proofs.Finding.{head_says, tail_says, gate_says}
use Rattle.proc_chain.proofs.Lawful.{claim_room, take_up}
use Rattle.proc_chain.proofs.laws.changes_are_events.Goals as goal

pub returns-clause-claimed : goal.returns-clause-claimed
returns-clause-claimed c = λ head note m views seat v w shown r at is own. let here = head_says (change head_word head m (with_note m.object note)) refl r in let x = claim_room head note m r in
    (here, x.2, claim_event m.object views seat v w shown at r.lawful.0 note x.0 x.1 x.2 is (own ∙ (λ i. record v.own { runs = v.own.runs ++ run (here i) note ∷ [] })))

pub returns-clause-raised : goal.returns-clause-raised
returns-clause-raised c = λ position note found number e m views seat v w shown r place at has start some_place is own. let o : GatedQueue = m.object in let q : Positions = o.queue in let p : ℕ = position - q.first in let from = place.from in let there : q.first + p ≡ position = omega arith in
    let blank_there : stage_at q p ≡ 0 = ap (λ (z : Cell). z.stage) place.is in let item : item_at q p ≡ note = ap (λ (z : Cell). z.item) place.is in
    let stands : RunIsIn q e = run_stands q (map part_of views) seat number (part_of v) e shown.listed.lists (at_map part_of views seat v at) has in let st = stands.start in
    let mine : place_at q p ≡ get_or e.places 0 blank = (let same : p ≡ stands.at + 0 = omega arith in ap (place_at q) same) ∙ stands.same 0 some_place in
    let low : (get_or e.places 0 blank).stage < 2 = subst (λ (z : Cell). z.stage < 2) mine (omega arith) in
    let ahead : q.taken ≤ p = dite (dec_lt p q.taken) (λ taken. let up = r.lawful.0.ready p taken in absurd (omega arith)) (λ no. omega arith) in
    let write : with_raise o position note ≡ record o { queue = with_write q p 2 } = (λ i. with_raise o (sym there i) (sym item i)) ∙ raise_is o p in
    let ev = raise_event o views seat v w shown at r.lawful.0 number p e has some_place (omega arith) ahead low (omega arith) (is ∙ write) own in
    (ev.0, subst (λ (z : GatedQueue). IsChainEvent o z views shown seat w (raise_note seat ev.0 0)) (sym write) ev.1, ev.2)

pub returns-clause-taken : goal.returns-clause-taken
returns-clause-taken c = λ tail m views seat v w shown r at runner is own. let up = take_up tail m r in let below : m.object.queue.taken < length m.object.queue.places = raised_below m.object.queue m.object.queue.taken (omega arith) in
    (tail_says (change tail_word tail m (with_taken m.object)) refl r, take_event m.object views seat v w shown at r.lawful.0 runner (omega arith) up is own)

pub returns-clause-notified : goal.returns-clause-notified
returns-clause-notified c = λ gate m views seat v w shown r at owes up is own. notify_event m.object views seat v w shown at r.lawful.0 (λ z. up (gate_says (change gate_word gate m (with_gate m.object 2)) refl r ∙ z)) owes is own

pub returns-clause-won : goal.returns-clause-won
returns-clause-won c = λ m views seat v w shown r at owes is own. won_event m.object views seat v w shown at r.lawful.0 (sym (gate_says (change gate_word 0 m (with_gate m.object 2)) refl r)) owes is own

pub returns-clause-rounded : goal.returns-clause-rounded
returns-clause-rounded c = λ gate m views seat v w shown r at runner is own. round_event m.object views seat v w shown at r.lawful.0 runner is own

pub returns-clause-left : goal.returns-clause-left
returns-clause-left c = λ m views seat v w shown r at runner saw is own. leave_event m.object views seat v w shown at r.lawful.0 (sym (gate_says (change gate_word 1 m (with_gate m.object 0)) refl r)) runner saw is own
