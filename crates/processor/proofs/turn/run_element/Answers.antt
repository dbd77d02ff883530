use Rattle.processor.proofs.Common.{◌≡◌, ◌<◌, ◌≤◌, ℕ, true, List, length, ◌++◌, map, rules, sym, ap, ◌∙◌, subst, arith, AllByRecursion, view_of, call_of, StepOutcome, Rescheduled, Parts, is_done, heard_by, is_heard, Key, AreHears, hear_count, program, key_of, IsPast, Goes, is_last, length-map, Heard, shares_still, longest_line, InOrder, count_of, one_more, EndsDid, AreSameParts, RanStep, views}
use Rattle.processor.specs.declared.phases.StepCounted.{StepCounted}
use Rattle.processor.proofs.Keeping.{free_still, parts_still}
use Rattle.processor.proofs.Longest.{heard_within}
use Rattle.processor.proofs.Placing.{queues_worked, chains_worked, seat_worked}
use Rattle.processor.proofs.Rising.{fallen}
use Rattle.processor.proofs.Rooming.{key_in, hears_more, past_more, room_left, keys_more}
use Rattle.processor.proofs.Tallying.{moved_adds, step_adds}
use Rattle.processor.proofs.turn.run_element.Goals as goal

pub keep-requires-clause-room : goal.keep-requires-clause-room
keep-requires-clause-room g c is =
    let plan = c.args.shared.now.plan in
    let heard = c.args.parts.now.heard in
    let r = c.run_step-tried.ensures in
    let had = c.requires.station.room in
    let keys : List Key = map key_of heard.lines in
    let more = hears_more c.args.begun.now.element c.args.begun.now.number plan c.args.step.now c.run_step-tried.result.step_outcome _ (view_of c.args.parts.now.hand) keys c.requires.at_hand.its r.step_outcome c.requires.at_hand.known had.hears had.past in
    let it = subst (λ (z : StepOutcome). is_heard z ≡ true) c.step_outcome.ensures is in
    let left = room_left plan keys c.run_step-tried.result.step_outcome c.args.begun.now.element c.args.begun.now.number more it in
    let long = length-map heard.lines key_of in
    let room = had.room in
    subst (λ (z : Heard). length z.lines < z.room) (sym r.ends.heard) (omega arith)

pub keep-requires-clause-few : goal.keep-requires-clause-few
keep-requires-clause-few g c is =
    let plan = c.args.shared.now.plan in
    let r = c.run_step-tried.ensures in
    let had = c.requires.station.room in
    let text = c.run_step-tried.new.room.line.items in
    let it = subst (λ (z : StepOutcome). is_heard z ≡ true) c.step_outcome.ensures is in
    let short : length text ≤ longest_line plan = heard_within plan c.args.begun.now.element c.args.begun.now.number c.args.step.now c.run_step-tried.result.step_outcome text _ _ c.requires.at_hand.its r.step_outcome r.ends.did.queues it in
    let long : length text ≤ c.args.parts.now.heard.longest = let most = had.longest in omega arith in
    subst (λ (z : Heard). length c.as_slice.result.now ≤ z.longest) (sym r.ends.heard) (subst (λ (z : List ℕ). length z ≤ c.args.parts.now.heard.longest) (sym c.as_slice.ensures.value) long)

pub send_on-requires-clause-held : goal.send_on-requires-clause-held
send_on-requires-clause-held g c =
    (step_adds _ _ c.args.p c.args.begun.now.element _ _ c.args.parts.now.hand c.run_step-tried.new.parts.hand c.requires.at_hand.is_one c.requires.at_hand.held c.requires.station.free c.run_step-tried.ensures.hand).held

pub returns-clause-station : goal.returns-clause-station
returns-clause-station g c =
    let plan = c.args.shared.now.plan in
    let heard = c.args.parts.now.heard in
    let e = c.args.begun.now.element in
    let n = c.args.begun.now.number in
    let r = c.run_step-tried.ensures in
    let s = c.send_on.ensures in
    let had = c.requires.station.room in
    let step_outcome = c.run_step-tried.result.step_outcome in
    let v = view_of c.args.parts.now.hand in
    let u = view_of c.run_step-tried.new.parts.hand in
    let w = view_of c.send_on.new.hand in
    let keys : List Key = map key_of heard.lines in
    let adds = step_adds _ plan c.args.p e step_outcome c.run_step-tried.result.counted c.args.parts.now.hand c.run_step-tried.new.parts.hand c.requires.at_hand.is_one c.requires.at_hand.held c.requires.station.free r.hand in
    let moved = moved_adds (call_of c.run_step-tried.new.parts.hand) step_outcome c.is_last-last.result e c.send_on.result.moved c.run_step-tried.new.parts.hand c.send_on.new.hand c.requires.at_hand.is_one adds.held s.goes in
    let more = hears_more e n plan c.args.step.now step_outcome _ v keys c.requires.at_hand.its r.step_outcome c.requires.at_hand.known had.hears had.past in
    let past = past_more _ _ e n plan step_outcome c.run_step-tried.result.counted v u w keys r.hand adds.number c.requires.at_hand.known c.requires.at_hand.low
    (fallen c.args.parts.now.hand c.run_step-tried.new.parts.hand adds.later) (fallen c.run_step-tried.new.parts.hand c.send_on.new.hand moved.later) had.past in
    let are : map key_of c.keep.new.lines.lines ≡ keys ++ key_in step_outcome e n =
    keys_more c.run_step-tried.new.parts.heard.lines c.keep.new.lines.lines step_outcome e n _
    (subst (λ (z : StepOutcome). c.keep.new.lines.lines ≡ c.run_step-tried.new.parts.heard.lines ++ heard_by z e n c.as_slice.result.now) c.step_outcome.ensures c.keep.ensures.effect) ∙ ap (λ z. map key_of z.lines ++ key_in step_outcome e n) r.ends.heard in
    let sized : c.keep.new.lines.room ≡ heard.room = c.keep.ensures.room ∙ ap (λ z. z.room) r.ends.heard in
    let on = moved.keeps.on ∙ adds.keeps.on in
    let serves = moved.keeps.serves ∙ adds.keeps.serves in
    let same : AreSameParts c.args.parts.now (record c.run_step-tried.new.parts { hand = c.send_on.new.hand; heard = c.keep.new.lines }) = record { hand = search rules; queues = r.ends.same.queues; chains = r.ends.same.chains; meters = r.ends.same.meters } in
    let queues = queues_worked step_outcome _ _ _ r.ends.did.queues in
    let seat = (seat_worked step_outcome _ _ r.ends.did.seat).1 in
    record {
      manned = record {
        parts_are = parts_still c.args.shared.now c.args.parts.now _ c.requires.station.parts_are same r.ends.idle;
        free = free_still c.args.p v w serves on c.requires.station.free;
        room = record {
          room = subst (λ (z : ℕ). hear_count plan ≤ z) (sym sized) had.room;
          longest = subst (λ (z : ℕ). longest_line plan ≤ z) (sym (c.keep.ensures.longest ∙ ap (λ z. z.longest) r.ends.heard)) had.longest;
          hears = subst (AreHears plan) (sym are) more;
          past = subst (AllByRecursion (IsPast w)) (sym are) past;
        };
      };
      same = same;
      serves = serves;
      on = on;
      shares_are = λ i. record {
        queues = shares_still _ _ queues.sound i;
        chains = (chains_worked _ step_outcome _ _ r.ends.did.chains).1 i;
        hand = (moved.keeps.share ∙ adds.keeps.share) i;
        meters = seat.share i;
      };
      seat = seat.parted;
    }

pub returns-clause-ran : goal.returns-clause-ran
returns-clause-ran g c =
    let shared = c.args.shared.now in
    let e = c.args.begun.now.element in
    let n = c.args.begun.now.number in
    let old = c.args.parts.now in
    let tried = c.run_step-tried.result in
    let r = c.run_step-tried.ensures in
    let s = c.send_on.ensures in
    let mid = c.run_step-tried.new.parts in
    let new : Parts = record mid { hand = c.send_on.new.hand; heard = c.keep.new.lines } in
    let sent : Rescheduled = record { tried = tried; moved = c.send_on.result.moved } in
    let line = c.run_step-tried.new.room.line.items in
    let kept = subst (λ (z : StepOutcome). c.keep.new.lines.lines ≡ mid.heard.lines ++ heard_by z e n c.as_slice.result.now) c.step_outcome.ensures c.keep.ensures.effect in
    let bytes = ap (λ (z : List ℕ). mid.heard.lines ++ heard_by tried.step_outcome e n z) c.as_slice.ensures.value in
    let lines = kept ∙ bytes ∙ ap (λ z. z.lines ++ heard_by tried.step_outcome e n line) r.ends.heard in
    let ends : EndsDid shared tried.step_outcome line old new = record { queues = r.ends.did.queues; chains = r.ends.did.chains; seat = r.ends.did.seat } in
    let last : c.is_last-last.result ≡ is_last (is_done tried.step_outcome) n (length (program shared.plan e)) = search rules in
    let goes = subst (λ k. Goes k tried.step_outcome (is_last (is_done tried.step_outcome) n (length (program shared.plan e))) e sent.moved (view_of mid.hand) (view_of new.hand)) r.ends.same.hand.1
    (subst (λ b. Goes (call_of mid.hand) tried.step_outcome b e sent.moved (view_of mid.hand) (view_of new.hand)) last s.goes) in
    subst (λ (z : StepCounted). RanStep shared c.args.p e n (record { tried = z; moved = c.send_on.result.moved }) line old new
    × InOrder (views g.G.Watch.shown g.G.QueueGate-1.at_end g.G.QueueGate-2.at_end g.G.ChainGate.at_chain_end) shared.plan c.args.p (one_more (count_of old.hand)) z.step_outcome line c.args.gate.now c.run_step-tried.new.gate old new)
    (sym s.tried) (
      record {
        step = c.args.step.now;
        is = c.requires.at_hand.its;
        step_outcome = r.step_outcome;
        stepped = mid.hand;
        ran = r.hand;
        goes = goes;
        ends = ends;
        lines = lines;
        signals = r.ends.signals;
      },
      record { queues = r.ends.order.queues; chains = r.ends.order.chains; seat = r.ends.order.seat; points = r.ends.order.points },
    )
