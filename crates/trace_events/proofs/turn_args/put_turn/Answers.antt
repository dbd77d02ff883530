use Rattle.trace_events.proofs.Common.{subst, [], ◌∷◌, List, codes, Named, Writes, list_tokens, numbered, did_args, tick_args, fired_args}
use Rattle.trace_events.proofs.Growing.{grown_join, then_writes, three_listed}
use Rattle.trace_events.proofs.turn_args.put_turn.Goals as goal

pub returns : goal.returns
returns c =
    let entry = c.args.entry.now in
    let first : List Named = numbered (codes "processor") c.args.processor ∷ [] in
    let did = grown_join _ _ _ _ _ c.in_ok-put_number.ensures c.in_ok-put_did.ensures in
    let clock = grown_join _ _ _ _ _ did c.in_ok-put_clock.ensures in
    subst (Writes c.put_fired.result c.args.out.now c.put_fired.new.out) (three_listed (list_tokens first) (did_args c.args.plan.now c.args.line.now entry.did) (tick_args entry.tended) (fired_args entry.fired.len))
    (then_writes c.put_fired.result _ _ _ _ _ clock c.put_fired.ensures)
