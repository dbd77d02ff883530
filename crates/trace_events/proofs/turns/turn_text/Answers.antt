use Rattle.trace_events.proofs.Common.{◌≡◌, subst, ap, ◌∙◌, List, ℕ, IfOk, arith, IsEvent, turn_json, turn_args, part_of, line_part}
use Rattle.trace_events.proofs.Flat.{turn_depth, turn_flat}
use Rattle.trace_events.proofs.Growing.{alone_join, ended_text, turn_closed}
use Rattle.trace_events.proofs.turns.turn_text.Goals as goal

pub returns : goal.returns
returns c =
    let entry = c.args.entry.now in
    let plan = c.args.plan.now in
    let name = c.turn_name.result.now in
    let line = c.line-line.result.now in
    let args = turn_args plan c.args.processor line entry in
    let part : line ≡ part_of c.args.log.now.bytes (line_part entry.did) = c.line-line.ensures ∙ ap (part_of c.args.log.now.bytes) c.line.ensures in
    let opened = alone_join _ _ _ _ c.in_ok-out.ensures c.in_ok-put_turn.ensures in
    let text = ended_text c.end_args.result _ _ (turn_json name c.args.track c.args.from entry.at args) opened c.end_args.ensures
    (turn_closed name c.args.track c.args.from entry.at args) (omega (arith, turn_depth name c.args.track c.args.from entry.at args (turn_flat plan c.args.processor line entry))) in
    subst (λ (n : List ℕ). IfOk c.end_args.result (λ text. IsEvent text.items (turn_json n c.args.track c.args.from entry.at (turn_args plan c.args.processor (part_of c.args.log.now.bytes (line_part entry.did)) entry)))) c.turn_name.ensures
    (subst (λ (l : List ℕ). IfOk c.end_args.result (λ text. IsEvent text.items (turn_json name c.args.track c.args.from entry.at (turn_args plan c.args.processor l entry)))) part text)
