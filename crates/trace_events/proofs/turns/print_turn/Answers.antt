use Rattle.trace_events.proofs.Common.{subst, ◌∷◌, ℕ, Option, OnOk, Json, part_of, line_part, ThreadTurn, IsEvent, Prints, turn_json, slice_start, thread_turn_of, turn_args, turn_name, on_thread, processor_track, thread_track}
use Rattle.trace_events.proofs.Printing.{prints_shown, prints_text, then_prints}
use Rattle.trace_events.proofs.turns.print_turn.Goals as goal

pub returns-in-Some : goal.returns-in-Some
returns-in-Some g c =
    let entry = c.args.entry.now in
    let event : ℕ → ℕ → Json = λ track start. turn_json (turn_name entry.did) track start entry.at (turn_args c.args.plan.now c.args.processor (part_of c.args.log.now.bytes (line_part entry.did)) entry) in
    let begins : ThreadTurn → ℕ = slice_start c.args.turns.now in
    let of_turn : ThreadTurn → Json = λ turn. event (thread_track turn.thread) (begins turn) in
    let turn = c.in-Some.turn in
    let first = subst (λ (track : ℕ). IsEvent c.in_ok-text.text.items (event track c.args.from)) c.processor_track.ensures c.in_ok-text.ensures in
    let tracked = subst (λ (track : ℕ). IsEvent c.in_ok-text-in-Some.text.items (event track c.slice_start-start.result)) c.thread_track.ensures c.in_ok-text-in-Some.ensures in
    let second = subst (λ (start : ℕ). IsEvent c.in_ok-text-in-Some.text.items (event (thread_track turn.thread) start)) c.slice_start-start.ensures tracked in
    let printed = prints_shown _ _ _ _ _ first c.deref.ensures.value c.in_ok-print_later.ensures in
    let both = then_prints c.print_later-in-Some.result _ _ _ _ _ printed (prints_text c.print_later-in-Some.result _ _ _ _ _ second c.deref-in-Some.ensures.value c.print_later-in-Some.ensures) in
    subst (λ (it : Option ThreadTurn). OnOk c.print_later-in-Some.result (Prints (g.W.Write.contents c.args.out.now) (g.W.Write.contents c.print_later-in-Some.new.out) (event (processor_track c.args.processor) c.args.from ∷ on_thread it of_turn))) {y = thread_turn_of c.args.processor c.args.number c.args.from entry} c.in-Some.ensures both
