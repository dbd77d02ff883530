use Rattle.trace_events.proofs.Common.{sym, ThreadTurn}
use Rattle.trace_events.proofs.Starts.{end_of_last, none_before}
use Rattle.trace_events.proofs.tracks.last_end.Goals as goal

-- what an index past the end of the list would give
abbrev nothing : ThreadTurn
nothing = record { thread = 0; processor = 0; number = 0; began = 0; ended = 0 }

pub returns-then-count-eq0 : goal.returns-then-count-eq0
returns-then-count-eq0 c = sym (none_before c.args.sorted.now c.args.turn.now c.count_before-count.result c.count_before-count.ensures.parted c.if-count-eq0.true)

pub returns-then-last-turn : goal.returns-then-last-turn
returns-then-last-turn c =
    let parted = c.count_before-count.ensures.parted in
    let ends = end_of_last c.args.sorted.now c.args.turn.now nothing c.count_before-count.result c.requires c.if-count-eq0.false c.count_before-count.ensures.known parted in
    sym (ends.0 c.if-last-turn.true)

pub returns-else-last-turn : goal.returns-else-last-turn
returns-else-last-turn c =
    let parted = c.count_before-count.ensures.parted in
    let ends = end_of_last c.args.sorted.now c.args.turn.now nothing c.count_before-count.result c.requires c.if-count-eq0.false c.count_before-count.ensures.known parted in
    sym (ends.1 c.if-last-turn.false)
