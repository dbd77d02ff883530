use Rattle.std.proofs.Common.{◌≡◌, inr, ◌∙◌, ◌-◌, ◌≤◌, length, length-append, length-take, take, arith}
use borrow.Rule.Slice.PartMut.{same_len_mid, take_put}
use Rattle.boot_script.proofs.Input.Calling.{more_read, interrupted, called_most}
use Rattle.boot_script.proofs.Input.Filled.{consumes_join, consumes_nothing, filled_more, events_of_read, plan_of_read}
use Rattle.boot_script.proofs.reading.read_script.Goals as goal
use Rattle.boot_script.proofs.reading.read_script.Goals.{in-Ok+else-filled-gt-MOST_BYTES, in-Err+else-ne}

pub loop-preserved : goal.loop-preserved
loop-preserved g c =
    let within : c.loop.filled ≤ length c.loop.buffer = omega (arith, c.loop.invariant.short, c.loop.invariant.sized) in
    let front : length (take c.loop.filled c.loop.buffer) ≡ c.loop.filled = omega (arith, length-take c.loop.filled c.loop.buffer) in
    let room = length c.loop.buffer - c.loop.filled in
    elim c.match-ask.branch [
      | in-Ok+else-filled-gt-MOST_BYTES w ↦ record {
        bytes = rw (w.filled-is, filled_more (take c.loop.filled c.loop.buffer) c.ask.new.buf _ c.loop.filled w.in-Ok.n front w.in-Ok.ensures.bound.0)
            (consumes_join _ _ _ _ _ c.loop.invariant.bytes w.in-Ok.ensures.bytes.0);
        short = omega (arith, w.filled-is);
        sized = same_len_mid c.loop.filled room c.loop.buffer c.ask.new.buf c.ask.auto.buf ∙ c.loop.invariant.sized;
        called = rw w.filled-is (more_read g.R.Source.answers c.loop.counter c.loop.filled w.in-Ok.n _ _ _ c.loop.invariant.called w.in-Ok.ensures.answered (grind arith));
      }
      | in-Err+else-ne w ↦ record {
        bytes = rw (w.filled-is, take_put c.loop.filled room c.loop.buffer c.ask.new.buf within) (consumes_nothing _ _ _ _ c.loop.invariant.bytes w.in-Err.ensures.bytes);
        short = omega (arith, w.filled-is);
        sized = same_len_mid c.loop.filled room c.loop.buffer c.ask.new.buf c.ask.auto.buf ∙ c.loop.invariant.sized;
        called = rw w.filled-is (interrupted g.R.Source.answers c.loop.counter c.loop.filled w.in-Err.error _ _ _ c.loop.invariant.called w.in-Err.ensures.answered (grind arith));
      }
    ]

pub returns-then-filled-gt-MOST_BYTES-clause-events : goal.returns-then-filled-gt-MOST_BYTES-clause-events
returns-then-filled-gt-MOST_BYTES-clause-events g c =
    let within : c.loop.filled ≤ length c.loop.buffer = omega (arith, c.loop.invariant.short, c.loop.invariant.sized) in
    let front : length (take c.loop.filled c.loop.buffer) ≡ c.loop.filled = omega (arith, length-take c.loop.filled c.loop.buffer) in
    let bound = c.in-Ok.ensures.bound.0 in
    rw (filled_more (take c.loop.filled c.loop.buffer) c.ask.new.buf _ c.loop.filled c.in-Ok.n front bound)
    (events_of_read _ _ _ (consumes_join _ _ _ _ _ c.loop.invariant.bytes c.in-Ok.ensures.bytes.0)
    (λ short. absurd (omega (arith, length-append (take c.loop.filled c.loop.buffer) (take c.in-Ok.n c.ask.new.buf), length-take c.in-Ok.n c.ask.new.buf))))

pub returns-then-filled-gt-MOST_BYTES-clause-plan : goal.returns-then-filled-gt-MOST_BYTES-clause-plan
returns-then-filled-gt-MOST_BYTES-clause-plan g c =
    let within : c.loop.filled ≤ length c.loop.buffer = omega (arith, c.loop.invariant.short, c.loop.invariant.sized) in
    let front : length (take c.loop.filled c.loop.buffer) ≡ c.loop.filled = omega (arith, length-take c.loop.filled c.loop.buffer) in
    let bound = c.in-Ok.ensures.bound.0 in
    rw (filled_more (take c.loop.filled c.loop.buffer) c.ask.new.buf _ c.loop.filled c.in-Ok.n front bound)
    (plan_of_read _ _ _ (consumes_join _ _ _ _ _ c.loop.invariant.bytes c.in-Ok.ensures.bytes.0)
    (λ short. absurd (omega (arith, length-append (take c.loop.filled c.loop.buffer) (take c.in-Ok.n c.ask.new.buf), length-take c.in-Ok.n c.ask.new.buf))))

pub returns-clause-error : goal.returns-clause-error
returns-clause-error g c = called_most g.R.Source.answers c.loop.counter c.loop.filled _ _ c.loop.invariant.called (omega (arith, c.loop-test.false, c.loop.auto.counter-end)) c.loop.invariant.short
