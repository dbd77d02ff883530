-- Marks: a byte queue that is shut, and the number of notifies of a wait queue, which a ticket is compared with.
use Rattle.std.specs.Prelude.{ℕ, ◌+◌, ◌==◌, ◌%◌, true, not, [], ◌∷◌, Result, Ok}
use Rattle.event_theory.specs.Results.{◌>>=◌, refused_if, at, change_at}
use Rattle.event_theory.specs.Queues.{Queue, claim}
use Rattle.event_theory.specs.Elements.{Elements, let_go}
use Rattle.event_theory.specs.declared.refusal.Refusal.{Refusal}
use Rattle.event_theory.specs.declared.refusal.Refusal.TheVariants.{Moved}
use Rattle.event_theory.specs.Numbers.{u32_values}

abbrev pub shut : Queue → Queue
shut q = record q { shut = true }

abbrev pub notify_wait : ℕ → Elements → Result Elements Refusal
notify_wait wait s =
    change_at wait (λ count. Ok ((count + 1) % u32_values)) s.notified
    >>= λ notified. Ok (record s { notified = notified })

-- the ring of a wait queue
abbrev pub wait_ring : ℕ → ℕ
wait_ring wait = wait + 2

-- a claim in a wait queue, refused unless its number of notifies is the ticket
abbrev pub wait_at : ℕ → ℕ → ℕ → ℕ → Elements → Result Elements Refusal
wait_at call wait element ticket s =
    at element s.threads
    >>= λ thread. at wait s.notified
    >>= λ count. let_go call element s.held
    >>= λ held. refused_if (not (count == ticket)) Moved
    (change_at (wait_ring wait) (claim 1 call (element ∷ [])) s.rings
    >>= λ rings. Ok (record s { rings = rings; held = held }))
