-- The elements that wait at a pipe.
use Rattle.std.specs.Prelude.{◌≡◌, ℕ, Option, Some, None}
use Rattle.boot_data.specs.declared.plan.PipeWaits.{PipeWaits}
use Rattle.turn_dispatch.specs.declared.waking.Woken.{Woken}
use Rattle.turn_dispatch.specs.Wakings.{Woke}
use Rattle.thread_table.specs.Own.{View}
use Rattle.thread_table.specs.Answers.{IsTicket}
use Rattle.processor.specs.declared.phases.Ticket.{Ticket}

-- the wait queue for a line to hear, if the queue is a pipe
abbrev pub readers_of : Option PipeWaits → Option ℕ
readers_of None = None
readers_of (Some waits) = Some waits.readers

-- the wait queue for room, if the queue is a pipe
abbrev pub writers_of : Option PipeWaits → Option ℕ
writers_of None = None
writers_of (Some waits) = Some waits.writers

-- the ticket of the wait queue was read; if there is no wait queue, nothing was done
abbrev pub TicketFor : Option ℕ → View → Option Ticket → View → Type 0
TicketFor None v None w = w ≡ v
TicketFor (Some wait) v (Some ticket) w = (ticket.wait ≡ wait) × IsTicket v wait ticket.number w
TicketFor wait v ticket w = ⊥

-- the ticket is one of the wait queue; if there is no wait queue, there is no ticket
abbrev pub IsTicketOf : Option ℕ → Option Ticket → Type 0
IsTicketOf None None = Unit {0}
IsTicketOf (Some wait) (Some ticket) = ticket.wait ≡ wait
IsTicketOf wait ticket = ⊥

-- all elements in the wait queue were woken; if there is no wait queue, nothing was done
abbrev pub WokeFor : ℕ → Option ℕ → View → Option Woken → View → Type 0
WokeFor call None v None w = w ≡ v
WokeFor call (Some wait) v (Some woken) w = Woke call wait woken v w
WokeFor call wait v woken w = ⊥
