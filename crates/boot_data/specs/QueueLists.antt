-- The two lists of queues of a kernel: the small ones are the queues and pipes of the script, and then each tty's raw
-- queue; the large ones are each tty's line queue and screen queue, one tty after the other.
use Rattle.std.specs.Prelude.{ℕ, ◌+◌, ◌*◌}

-- the raw queue of a tty: it comes after the queues and pipes, `queues` in all
abbrev pub raw_queue : ℕ → ℕ → ℕ
raw_queue queues tty = queues + tty

-- the line queue of a tty
abbrev pub line_queue : ℕ → ℕ
line_queue tty = tty * 2

-- the screen queue of a tty
abbrev pub screen_queue : ℕ → ℕ
screen_queue tty = tty * 2 + 1
