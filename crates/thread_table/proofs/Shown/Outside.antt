-- A change outside of the element queues leaves what the words show of them.
use Rattle.thread_table.proofs.Common.{ℕ, ◌<◌, List, set, refl, arith, Option, get_or-set_other, Elements, Thread, Hold, Grows, RingShows, head_word, ready_ring}
use Rattle.thread_table.proofs.Schedule.Schedules.{grows_refl}
use Rattle.thread_table.proofs.Shown.QueueWords.{same_mark, ring_kept}

-- other threads, processors and holds
abbrev pub with_parts : Elements → List Thread → List (Option Hold) → List Hold → Elements
with_parts e threads processors held = record { threads = threads; rings = e.rings; notified = e.notified; processors = processors; held = held }

pub no_growth : (e : Elements) (threads : List Thread) (processors : List (Option Hold)) (held : List Hold) → Grows e (with_parts e threads processors held)
no_growth e threads processors held = grows_refl e

pub ring_outside : (e : Elements) (threads : List Thread) (processors : List (Option Hold)) (held : List Hold) (first ring : ℕ) (words : List ℕ) (place word : ℕ)
    → place < head_word ready_ring → RingShows first e ring words → RingShows first (with_parts e threads processors held) ring (set words place word)
ring_outside e threads processors held first ring words place word below shows = let f : Elements = with_parts e threads processors held in
    ring_kept first e f ring words (set words place word) refl (same_mark e f ring refl) (λ k from to. get_or-set_other words place k word 0 (λ h. omega arith)) shows
