-- What the processors did together.
use Rattle.boot_laws.proofs.Common.{Done, ◌≡◌, List, [], ◌∷◌, ap, ◌∙◌, flat_map, AllByRecursion, BootPlan, QueueIndex, queues_add, all_append, Account, ◌⊕◌, LogEntry, FollowsPlan, preparing, WorkedTogether, total_of}

-- the lists, one after the other
abbrev pub all_of : {A : Type 0} → List (List A) → List A
all_of lists = flat_map (λ list. list) lists

-- all turns are as the plan has them
pub all_planned : (plan : BootPlan) (logs : List (List LogEntry)) → AllByRecursion (AllByRecursion (FollowsPlan plan)) logs → AllByRecursion (FollowsPlan plan) (all_of logs)
all_planned plan [] p = tt
all_planned plan (log ∷ logs) p = all_append (FollowsPlan plan) log (all_of logs) p.0 (all_planned plan logs p.1)

module _ (plan : BootPlan) (logs : List (List LogEntry)) (done : Done) (w : WorkedTogether plan logs done) where
  -- all that was done is the preparing of the threads, and then what the logs say
  pub all_did : done.in_all ≡ preparing plan done.before ⊕ total_of logs
  all_did = w.all ∙ ap (λ z. z ⊕ total_of logs) w.prepared

  -- at a queue
  pub queue_did : (index : QueueIndex) → done.in_all.queues index ≡ (total_of logs).queues index
  queue_did index = ap (λ (z : Account). z.queues index) all_did ∙ queues_add.none_first ((total_of logs).queues index)
