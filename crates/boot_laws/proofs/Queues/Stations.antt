-- The stretches of stations that were joined: their runs, or their takings, and the lines of those; and what they know.
use Rattle.boot_laws.proofs.Common.{◌≡◌, ℕ, true, false, List, [], ◌∷◌, ◌++◌, map, refl, sym, ap, ◌∙◌, flat_map, Some, AllZip, AllByRecursion, BootPlan, QueueIndex, Small, Large, QueueEnd, Batch, Ascending, AtQueue, lines_of, room_of, end_knows_shut, Parts, account, Account, LogEntry, Leaves, was_shut, AreJoined, AllJoined, QueueOps, view_of, line_of, know_shut, joined}
use Rattle.boot_laws.proofs.Joined.{at_its, stays}
use Rattle.boot_laws.proofs.Queues.Dids.{end_at, did_at, lines_are, its_did}

joined_map : {A : Type 0} (f : A → List Batch) (xs : List A) → joined (map f xs) ≡ flat_map f xs
joined_map f [] = refl
joined_map f (x ∷ xs) = ap (λ z. f x ++ z) (joined_map f xs)

module _ (index : QueueIndex) (f : QueueOps → List Batch) where
  -- those of each of the stations
  abbrev pub of_each : List Parts → List (List Batch)
  of_each stations = map (λ s. f (did_at index s)) stations

  pub all_in_order : (plan : BootPlan) → ((log : List LogEntry) (s : Parts) → Leaves plan log s → Ascending (f (did_at index s))) → (logs : List (List LogEntry)) (stations : List Parts)
      → AllZip (Leaves plan) logs stations → AllByRecursion Ascending (of_each stations)
  all_in_order plan h logs [] z = tt
  all_in_order plan h [] (s ∷ ss) z = absurd z
  all_in_order plan h (l ∷ ls) (s ∷ ss) z = (h l s z.0, all_in_order plan h ls ss z.1)

  pub lines_all : (lines : AtQueue → List (List ℕ)) → ((d : QueueOps) → map line_of (f d) ≡ lines (lines_of d)) → (stations : List Parts)
      → map (map line_of) (of_each stations) ≡ map (λ (did : Account). lines (did.queues index)) (map account stations)
  lines_all lines is [] = refl
  lines_all lines is (s ∷ ss) = λ k. (is (did_at index s) ∙ ap lines (sym (lines_are index s))) k ∷ lines_all lines is ss k

  -- what the end that closed has is what the stations had, and then the others
  pub all_of_them : (stations : List Parts) (last : Parts) (end : QueueEnd (room_of index)) (rest whole : List Batch) → end_at index last ≡ Some end → whole ≡ f (view_of end).own ++ rest
      → f (did_at index last) ≡ flat_map (λ s. f (did_at index s)) stations → whole ≡ joined (of_each stations) ++ rest
  all_of_them stations last end rest whole its is all = is
      ∙ ap (λ z. z ++ rest) (ap f (sym (its_did index last end its)) ∙ (all ∙ sym (joined_map (λ s. f (did_at index s)) stations)))

-- WHAT ENDS KNOW

abbrev KnowsShut : QueueIndex → Parts → Type 0
KnowsShut index parts = know_shut parts.queues index ≡ true

knows_still : (index : QueueIndex) (a b c : Parts) → AreJoined a b c → KnowsShut index a → KnowsShut index c
knows_still (Small q) a b c j h = j.queues.small.known q h
knows_still (Large q) a b c j h = j.queues.large.known q h

knows_too : (index : QueueIndex) (a b c : Parts) → AreJoined a b c → KnowsShut index b → KnowsShut index c
knows_too (Small q) a b c j h = j.queues.small.others_known q h
knows_too (Large q) a b c j h = j.queues.large.others_known q h

module _ (index : QueueIndex) where
  -- the last station knows that a queue is shut if a log reports so
  pub all_told : (plan : BootPlan) (P : Type 0) (logs : List (List LogEntry)) (first : Parts) (stations : List Parts) (last : Parts) → AllZip (Leaves plan) logs stations → AllJoined first stations last
      → (KnowsShut index last → P) → AllByRecursion (λ log. was_shut log index ≡ true → P) logs
  all_told plan P [] first stations last z j h = tt
  all_told plan P (l ∷ ls) first [] last z j h = absurd z
  all_told plan P (l ∷ ls) first (s ∷ ss) last z j h =
      (λ is. h (stays (KnowsShut index) (knows_still index) j.0 ss last j.2 (knows_too index first s j.0 j.1 (z.0.reported index is))), all_told plan P ls j.0 ss last z.1 j.2 h)

pub its_knowing : (index : QueueIndex) (parts : Parts) (end : QueueEnd (room_of index)) → end_at index parts ≡ Some end → know_shut parts.queues index ≡ end_knows_shut end
its_knowing (Small q) parts end e = at_its end_knows_shut parts.queues.small.items q end false e
its_knowing (Large q) parts end e = at_its end_knows_shut parts.queues.large.items q end false e
