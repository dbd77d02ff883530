-- Ends that have the whole, and what comes home of chains over one world.
use Rattle.boot_objects.proofs.Common.{◌≡◌, ℕ, zero, suc, ◌+◌, ◌<◌, Bool, true, false, List, [], ◌∷◌, map, length, get_or, Option, Some, None, refl, sym, ap, subst, ◌∙◌, arith, ◌==◌, if◌then◌else◌, flat_map, flat_map-cons, IsWhole, QueueIndex, Small, Large, QueueEnd, QueueOps, nothing_did, ChainEnd, ProcChain, Ghosts, Shared, Parts, Shares, no_shares, both_shares, IsOnlySeat, IsOnlyHand, AnyQuaject, Home, Port, Queues, AllUp, post_at, Stake, no_stake, stake, stakes, chain_end_share, chain_end_table, chain_table, chain_share_at, share_at, end_table, queue_table, as_long, posts_share, post_shares, quaject_shares, quajects_of, opening_shares, small_ports, large_ports, Gained, port_stakes, HasRetired, HaveRetired, HasWholes, All, IsOnlyEnd, shares, HasHome, AreChainsOver, all_third, FitsHome}
use Rattle.proc_chain.specs.Handles as chains
use Rattle.quajects.specs.declared.came.Came.{Came}
use Rattle.boot_objects.proofs.Homes.{posts_are}
use Rattle.boot_objects.proofs.Summed.{share_is, chain_share_is, none_together}
use Rattle.boot_objects.proofs.PortGains.{stakes_append}

pub only_by_share : {n : ℕ} (ends : List (QueueEnd n)) → ((q : ℕ) → q < length ends → IsWhole (share_at ends q)) → All IsOnlyEnd ends
only_by_share [] h k d l = absurd (omega arith)
only_by_share (e ∷ es) h zero d l = h zero (omega arith)
only_by_share (e ∷ es) h (suc k) d l = only_by_share es (λ q l. h (suc q) (omega arith)) k d (omega arith)

only_each : {Q W : Type 0} {g : Ghosts Q W} (ends : List (ChainEnd Q W g)) → ((k : ℕ) → k < length ends → IsWhole (chain_share_at ends k)) → All chains.IsOnlyEnd ends
only_each [] h k d l = absurd (omega arith)
only_each (e ∷ es) h zero d l = h zero (omega arith)
only_each (e ∷ es) h (suc k) d l = only_each es (λ q l. h (suc q) (omega arith)) k d (omega arith)

pub only_one : {n : ℕ} (ends : List (QueueEnd n)) → length ends ≡ 1 → IsWhole (share_at ends 0) → All IsOnlyEnd ends
only_one ends one h = only_by_share ends (each)
  where
    each : (q : ℕ) → q < length ends → IsWhole (share_at ends q)
    each zero l = h
    each (suc q) l = absurd (omega arith)

pub chains_still : {Q W : Type 0} {g : Ghosts Q W} (old new : List (ChainEnd Q W g)) → map chain_end_share new ≡ map chain_end_share old → All chains.IsOnlyEnd old → All chains.IsOnlyEnd new
chains_still old [] e h k d l = absurd (omega arith)
chains_still [] (y ∷ ys) e h k d l = absurd (cc)
chains_still (x ∷ xs) (y ∷ ys) e h zero d l = let same : chain_end_share y ≡ chain_end_share x = cc in same ∙ h zero x (omega arith)
chains_still (x ∷ xs) (y ∷ ys) e h (suc k) d l = let rest : map chain_end_share ys ≡ map chain_end_share xs = cc in chains_still xs ys rest (λ k d l. h (suc k) d (omega arith)) k d (omega arith)

module _ {g : Ghosts AnyQuaject Queues} where
  -- each end that came home is one of the queue that it names
  pub homes_fit : (world : Queues) (list : List (ProcChain AnyQuaject Queues)) (ends : List (ChainEnd AnyQuaject Queues g)) (homes : List Home) → AreChainsOver world list → HaveRetired list ends homes → All (FitsHome world) homes
  homes_fit world list ends [] over h k d l = absurd (omega arith)
  homes_fit world [] [] (z ∷ zs) over h k d l = absurd h
  homes_fit world [] (y ∷ ys) (z ∷ zs) over h k d l = absurd h
  homes_fit world (x ∷ xs) [] (z ∷ zs) over h k d l = absurd h
  homes_fit world (x ∷ xs) (y ∷ ys) (z ∷ zs) over h zero d l = subst (λ w. FitsHome w z) (over zero x (omega arith)) (h.0.small, h.0.large)
  homes_fit world (x ∷ xs) (y ∷ ys) (z ∷ zs) over h (suc k) d l = homes_fit world xs ys zs (λ k d l. over (suc k) d (omega arith)) h.1 k d (omega arith)

-- THE QUEUES

pub chosen_share : (b : Bool) (s : Stake QueueOps) → (if b then s else no_stake nothing_did).share ≡ (if b then s.share else 0)
chosen_share true s = refl
chosen_share false s = refl

share_of_ports : {n : ℕ} (ports : List (Option (Port n))) (q : ℕ) → (port_stakes ports q).share ≡ posts_share (map post_at ports) q
share_of_ports [] q = refl
share_of_ports (None ∷ ports) q = λ i. 0 + share_of_ports ports q i
share_of_ports (Some port ∷ ports) q = λ i. chosen_share (q == port.index) (stake port.end) i + share_of_ports ports q i

module _ {g : Ghosts AnyQuaject Queues} {n : ℕ} (ports_of : Home → List (Option (Port n))) (at : ℕ → QueueIndex)
    (its : (home : Home) (q : ℕ) → posts_share (map post_at (ports_of home)) q ≡ (post_shares (map post_at home.small) (map post_at home.large)).queues (at q)) where
  -- what came home has the shares that the quajects had which were given to the chains
  came_shares : (list : List (ProcChain AnyQuaject Queues)) (ends : List (ChainEnd AnyQuaject Queues g)) (homes : List Home) → HaveRetired list ends homes → (q : ℕ)
      → (port_stakes (flat_map ports_of homes) q).share ≡ (opening_shares list).queues (at q)
  came_shares [] [] [] h q = refl
  came_shares [] [] (z ∷ zs) h q = absurd h
  came_shares [] (y ∷ ys) [] h q = absurd h
  came_shares [] (y ∷ ys) (z ∷ zs) h q = absurd h
  came_shares (x ∷ xs) [] [] h q = absurd h
  came_shares (x ∷ xs) [] (z ∷ zs) h q = absurd h
  came_shares (x ∷ xs) (y ∷ ys) [] h q = absurd h
  came_shares (x ∷ xs) (y ∷ ys) (z ∷ zs) h q = ap (λ (p : List (Option (Port n))). (port_stakes p q).share) (flat_map-cons ports_of z zs)
      ∙ (ap (λ (f : ℕ → Stake QueueOps). (f q).share) (stakes_append (ports_of z) (flat_map ports_of zs))
      ∙ (λ i. (share_of_ports (ports_of z) q ∙ (its z q ∙ ap (λ (s : Shares). s.queues (at q)) (posts_are (chains.opening_of x) (map post_at z.small, map post_at z.large) h.0.posts))) i + came_shares xs ys zs h.1 q i))

  -- if the quajects that came home had the rest of each queue, the ends have the whole
  pub all_whole : (list : List (ProcChain AnyQuaject Queues)) (ends : List (ChainEnd AnyQuaject Queues g)) (homes : List Home) (old new : List (QueueEnd n)) → HaveRetired list ends homes
      → ((q : ℕ) → q < length new → IsWhole ((stakes old q).share + (opening_shares list).queues (at q))) → Gained (flat_map ports_of homes) old new → All IsOnlyEnd new
  all_whole list ends homes old new h whole gained = only_by_share new (λ q l. sym (share_is new q) ∙ (ap (λ (f : ℕ → Stake QueueOps). (f q).share) gained.stakes_are
      ∙ (ap (λ (s : ℕ). (stakes old q).share + s) (came_shares list ends homes h q) ∙ whole q l)))

-- THE OTHERS

-- quajects have no part of anything else
rest_whole : (pick : Shares → ℕ) (own : ℕ) → pick no_shares ≡ 0 → ((s t : Shares) → pick (both_shares s t) ≡ pick s + pick t) → ((x : AnyQuaject) → pick (quaject_shares x) ≡ 0) → (list : List (ProcChain AnyQuaject Queues))
    → IsWhole (own + pick (opening_shares list)) → IsWhole own
rest_whole pick own none adds each list whole = let e = none_together quaject_shares pick none adds each (quajects_of list) in omega (arith, e, whole)

module _ (shared : Shared) (parts : Parts) (h : HasWholes shared parts) where
  pub only_hand : IsOnlyHand parts.hand
  only_hand = rest_whole (λ s. s.hand) (shares parts).hand refl (λ s t. refl) (λ x. refl) shared.chains.items h.hand

  pub only_seat : IsOnlySeat parts.meters
  only_seat = rest_whole (λ s. s.meters) (shares parts).meters refl (λ s t. refl) (λ x. refl) shared.chains.items h.meters

  pub only_chains : map chain_end_table parts.chains.items ≡ map chain_table shared.chains.items → All chains.IsOnlyEnd parts.chains.items
  only_chains fit = only_each parts.chains.items (λ k l. let long = as_long chain_end_table chain_table parts.chains.items shared.chains.items fit in
      sym (chain_share_is parts.chains.items k) ∙ rest_whole (λ s. s.chains k) ((shares parts).chains k) refl (λ s t. refl) (λ x. refl) shared.chains.items (h.ends.each_chain k (omega (arith, long, l))))

  pub small_whole : (homes : List Home) (old new : List (QueueEnd 64)) → HaveRetired shared.chains.items parts.chains.items homes → map end_table new ≡ map queue_table shared.queues.small.items → old ≡ parts.queues.small.items
      → Gained (small_ports homes) old new → All IsOnlyEnd new
  small_whole homes old new r fit is gained = all_whole (λ home. home.small) Small (λ home q. refl) shared.chains.items parts.chains.items homes old new r
      (λ q l. let long = as_long end_table queue_table new shared.queues.small.items fit in subst (λ (z : List (QueueEnd 64)). IsWhole ((stakes z q).share + (opening_shares shared.chains.items).queues (Small q))) (sym is) (h.ends.each_queue (Small q) (omega (arith, long, l)))) gained

  pub large_whole : (homes : List Home) (old new : List (QueueEnd 256)) → HaveRetired shared.chains.items parts.chains.items homes → map end_table new ≡ map queue_table shared.queues.large.items → old ≡ parts.queues.large.items
      → Gained (large_ports homes) old new → All IsOnlyEnd new
  large_whole homes old new r fit is gained = all_whole (λ home. home.large) Large (λ home q. refl) shared.chains.items parts.chains.items homes old new r
      (λ q l. let long = as_long end_table queue_table new shared.queues.large.items fit in subst (λ (z : List (QueueEnd 256)). IsWhole ((stakes z q).share + (opening_shares shared.chains.items).queues (Large q))) (sym is) (h.ends.each_queue (Large q) (omega (arith, long, l)))) gained

-- WHAT CAME HOME

module _ {g : Ghosts AnyQuaject Queues} where
  -- all that came home is raised
  pub homes_up : (list : List (ProcChain AnyQuaject Queues)) (ends : List (ChainEnd AnyQuaject Queues g)) (homes : List Home) → HaveRetired list ends homes → All (λ (home : Home). AllUp home.small) homes × All (λ (home : Home). AllUp home.large) homes
  homes_up list ends homes h = (all_third HasRetired (λ (home : Home). AllUp home.small) (λ x y z r. r.raised.0) list ends homes h, all_third HasRetired (λ (home : Home). AllUp home.large) (λ x y z r. r.raised.1) list ends homes h)

-- numbers are those of what came home
pub all_tell : (all : List Came) → All HasHome all
all_tell all k d l = let came = get_or all k d in
    record { chained = came.chained_is; left = came.left_is; notes = came.notes_is; taken = came.taken_is; put = came.put_is; held = came.held_is }
