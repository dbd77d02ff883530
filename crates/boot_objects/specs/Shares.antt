-- Owners of the shares of queues, chains, threads and meters: the owner of ends, the quajects and the devices.
use Rattle.std.specs.Prelude.{ℕ, ◌+◌, ◌<◌, List, [], ◌∷◌, map, length, Option, Some, None}
use Rattle.boot_data.specs.declared.plan.QueueIndex.{QueueIndex}
use Rattle.claim_queue.specs.declared.ends.QueueEnd.{QueueEnd}
use Rattle.turn_io.specs.Accounts.{at_one, by_index, stake, stakes, chain_stake, chain_stakes}
use Rattle.proc_chain.specs.declared.ends.ChainEnd.{ChainEnd}
use Rattle.proc_chain.specs.declared.ends.ProcChain.{ProcChain}
use Rattle.proc_chain.specs.declared.quaject.Quaject.{Ghosts}
use Rattle.proc_chain.specs.Handles.{opening_of}
use Rattle.processor.specs.declared.shared.Shared.{Shared}
use Rattle.processor.specs.Accounts.{Shares}
use Rattle.stations.specs.Shares.{no_shares, both_shares}
use Rattle.turn_io.specs.QueueEnds.{IsThere}
use Rattle.quajects.specs.declared.any.AnyQuaject.{AnyQuaject}
use Rattle.quajects.specs.declared.any.AnyQuaject.TheVariants as any
use Rattle.quajects.specs.declared.world.Queues.{Queues}
use Rattle.quajects.specs.Ports.{Post}
use Rattle.quajects.specs.Pumps as pumps
use Rattle.quajects.specs.Raws.{end_of}
use Rattle.quajects.specs.Switches as switches
use Rattle.quajects.specs.Terminals as terminals
use Rattle.boot_objects.specs.declared.device.Device.{Device}
use Rattle.table_theory.specs.Sharing.{IsWhole}

-- the share of the queue q that an end has, by its post: the fields of the end that no note changes
abbrev pub post_share : Option Post → ℕ → ℕ
post_share None q = 0
post_share (Some post) q = at_one 0 post.index post.share q

-- the share of the queue q that these ends have together
abbrev pub posts_share : List (Option Post) → ℕ → ℕ
posts_share [] q = 0
posts_share (post ∷ posts) q = post_share post q + posts_share posts q

-- the posts of a quaject's ends of small queues, in the order of `new`, followed by None
abbrev pub small_posts : AnyQuaject → List (Option Post)
small_posts (any.Cooked tty) = Some (terminals.raw_post tty) ∷ None ∷ None ∷ None ∷ None ∷ None ∷ []
small_posts (any.Pump pump) =
    Some (pumps.source_post pump) ∷ Some (pumps.target_post pump) ∷ None ∷ None ∷ None ∷ None ∷ []
small_posts (any.Switch switch) =
    Some (switches.source_post switch) ∷ Some (switches.other_post switch) ∷ switches.way_posts switch

-- the posts of a quaject's ends of large queues, in the order of `new`, followed by None
abbrev pub large_posts : AnyQuaject → List (Option Post)
large_posts (any.Cooked tty) = Some (terminals.line_post tty) ∷ Some (terminals.screen_post tty) ∷ []
large_posts (any.Pump pump) = None ∷ None ∷ []
large_posts (any.Switch switch) = None ∷ None ∷ []

-- the shares of these posts at small queues and of these posts at large queues
abbrev pub post_shares : List (Option Post) → List (Option Post) → Shares
post_shares small large = record no_shares { queues = by_index (posts_share small) (posts_share large) }

-- the shares of a quaject
abbrev pub quaject_shares : AnyQuaject → Shares
quaject_shares quaject = post_shares (small_posts quaject) (large_posts quaject)

-- the shares of a device: of its queue and of its chain
abbrev pub device_shares : Device → Shares
device_shares device = record no_shares {
  queues = by_index (at_one 0 device.tty.index (stake (end_of device.tty)).share) (λ q. 0);
  chains = at_one 0 device.chain (chain_stake device.tty.chain).share;
}

-- the shares of all members of a list together
abbrev pub all_shares : {A : Type 0} → (A → Shares) → List A → Shares
all_shares of [] = no_shares
all_shares of (x ∷ xs) = both_shares (of x) (all_shares of xs)

-- the quajects that were given to the chains
abbrev pub quajects_of : List (ProcChain AnyQuaject Queues) → List AnyQuaject
quajects_of chains = map opening_of chains

-- the shares of the quajects of these chains, as they were given to the chains
abbrev pub opening_shares : List (ProcChain AnyQuaject Queues) → Shares
opening_shares chains = all_shares quaject_shares (quajects_of chains)

-- the shares of these ends of small queues, of large queues and of chains
abbrev pub end_shares : {g : Ghosts AnyQuaject Queues} → List (QueueEnd 64) → List (QueueEnd 256)
    → List (ChainEnd AnyQuaject Queues g) → Shares
end_shares small large ends = record no_shares {
  queues = by_index (λ q. (stakes small q).share) (λ q. (stakes large q).share);
  chains = λ k. (chain_stakes ends k).share;
}

-- these shares are the whole of each queue and of each chain that exists
pub record AreAllEnds (queues : Queues) (chains : List (ProcChain AnyQuaject Queues)) (all : Shares) : Type 0 where
  pub each_queue : (q : QueueIndex) → IsThere queues q → IsWhole (all.queues q)
  pub each_chain : (k : ℕ) → k < length chains → IsWhole (all.chains k)

-- these shares are the whole of each queue, of each chain, of the thread table and of the meters
pub record AreWhole (shared : Shared) (all : Shares) : Type 0 where
  pub ends : AreAllEnds shared.queues shared.chains.items all
  pub hand : IsWhole all.hand
  pub meters : IsWhole all.meters
