-- What comes home of quajects that had shut nothing.
use Rattle.boot_objects.proofs.Common.{◌≡◌, ℕ, ◌+◌, Bool, true, false, List, [], ◌∷◌, map, Some, None, refl, sym, subst, ◌==◌, if◌then◌else◌, Option, All-nil, All-cons, All-head, All-tail, ChainEnd, ProcChain, Ghosts, opening_of, AnyQuaject, Home, Port, Queues, PostsOf, Post, NoneShut, post_at, QueueOps, nothing_did, Stake, no_stake, stake, port_stakes, HasRetired, HaveRetired, All, HasShutNothing, ShutNothing}
use Rattle.quajects.specs.declared.any.AnyQuaject.TheVariants as any

-- the posts of a quaject that has shut nothing
none_shut : (x : AnyQuaject) (posts : List (Option Post) × List (Option Post)) → PostsOf x posts → HasShutNothing x → NoneShut posts.0 × NoneShut posts.1
none_shut (any.Cooked tty) posts p h = (subst NoneShut (sym p.0) (h.0, tt), subst NoneShut (sym p.1) h.1)
none_shut (any.Pump pump) posts p h = (subst NoneShut (sym p.0) h, subst NoneShut (sym p.1) tt)
none_shut (any.Switch switch) posts p h = (subst NoneShut (sym p.0) h, subst NoneShut (sym p.1) tt)

chosen_unshut : (b : Bool) (s : Stake QueueOps) → s.did.shuts ≡ 0 → (if b then s else no_stake nothing_did).did.shuts ≡ 0
chosen_unshut true s h = h
chosen_unshut false s h = refl

ports_unshut : {n : ℕ} (ports : List (Option (Port n))) → NoneShut (map post_at ports) → (q : ℕ) → (port_stakes ports q).did.shuts ≡ 0
ports_unshut [] h q = refl
ports_unshut (None ∷ ports) h q = λ i. 0 + ports_unshut ports h q i
ports_unshut (Some port ∷ ports) h q = λ i. chosen_unshut (q == port.index) (stake port.end) h.0 i + ports_unshut ports h.1 q i

module _ {g : Ghosts AnyQuaject Queues} where
  home_unshut : (chain : ProcChain AnyQuaject Queues) (end : ChainEnd AnyQuaject Queues g) (home : Home) → HasRetired chain end home → HasShutNothing (opening_of chain) → ShutNothing home
  home_unshut chain end home r h q = let n = none_shut (opening_of chain) (map post_at home.small, map post_at home.large) r.posts h in (ports_unshut home.small n.0 q, ports_unshut home.large n.1 q)

  pub homes_unshut : (chains : List (ProcChain AnyQuaject Queues)) (ends : List (ChainEnd AnyQuaject Queues g)) (homes : List Home) → HaveRetired chains ends homes → All HasShutNothing (map opening_of chains) → All ShutNothing homes
  homes_unshut chains ends [] r h = All-nil ShutNothing
  homes_unshut [] [] (z ∷ zs) r h = absurd r
  homes_unshut [] (y ∷ ys) (z ∷ zs) r h = absurd r
  homes_unshut (x ∷ xs) [] (z ∷ zs) r h = absurd r
  homes_unshut (x ∷ xs) (y ∷ ys) (z ∷ zs) r h = All-cons ShutNothing z zs (home_unshut x y z r.0 (All-head HasShutNothing (opening_of x) (map opening_of xs) h)) (homes_unshut xs ys zs r.1 (All-tail HasShutNothing (opening_of x) (map opening_of xs) h))
