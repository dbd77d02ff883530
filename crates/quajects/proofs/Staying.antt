-- The parts of an end that no try changes.
use Rattle.quajects.proofs.Common.{◌≡◌, ℕ, List, length, refl, ap, ◌∙◌, Result, Ok, Err, MatchResult, QueueOps, QueueEnd, ClaimRefusal, TakeRefusal, view_of, IsSameEnd, IsPut, TookItems, RefusedTake, IsLine, IsBegun, post_of}
use Rattle.claim_queue.specs.Answers.{Refused}
use Rattle.claim_queue.proofs.Answered.{Does, put_own, refused_own, took_own, refused_take_own}

module _ {n : ℕ} (index index' : ℕ) (old new : QueueEnd n) where
  -- the same end of the same queue, with the same share, that has shut the queue equally often
  same_post : (own : QueueOps) → own.shuts ≡ (view_of old).own.shuts → index' ≡ index → IsSameEnd old new → Does (view_of old) own (view_of new) → post_of index' new ≡ post_of index old
  same_post own shuts at end d = λ i. record { index = at i; table = end.0 i; call = end.1 i; share = (d.member i).share; shuts = shut i }
    where
      shut : (view_of new).own.shuts ≡ (view_of old).own.shuts
      shut = ap (λ (z : QueueOps). z.shuts) d.did ∙ shuts

  pub put_post : (items : List ℕ) (r : Result ℕ ClaimRefusal) → index' ≡ index → IsSameEnd old new
      → MatchResult r (λ start. IsPut n (view_of old) start items (view_of new)) (λ e. Refused n (view_of old) (length items) e (view_of new)) → post_of index' new ≡ post_of index old
  put_post items (Ok start) at end h = same_post _ refl at end (put_own n (view_of old) (view_of new) start items h)
  put_post items (Err e) at end h = same_post _ refl at end (refused_own n (length items) (view_of old) (view_of new) e h)

  pub take_post : (line : List ℕ) (r : Result ℕ TakeRefusal) → index' ≡ index → IsSameEnd old new
      → MatchResult r (λ k. TookItems n (view_of old) line (view_of new)) (λ e. RefusedTake (IsBegun n) (IsLine n) n (view_of old) e (view_of new)) → post_of index' new ≡ post_of index old
  take_post line (Ok k) at end h = same_post _ refl at end (took_own n (view_of old) (view_of new) line h)
  take_post line (Err e) at end h = same_post _ refl at end (refused_take_own (IsBegun n) (IsLine n) n (view_of old) (view_of new) e h)
