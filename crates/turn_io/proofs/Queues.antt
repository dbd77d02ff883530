-- The ends of all queues: the work of a step at one of them, by its evidence.
use Rattle.turn_io.proofs.Common.{◌≡◌, ◌≤◌, ◌<◌, ℕ, zero, suc, Bool, true, false, List, [], ◌∷◌, map, length, get_or, set, refl, sym, ap, subst, ◌∙◌, arith, Some, Result, All, QueueEnd, OnEnd, Heard, HasRaised, end_knows_shut, idle_queue, both_queue, at_each, Batch, slice_get, QueueIndex, Small, Large, ClaimRefusal, TakeRefusal, view_of, line_of, TakesInOrder, View, IsBegun, IsLine, by_both, InOrder, AllStaySound, AreInOrder, AtQueue, StaySound, know_shut, only, put_if, queue_account, queue_shares, room_of, shares_of, shut_if, taken_if, work_of, ClaimedInOrder, TookInOrder, knows_shut_at, Said, HasShut, AreSameQueueEnds, HeardAt, OnQueue, SaidAt, ShutAt}
use Rattle.std.proofs.Common.{Ok, Err, ◌==◌, if◌then◌else◌}
use Rattle.std.proofs.Math.Bool.{Bool-set}
use Rattle.std.proofs.lemmas.Bool.{eqb-true}
use Rattle.claim_queue.specs.declared.claim.ClaimRefusal.TheVariants as claims
use Rattle.claim_queue.specs.declared.rule.QueueOps as queues
use Rattle.claim_queue.specs.declared.take.TakeRefusal.TheVariants as takes
use Rattle.claim_queue.proofs.Saying.{closed_says, done_says}
use Rattle.table_theory.proofs.Ordering.{order_none}
use Rattle.turn_io.specs.declared.queue_ends.QueueEnds.{QueueEnds}
use Rattle.turn_io.proofs.Accounting.{WorkedAt, heard_at, said_at, shut_at}
use Rattle.turn_io.proofs.Adding.{by_sizes, each_adds, queues_add}
use Rattle.turn_io.proofs.Shares.{heard_long, none_of}
use mathlib.Core.Option.{some, some-ne-none}
use lib.ListN.{get_elem?}

-- ENDS STAY SOUND

module _ {n : ℕ} where
  sound_on : (xs ys zs : List (QueueEnd n)) → StaySound xs ys → StaySound ys zs → StaySound xs zs
  sound_on xs ys zs a b = record {
    shares = b.shares ∙ a.shares;
    raised = λ h. b.raised (a.raised h);
    claimed = λ h. b.claimed (a.claimed h);
    took = λ h. b.took (a.took h);
    known = λ q h. b.known q (a.known q h);
  }

  sound_still : (xs ys : List (QueueEnd n)) → ys ≡ xs → StaySound xs ys
  sound_still xs ys e = record {
    shares = ap queue_shares e;
    raised = λ h. subst (All HasRaised) (sym e) h;
    claimed = λ h. subst (All ClaimedInOrder) (sym e) h;
    took = λ h. subst (All TookInOrder) (sym e) h;
    known = λ q h. ap (λ z. knows_shut_at z q) e ∙ h;
  }

pub all_sound_on : (u v w : QueueEnds) → AllStaySound u v → AllStaySound v w → AllStaySound u w
all_sound_on u v w a b = record { small = sound_on u.small.items v.small.items w.small.items a.small b.small; large = sound_on u.large.items v.large.items w.large.items a.large b.large }

pub all_sound_still : (old new : QueueEnds) → new ≡ old → AllStaySound old new
all_sound_still old new e = record { small = sound_still old.small.items new.small.items (λ k. (e k).small.items); large = sound_still old.large.items new.large.items (λ k. (e k).large.items) }

-- an end still knows of each queue that it is shut, if it knew before
pub still_know : (old new : QueueEnds) → AllStaySound old new → (q : QueueIndex) → know_shut old q ≡ true → know_shut new q ≡ true
still_know old new s (Small q) h = s.small.known q h
still_know old new s (Large q) h = s.large.known q h

pub shares_still : (old new : QueueEnds) → AllStaySound old new → shares_of new ≡ shares_of old
shares_still old new s = by_sizes (shares_of new) (shares_of old) (λ q i. s.small.shares i q) (λ q i. s.large.shares i q)

pub in_order_on : (old new : QueueEnds) → AllStaySound old new → AreInOrder old → AreInOrder new
in_order_on old new s h = record { small = (s.small.claimed h.small.0, s.small.took h.small.1); large = (s.large.claimed h.large.0, s.large.took h.large.1) }

no_claims : (runs : List Batch) → map line_of runs ≡ [] → InOrder runs
no_claims runs e = subst InOrder (sym (none_of runs e)) order_none

no_takings : (v : View) → map line_of v.own.takes ≡ [] → TakesInOrder v
no_takings v e = let none = none_of v.own.takes e in
    (subst InOrder (sym none) order_none, λ m b at. absurd (some-ne-none b (sym (subst (λ (z : List Batch). get_elem? z m ≡ some b) none at))))

module _ {n : ℕ} where
  -- ends that put no line
  none_claimed : (ends : List (QueueEnd n)) → ((q : ℕ) → (queue_account ends q).put ≡ []) → All ClaimedInOrder ends
  none_claimed [] h k d low = absurd (omega arith)
  none_claimed (x ∷ xs) h zero d low = no_claims _ (h 0)
  none_claimed (x ∷ xs) h (suc k) d low = none_claimed xs (λ q. h (suc q)) k d (omega arith)

  -- ends that took no line
  none_taken : (ends : List (QueueEnd n)) → ((q : ℕ) → (queue_account ends q).taken ≡ []) → All TookInOrder ends
  none_taken [] h k d low = absurd (omega arith)
  none_taken (x ∷ xs) h zero d low = no_takings (view_of x) (h 0)
  none_taken (x ∷ xs) h (suc k) d low = none_taken xs (λ q. h (suc q)) k d (omega arith)

-- ends that did nothing
pub idle_in_order : (ends : QueueEnds) → work_of ends ≡ (λ (q : QueueIndex). idle_queue) → AreInOrder ends
idle_in_order ends e = record {
  small = (none_claimed ends.small.items (λ q i. (e i (Small q)).put), none_taken ends.small.items (λ q i. (e i (Small q)).taken));
  large = (none_claimed ends.large.items (λ q i. (e i (Large q)).put), none_taken ends.large.items (λ q i. (e i (Large q)).taken));
}

-- THE SAME ENDS

pub same_ends_on : (u v w : QueueEnds) → AreSameQueueEnds u v → AreSameQueueEnds v w → AreSameQueueEnds u w
same_ends_on u v w a b = record {
  small = record { tables = b.small.tables ∙ a.small.tables; calls = b.small.calls ∙ a.small.calls };
  large = record { tables = b.large.tables ∙ a.large.tables; calls = b.large.calls ∙ a.large.calls };
}

pub same_ends_still : (ends : QueueEnds) → AreSameQueueEnds ends ends
same_ends_still ends = record { small = record { tables = refl; calls = refl }; large = record { tables = refl; calls = refl } }

-- WORK

-- this was done at the queues, and their ends stay sound
pub record EndsWorked (more : QueueIndex → AtQueue) (old new : QueueEnds) : Type 0 where
  pub did : work_of new ≡ at_each both_queue (work_of old) more
  pub sound : AllStaySound old new

pub none_worked : (old new : QueueEnds) → new ≡ old → EndsWorked (λ q. idle_queue) old new
none_worked old new e = record { did = ap work_of e ∙ sym ((each_adds queues_add).none_last (work_of old)); sound = all_sound_still old new e }

-- one queue's end worked, and the others rest
worked_on : (queue : QueueIndex) (Does : (n : ℕ) → QueueEnd n → QueueEnd n → Type 0) (more : AtQueue) → ((n : ℕ) (q : ℕ) (xs ys : List (QueueEnd n)) → OnEnd q (Does n) xs ys → WorkedAt q more xs ys)
    → (old new : QueueEnds) → OnQueue queue Does old new → EndsWorked (only idle_queue queue more) old new
worked_on (Small k) Does more works old new o = let w = works 64 k old.small.items new.small.items o.0 in record {
  did = by_sizes _ _ (λ q i. w.did i q) (λ q. ap (λ z. queue_account z.items q) o.1 ∙ sym (queues_add.none_last (queue_account old.large.items q)));
  sound = record { small = w.sound; large = sound_still old.large.items new.large.items (λ i. (o.1 i).items) };
}
worked_on (Large k) Does more works old new o = let w = works 256 k old.large.items new.large.items o.0 in record {
  did = by_sizes _ _ (λ q. ap (λ z. queue_account z.items q) o.1 ∙ sym (queues_add.none_last (queue_account old.small.items q))) (λ q i. w.did i q);
  sound = record { small = sound_still old.small.items new.small.items (λ i. (o.1 i).items); large = w.sound };
}

pub said_on : {A : Type 0} (queue : QueueIndex) (line : List ℕ) (r : Result A ClaimRefusal) (old new : QueueEnds) → SaidAt queue line r old new → EndsWorked (only idle_queue queue (put_if r line)) old new
said_on queue line r = worked_on queue (λ n. Said {n = n} line r) (put_if r line) (λ n. said_at {n = n} line r)

pub heard_on : {A : Type 0} (queue : QueueIndex) (line : List ℕ) (r : Result A TakeRefusal) (old new : QueueEnds) → HeardAt queue line r old new → EndsWorked (only idle_queue queue (taken_if r line)) old new
heard_on queue line r = worked_on queue (λ n. Heard {n = n} line r) (taken_if r line) (λ n. heard_at {n = n} line r)

pub shut_on : (queue : QueueIndex) (was_open : Bool) (old new : QueueEnds) → ShutAt queue was_open old new → EndsWorked (only idle_queue queue (shut_if was_open)) old new
shut_on queue was_open = worked_on queue (λ n. HasShut {n = n} was_open) (shut_if was_open) (λ n. shut_at {n = n} was_open)

-- WHAT AN ANSWER SAYS

-- a say with this answer found its queue shut
found_so : {n : ℕ} (line : List ℕ) (old new : QueueEnd n) → Said {A = Unit {0}} line (Err claims.Closed) old new → end_knows_shut new ≡ true
found_so {n = n} line old new s = by_both old new (Bool-set _ _) (λ x y. closed_says (view_of old) (view_of new) x y n _ s)

-- a hear with this answer found its queue shut
heard_so : {n : ℕ} (line : List ℕ) (old new : QueueEnd n) → Heard {A = Unit {0}} line (Err takes.Closed) old new → end_knows_shut new ≡ true
heard_so {n = n} line old new h = by_both old new (Bool-set _ _) (λ x y. (done_says (view_of old) (view_of new) x y (IsBegun n) (IsLine n) n h.1).0)

set_there : {E : Type 0} (f : E → Bool) (xs : List E) (k : ℕ) (end after : E) → slice_get xs k ≡ Some end → f after ≡ true → get_or (map f (set xs k after)) k false ≡ true
set_there f [] k end after at h = absurd (cc)
set_there f (x ∷ xs) zero end after at h = h
set_there f (x ∷ xs) (suc k) end after at h = set_there f xs k end after at h

if_true : (b : Bool) → (if b then true else false) ≡ true → b ≡ true
if_true true h = refl
if_true false h = cc

on_so : {n : ℕ} (R : QueueEnd n → QueueEnd n → Type 0) (k : ℕ) (old new : List (QueueEnd n)) → ((a b : QueueEnd n) → R a b → end_knows_shut b ≡ true) → OnEnd k R old new
    → (q : ℕ) → (if q == k then true else false) ≡ true → knows_shut_at new q ≡ true
on_so R k old new so o q at = let e = eqb-true q k (if_true (q == k) at) in
    subst (λ (z : ℕ). knows_shut_at new z ≡ true) (sym e) (ap (λ z. knows_shut_at z k) o.now ∙ set_there end_knows_shut old k o.end o.after o.was (so o.end o.after o.does))

found_on : (queue : QueueIndex) (Does : (n : ℕ) → QueueEnd n → QueueEnd n → Type 0) → ((n : ℕ) (a b : QueueEnd n) → Does n a b → end_knows_shut b ≡ true) → (old new : QueueEnds) → OnQueue queue Does old new
    → (q : QueueIndex) → only false queue true q ≡ true → know_shut new q ≡ true
found_on (Small k) Does so old new o (Small q) at = on_so (Does 64) k old.small.items new.small.items (so 64) o.0 q at
found_on (Small k) Does so old new o (Large q) at = cc
found_on (Large k) Does so old new o (Small q) at = cc
found_on (Large k) Does so old new o (Large q) at = on_so (Does 256) k old.large.items new.large.items (so 256) o.0 q at

-- the end of the queue knows that the queue is shut, if its say was answered so
pub said_shut : (queue : QueueIndex) (line : List ℕ) (old new : QueueEnds) → SaidAt {A = Unit {0}} queue line (Err claims.Closed) old new → (q : QueueIndex) → only false queue true q ≡ true → know_shut new q ≡ true
said_shut queue line = found_on queue (λ n. Said {n = n} {A = Unit {0}} line (Err claims.Closed)) (λ n. found_so {n = n} line)

-- the end of the queue knows that the queue is shut, if its hear was answered so
pub heard_shut : (queue : QueueIndex) (line : List ℕ) (old new : QueueEnds) → HeardAt {A = Unit {0}} queue line (Err takes.Closed) old new → (q : QueueIndex) → only false queue true q ≡ true → know_shut new q ≡ true
heard_shut queue line = found_on queue (λ n. Heard {n = n} {A = Unit {0}} line (Err takes.Closed)) (λ n. heard_so {n = n} line)

-- a line that was heard has an item, and no more than its queue has places
pub heard_few : (queue : QueueIndex) (line : List ℕ) (old new : QueueEnds) → HeardAt {A = Unit {0}} queue line (Ok tt) old new → (0 < length line) × (length line ≤ room_of queue)
heard_few (Small k) line old new h = let o = h.0 in heard_long o.end o.after line (Ok tt) o.does
heard_few (Large k) line old new h = let o = h.0 in heard_long o.end o.after line (Ok tt) o.does
