-- What a call leaves: the end did not shut the queue, and it sees no less than it had seen.
use Rattle.batch_queue.proofs.Common.{AbsState, BatchState, EndRecord, IsValidView, InvHeldOf, List, Performed, Step, View, [], ap, arith, inl, inr, newborn_with, nothing_did, of_batches, rest_without, refl, subst, sym, ℕ, ◌+◌, ◌-◌, ◌≤◌, ◌∙◌, ◌∷◌, ◌≡◌}
use Rattle.std.proofs.Math.Bool.{Bool-set}
use Rattle.std.proofs.Math.Bridge.{le_prop}
use Rattle.std.proofs.Math.Logic.{∥∥₁_elim, ∥∥₁_map}
use Rattle.table_theory.proofs.Certainty.{surely_joined, surely_reach}
use Rattle.table_theory.specs.Ledgers.{CountedUp, ExtendsTrace, Reaches}
use Rattle.table_theory.specs.Sharing.{given, kept}
use Rattle.table_theory.specs.declared.views.Part.{Part}
use Rattle.batch_queue.specs.Client.{GoesOn, IsLater}
use Rattle.batch_queue.specs.Endings.{JoinedBy}
use Rattle.batch_queue.specs.Layout.{ends_word}
use Rattle.batch_queue.specs.Own.{OnlyLoads, did_both}
use Rattle.batch_queue.specs.Puts.{RefusedClaimBy}
use Rattle.batch_queue.specs.declared.refusals.PutRefusal.{PutRefusal}
use Rattle.batch_queue.specs.declared.refusals.PutRefusal.TheVariants.{NoItems, TooLong, Closed, Spent, Full, Lost}
use Rattle.batch_queue.specs.declared.refusals.TakeRefusal.{TakeRefusal}
use Rattle.batch_queue.specs.declared.refusals.TakeRefusal.TheVariants as not_taken
use Rattle.batch_queue.specs.Parts.{RefusedSomeBy, with_parts}
use Rattle.batch_queue.specs.Takings.{RefusedTake}
use Rattle.batch_queue.proofs.Trying.{refused_take_at}
use Rattle.batch_queue.proofs.Growing.{items_grow, reaches_grow}
use Rattle.batch_queue.proofs.Stepping.{honest}

later_of : (m n : AbsState BatchState) → ∥ Reaches of_batches m n ∥₁ → IsLater m.object n.object
later_of m n r = record {
  claims = ∥∥₁_elim r le_prop (λ p. items_grow m.object n.object (reaches_grow m n p));
  taken = ∥∥₁_elim r le_prop (λ p. (reaches_grow m n p).taken);
  phases = λ i. ∥∥₁_elim r le_prop (λ p. (reaches_grow m n p).phases i);
  shut = λ shut. ∥∥₁_elim r (Bool-set _ _) (λ p. (reaches_grow m n p).shut shut);
}

valid_view : (v : View) → ∥ InvHeldOf v ∥₁ → ∥ IsValidView of_batches v ∥₁
valid_view v r = ∥∥₁_map r (λ k. honest v k)

pub later : (v w : View) (entries : List (Step BatchState)) → ∥ InvHeldOf v ∥₁ → ∥ InvHeldOf w ∥₁ → ExtendsTrace v entries w → IsLater v.seen.object w.seen.object
later v w entries a b adds = later_of v.seen w.seen (surely_reach of_batches v w entries (valid_view v a) (valid_view w b) adds)

pub goes_none : (v : View) → GoesOn v v
goes_none v = record { shuts = refl; later = record { claims = omega arith; taken = omega arith; phases = λ i. omega arith; shut = λ shut. shut } }

pub goes_then : (v u w : View) → GoesOn v u → GoesOn u w → GoesOn v w
goes_then v u w a b = record {
  shuts = b.shuts ∙ a.shuts;
  later = record {
    claims = (let x = a.later.claims in let y = b.later.claims in omega arith);
    taken = (let x = a.later.taken in let y = b.later.taken in omega arith);
    phases = λ i. (let x = a.later.phases i in let y = b.later.phases i in omega arith);
    shut = λ shut. b.later.shut (a.later.shut shut);
  };
}

pub goes_made : (v w : View) (entries : List (Step BatchState)) (own : EndRecord) → ∥ InvHeldOf v ∥₁ → ∥ InvHeldOf w ∥₁ → own.shuts ≡ v.own.shuts → Performed v entries own w → GoesOn v w
goes_made v w entries own a b same m = record { shuts = ap (λ (z : EndRecord). z.shuts) m.did ∙ same; later = later v w entries a b m.adds }

pub goes_looks : (v w : View) (entries : List (Step BatchState)) → ∥ InvHeldOf v ∥₁ → ∥ InvHeldOf w ∥₁ → OnlyLoads v entries w → GoesOn v w
goes_looks v w [] a b h = subst (λ (z : View). GoesOn v z) (sym h) (goes_none v)
goes_looks v w (e ∷ entries) a b h = goes_made v w (e ∷ entries) v.own a b refl h

claim_looks : (Added : List (Step BatchState) → Type 0) (room want least : ℕ) (r : PutRefusal) → RefusedClaimBy Added room want least r → (entries : List (Step BatchState)) × Added entries
claim_looks Added room want least NoItems h = absurd h
claim_looks Added room want least TooLong h = absurd h
claim_looks Added room want least Closed (inl h) = (_, h.added)
claim_looks Added room want least Closed (inr (head, now, marked, h)) = (_, h.added)
claim_looks Added room want least Spent h = (_, h.added)
claim_looks Added room want least (Full head free) h = (_, h.added)
claim_looks Added room want least (Lost now) (inl (free, h)) = (_, h.added)
claim_looks Added room want least (Lost now) (inr (head, past, is_open, h)) = (_, h.added)

-- a claim was refused
pub goes_refused : (room want least : ℕ) (r : PutRefusal) (v w : View) → ∥ InvHeldOf v ∥₁ → ∥ InvHeldOf w ∥₁ → RefusedClaimBy (λ entries. OnlyLoads v entries w) room want least r → GoesOn v w
goes_refused room want least r v w a b h = let t = claim_looks (λ entries. OnlyLoads v entries w) room want least r h in goes_looks v w t.0 a b t.1

-- a taking was refused
pub goes_refused_take : (room most : ℕ) (r : TakeRefusal) (v w : View) → ∥ InvHeldOf v ∥₁ → ∥ InvHeldOf w ∥₁ → RefusedTake room v most r w → GoesOn v w
goes_refused_take room most r v w a b h = let t = refused_take_at (λ entries. Performed v entries v.own w) room most r h in goes_made v w t.0 v.own a b refl t.1

pub goes_refused_some : (room most : ℕ) (r : TakeRefusal) (v w : View) → ∥ InvHeldOf v ∥₁ → ∥ InvHeldOf w ∥₁ → RefusedSomeBy (λ parts entries. Performed v entries (with_parts v.own parts) w) room most r → GoesOn v w
goes_refused_some room most (not_taken.Empty at) v w a b h = goes_made v w _ _ a b refl h.added
goes_refused_some room most (not_taken.ShortBuffer at count) v w a b h = absurd h
goes_refused_some room most (not_taken.Lost now) v w a b (inl h) = goes_made v w _ _ a b refl h.added
goes_refused_some room most (not_taken.Lost now) v w a b (inr (inl h)) = goes_made v w _ _ a b refl h.added
goes_refused_some room most (not_taken.Lost now) v w a b (inr (inr h)) = goes_made v w _ _ a b refl h.added
goes_refused_some room most not_taken.Closed v w a b h = goes_made v w _ _ a b refl h.added

-- the end took in another
pub later_joined : (v u w : View) → ∥ InvHeldOf v ∥₁ → ∥ InvHeldOf u ∥₁ → ∥ InvHeldOf w ∥₁ → JoinedBy v u w → IsLater v.seen.object w.seen.object × IsLater u.seen.object w.seen.object
later_joined v u w a b c t = let r = surely_joined of_batches did_both ends_word v u w (valid_view w c) t (valid_view v a) (valid_view u b) in (later_of v.seen w.seen r.0, later_of u.seen w.seen r.1)

-- the end was split
pub parts_sum : (v u w born : View) (parts : ℕ) → CountedUp ends_word v u → parts ≤ u.member.share → w ≡ rest_without parts u → born ≡ newborn_with parts nothing_did u → w.member.share + born.member.share ≡ v.member.share
parts_sum v u w born parts t few rest new = let a : w.member.share ≡ u.member.share - parts = ap (λ (z : View). z.member.share) rest in let b : born.member.share ≡ parts = ap (λ (z : View). z.member.share) new in let c : u.member.share ≡ v.member.share = ap (λ (z : Part). z.share) t.member in omega arith

pub goes_split : (v u w : View) (parts : ℕ) → ∥ InvHeldOf v ∥₁ → ∥ InvHeldOf u ∥₁ → CountedUp ends_word v u → w ≡ rest_without parts u → GoesOn v w
goes_split v u w parts a b t is = let l = later v u _ a b t.adds in subst (λ (z : View). GoesOn v z) (sym is) (record { shuts = ap (λ (z : EndRecord). z.shuts) t.own; later = record { claims = l.claims; taken = l.taken; phases = l.phases; shut = l.shut } })
