-- The ends of new queues, taken off from the last.
use Rattle.std.proofs.Common.{◌≡◌, ◌+◌, ◌<◌, ◌≤◌, ℕ, zero, suc, List, [], ◌∷◌, ◌++◌, length, refl, sym, ap, subst, ◌∙◌, arith, Some}
use Rattle.std.proofs.lemmas.List.{length-append}
use Rattle.std.specs.List.{slice_get}
use Rattle.claim_queue.specs.Plain.{ClaimQueue}
use Rattle.claim_queue.specs.declared.ends.QueueEnd.{QueueEnd}
use Rattle.quajects.specs.Worlds.{AreFront, IsFresh}

get_front : {A : Type 0} (xs ys : List A) (i : ℕ) (x : A) → slice_get xs i ≡ Some x → slice_get (xs ++ ys) i ≡ Some x
get_front [] ys i x h = absurd (cc)
get_front (y ∷ xs) ys zero x h = h
get_front (y ∷ xs) ys (suc i) x h = get_front xs ys i x h

get_last : {A : Type 0} (xs : List A) (x : A) → slice_get (xs ++ x ∷ []) (length xs) ≡ Some x
get_last [] x = refl
get_last (y ∷ xs) x = get_last xs x

module _ {n : ℕ} (queues : List (ClaimQueue n)) (ends rest : List (QueueEnd n)) (last : QueueEnd n) (are : ends ≡ rest ++ last ∷ []) where
  pub one_less : length ends ≡ length rest + 1
  one_less = ap length are ∙ length-append rest (last ∷ [])

  pub front_rest : AreFront queues ends → AreFront queues rest
  front_rest front = record {
    few = let few = front.few in let less = one_less in omega arith;
    fresh = λ i queue end q e. front.fresh i queue end q (ap (λ z. slice_get z i) are ∙ get_front rest (last ∷ []) i end e);
  }

  pub front_within : AreFront queues ends → length rest < length queues
  front_within front = let few = front.few in let less = one_less in omega arith

  pub front_last : AreFront queues ends → (queue : ClaimQueue n) → slice_get queues (length rest) ≡ Some queue → IsFresh queue last
  front_last front queue at = front.fresh (length rest) queue last at (ap (λ z. slice_get z (length rest)) are ∙ get_last rest last)
