-- The sum of the only hand's list, by the events of the schedule and the states that they found.
use Rattle.turn_dispatch.proofs.Common.{MadeEvent, made_in}
use Rattle.boot_laws.proofs.Settling.Common.{map, sum_by, result_unwrap_or, step, first_state, Reaches, ELEMENTS, moves, AreMade, plus, many_cons, many_more}
use Rattle.thread_table.proofs.Common.{◌≡◌, ℕ, Bool, List, [], ◌∷◌, ◌++◌, ◌∙◌, refl, sym, ap, arith, flat_map, count_by, sum_by-cons, sum_by-IsPermutation, State, Result, Event}
use Rattle.event_theory.specs.declared.event.Event.TheVariants as events
use Rattle.boot_laws.proofs.Common.{entry_of, numbered, begun, filed_shuffle}

-- an event with the state that it found
abbrev pub Move : Type 0
Move = Event × State

module _ {B : Type 0} (f : MadeEvent → List B) where
  -- the report of an event and of the state that it found
  abbrev pub by_move : Move → List B
  by_move m = f (made_in m.0 m.1)

  -- each event reports at most one item that passes a test
  pub each_one : (p : B → Bool) (q : Move → Bool) → ((event : Event) (s : State) → count_by p (f (made_in event s)) ≡ plus (q (event, s))) → (ms : List Move) → count_by p (flat_map by_move ms) ≡ count_by q ms
  each_one p q one [] = refl
  each_one p q one (m ∷ ms) = let a = many_more p (by_move m) (flat_map by_move ms) in let b = one m.0 m.1 in let c = many_cons q m ms in let d = each_one p q one ms in omega arith

  -- the list of a hand leaves out the joins, which report nothing
  module _ (none : (call other : ℕ) (s : State) → f (made_in (events.Join call other) s) ≡ []) where
    by_moves : (s : State) (es : List Event) → flat_map f (numbered s es) ≡ flat_map by_move (moves s es)
    by_moves s [] = refl
    by_moves s (events.Join call other ∷ es) = let t : State = result_unwrap_or (step (events.Join call other) s) s in
        by_moves t es ∙ ap (λ xs. xs ++ flat_map by_move (moves t es)) (sym (none call other s))
    by_moves s (e ∷ es) = ap (λ xs. f (made_in e s) ++ xs) (by_moves (result_unwrap_or (step e s) s) es)

    module _ (p : B → Bool) where
      summed : (l : List MadeEvent) → count_by p (flat_map f l) ≡ sum_by (λ m. count_by p (f m)) l
      summed [] = refl
      summed (m ∷ l) = let a = many_more p (f m) (flat_map f l) in let b = summed l in let c = sum_by-cons (λ m. count_by p (f m)) m l in omega arith

      -- the same number of items of the only hand's list pass a test as of the schedule
      pub of_schedule : (past : List Event) (l : List MadeEvent) → AreMade past (l ∷ []) → count_by p (flat_map f l) ≡ count_by p (flat_map by_move (moves (first_state ELEMENTS) past))
      unfolding begun
      of_schedule past l made = summed l
          ∙ (sym (sum_by-IsPermutation (λ m. count_by p (f m)) l (map entry_of made.log) (filed_shuffle made.log l made.listed))
          ∙ (sym (summed (map entry_of made.log)) ∙ (ap (λ ms. count_by p (flat_map f ms)) made.logged ∙ ap (count_by p) (by_moves (first_state ELEMENTS) past))))

-- a schedule may be cut
pub record Cut (s : State) (front rest : List Event) : Type 0 where
  pub there : State
  pub reached : Reaches s front there
  pub parted : moves s (front ++ rest) ≡ moves s front ++ moves there rest

pub cut : (s : State) (front rest : List Event) (t : State) → Reaches s (front ++ rest) t → Cut s front rest
cut s [] rest t h = record { there = s; reached = refl; parted = refl }
cut s (e ∷ es) rest t h =
    let c = cut h.0 es rest t h.2 in
    let u : State = result_unwrap_or (step e s) s in
    let to : u ≡ h.0 = ap (λ (r : Result State _). result_unwrap_or r s) h.1 in
    record {
      there = c.there;
      reached = (h.0, h.1, c.reached);
      parted = ap (λ z. (e, s) ∷ z) (ap (λ (z : State). moves z (es ++ rest)) to ∙ (c.parted ∙ ap (λ (z : State). moves z es ++ moves c.there rest) (sym to)));
    }
