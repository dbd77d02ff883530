-- What one event does to the elements, to what its hand has, to what others have, and to the words.
use Rattle.thread_table.proofs.Common.{◌≡◌, ◌≢◌, ◌⊎◌, ℕ, zero, suc, ◌+◌, ◌<◌, false, List, set, get_or, Some, None, slice_get, Result, Ok, refl, ap, ◌∙◌, subst, arith, list_any, Elements, holds, is_put, IsLawfulElements, State, effect, in_elements, Event, Refusal, View, Claimed, Grows, ring_at, ring_name, thread_at, element_at, RINGS, wait_ring, is_join, WordsShow, having, left_by_event, claim_of, HandIs, IsOpen, IsClaimed, may_step, serves}
use Rattle.event_theory.specs.declared.names.QueueName.{QueueName}
use Rattle.event_theory.specs.declared.names.QueueName.TheVariants as names
use Rattle.thread_table.specs.Schedules.{elements_after}
use Rattle.thread_table.specs.Views.{ring_of, next_claim}

-- an event of the call id, whose hand knows v, leaves what others have
pub record Leaves (id : ℕ) (v : View) (e f : Elements) : Type 0 where
  pub grows : Grows e f
  pub held : (call element : ℕ) → call ≢ id → holds call element f ≡ holds call element e
  pub processors : (p : ℕ) → serves v p ≡ false → slice_get f.processors p ≡ slice_get e.processors p
  pub puts : (call element : ℕ) → call ≢ id → list_any (is_put call element) f.processors ≡ list_any (is_put call element) e.processors
  pub runs : (call : ℕ) (c : Claimed) → call ≢ id → IsClaimed call c e → IsClaimed call c f
  pub steps : (element : ℕ) → may_step id element e ≡ false → (thread_at f element).done ≡ (thread_at e element).done

-- the event is allowed, and what it makes of all that
pub record Effect (id : ℕ) (v w : View) (first : ℕ) (event : Elements → Result Elements Refusal) (e : Elements) (words : List ℕ) : Type 0 where
  pub f : Elements
  pub goes : event e ≡ Ok f
  pub leaves : Leaves id v e f
  pub hand : HandIs id w f
  pub shows : WordsShow first f words
  -- a run that isn't raised then is the hand's claim, or wasn't before
  pub owes : (ring run : ℕ) → ring < RINGS → IsOpen ring run f
      → (IsOpen ring run e × (element_at (ring_at f ring) run ≡ element_at (ring_at e ring) run)
      × (v.own.claimed ≡ Some (claim_of ring run (element_at (ring_at e ring) run)) → ⊥))
      ⊎ (w.own.claimed ≡ Some (claim_of ring run (element_at (ring_at f ring) run)))

-- what is known of the elements and of the hand before an event of it
pub record Ready (id : ℕ) (v : View) (first : ℕ) (e : Elements) (words : List ℕ) : Type 0 where
  pub lawful : IsLawfulElements e
  pub hand : HandIs id v e
  pub shows : WordsShow first e words
  pub grown : Grows (elements_after v.seen.object) e

-- the hand has claimed the next place of an element queue for an element that it held, or has raised it
abbrev pub with_claim : View → Elements → ℕ → ℕ → View
with_claim v e ring element = having v (record v.own { held = set v.own.held element false; claimed = next_claim e ring element })

abbrev pub with_raise : View → View
with_raise v = having v (record v.own { claimed = None })

-- The event that a step of the hand on this word may be, where it finds this there, whatever the elements are
pub record May (id : ℕ) (v : View) (event : Event) (word : ℕ) (Finds : ℕ → Type 0) (next : ℕ → ℕ) : Type 0 where
  pub change : Elements → Result Elements Refusal
  pub is : (t : State) → effect event t ≡ in_elements change t
  pub plain : is_join event ≡ false
  pub inside : 0 < word
  pub goes : (first : ℕ) → v.own.first ≡ first → (e : Elements) (words : List ℕ) → Ready id v first e words → Finds (get_or words word 0) → Effect id v (left_by_event event e v) first change e (set words word (next (get_or words word 0)))

abbrev pub Anything : ℕ → Type 0
Anything found = Unit {0}

-- the number of an element queue, by its name
pub ring_is : (ring : ℕ) → ring_of (ring_name ring) ≡ ring
ring_is zero = refl
ring_is (suc zero) = refl
ring_is (suc (suc wait)) = omega arith

-- the event that has the name of an element queue changes that queue
pub at_ring : (event : QueueName → Event) (change : ℕ → Elements → Result Elements Refusal) (ring : ℕ) (t : State)
    → (effect (event names.Ready) t ≡ in_elements (change 0) t) → (effect (event names.Free) t ≡ in_elements (change 1) t) → ((wait : ℕ) → effect (event (names.Wait wait)) t ≡ in_elements (change (wait_ring wait)) t)
    → effect (event (ring_name ring)) t ≡ in_elements (change ring) t
at_ring event change zero t ready free wait = ready
at_ring event change (suc zero) t ready free wait = free
at_ring event change (suc (suc w)) t ready free wait = let n : w + 2 ≡ suc (suc w) = omega arith in wait w ∙ ap (λ r. in_elements (change r) t) n

-- the same effect, where the word becomes the same by another name
pub becomes : {id : ℕ} {v w : View} {first : ℕ} {change : Elements → Result Elements Refusal} {e : Elements} {a b : ℕ} (words : List ℕ) (word : ℕ) → a ≡ b → Effect id v w first change e (set words word a) → Effect id v w first change e (set words word b)
becomes {id} {v} {w} {first} {change} {e} words word is f = subst (λ (z : ℕ). Effect id v w first change e (set words word z)) is f
