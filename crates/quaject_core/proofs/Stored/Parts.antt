-- What an event of one stored part makes of the whole state.
use Rattle.quaject_core.proofs.Common.{◌≡◌, ℕ, ◌+◌, ◌<◌, ◌≤◌, List, [], ◌∷◌, ◌++◌, ◌∙◌, map, length, set, get_or, take, drop, append-nil, refl, sym, ap, ap₂, subst, arith, Some, slice_get, ok_or, Result, Ok, Err, option_map, map-set, length-map, get_or-map, take_all, drop_all, slice_get-map, slice_get_read, slice_get_past, map-set_same, ◌>>=◌, at, change_at, IsWhy, Changes, Queue, Chain, State, in_queue, in_chain, queue, chain, elements, stored_state, StoredQueue, StoredChain, Refusal, UnknownName, OutOfMemory}
use Rattle.std.proofs.lemmas.List.Edits.{map_over_more}
use Rattle.quaject_core.specs.ShownMeters.{meters}
use Rattle.quaject_core.specs.declared.store.Store.{Store}

-- why a part was refused is why the whole was
why_then : {A B : Type 0} (refusal : Refusal) (said : Result A Refusal) (f : A → B) → IsWhy refusal said → IsWhy refusal (said >>= λ x. Ok (f x))
why_then OutOfMemory (Ok x) f why = why
why_then OutOfMemory (Err e) f why = why
why_then refusal said f why = ap (λ r. r >>= λ x. Ok (f x)) why

-- a part changes, and the whole with it
pub lift_changes : {A B : Type 0} (result : Result (Unit {0}) Refusal) (said : Result A Refusal) (f : A → B) (old new : A) → Changes result said old new
    → Changes result (said >>= λ x. Ok (f x)) (f old) (f new)
lift_changes (Ok done) said f old new h = ap (λ r. r >>= λ x. Ok (f x)) h
lift_changes (Err refusal) said f old new h = (ap f h.0, why_then refusal said f h.1)

found : {X A : Type 0} (f : X → A) (xs : List X) (number : ℕ) (old : X) → number < length xs → old ≡ get_or xs number old → slice_get (map f xs) number ≡ Some (f old)
found f xs number old within is = slice_get-map f xs number ∙ ap (option_map f) (slice_get_read xs (length xs) number old refl within is)

abbrev ok_list : {A : Type 0} → List A → Result (List A) Refusal
ok_list xs = Ok xs

-- one of the stored parts changes, and their list with it
pub change_stored : {X A : Type 0} (f : X → A) (xs : List X) (number : ℕ) (event : A → Result A Refusal) (old new : X) (result : Result (Unit {0}) Refusal)
    → number < length xs → old ≡ get_or xs number old → Changes result (event (f old)) (f old) (f new)
    → Changes result (change_at number event (map f xs)) (map f xs) (map f (set xs number new))
change_stored f xs number event old new (Ok done) within is h =
    ap (λ o. ok_or o UnknownName >>= event >>= λ y. Ok (set (map f xs) number y)) (found f xs number old within is)
    ∙ (ap (λ r. r >>= λ y. Ok (set (map f xs) number y)) h ∙ ap (ok_list) (sym (map-set f xs number new)))
change_stored f xs number event old new (Err refusal) within is h = (
  map-set_same f xs number new old (h.0 ∙ ap f is),
  subst (IsWhy refusal) (sym (ap (λ o. ok_or o UnknownName >>= event >>= λ y. Ok (set (map f xs) number y)) (found f xs number old within is)))
      (why_then refusal (event (f old)) (λ y. set (map f xs) number y) h.1),
)

-- there is none with that number
pub none_stored : {X A : Type 0} (f : X → A) (xs : List X) (number : ℕ) (event : A → Result A Refusal) → length xs ≤ number → change_at number event (map f xs) ≡ Err UnknownName
none_stored f xs number event past =
    ap (λ o. ok_or o UnknownName >>= event >>= λ y. Ok (set (map f xs) number y)) (slice_get_past (map f xs) number (omega (arith, length-map xs f)))

-- the state of a store with other queues, or with other chains
abbrev pub with_queues : Store → List Queue → State
with_queues store queues = record {
  queues = queues;
  chains = map chain store.chains.items;
  elements = elements store.elements;
  meters = meters store.meters;
  events = store.events;
}

abbrev pub with_chains : Store → List Chain → State
with_chains store chains = record {
  queues = map queue store.queues.items;
  chains = chains;
  elements = elements store.elements;
  meters = meters store.meters;
  events = store.events;
}

pub queue_changes : (store : Store) (number at : ℕ) (event : Queue → Result Queue Refusal) (old new : StoredQueue) (said : Result Queue Refusal) (result : Result (Unit {0}) Refusal)
    → at ≡ number → at < length store.queues.items → old ≡ get_or store.queues.items at old → said ≡ event (queue old) → Changes result said (queue old) (queue new)
    → Changes result (in_queue number event (stored_state store)) (stored_state store) (with_queues store (map queue (set store.queues.items at new)))
queue_changes store number at event old new said result same within is out h =
    subst (λ n. Changes result (in_queue n event (stored_state store)) (stored_state store) (with_queues store (map queue (set store.queues.items at new)))) same
    (lift_changes result _ (with_queues store) _ _
    (change_stored queue store.queues.items at event old new result within is (subst (λ r. Changes result r (queue old) (queue new)) out h)))

-- a queue changes by an event that is always allowed, and the whole state with it
pub queue_changed : (store : Store) (number at : ℕ) (event : Queue → Result Queue Refusal) (old new : StoredQueue) (unit : Unit {0})
    → at ≡ number → at < length store.queues.items → old ≡ get_or store.queues.items at old → event (queue old) ≡ Ok (queue new)
    → in_queue number event (stored_state store) ≡ Ok (with_queues store (map queue (set store.queues.items at new)))
queue_changed store number at event old new unit same within is h = queue_changes store number at event old new _ (Ok unit) same within is refl h

pub no_queue : (store : Store) (number : ℕ) (event : Queue → Result Queue Refusal) → length store.queues.items ≤ number → in_queue number event (stored_state store) ≡ Err UnknownName
no_queue store number event past = ap (λ r. r >>= λ queues. Ok (with_queues store queues)) (none_stored queue store.queues.items number event past)

pub chain_changes : (store : Store) (number at : ℕ) (event : Chain → Result Chain Refusal) (old new : StoredChain) (result : Result (Unit {0}) Refusal)
    → at ≡ number → at < length store.chains.items → old ≡ get_or store.chains.items at old → Changes result (event (chain old)) (chain old) (chain new)
    → Changes result (in_chain number event (stored_state store)) (stored_state store) (with_chains store (map chain (set store.chains.items at new)))
chain_changes store number at event old new result same within is h =
    subst (λ n. Changes result (in_chain n event (stored_state store)) (stored_state store) (with_chains store (map chain (set store.chains.items at new)))) same
    (lift_changes result _ (with_chains store) _ _ (change_stored chain store.chains.items at event old new result within is h))

pub no_chain : (store : Store) (number : ℕ) (event : Chain → Result Chain Refusal) → length store.chains.items ≤ number → in_chain number event (stored_state store) ≡ Err UnknownName
no_chain store number event past = ap (λ r. r >>= λ chains. Ok (with_chains store chains)) (none_stored chain store.chains.items number event past)

pub map-map : {X Y Z : Type 0} (f : Y → Z) (g : X → Y) (xs : List X) → map f (map g xs) ≡ map (λ x. f (g x)) xs
map-map f g [] = refl
map-map f g (x ∷ xs) = ap (λ ys. f (g x) ∷ ys) (map-map f g xs)

-- a loop that changes each stored part in its turn: one more
pub over_more : {X A : Type 0} (f : X → A) (g : A → A) (old now : List X) (i : ℕ) (x new : X) → i < length old → length now ≡ length old
    → map f now ≡ map g (take i (map f old)) ++ drop i (map f old) → f new ≡ g (f (get_or now i x))
    → map f (set now i new) ≡ map g (take (i + 1) (map f old)) ++ drop (i + 1) (map f old)
over_more f g old now i x new within same before is =
    let y = f (get_or now i x) in
    let here : y ≡ get_or (map f now) i y = sym (get_or-map f now i x y (omega arith)) in
    map-set f now i new ∙ (ap (set (map f now) i) is ∙ map_over_more g (map f old) (map f now) i y (omega (arith, length-map old f)) before here)

-- a loop that changes each stored part in its turn: after the last
pub over_all : {X A : Type 0} (f : X → A) (g : A → A) (old now : List X) (i : ℕ) → length old ≤ i
    → map f now ≡ map g (take i (map f old)) ++ drop i (map f old) → map f now ≡ map g (map f old)
over_all f g old now i past before =
    let long : length (map f old) ≤ i = omega (arith, length-map old f) in
    before ∙ (ap₂ (λ xs ys. map g xs ++ ys) (take_all i (map f old) long) (drop_all i (map f old) long) ∙ append-nil (map g (map f old)))
