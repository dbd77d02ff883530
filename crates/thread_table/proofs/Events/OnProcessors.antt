-- What putting an element on a processor does, and what taking one off does.
use Rattle.thread_table.proofs.Common.{by_processor, has, ◌+◌, Result, ◌⊎◌, ◌≡◌, ◌≢◌, inl, inr, ℕ, zero, suc, ◌<◌, ◌≤◌, Bool, true, false, List, [], ◌∷◌, ◌++◌, ◌∙◌, length, set, get_or, remove, position, refl, sym, ap, subst, arith, Some, None, Option, option_map, slice_get, get_or-set_other, get_or-set_same, eqb, cond, Ok, cases_lt, nat_tests, sum_by-cons, slice_get-get_or, list_any, position_or_len, appearances, is_on, Elements, Thread, hold, is_hold, is_put, holds, new_thread, IsLawfulElements, Hold, View, thread_at, PROCESSORS, ELEMENTS, processor_word, state_word, done_word, StateShows, processor_shown, HandIs, serves, running, Refusal, having, with_taken_off}
use Rattle.std.proofs.lemmas.List.{length-set}
use Rattle.std.specs.List.{count_by}
use Rattle.event_theory.specs.Elements.{put_on, take_off}
use Rattle.event_theory.proofs.Keeping.Places.{slice_get_set_same, slice_get_set_other}
use Rattle.thread_table.proofs.Events.Changes.{parts_effect}
use Rattle.thread_table.proofs.Events.Effects.{Effect, Ready, May, Anything}
use Rattle.event_theory.specs.declared.event.Event.TheVariants as events
use Rattle.thread_table.proofs.Hands.Releases.{releases, hold_own, hold_else, handed, handed_else}
use Rattle.thread_table.proofs.Shown.Outside.{with_parts}
use Rattle.thread_table.proofs.Hands.HeldLists.{any_set, read_set, held_set, no_claim, held_once}

abbrev on_its_processor : ℕ → Option Hold → ℕ
on_its_processor element seat = cond (is_on element seat) 1 0

abbrev one_if : Bool → ℕ
one_if b = cond b 1 0

-- an element on a processor is counted there
processor_counts : (element : ℕ) (h : Hold) (processors : List (Option Hold)) (p : ℕ) → slice_get processors p ≡ Some (Some h) → eqb h.element element ≡ true → 1 ≤ count_by (is_on element) processors
processor_counts element h [] p there is = absurd (cc)
processor_counts element h (seat ∷ processors) zero there is =
    let same : seat ≡ Some h = cc in
    let counts : on_its_processor element seat ≡ 1 = ap (on_its_processor element) same ∙ ap one_if is in
    omega (arith, sum_by-cons (on_its_processor element) seat processors, counts)
processor_counts element h (seat ∷ processors) (suc p) there is =
    omega (arith, sum_by-cons (on_its_processor element) seat processors, processor_counts element h processors p there is)

-- the seat that shows what a hand has on a processor
abbrev processor_of : ℕ → Option ℕ → Option Hold
processor_of id on = option_map (hold id) on

-- the elements after the seat of a processor and the holds changed
abbrev seated : ℕ → Elements → ℕ → Option ℕ → List Hold → Elements
seated id e p on held = with_parts e e.threads (set e.processors p (processor_of id on)) held

abbrev view_with : View → ℕ → Option ℕ → ℕ → Bool → View
view_with v p on element is = record v { own = record v.own { held = set v.own.held element is; on = set v.own.on p on; counted = None } }

not_put : (id call x : ℕ) (on : Option ℕ) → call ≢ id → is_put call x (processor_of id on) ≡ false
not_put id call x None other = refl
not_put id call x (Some element) other = hold_else id element call x (hold id element) (hold_own id element) (inl other)

-- one processor is not the other, which is served
not_served : (v : View) (p q : ℕ) → serves v p ≡ true → serves v q ≡ false → p ≢ q
not_served v p q served strange same = let e : serves v q ≡ true = ap (serves v) (sym same) ∙ served in absurd (cc)

-- the seat of a processor that the hand serves, and what the hand holds, become others
seat_effect : (id : ℕ) (v : View) (first : ℕ) (event : Elements → Result Elements Refusal) (e : Elements) (words : List ℕ) (p : ℕ) (old on : Option ℕ) (held : List Hold) (element : ℕ) (is : Bool) → Ready id v first e words → v.own.claimed ≡ None → p < PROCESSORS → element < ELEMENTS
    → serves v p ≡ true → slice_get e.processors p ≡ Some (processor_of id old) → event e ≡ Ok (seated id e p on held) → list_any (is_hold id element) held ≡ is → ((c x : ℕ) → (c ≢ id) ⊎ (x ≢ element) → list_any (is_hold c x) held ≡ list_any (is_hold c x) e.held)
    → Effect id v (view_with v p on element is) first event e (set words (processor_word p) (processor_shown (processor_of id on)))
seat_effect id v first event e words p old on held element is ready free below known served there goes own others =
    let f : Elements = seated id e p on held in let word : ℕ = processor_shown (processor_of id on) in let hand = ready.hand in let wide = ready.shows.wide in let seats = ready.shows.processors in
    let else : (place : ℕ) → place ≢ processor_word p → get_or (set words (processor_word p) word) place 0 ≡ get_or words place 0 = λ place apart. get_or-set_other words (processor_word p) place word 0 apart in
    parts_effect id v (view_with v p on element is) first event e words e.threads (set e.processors p (processor_of id on)) held (processor_word p) word ready free goes
    record {
      held_long = length-set v.own.held element is ∙ hand.held_long;
      serves_long = hand.serves_long;
      on_long = length-set v.own.on p on ∙ hand.on_long;
      held = held_set id v e f element is hand known own (λ x apart. others id x (inr apart));
      on = λ q mine. read_set (λ k seat. serves v k ≡ true → slice_get f.processors k ≡ Some (processor_of id seat)) v.own.on p on None (omega (arith, hand.on_long))
          (λ m. slice_get_set_same e.processors p (processor_of id old) (processor_of id on) there) q
          (λ apart m. slice_get_set_other e.processors p q (processor_of id on) (λ h. apart (sym h)) ∙ hand.on q m) mine;
      off = λ q strange. get_or-set_other v.own.on p q on None (λ h. not_served v p q served strange (sym h)) ∙ hand.off q strange;
      claimed = no_claim id v f free;
      counted = λ c is. absurd (cc);
    }
    record {
      others = λ c x other. others c x (inl other);
      strange = λ q up. slice_get_set_other e.processors p q (processor_of id on) (not_served v p q served up);
      puts = λ c x other. any_set (is_put c x) e.processors p (processor_of id old) (processor_of id on) there (not_put id c x on other ∙ sym (not_put id c x old other));
      counts = λ x may. refl;
      inside = omega arith;
      used = by_processor p below refl;
      many = refl;
      seats = length-set e.processors p (processor_of id on);
      on = λ q low. read_set (λ k seat. get_or (set words (processor_word p) word) (processor_word k) 0 ≡ processor_shown seat) e.processors p (processor_of id on) None (omega (arith, seats))
          (get_or-set_same words (processor_word p) word 0 (omega (arith, wide))) q (λ apart. else (processor_word q) (λ h. apart (omega arith)) ∙ ready.shows.on q low);
      states = λ x low. subst (StateShows (thread_at e x)) (sym (else (state_word x) (λ h. omega arith))) (ready.shows.states x low);
      steps = λ x low. else (done_word x) (λ h. omega arith) ∙ ready.shows.steps x low;
      few = ready.shows.few;
    }

-- the element that a hand has on a processor is there
seat_there : (id : ℕ) (v : View) (e : Elements) (p : ℕ) (on : Option ℕ) → HandIs id v e → serves v p ≡ true → running v p ≡ on → slice_get e.processors p ≡ Some (processor_of id on)
seat_there id v e p on hand served runs = hand.on p served ∙ ap (λ o. Some (processor_of id o)) runs

put_on_goes : (id p element index : ℕ) (e : Elements) (thread : Thread) → slice_get e.threads element ≡ Some thread → slice_get e.processors p ≡ Some None → position (is_hold id element) e.held ≡ Some index
    → put_on id p element e ≡ Ok (seated id e p (Some element) (remove e.held index))
put_on_goes id p element index e thread known free at = rw (known, free, at) refl

take_off_goes : (id p element : ℕ) (e : Elements) → slice_get e.processors p ≡ Some (Some (hold id element)) → take_off id p e ≡ Ok (seated id e p None (e.held ++ hold id element ∷ []))
take_off_goes id p element e there = let mine : eqb id id ≡ true = grind (arith, nat_tests) in rw (there, mine) refl

-- an element on a processor is one of the elements
on_known : (e : Elements) (p id element : ℕ) → IsLawfulElements e → slice_get e.processors p ≡ Some (Some (hold id element)) → element < length e.threads
on_known e p id element lawful there = elim (cases_lt element (length e.threads)) [
  | inl below ↦ below
  | inr past ↦ (let gone : appearances element e ≡ 0 = lawful.known element past in
      let itself : eqb element element ≡ true = grind (arith, nat_tests) in
      absurd (omega (arith, gone, processor_counts element (hold id element) e.processors p there itself)))
]

module _ (id : ℕ) (v : View) (free : v.own.claimed ≡ None) where
  -- an element is put on a processor, where there was none, or taken off
  pub may_put : (p element : ℕ) → p < PROCESSORS → element < ELEMENTS → has v element ≡ true → serves v p ≡ true → running v p ≡ None → May id v (events.On id p element) (processor_word p) Anything (λ x. element + 1)
  may_put p element low known held serving empty = record {
    change = put_on id p element;
    is = λ t. refl;
    plain = refl;
    inside = omega arith;
    goes = λ first same e words r any. let index = position_or_len (is_hold id element) e.held in
        let within : element < length e.threads = omega (arith, known, r.shows.threads) in let any : holds id element e ≡ true = r.hand.held element ∙ held in
        let g = releases id element e.held any (held_once id element e r.lawful within any) in let there = seat_there id v e p None r.hand serving empty in
        seat_effect id v first (put_on id p element) e words p None (Some element) (remove e.held index) element false r free low known serving there
        (put_on_goes id p element index e (thread_at e element) (slice_get-get_or e.threads element new_thread within) there g.at) g.own g.others;
  }

  pub may_take_off : (p element : ℕ) → p < PROCESSORS → serves v p ≡ true → running v p ≡ Some element → May id v (events.Off id p) (processor_word p) Anything (λ x. 0)
  may_take_off p element low serving there = record {
    change = take_off id p;
    is = λ t. refl;
    plain = refl;
    inside = omega arith;
    goes = λ first same e words r any. let stands = seat_there id v e p (Some element) r.hand serving there in let within : element < length e.threads = on_known e p id element r.lawful stands in
        subst (λ (o : Option ℕ). Effect id v (having v (record v.own { held = with_taken_off o v.own.held; on = set v.own.on p None })) first (take_off id p) e (set words (processor_word p) 0)) (sym there)
        (seat_effect id v first (take_off id p) e words p (Some element) None (e.held ++ hold id element ∷ []) element true r free low (omega (arith, within, r.shows.threads)) serving stands
        (take_off_goes id p element e stands) (handed id element e.held) (λ c x other. handed_else id element c x e.held other));
  }
