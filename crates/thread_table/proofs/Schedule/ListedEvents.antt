-- The events of a schedule, as the hands list them.
use Rattle.thread_table.proofs.Common.{◌≡◌, ◌≢◌, ℕ, ◌+◌, Bool, true, false, List, [], ◌∷◌, ◌++◌, map, length, set, refl, sym, ap, ◌∙◌, map-map, map-append, some, get_elem?, Owned, entry_of, Event, MadeEvent, is_join, made_in, numbered, AreMade, result_unwrap_or, State, step, if◌then◌else◌}
use Rattle.thread_table.proofs.Lists.Counts.{by_bool}
use Rattle.std.proofs.lemmas.List.{append-nil}
use Rattle.table_theory.specs.Filing.{moved, sole}
use Rattle.table_theory.proofs.Owned.{file_first, file_push, file_new, file_join, file_sole}
use Rattle.event_theory.specs.declared.event.Event.TheVariants as events
use Rattle.thread_table.specs.Schedules.{after, begun, state_after}
use Rattle.std.specs.Prelude.{◌==◌}

-- the list after the first event
pub by_join : (b : Bool) (x : MadeEvent) (a c d : List MadeEvent) → a ≡ c ++ d → (if b then a else (x ∷ a)) ≡ (if b then c else (x ∷ c)) ++ d
by_join true x a c d e = e
by_join false x a c d e = ap (λ ys. x ∷ ys) e

-- one event more
numbered_more : (s : State) (past : List Event) (event : Event) → numbered s (past ++ event ∷ []) ≡ numbered s past ++ (if is_join event then [] else (made_in event (after s past) ∷ []))
unfolding after
numbered_more s [] event = refl
numbered_more s (x ∷ xs) event = let t : State = result_unwrap_or (step x s) s in
    by_join (is_join x) (made_in x s) (numbered t (xs ++ event ∷ [])) (numbered t xs) (if is_join event then [] else (made_in event (after t xs) ∷ [])) (numbered_more t xs event)

pub following : (past : List Event) (event : Event) → numbered begun (past ++ event ∷ []) ≡ numbered begun past ++ (if is_join event then [] else (made_in event (state_after past) ∷ []))
unfolding state_after
following past event = numbered_more begun past event

pub made_first : AreMade [] ([] ∷ [])
made_first = record { log = []; listed = file_first; logged = refl }

pub made_push : (past : List Event) (lists : List (List MadeEvent)) (c : ℕ) (l : List MadeEvent) (event : Event) → is_join event ≡ false → AreMade past lists → get_elem? lists c ≡ some l
    → AreMade (past ++ event ∷ []) (set lists c (l ++ made_in event (state_after past) ∷ []))
made_push past lists c l event plain m at = let e : MadeEvent = made_in event (state_after past) in record {
  log = m.log ++ (c, length l, e) ∷ [];
  listed = file_push m.log lists c l e m.listed at;
  logged = map-append entry_of m.log ((c, length l, e) ∷ []) ∙ (ap (λ xs. xs ++ e ∷ []) m.logged
      ∙ sym (following past event ∙ ap (λ (b : Bool). numbered begun past ++ (if b then [] else (e ∷ []))) plain));
}

pub made_new : (past : List Event) (lists : List (List MadeEvent)) → AreMade past lists → AreMade past (lists ++ [] ∷ [])
made_new past lists m = record { log = m.log; listed = file_new m.log lists m.listed; logged = m.logged }

moved_entry : (c d n : ℕ) (o : Owned MadeEvent) → (moved c d n o).2 ≡ o.2
moved_entry c d n o = by_bool (o.0 == d) (λ is. ap (λ (b : Bool). (if b then (c, n + o.1, o.2) else o).2) is) (λ isnt. ap (λ (b : Bool). (if b then (c, n + o.1, o.2) else o).2) isnt)

moved_entries : (c d n : ℕ) (log : List (Owned MadeEvent)) → map entry_of (map (moved c d n) log) ≡ map entry_of log
moved_entries c d n log = map-map entry_of (moved c d n) log ∙ ap (λ (f : Owned MadeEvent → MadeEvent). map f log) (λ i o. moved_entry c d n o i)

pub made_join : (past : List Event) (lists : List (List MadeEvent)) (c d : ℕ) (a b : List MadeEvent) → AreMade past lists → get_elem? lists c ≡ some a → get_elem? lists d ≡ some b → d ≢ c
    → AreMade (past ++ events.Join c d ∷ []) (set (set lists c (a ++ b)) d [])
made_join past lists c d a b m at at' ne = record {
  log = map (moved c d (length a)) m.log;
  listed = file_join m.log lists c d a b m.listed at at' ne;
  logged = moved_entries c d (length a) m.log ∙ (m.logged ∙ (sym (append-nil (numbered begun past)) ∙ sym (following past (events.Join c d))));
}

pub made_sole : (past : List Event) (lists : List (List MadeEvent)) (c : ℕ) (l : List MadeEvent) → AreMade past lists → get_elem? lists c ≡ some l
    → ((d : ℕ) (k : List MadeEvent) → get_elem? lists d ≡ some k → d ≢ c → k ≡ []) → AreMade past (l ∷ [])
made_sole past lists c l m at others = record {
  log = map sole m.log;
  listed = file_sole m.log lists c l m.listed at others;
  logged = map-map entry_of sole m.log ∙ m.logged;
}
