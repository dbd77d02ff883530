-- What a whole text says, and how it is spelled.
use Rattle.boot_script.proofs.Common.{◌≡◌, inl, inr, ℕ, ◌+◌, List, [], ◌∷◌, ◌∙◌, refl, sym, ap, false, Result, Ok, Event, ScriptFault, Version, Events, ◌>>=◌, elements_of, line_event, says_nothing, at_line, events_from, opening_of, text_events, spelling, Spells, SpellsText}
use Rattle.event_theory.specs.declared.event.Event.TheVariants as events
use Rattle.boot_script.proofs.Basics.Binds.{bind_ok, chosen}
use Rattle.boot_script.proofs.EventScripts.Spelled.{line_ok}
use Rattle.boot_script.proofs.EventScripts.Again.{line_again}
use Rattle.boot_script.proofs.EventScripts.EventsRead.{from_line}
use Rattle.boot_script.proofs.LineWords.Openings.{at_line_ok, opening_ok, opening_again}

-- lines with no fault are silent or spell the events
events_ok : (version : Version) (number : ℕ) (lines : List (List ℕ)) (events : List (ℕ × Event)) → events_from version number lines ≡ Ok events → Spells version number lines events
unfolding events_from
events_ok version number [] events h = cc
events_ok version number (line ∷ lines) events h =
    elim (chosen (says_nothing line) (events_from version (number + 1) lines) _ (Ok events) h) [
      | inl p ↦ inl (p.0, events_ok version (number + 1) lines events p.1)
      | inr p ↦
          let a = bind_ok (at_line number (line_event version line)) (λ event. events_from version (number + 1) lines >>= λ later. Ok ((number, event) ∷ later)) events p.1 in
          let b = bind_ok (events_from version (number + 1) lines) (λ later. Ok ((number, a.0) ∷ later)) events a.2 in
          let e : events ≡ (number, a.0) ∷ b.0 = cc (b.2) in
          let k = line_ok version line a.0 (at_line_ok number (line_event version line) a.0 a.1) in
          inr (a.0, b.0, e, k.0, k.1, events_ok version (number + 1) lines b.0 b.1)
    ]

-- a line that spells an event isn't silent
loud : (event : Event) → false ≡ says_nothing (spelling event)
unfolding spelling
loud (events.Queue capacity) = refl
loud events.Chain = refl
loud (events.Claim call queue items) = refl
loud (events.Raise call queue run index) = refl
loud (events.Take call queue count) = refl
loud (events.On call processor element) = refl
loud (events.Off call processor) = refl
loud (events.Stop call element) = refl
loud (events.Park call element) = refl
loud (events.Start call element) = refl
loud (events.Signal call element signal) = refl
loud (events.Deliver call element) = refl
loud (events.Done call element) = refl
loud (events.Notify call chain) = refl
loud (events.NotifyWait call wait) = refl
loud (events.Round call chain) = refl
loud (events.Leave call chain) = refl
loud (events.Tick call gauge amount) = refl
loud (events.Advance call) = refl
loud (events.Set call due element signal) = refl
loud (events.Fire call slot) = refl
loud (events.Cancel call slot) = refl
loud (events.Join call other) = refl
loud (events.Shut call queue) = refl
loud (events.WaitAt call wait element ticket) = refl

events_again : (version : Version) (number : ℕ) (lines : List (List ℕ)) (events : List (ℕ × Event)) → Spells version number lines events → events_from version number lines ≡ Ok events
unfolding events_from
events_again version number [] events h = ap Ok (sym h)
events_again version number (line ∷ lines) events (inl p) = rw p.0 (events_again version (number + 1) lines events p.1)
events_again version number (line ∷ lines) events (inr p) =
    let said : line_event version line ≡ Ok p.0 = ap (line_event version) p.4 ∙ line_again version p.0 p.3 in
    let reports : false ≡ says_nothing line = loud p.0 ∙ ap says_nothing (sym p.4) in
    let later = events_again version (number + 1) lines p.1 p.5 in
    from_line version number line lines (Ok p.0) reports said
    ∙ (ap (λ r. r >>= λ events. Ok ((number, p.0) ∷ events)) later ∙ ap Ok (sym p.2))

-- what a script says, where it has no fault
abbrev script_said : ℕ × List (ℕ × Event) → Result (ℕ × List (ℕ × Event)) ScriptFault
script_said said = Ok said

parts : (x y : ℕ × List (ℕ × Event)) → script_said x ≡ script_said y → (x.0 ≡ y.0) × (x.1 ≡ y.1)
parts x y h = let e : x ≡ y = cc in (ap (λ p. p.0) e, ap (λ p. p.1) e)

pub text_ok : (text : List ℕ) (elements : ℕ) (events : List (ℕ × Event)) → text_events text ≡ Ok (elements, events) → SpellsText text elements events
unfolding text_events
text_ok text elements events h =
    let o = bind_ok (opening_of Events text) (λ opening. events_from opening.0 2 opening.1 >>= λ events. Ok (elements_of opening.0, events)) (elements, events) h in
    let version = o.0.0 in
    let b = bind_ok (events_from version 2 o.0.1) (λ events. Ok (elements_of version, events)) (elements, events) o.2 in
    let k = parts (elements_of version, b.0) (elements, events) b.2 in
    let opened = opening_ok Events text o.0 o.1 in
    (version, o.0.1, sym k.0, opened.0, opened.1, events_ok version 2 o.0.1 events (b.1 ∙ ap Ok k.1))

pub text_again : (text : List ℕ) (elements : ℕ) (events : List (ℕ × Event)) → SpellsText text elements events → text_events text ≡ Ok (elements, events)
unfolding text_events
text_again text elements events h =
    let opened = opening_again Events text h.0 h.1 h.3 h.4 in
    ap (λ o. o >>= λ opening. events_from opening.0 2 opening.1 >>= λ events. Ok (elements_of opening.0, events)) opened
    ∙ (ap (λ e. e >>= λ events. Ok (elements_of h.0, events)) (events_again h.0 2 h.1 events h.5) ∙ ap (λ n. Ok (n, events)) (sym h.2))
