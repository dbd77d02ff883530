-- The effects of the calls for C on the handles of hands. An empty handle holds None.
use Rattle.std.specs.Prelude.{◌≡◌, ◌≢◌, ◌⊎◌, ◌≤◌, ◌<◌, ℕ, ℤ, Bool, true, false, Ok, Err, None, Some, map}
use Rattle.thread_table.specs.Rules.{MayStep, running}
use Rattle.thread_table.specs.declared.places.Place.{Place}
use Rattle.thread_table.specs.declared.close.Places.{Places}
use Rattle.thread_table.specs.declared.programs.Spent as programs
use Rattle.thread_table.specs.declared.places.Place.TheVariants as places
use Rattle.bindings.specs.HandHeld.{view_of, has, serves, HeldHand, HasNot, WasPutOn, WasTakenOff, WasCounted, WasDone}
use Rattle.bindings.specs.Codes.{Done, BadNumber, Spent, Busy, Vacant, NotHeld, NotServed}
use Rattle.bindings.specs.declared.hand.places.SynthPlace.{SynthPlace}
use Rattle.bindings.specs.declared.hand.places.SynthPlaces.{SynthPlaces}

-- the report of `holds` on the hand x, by its code
abbrev pub IsHoldsCall : ℕ → HeldHand → Bool → Bool → ℤ → Type 0
IsHoldsCall element x old held code =
    ((code ≡ BadNumber) × (64 ≤ element) × (held ≡ old))
    ⊎ ((code ≡ Done) × (element < 64) × (held ≡ has (view_of x.hand) element))

-- the report of `serves` on the hand x, by its code
abbrev pub IsServesCall : ℕ → HeldHand → Bool → Bool → ℤ → Type 0
IsServesCall p x old served code =
    ((code ≡ BadNumber) × (8 ≤ p) × (served ≡ old))
    ⊎ ((code ≡ Done) × (p < 8) × (served ≡ serves (view_of x.hand) p))

-- the report of `on_processor` on the hand x, by its code
abbrev pub IsOnProcessorCall : ℕ → HeldHand → ℕ → ℕ → ℤ → Type 0
IsOnProcessorCall p x old element code =
    ((code ≡ BadNumber) × (8 ≤ p) × (element ≡ old))
    ⊎ ((code ≡ Vacant) × (p < 8) × (running (view_of x.hand) p ≡ None) × (element ≡ old))
    ⊎ ((code ≡ Done) × (p < 8) × (running (view_of x.hand) p ≡ Some element))

-- the effect of `on`, by its code
abbrev pub IsOnCall : ℕ → ℕ → HeldHand → HeldHand → ℤ → Type 0
IsOnCall p element x y code =
    ((code ≡ BadNumber) × ((8 ≤ p) ⊎ (64 ≤ element)) × (y ≡ x))
    ⊎ ((code ≡ NotHeld) × (p < 8) × (element < 64) × (has (view_of x.hand) element ≡ false) × (y ≡ x))
    ⊎ ((code ≡ NotServed) × (p < 8) × (element < 64) × (has (view_of x.hand) element ≡ true)
    × (serves (view_of x.hand) p ≡ false) × (y ≡ x))
    ⊎ ((code ≡ Busy) × (p < 8) × (element < 64) × (has (view_of x.hand) element ≡ true)
    × (serves (view_of x.hand) p ≡ true) × (running (view_of x.hand) p ≢ None) × (y ≡ x))
    ⊎ ((code ≡ Done) × (p < 8) × (element < 64) × (has (view_of x.hand) element ≡ true)
    × (serves (view_of x.hand) p ≡ true) × (running (view_of x.hand) p ≡ None) × WasPutOn p element x y)

-- the effect of `off`, by its code
abbrev pub IsOffCall : ℕ → HeldHand → HeldHand → ℕ → ℕ → ℤ → Type 0
IsOffCall p x y old element code =
    ((code ≡ BadNumber) × (8 ≤ p) × (y ≡ x) × (element ≡ old))
    ⊎ ((code ≡ NotServed) × (p < 8) × (serves (view_of x.hand) p ≡ false) × (y ≡ x) × (element ≡ old))
    ⊎ ((code ≡ Vacant) × (p < 8) × (serves (view_of x.hand) p ≡ true) × (running (view_of x.hand) p ≡ None) × (y ≡ x)
    × (element ≡ old))
    ⊎ ((code ≡ Done) × (p < 8) × (serves (view_of x.hand) p ≡ true) × (running (view_of x.hand) p ≡ Some element)
    × WasTakenOff p element x y)

-- the reason why the steps of the element can't be read or counted, by the code
abbrev pub MayNotStep : ℕ → HeldHand → ℤ → Type 0
MayNotStep element x code =
    ((code ≡ BadNumber) × (64 ≤ element))
    ⊎ ((code ≡ NotHeld) × (element < 64) × HasNot element x)

-- the effect of `pc`, by its code
abbrev pub IsPcCall : ℕ → HeldHand → HeldHand → ℕ → ℕ → ℤ → Type 0
IsPcCall element x y old steps code =
    (MayNotStep element x code × (y ≡ x) × (steps ≡ old))
    ⊎ ((code ≡ Done) × (element < 64) × MayStep (view_of x.hand) element × WasCounted element steps x y)

-- the effect of `step_done`, by its code
abbrev pub IsStepCall : ℕ → HeldHand → HeldHand → ℕ → ℕ → ℤ → Type 0
IsStepCall element x y old steps code =
    (MayNotStep element x code × (y ≡ x) × (steps ≡ old))
    ⊎ ((code ≡ Spent) × (element < 64) × MayStep (view_of x.hand) element × (steps ≡ old)
    × (r : programs.Spent) × WasDone element (Err r) x y)
    ⊎ ((code ≡ Done) × (element < 64) × MayStep (view_of x.hand) element × WasDone element (Ok steps) x y)

-- a place as it is reported to C
abbrev pub c_place : Place → SynthPlace
c_place (places.Processor p) = record { kind = 0; number = p }
c_place places.Ready = record { kind = 1; number = 0 }
c_place places.Free = record { kind = 2; number = 0 }
c_place (places.Wait wait) = record { kind = 3; number = wait }
c_place places.Stopped = record { kind = 4; number = 0 }
c_place places.Held = record { kind = 5; number = 0 }

-- the report of a closed table: the place, the steps and the pending signals of each element, and the stop bits
abbrev pub ReportsPlaces : Places → SynthPlaces → Type 0
ReportsPlaces c reported = (reported.place ≡ map c_place c.places) × (reported.pc ≡ c.pcs)
    × (reported.pending ≡ c.pending)
    × (reported.stops ≡ c.stops)
