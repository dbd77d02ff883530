-- How refusals are printed.
use Rattle.std.specs.Prelude.{ℕ, List, codes}
use Rattle.event_theory.specs.declared.refusal.Refusal.{Refusal}
use Rattle.event_theory.specs.declared.refusal.Refusal.TheVariants.{UnknownName, NoItems, TooLong, Full, NotOwner}
use Rattle.event_theory.specs.declared.refusal.Refusal.TheVariants.{AlreadyRaised, NotRaised, NotHeld, ProcessorBusy}
use Rattle.event_theory.specs.declared.refusal.Refusal.TheVariants.{ProcessorEmpty, NotStopped, GateBusy, NotRunner}
use Rattle.event_theory.specs.declared.refusal.Refusal.TheVariants.{OutOfMemory, Closed, Moved}

-- a refusal's name
abbrev pub refusal_name : Refusal → List ℕ
refusal_name UnknownName = codes "UnknownName"
refusal_name NoItems = codes "NoItems"
refusal_name TooLong = codes "TooLong"
refusal_name Full = codes "Full"
refusal_name NotOwner = codes "NotOwner"
refusal_name AlreadyRaised = codes "AlreadyRaised"
refusal_name NotRaised = codes "NotRaised"
refusal_name NotHeld = codes "NotHeld"
refusal_name ProcessorBusy = codes "ProcessorBusy"
refusal_name ProcessorEmpty = codes "ProcessorEmpty"
refusal_name NotStopped = codes "NotStopped"
refusal_name GateBusy = codes "GateBusy"
refusal_name NotRunner = codes "NotRunner"
refusal_name OutOfMemory = codes "OutOfMemory"
refusal_name Closed = codes "Closed"
refusal_name Moved = codes "Moved"

-- a refusal's number
abbrev pub refusal_number : Refusal → ℕ
refusal_number UnknownName = 1
refusal_number NoItems = 2
refusal_number TooLong = 3
refusal_number Full = 4
refusal_number NotOwner = 5
refusal_number AlreadyRaised = 6
refusal_number NotRaised = 7
refusal_number NotHeld = 8
refusal_number ProcessorBusy = 9
refusal_number ProcessorEmpty = 10
refusal_number NotStopped = 11
refusal_number GateBusy = 12
refusal_number NotRunner = 13
refusal_number OutOfMemory = 14
refusal_number Closed = 15
refusal_number Moved = 16
