-- How the answer of a reader compares with what the text says. OutOfMemory is returned only if nothing else is refused.
use Rattle.std.specs.Prelude.{◌≡◌, ◌⊎◌, Result, Ok, Err, IsOk}
use Rattle.boot_script.specs.declared.fault.ScriptRefusal.{ScriptRefusal}
use Rattle.boot_script.specs.declared.fault.ScriptRefusal.TheVariants.{OutOfMemory}
use Rattle.boot_script.specs.declared.fault.ScriptFault.{ScriptFault}

-- the returned refusal is the refusal of the words, or it is OutOfMemory and the words are not refused
abbrev pub Fails : {Y : Type 0} → ScriptRefusal → Result Y ScriptRefusal → Type 0
Fails OutOfMemory said = IsOk said
Fails refusal said = said ≡ Err refusal

-- an answer, seen by `view`, is what the words say; an returned refusal satisfies `Fails`
abbrev pub Gives : {X Y : Type 0} → (X → Y) → Result X ScriptRefusal → Result Y ScriptRefusal → Type 0
Gives view (Ok x) said = said ≡ Ok (view x)
Gives view (Err refusal) said = Fails refusal said

-- the fault of a refused allocation, which belongs to no line
abbrev pub no_memory : ScriptFault
no_memory = record { line = 0; refusal = OutOfMemory }

-- the returned fault is the first fault of the lines, or it is `no_memory` and the lines have no fault
abbrev pub IsFault : {Y : Type 0} → ScriptFault → Result Y ScriptFault → Type 0
IsFault fault said = ((fault ≡ no_memory) × IsOk said) ⊎ (said ≡ Err fault)

-- an answer, seen by `view`, is what the lines say; an returned fault satisfies `IsFault`
abbrev pub Says : {X Y : Type 0} → (X → Y) → Result X ScriptFault → Result Y ScriptFault → Type 0
Says view (Ok x) said = said ≡ Ok (view x)
Says view (Err fault) said = IsFault fault said

-- an answer, seen by `view`, is exactly what was said; an returned error is exactly the error that was said
abbrev pub Equals : {X Y E : Type 0} → (X → Y) → Result X E → Result Y E → Type 0
Equals view (Ok x) said = said ≡ Ok (view x)
Equals view (Err e) said = said ≡ Err e
