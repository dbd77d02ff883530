-- Events one after the other, as the loop over the lines reads them.
use Rattle.boot_script.proofs.Common.{◌≡◌, true, false, ℕ, ◌+◌, List, [], ◌∷◌, ◌++◌, ◌∙◌, refl, sym, ap, arith, length, Result, Ok, Err, Event, ScriptRefusal, ScriptFault, Version, ◌>>=◌, lines_of, line_event, says_nothing, at_line, events_from, Fails}
use Rattle.boot_script.specs.declared.fault.ScriptRefusal.TheVariants as refusals
use Rattle.boot_script.proofs.Basics.Gathered.{with_front, regroup, all_done}

pub silent_more : (version : Version) (number : ℕ) (front : List (ℕ × Event)) (line : List ℕ) (lines : List (List ℕ)) (said : Result (List (ℕ × Event)) ScriptFault) → true ≡ says_nothing line
    → with_front front (events_from version number (line ∷ lines)) ≡ said → with_front front (events_from version (number + 1) lines) ≡ said
unfolding events_from
silent_more version number front line lines said silent so_far = rw (← silent) at so_far

-- the events of a line that says something and of the lines after it
pub from_line : (version : Version) (number : ℕ) (line : List ℕ) (lines : List (List ℕ)) (reported : Result Event ScriptRefusal) → false ≡ says_nothing line → line_event version line ≡ reported
    → events_from version number (line ∷ lines) ≡ (at_line number reported >>= λ event. events_from version (number + 1) lines >>= λ events. Ok ((number, event) ∷ events))
unfolding events_from
from_line version number line lines reported loud e = rw (← loud, e) refl

pub reported_more : (version : Version) (number : ℕ) (front : List (ℕ × Event)) (line : List ℕ) (lines : List (List ℕ)) (said : Result (List (ℕ × Event)) ScriptFault) (event : Event) → false ≡ says_nothing line → line_event version line ≡ Ok event
    → with_front front (events_from version number (line ∷ lines)) ≡ said → with_front (front ++ (number, event) ∷ []) (events_from version (number + 1) lines) ≡ said
reported_more version number front line lines said event loud e so_far = sym (regroup front (number, event) (events_from version (number + 1) lines)) ∙ (ap (with_front front) (sym (from_line version number line lines (Ok event) loud e)) ∙ so_far)

-- a refusal other than out of memory is the refusal of the words
known : {Y : Type 0} (e : ScriptRefusal) (said : Result Y ScriptRefusal) → (e ≡ refusals.OutOfMemory → ⊥) → Fails e said → said ≡ Err e
known refusals.NotVersion said other h = h
known refusals.UnknownWord said other h = h
known refusals.BadNumber said other h = h
known refusals.BadName said other h = h
known refusals.NameTwice said other h = h
known refusals.NameUnknown said other h = h
known refusals.TooMany said other h = h
known refusals.TextTooLong said other h = h
known refusals.NotAscii said other h = h
known refusals.OutOfMemory said other h = absurd (other refl)

pub reported_fault : (version : Version) (number : ℕ) (front : List (ℕ × Event)) (line : List ℕ) (lines : List (List ℕ)) (said : Result (List (ℕ × Event)) ScriptFault) (refusal : ScriptRefusal)
    → (refusal ≡ refusals.OutOfMemory → ⊥) → false ≡ says_nothing line → Fails refusal (line_event version line) → with_front front (events_from version number (line ∷ lines)) ≡ said
    → said ≡ Err (record { line = number; refusal = refusal })
reported_fault version number front line lines said refusal other loud h so_far = sym so_far ∙ ap (with_front front) (from_line version number line lines (Err refusal) loud (known refusal _ other h))

pub no_text : (text : List ℕ) → length text ≡ 0 → lines_of text ≡ []
unfolding lines_of
no_text [] h = refl
no_text (b ∷ bs) h = absurd (omega arith)

pub events_done : (version : Version) (number : ℕ) (front : List (ℕ × Event)) (lines : List (List ℕ)) (said : Result (List (ℕ × Event)) ScriptFault) → lines ≡ [] → with_front front (events_from version number lines) ≡ said → said ≡ Ok front
unfolding events_from
events_done version number front lines said none so_far = all_done front said (ap (λ ls. with_front front (events_from version number ls)) (sym none) ∙ so_far)
