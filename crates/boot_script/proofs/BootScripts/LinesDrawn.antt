-- The lines of a boot script, one after the other, as the loop over them reads them.
use Rattle.boot_script.proofs.Common.{◌≡◌, true, false, ℕ, ◌+◌, List, [], ◌∷◌, ◌∙◌, refl, sym, ap, Result, Ok, Err, IsOk, ScriptRefusal, ScriptFault, Version, ◌>>=◌, says_nothing, at_line, line_added, plan_from, plan_only, Draws}
use Rattle.boot_script.specs.declared.draft.Draft.{Draft}
use Rattle.boot_script.specs.Plans as plans

-- the kept draft is one from which the lines that are left lead to what the text says
pub record IsDrawnSoFar (version : Version) (number : ℕ) (kept : Draft) (lines : List (List ℕ)) (said : Result plans.Draft ScriptFault) : Type 0 where
  pub d : plans.Draft
  pub drawn : Draws kept d
  pub all : plan_from version number lines d ≡ said

pub silent_line : (version : Version) (number : ℕ) (line : List ℕ) (lines : List (List ℕ)) (d : plans.Draft) (said : Result plans.Draft ScriptFault) → true ≡ says_nothing line
    → plan_from version number (line ∷ lines) d ≡ said → plan_from version (number + 1) lines d ≡ said
unfolding plan_from
silent_line version number line lines d said silent all = rw (← silent) at all

-- a line that says something, and the lines after it, say what they say one after the other
pub from_line : (version : Version) (number : ℕ) (line : List ℕ) (lines : List (List ℕ)) (d : plans.Draft) (reported : Result plans.Draft ScriptRefusal) → false ≡ says_nothing line → line_added version line d ≡ reported
    → plan_from version number (line ∷ lines) d ≡ (at_line number reported >>= λ next. plan_from version (number + 1) lines next)
unfolding plan_from
from_line version number line lines d reported loud e = rw (← loud, e) refl

pub line_reported : (version : Version) (number : ℕ) (line : List ℕ) (lines : List (List ℕ)) (d next : plans.Draft) (said : Result plans.Draft ScriptFault) → false ≡ says_nothing line → line_added version line d ≡ Ok next
    → plan_from version number (line ∷ lines) d ≡ said → plan_from version (number + 1) lines next ≡ said
line_reported version number line lines d next said loud e all = sym (from_line version number line lines d (Ok next) loud e) ∙ all

pub line_fault : (version : Version) (number : ℕ) (line : List ℕ) (lines : List (List ℕ)) (d : plans.Draft) (refusal : ScriptRefusal) (said : Result plans.Draft ScriptFault) → false ≡ says_nothing line → line_added version line d ≡ Err refusal
    → plan_from version number (line ∷ lines) d ≡ said → said ≡ Err (record { line = number; refusal = refusal })
line_fault version number line lines d refusal said loud e all = sym all ∙ from_line version number line lines d (Err refusal) loud e

pub lines_done : (version : Version) (number : ℕ) (lines : List (List ℕ)) (d : plans.Draft) (said : Result plans.Draft ScriptFault) → lines ≡ [] → plan_from version number lines d ≡ said → said ≡ Ok d
unfolding plan_from
lines_done version number lines d said none all = sym all ∙ ap (λ ls. plan_from version number ls d) none

pub is_said : (said : Result plans.Draft ScriptFault) (d : plans.Draft) → said ≡ Ok d → IsOk (plan_only said)
is_said (Ok e) d h = refl
is_said (Err fault) d h = absurd (cc h)
