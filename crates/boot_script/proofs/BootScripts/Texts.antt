-- What a whole boot script says, and how it is spelled.
use Rattle.boot_script.proofs.Common.{◌≡◌, inl, inr, ℕ, ◌+◌, List, [], ◌∷◌, ◌∙◌, refl, sym, ap, false, Option, Some, None, Ok, codes, join_with_byte, Line, Named, Mover, Pump, Switch, PipeWaits, Step, Version, Boot, ◌>>=◌, boot_line, says_nothing, at_line, opening_of, Plan, Draft, first_draft, goes_on, added, line_added, plan_from, plan_only, text_plan, queue_words, mover_words, EndsInText, IsSpelling, SpellFrom, SpellsPlan}
use Rattle.boot_script.specs.declared.boot_lines.Line.TheVariants as line
use Rattle.boot_data.specs.declared.plan.Step.TheVariants as step
use Rattle.boot_script.proofs.Basics.Binds.{bind_ok, chosen}
use Rattle.boot_script.proofs.LineWords.Openings.{at_line_ok, opening_ok, opening_again}
use Rattle.boot_script.proofs.Drafts.DraftOrder.{IsOrdered, added_in_order}
use Rattle.boot_script.proofs.BootScripts.Spelled.{boot_line_ok}
use Rattle.boot_script.proofs.BootScripts.Again.{boot_line_again}
use Rattle.boot_script.proofs.Drafts.PlanLimits.{plan_only_ok}

-- lines with no fault are silent or spell what is added
spelled_from : (version : Version) (number : ℕ) (lines : List (List ℕ)) (d last : Draft) → IsOrdered d → plan_from version number lines d ≡ Ok last → SpellFrom version lines d last
unfolding plan_from line_added
spelled_from version number [] d last order h = cc
spelled_from version number (bytes ∷ lines) d last order h =
    elim (chosen (says_nothing bytes) (plan_from version (number + 1) lines d) _ (Ok last) h) [
      | inl p ↦ inl (p.0, spelled_from version (number + 1) lines d last order p.1)
      | inr p ↦
          let a = bind_ok (at_line number (line_added version bytes d)) (λ next. plan_from version (number + 1) lines next) last p.1 in
          let b = bind_ok (boot_line version d.names (goes_on d.going) bytes) (λ said. added version said d) a.0 (at_line_ok number (line_added version bytes d) a.0 a.1) in
          let k = boot_line_ok version d.names (goes_on d.going) bytes b.0 order b.1 in
          inr (b.0, a.0, k.0, k.1, b.2, spelled_from version (number + 1) lines a.0 last (added_in_order version (goes_on d.going) b.0 d a.0 order k.0 b.2) a.2)
    ]

queue_loud : (name : List ℕ) (waits : Option PipeWaits) → false ≡ says_nothing (join_with_byte 32 (queue_words name waits))
queue_loud name None = refl
queue_loud name (Some waits) = refl

mover_loud : (names : List Named) (name : List ℕ) (mover : Mover) → false ≡ says_nothing (join_with_byte 32 (mover_words names name mover))
mover_loud names name (Pump from to) = refl
mover_loud names name (Switch from other ways) = refl

type_loud : (second bytes line : List ℕ) → EndsInText (codes "type" ∷ second ∷ []) bytes line → false ≡ says_nothing line
type_loud second bytes line (inl p) = ap says_nothing (sym p.2)
type_loud second bytes line (inr p) = ap says_nothing (sym p.1)

say_loud : (second bytes line : List ℕ) → EndsInText (codes "say" ∷ second ∷ []) bytes line → false ≡ says_nothing line
say_loud second bytes line (inl p) = ap says_nothing (sym p.2)
say_loud second bytes line (inr p) = ap says_nothing (sym p.1)

step_loud : (names : List Named) (one : Step) (bytes : List ℕ) → IsSpelling names (line.Step one) bytes → false ≡ says_nothing bytes
step_loud names (step.Say queue text) bytes e = say_loud _ text bytes e
step_loud names (step.Hear queue) bytes e = ap says_nothing (sym e)
step_loud names (step.Wait wait) bytes e = ap says_nothing (sym e)
step_loud names (step.Wake wait) bytes e = ap says_nothing (sym e)
step_loud names (step.Signal thread signal) bytes e = ap says_nothing (sym e)
step_loud names (step.Stop thread) bytes e = ap says_nothing (sym e)
step_loud names (step.Start thread) bytes e = ap says_nothing (sym e)
step_loud names (step.Tick gauge amount) bytes e = ap says_nothing (sym e)
step_loud names (step.Poke mover) bytes e = ap says_nothing (sym e)
step_loud names step.Pass bytes e = ap says_nothing (sym e)
step_loud names (step.Close queue) bytes e = ap says_nothing (sym e)

-- a line that spells something isn't silent
loud : (names : List Named) (said : Line) (bytes : List ℕ) → IsSpelling names said bytes → false ≡ says_nothing bytes
loud names (line.Queue queue) bytes e = queue_loud queue.name queue.waits ∙ ap says_nothing (sym e)
loud names (line.Tty name) bytes e = ap says_nothing (sym e)
loud names (line.Types tty text) bytes e = type_loud _ text bytes e
loud names (line.Mover planned) bytes e = mover_loud names planned.name planned.mover ∙ ap says_nothing (sym e)
loud names (line.Gauge name) bytes e = ap says_nothing (sym e)
loud names (line.Alarm alarm) bytes e = ap says_nothing (sym e)
loud names (line.Thread name) bytes e = ap says_nothing (sym e)
loud names (line.More thread) bytes e = ap says_nothing (sym e)
loud names (line.Step one) bytes e = step_loud names one bytes e

-- lines that are silent or spell what is added have no fault
read_from : (version : Version) (number : ℕ) (lines : List (List ℕ)) (d last : Draft) → IsOrdered d → SpellFrom version lines d last → plan_from version number lines d ≡ Ok last
unfolding plan_from line_added
read_from version number [] d last order h = ap Ok h
read_from version number (bytes ∷ lines) d last order (inl p) = rw p.0 (read_from version (number + 1) lines d last order p.1)
read_from version number (bytes ∷ lines) d last order (inr p) =
    let said = boot_line_again version d.names (goes_on d.going) bytes p.0 order p.2 p.3 in
    let reports : says_nothing bytes ≡ false = sym (loud d.names p.0 bytes p.3) in
    rw (reports, said, p.4) (read_from version (number + 1) lines p.1 last (added_in_order version (goes_on d.going) p.0 d p.1 order p.2 p.4) p.5)

-- a text that says a plan spells it
pub plan_ok : (text : List ℕ) (plan : Plan) → text_plan text ≡ Ok plan → SpellsPlan text plan
unfolding text_plan
plan_ok text plan h =
    let o = bind_ok (opening_of Boot text) (λ opening. plan_only (plan_from opening.0 2 opening.1 first_draft)) plan h in
    let p = plan_only_ok (plan_from o.0.0 2 o.0.1 first_draft) plan o.2 in
    let opened = opening_ok Boot text o.0 o.1 in
    (o.0.0, o.0.1, p.0, opened.0, opened.1, spelled_from o.0.0 2 o.0.1 first_draft p.0 tt p.1, p.2)

-- a text that spells a plan says it
pub plan_again : (text : List ℕ) (plan : Plan) → SpellsPlan text plan → text_plan text ≡ Ok plan
unfolding text_plan
plan_again text plan h =
    let opened = opening_again Boot text h.0 h.1 h.3 h.4 in
    ap (λ o. o >>= λ opening. plan_only (plan_from opening.0 2 opening.1 first_draft)) opened
    ∙ (ap plan_only (read_from h.0 2 h.1 first_draft h.2 tt h.5) ∙ ap Ok h.6)
