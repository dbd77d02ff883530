-- The making of a quaject.
use Rattle.quajects.proofs.Common.{◌≡◌, ℕ, suc, ◌+◌, ◌%◌, ◌^◌, List, [], ◌∷◌, ◌++◌, length, refl, sym, ap, subst, ◌∙◌, length-append, arith, AnyQuaject}
use Rattle.proc_chain.specs.declared.quaject.Ran.{Ran}
use Rattle.quajects.specs.declared.any.AnyQuaject.TheVariants as any
use Rattle.quajects.specs.declared.piping.Pump.{Pump}
use Rattle.quajects.specs.declared.switching.Switch.{Switch}
use Rattle.quajects.specs.declared.terminal.CookedTty.{CookedTty}
use Rattle.quajects.specs.Anys.{SameEnds, HasRun, RanAny, MadeOf, notes_of}
use Rattle.quajects.specs.Pumps as pumps
use Rattle.quajects.specs.Runs.{RanAll, MadeBy}
use Rattle.quajects.specs.Switches as switches
use Rattle.quajects.specs.Terminals as terminals
use Rattle.quajects.proofs.Counts.{mod_add}

-- one more note
count_more : (old new : ℕ) (notes : List ℕ) (note : ℕ) → new ≡ (old + 1) % 2 ^ 64 → old ≡ length notes % 2 ^ 64 → new ≡ length (notes ++ note ∷ []) % 2 ^ 64
count_more old new notes note r h = r ∙ ap (λ (z : ℕ). (z + 1) % 2 ^ 64) h ∙ mod_add (2 ^ 64) (length notes) 1 ∙ ap (λ (z : ℕ). z % 2 ^ 64) (sym (length-append notes (note ∷ [])))

module _ {Q : Type 0} {same : Q → Q → Type 0} {counted : Q → List ℕ → Type 0} {ran : Q → Q → Ran → Type 0} where
  made_more : (first old new : Q) (answer : Ran) (notes : List ℕ) (note : ℕ) → ran old new answer → same first new → counted new (notes ++ note ∷ []) → MadeBy same counted ran first old notes → MadeBy same counted ran first new (notes ++ note ∷ [])
  made_more first old new answer notes note r s c m = record {
    same_ends = s;
    count = c;
    runs = let more : suc (length notes) ≡ length (notes ++ note ∷ []) = (let e = length-append notes (note ∷ []) in omega (arith, e)) in
        subst (λ (n : ℕ). RanAll ran n first new) more (old, answer, m.runs, r);
  }

pub pump_more : (first old new : Pump) (answer : Ran) (notes : List ℕ) (note : ℕ) → pumps.RanPump old new answer → pumps.MadeOf first old notes → pumps.MadeOf first new (notes ++ note ∷ [])
pump_more first old new answer notes note r m = let s = m.same_ends in
    made_more first old new answer notes note r (record { source = r.same.source ∙ s.source; target = r.same.target ∙ s.target }) (count_more old.notes new.notes notes note r.noted m.count) m

pub switch_more : (first old new : Switch) (answer : Ran) (notes : List ℕ) (note : ℕ) → switches.RanSwitch old new answer → switches.MadeOf first old notes → switches.MadeOf first new (notes ++ note ∷ [])
switch_more first old new answer notes note r m = let s = m.same_ends in
    made_more first old new answer notes note r (record { source = r.same.source ∙ s.source; other = r.same.other ∙ s.other; ways = r.same.ways ∙ s.ways; keys = r.same.keys ∙ s.keys }) (count_more old.notes new.notes notes note r.noted m.count) m

pub cooked_more : (first old new : CookedTty) (answer : Ran) (notes : List ℕ) (note : ℕ) → terminals.RanCooked old new answer → terminals.MadeOf first old notes → terminals.MadeOf first new (notes ++ note ∷ [])
cooked_more first old new answer notes note r m = let s = m.same_ends in
    made_more first old new answer notes note r (record { raw = r.same.raw ∙ s.raw; line = r.same.line ∙ s.line; screen = r.same.screen ∙ s.screen }) (count_more old.notes new.notes notes note r.noted m.count) m

same_ends : (x : AnyQuaject) → SameEnds x x
same_ends (any.Cooked tty) = record { raw = refl; line = refl; screen = refl }
same_ends (any.Pump pump) = record { source = refl; target = refl }
same_ends (any.Switch switch) = record { source = refl; other = refl; ways = refl; keys = refl }

runs_none : (x : AnyQuaject) → notes_of x ≡ 0 → HasRun x []
runs_none (any.Cooked tty) e = e
runs_none (any.Pump pump) e = e
runs_none (any.Switch switch) e = e

-- the quaject made by no note is the first one
pub made_of_itself : (x : AnyQuaject) → notes_of x ≡ 0 → MadeOf x x []
made_of_itself x e = record { same_ends = same_ends x; count = runs_none x e; runs = refl }

same : (first old new : AnyQuaject) (answer : Ran) → SameEnds first old → RanAny old new answer → SameEnds first new
same (any.Cooked first) (any.Cooked old) (any.Cooked new) answer s r = record { raw = r.same.raw ∙ s.raw; line = r.same.line ∙ s.line; screen = r.same.screen ∙ s.screen }
same (any.Cooked first) (any.Cooked old) (any.Pump new) answer s r = absurd r
same (any.Cooked first) (any.Cooked old) (any.Switch new) answer s r = absurd r
same (any.Cooked first) (any.Pump old) new answer s r = absurd s
same (any.Cooked first) (any.Switch old) new answer s r = absurd s
same (any.Pump first) (any.Cooked old) new answer s r = absurd s
same (any.Pump first) (any.Pump old) (any.Cooked new) answer s r = absurd r
same (any.Pump first) (any.Pump old) (any.Pump new) answer s r = record { source = r.same.source ∙ s.source; target = r.same.target ∙ s.target }
same (any.Pump first) (any.Pump old) (any.Switch new) answer s r = absurd r
same (any.Pump first) (any.Switch old) new answer s r = absurd s
same (any.Switch first) (any.Cooked old) new answer s r = absurd s
same (any.Switch first) (any.Pump old) new answer s r = absurd s
same (any.Switch first) (any.Switch old) (any.Cooked new) answer s r = absurd r
same (any.Switch first) (any.Switch old) (any.Pump new) answer s r = absurd r
same (any.Switch first) (any.Switch old) (any.Switch new) answer s r = record { source = r.same.source ∙ s.source; other = r.same.other ∙ s.other; ways = r.same.ways ∙ s.ways; keys = r.same.keys ∙ s.keys }

counts : (old new : AnyQuaject) (answer : Ran) (notes : List ℕ) (note : ℕ) → RanAny old new answer → HasRun old notes → HasRun new (notes ++ note ∷ [])
counts (any.Cooked old) (any.Cooked new) answer notes note r h = count_more old.notes new.notes notes note r.noted h
counts (any.Cooked old) (any.Pump new) answer notes note r h = absurd r
counts (any.Cooked old) (any.Switch new) answer notes note r h = absurd r
counts (any.Pump old) (any.Cooked new) answer notes note r h = absurd r
counts (any.Pump old) (any.Pump new) answer notes note r h = count_more old.notes new.notes notes note r.noted h
counts (any.Pump old) (any.Switch new) answer notes note r h = absurd r
counts (any.Switch old) (any.Cooked new) answer notes note r h = absurd r
counts (any.Switch old) (any.Pump new) answer notes note r h = absurd r
counts (any.Switch old) (any.Switch new) answer notes note r h = count_more old.notes new.notes notes note r.noted h

-- it has run one more note
pub any_more : (first old new : AnyQuaject) (answer : Ran) (notes : List ℕ) (note : ℕ) → RanAny old new answer → MadeOf first old notes → MadeOf first new (notes ++ note ∷ [])
any_more first old new answer notes note r m = made_more first old new answer notes note r (same first old new answer m.same_ends r) (counts old new answer notes note r m.count) m
