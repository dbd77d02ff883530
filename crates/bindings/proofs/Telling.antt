-- The report to C follows from the library's answer.
use Rattle.std.proofs.Common.{◌≡◌, ◌∙◌, ◌⊎◌, inl, inr, refl, sym, ap, subst, Bool, true, false, ℤ}
use Rattle.std.specs.Option.{MatchOption}
use Rattle.std.proofs.lemmas.Int.{to_z-of_z}
use mir.Syntax.{w32}
use mir.Val.{SFits, of_z, to_z}
use Rattle.std.specs.declared.option.Option.{Option}
use Rattle.std.specs.declared.option.Option.TheVariants.{None, Some}
use Rattle.bindings.specs.Handles.{Answered, Filled, HoldsSome, MadeHandle, held_by}
use Rattle.bindings.specs.declared.handle.Handle.{Handle}
use Rattle.bindings.specs.Hiding.{is_some}
use Rattle.bindings.specs.declared.payload.Payload.{Payload}

abbrev IsTrueSome : Bool → Type 0
IsTrueSome true = Unit {0}
IsTrueSome false = ⊥

abbrev pub the : {X : Type 0} → X → Option X → X
the x None = x
the x (Some y) = y

-- what holds of the value that was found holds of the value that was there
pub at_value : {X : Type 0} {old : Option X} {b : X} (Q : X → Type 0) → old ≡ Some b → Q b → (x : X) → old ≡ Some x → Q x
at_value {b = b} Q h did x e = subst Q (ap (the b) (sym h ∙ e)) did

pub is_none : {X : Type 0} (m : Option X) → is_some m ≡ false → m ≡ None
is_none None h = refl
is_none (Some x) h = absurd (subst IsTrueSome h tt)

pub some_is : {X : Type 0} {m : Option X} {x : X} → m ≡ Some x → is_some m ≡ true
some_is e = ap is_some e

pub no_answer : false ≡ true → ⊥
no_answer e = subst IsTrueSome (sym e) tt

-- a code is reported as it is
pub as_reported : (F : ℤ → Type 0) (z : ℤ) → SFits w32 z → F z → F (to_z w32 (of_z w32 z))
as_reported F z fits h = subst F (sym (to_z-of_z w32 z fits)) h

-- the code of a part of the call is reported, and the handle holds the end that the part left
pub told_code : {X : Type 0} {old : Option X} {b : X} (y : X) (P : X → X → ℤ → Type 0) (z : ℤ) → SFits w32 z
    → old ≡ Some b → P b y z → (x : X) → old ≡ Some x → HoldsSome (Some y) (λ now. P x now (to_z w32 (of_z w32 z)))
told_code {b = b} y P z fits at did = at_value (λ x. HoldsSome (Some y) (λ now. P x now (to_z w32 (of_z w32 z)))) at
    (y, refl, as_reported (P b y) z fits did)

-- the end that came out of the box is the one that was held
pub unboxed : {X : Type 0} (of : Payload → Option X) (h : Payload) {z r : X} {p q : Payload} → of h ≡ Some z → Some h ≡ Some p → q ≡ p → of q ≡ Some r → r ≡ z
unboxed of h {r = r} is b e d = ap (the r) (sym d ∙ ap of e ∙ ap of (sym (ap (the h) b)) ∙ is)

-- the library's answer, and its report to C
pub answered : {A X : Type 0} {Did : A → X → X → Type 0} {Reports : A → Type 0} {x : X} (y : X) (answer : A) → Did answer x y → Reports answer
    → Answered Did Reports x (Some y)
answered y answer did reports = record { y = y; full = refl; answer = answer; answered = did; reports = reports }

-- the library's answer, and its report to C by a code
pub answered_code : {A X : Type 0} {old : Option X} {b : X} (Did : A → X → X → Type 0) (Reports : A → ℤ → Type 0) (y : X)
    (answer : A) (z : ℤ) → SFits w32 z → old ≡ Some b → Did answer b y → Reports answer z → (x : X) → old ≡ Some x
    → Answered Did (λ a. Reports a (to_z w32 (of_z w32 z))) x (Some y)
answered_code Did Reports y answer z fits at did reports = at_value
    (λ x. Answered Did (λ a. Reports a (to_z w32 (of_z w32 z))) x (Some y)) at
    (answered y answer did (as_reported (Reports answer) z fits reports))

made_code : {X : Type 0} (wrap : X → Payload) (Valid : Type 0) (IsNew : X → Type 0) (made : Option X) (old new : Handle)
    (code : ℤ) → is_some (held_by old) ≡ false → Valid → MatchOption made (Unit {0}) IsNew
    → Filled wrap made old new code → MadeHandle wrap Valid IsNew old new code
made_code wrap Valid IsNew made old new code empty valid is_new (inl (no_memory, same)) =
    inr (inr (inl (no_memory, is_none (held_by old) empty, same, valid)))
made_code wrap Valid IsNew made old new code empty valid is_new (inr (done, y, is, holds)) =
    let new_one = subst (λ m. MatchOption m (Unit {0}) IsNew) is is_new in
    inr (inr (inr (done, is_none (held_by old) empty, valid, y, holds, new_one)))

-- a new end in a handle that was empty, or none when memory is out
pub made_as : {X : Type 0} (wrap : X → Payload) (Valid : Type 0) (IsNew : X → Type 0) (made : Option X) (old new : Handle)
    (z : ℤ) → SFits w32 z → is_some (held_by old) ≡ false → Valid → MatchOption made (Unit {0}) IsNew
    → Filled wrap made old new z → MadeHandle wrap Valid IsNew old new (to_z w32 (of_z w32 z))
made_as wrap Valid IsNew made old new z fits empty valid is_new filled =
    as_reported (MadeHandle wrap Valid IsNew old new) z fits (made_code wrap Valid IsNew made old new z empty valid is_new filled)
