-- A handle lends its contents in place, and later holds what the borrower left there.
use Rattle.std.specs.Prelude.{true, refl, Option, Some}
use Rattle.std.specs.Borrow.{Lends, LendsIf, MutBor, Fml}
use denote.RattleType.{RattleType}
use Rattle.bindings.specs.Kinds.{Payload}
use Rattle.bindings.specs.declared.hidden.Hidden.{Hidden}
use Rattle.bindings.specs.declared.handle.Handle.{Handle}
use Rattle.bindings.specs.contracts.hidden.Hidden as hidden
use Rattle.bindings.specs.contracts.handle.Handle as handle
use Rattle.bindings.specs.contracts.payload.Payload as payload

-- the pointer, now with the value w
abbrev pub leading : Hidden → Payload → Hidden
leading h w = record { at = h.at; value = Some w }

-- the handle, now with the contents w
abbrev pub holding : Handle → Payload → Handle
holding h w = record { hidden = leading h.hidden w; full = true; agrees = refl }

-- after the loan, the pointer leads to what the borrower left there
abbrev pub LendsHidden : MutBor Hidden → MutBor Payload → Fml
LendsHidden s r = Lends hidden.the_row payload.the_row s r (leading s.now)

-- after the loan, the handle holds what the borrower left there
abbrev pub LendsHandle : MutBor Handle → MutBor Payload → Fml
LendsHandle s r = Lends handle.the_row payload.the_row s r (holding s.now)

-- the payload lends its end, if it is of this kind, and then holds what the borrower left; else it is unchanged
abbrev pub LendsPayload : (R : RattleType) → (R.Denot → Payload) → MutBor Payload → Option (MutBor R.Denot) → Fml
LendsPayload R wrap s r = LendsIf payload.the_row R s r wrap s.now

-- the handle lends its end, if it is of this kind, and then holds what the borrower left; else it is unchanged
abbrev pub LendsEnd : (R : RattleType) → (R.Denot → Payload) → MutBor Handle → Option (MutBor R.Denot) → Fml
LendsEnd R wrap s r = LendsIf handle.the_row R s r (λ w. holding s.now (wrap w)) s.now
