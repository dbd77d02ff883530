-- A handle that holds what it held is the same.
use Rattle.bindings.proofs.Calls.{◌≡◌, Bool, true, Option, sym, ap, subst, Some, Payload}
use Rattle.std.proofs.Math.Path.{contract'}
use Rattle.bindings.specs.Handles.{Handle, is_some}
use Rattle.bindings.specs.Lending.{holding}

abbrev as_full : Handle → Payload → (b : Bool) × (b ≡ true) → Handle
as_full h w p = record { hidden = record { at = h.hidden.at; value = Some w }; full = p.0; agrees = p.1 }

abbrev with_maybe : (h : Handle) (m : Option Payload) → h.full ≡ is_some m → Handle
with_maybe h m t = record { hidden = record { at = h.hidden.at; value = m }; full = h.full; agrees = t }

pub still_holding : (h : Handle) (w : Payload) (t : h.full ≡ true) → is_some h.hidden.value ≡ true → as_full h w (h.full, t) ≡ holding h w
still_holding h w t full = sym (ap (as_full h w) (contract' t))

pub same_handle : (h : Handle) (w : Payload) → h.hidden.value ≡ Some w → holding h w ≡ h
same_handle h w e = subst (λ (m : Option Payload). (t : h.full ≡ is_some m) → holding h w ≡ with_maybe h m t) (sym e) (λ t. ap (as_full h w) (contract' t)) h.agrees
