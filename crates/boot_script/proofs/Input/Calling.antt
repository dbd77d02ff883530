-- Calls of read, one after the other.
use Rattle.boot_script.proofs.Common.{◌≡◌, ◌≢◌, inl, inr, ℕ, ◌<◌, ◌≤◌, ◌+◌, List, [], ◌∷◌, length, arith, refl, ap, sym, ◌∙◌, Result, Ok, Err, All}
use Rattle.std.proofs.lemmas.List.Elements.{All-cons}
use Rattle.std.specs.IoError.{error_kind}
use Rattle.std.specs.declared.io.Error.{Error}
use Rattle.std.specs.declared.io.ErrorKind.TheVariants.{Interrupted}
use Rattle.boot_script.specs.StreamFaults.{Calls, GoesOn, bytes_of, HasRead, IsReadFault}

-- so many calls lead from one reader to the other, reading went on after each, and they read so many bytes
pub record SoFar {R : Type 0} (answers : R → Result ℕ Error → R → Type 0) (count filled : ℕ) (old new : R) : Type 0 where
  pub calls : List (Result ℕ Error)
  pub called : Calls answers calls old new
  pub went_on : All GoesOn calls
  pub counted : length calls ≡ count
  pub read : bytes_of calls ≡ filled

module _ {R : Type 0} (answers : R → Result ℕ Error → R → Type 0) where
  pub no_call : (old : R) → SoFar answers 0 0 old old
  no_call old = record { calls = []; called = refl; went_on = λ k d within. absurd (omega (arith, within)); counted = refl; read = refl }

  -- a call that read a byte or more
  pub more_read : (count filled n : ℕ) (old between new : R) → SoFar answers count filled old between → answers between (Ok n) new → n ≢ 0 → SoFar answers (count + 1) (filled + n) old new
  more_read count filled n old between new so_far answered some = record {
    calls = Ok n ∷ so_far.calls;
    called = (between, so_far.called, answered);
    went_on = All-cons GoesOn (Ok n) so_far.calls some so_far.went_on;
    counted = omega (arith, so_far.counted);
    read = ap (λ read. read + n) so_far.read;
  }

  -- a call that was interrupted
  pub interrupted : (count filled : ℕ) (error : Error) (old between new : R) → SoFar answers count filled old between → answers between (Err error) new → error_kind error ≡ Interrupted
      → SoFar answers (count + 1) filled old new
  interrupted count filled error old between new so_far answered is = record {
    calls = Err error ∷ so_far.calls;
    called = (between, so_far.called, answered);
    went_on = All-cons GoesOn (Err error) so_far.calls is so_far.went_on;
    counted = omega (arith, so_far.counted);
    read = so_far.read;
  }

  pub at_end : (count filled : ℕ) (old between new : R) → SoFar answers count filled old between → count < 131072 → filled ≤ 65536 → answers between (Ok 0) new → HasRead answers filled old new
  at_end count filled old between new so_far few short answered =
      inl (so_far.calls, ((between, so_far.called, answered), (so_far.went_on, omega (arith, so_far.read, short)), omega (arith, so_far.counted, few)), sym so_far.read)

  pub too_much : (count filled n : ℕ) (old between new : R) → SoFar answers count filled old between → count < 131072 → filled ≤ 65536 → answers between (Ok n) new → 65536 < filled + n → HasRead answers (filled + n) old new
  too_much count filled n old between new so_far few short answered long =
      inr (so_far.calls, n, ((between, so_far.called, answered), (so_far.went_on, omega (arith, so_far.read, short)), omega (arith, so_far.counted, few)), ap (λ read. read + n) (sym so_far.read), long)

  pub at_fault : (count filled : ℕ) (error : Error) (old between new : R) → SoFar answers count filled old between → count < 131072 → filled ≤ 65536 → answers between (Err error) new → error_kind error ≢ Interrupted
      → IsReadFault answers old new
  at_fault count filled error old between new so_far few short answered other =
      inl (so_far.calls, error, ((between, so_far.called, answered), (so_far.went_on, omega (arith, so_far.read, short)), omega (arith, so_far.counted, few)), other)

  pub called_most : (count filled : ℕ) (old new : R) → SoFar answers count filled old new → count ≡ 131072 → filled ≤ 65536 → IsReadFault answers old new
  called_most count filled old new so_far most short =
      inr (so_far.calls, so_far.called, (so_far.went_on, omega (arith, so_far.read, short)), so_far.counted ∙ most)
