-- The words of an exit, on an error stream that was let go.
use Rattle.std.proofs.Common.{◌≡◌, inl, inr, ℕ, List, Option, Result, Ok, Err}
use Rattle.std.specs.Prelude.{OnOk, OnErr}
use Rattle.std.specs.declared.io.Error.{Error}
use Rattle.std.specs.Io.KnownBytes.{Appends}
use Rattle.boot_script.specs.declared.exit.Exit.{Exit}
use Rattle.boot_script.specs.Exits.{IsExit, HasReported}
use Rattle.boot_script.specs.StreamFaults.{IsWriteFault}

module _ {E : Type 0} (gone : E → Type 0) (fails : E → E → Type 0) (contents : E → Option (List ℕ)) (words : List ℕ) (errors last : E) where
  by_result : {A : Type 0} (result : Result A Error) → gone last → OnOk result (Appends (contents errors) (contents last) words) → OnErr result (IsWriteFault fails last)
      → HasReported gone fails contents words errors
  by_result (Ok all) went written failed = (last, went, inl written)
  by_result (Err error) went written failed = (last, went, inr failed)

  pub reported : (exit : Exit) (status : ℕ) → gone last → IsExit exit status words (contents errors) (contents last) → OnErr exit.reported (IsWriteFault fails last)
      → HasReported gone fails contents words errors
  reported exit status went is failed = by_result exit.reported went is.1 failed
