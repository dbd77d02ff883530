-- What holds of the text that was read holds of the bytes of the reader.
use Rattle.boot_script.proofs.Common.{◌≡◌, List, ℕ, sym, subst, Option, Some, None, IfSome, Replayed, ReplayFault, text_events, IsReplay, IsReplayFault}

pub replay_of : (remaining old new : Option (List ℕ)) (text : List ℕ) (replayed : Replayed) → IfSome remaining (λ bytes. text_events bytes ≡ text_events text) → IsReplay (text_events text) replayed old new
    → IfSome remaining (λ bytes. IsReplay (text_events bytes) replayed old new)
replay_of None old new text replayed same h = tt
replay_of (Some bytes) old new text replayed same h = subst (λ said. IsReplay said replayed old new) (sym same) h

pub fault_of : (remaining : Option (List ℕ)) (text : List ℕ) (fault : ReplayFault) → IfSome remaining (λ bytes. text_events bytes ≡ text_events text) → IsReplayFault (text_events text) fault
    → IfSome remaining (λ bytes. IsReplayFault (text_events bytes) fault)
fault_of None text fault same h = tt
fault_of (Some bytes) text fault same h = subst (λ said. IsReplayFault said fault) (sym same) h
