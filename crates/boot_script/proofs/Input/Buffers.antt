-- Lines that wait in a buffer.
use Rattle.std.proofs.Common.{◌≡◌, ℕ, List, [], ◌++◌, ◌∙◌, ap, append-nil, Option, Some, None, Result}
use Rattle.boot_script.proofs.Common.{on_ok_weaker, OnOk, Appends, append_known}

-- what was put in an empty buffer is appended once the buffer is written out
pub written_out : (a b c : Option (List ℕ)) (empty buffer text all : List ℕ) → empty ≡ [] → Appends (append_known a empty) (append_known b buffer) text → text ≡ all → Appends b c buffer
    → Appends a c all
written_out None b c empty buffer text all none h e k = tt
written_out (Some xs) None c empty buffer text all none h e k = absurd h
written_out (Some xs) (Some ys) None empty buffer text all none h e k = absurd k
written_out (Some xs) (Some ys) (Some zs) empty buffer text all none h e k =
    k ∙ (h ∙ (ap (λ ws. (xs ++ ws) ++ text) none ∙ (ap (λ ws. ws ++ text) (append-nil xs) ∙ ap (λ ws. xs ++ ws) e)))

-- an empty buffer that was filled is written out by a call that may fail
pub then_written_out : {A E : Type 0} (result : Result A E) (a b c : Option (List ℕ)) (empty buffer text all : List ℕ) → empty ≡ [] → Appends (append_known a empty) (append_known b buffer) text
    → text ≡ all → OnOk result (Appends b c buffer) → OnOk result (Appends a c all)
then_written_out result a b c empty buffer text all none h e k = on_ok_weaker result (λ last. written_out a b c empty buffer text all none h e last) k
