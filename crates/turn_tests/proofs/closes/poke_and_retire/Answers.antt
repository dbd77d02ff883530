use Rattle.std.proofs.Common.{◌≡◌, ℕ, zero, suc, List, [], ◌∷◌, length, map, ap, sym, subst, ◌∙◌, arith}
use Rattle.std.specs.List.{All}
use Rattle.std.specs.Vec.{with_items}
use Rattle.turn_io.specs.EndLists.{chain_end_table}
use Rattle.turn_io.proofs.Accounting.{poked_at}
use Rattle.turn_io.proofs.Places.{as_long}
use Rattle.turn_io.specs.Accounts.{chain_shares}
use Rattle.proc_chain.specs.declared.ends.ChainEnd.{ChainEnd}
use Rattle.proc_chain.specs.declared.quaject.Quaject.{Ghosts}
use Rattle.proc_chain.specs.Handles.{IsOnlyEnd}
use Rattle.boot_objects.proofs.Lent.{came_back}
use Rattle.boot_objects.proofs.Whole.{homes_fit}
use Rattle.turn_tests.proofs.closes.poke_and_retire.Goals as goal

-- an end that was the only one is still the only one
only_still : {Q W : Type 0} {g : Ghosts Q W} (old new : List (ChainEnd Q W g)) → length new ≡ length old → ((q : ℕ) → chain_shares new q ≡ chain_shares old q) → All IsOnlyEnd old → All IsOnlyEnd new
only_still old [] e s h k d l = absurd (omega arith)
only_still [] (y ∷ ys) e s h k d l = absurd (omega arith)
only_still (x ∷ xs) (y ∷ ys) e s h zero d l = s 0 ∙ h zero x (omega arith)
only_still (x ∷ xs) (y ∷ ys) e s h (suc k) d l = only_still xs ys (omega arith) (λ q. s (suc q)) (λ k d l. h (suc k) d (omega arith)) k d (omega arith)

pub retire_all-requires-clause-whole : goal.retire_all-requires-clause-whole
retire_all-requires-clause-whole g c = let ends = c.args.ends in let lent = c.deref_mut in let poked = c.poke-poked in
    let back = came_back chain_end_table ends lent.result.now poked.new.ends poked.ensures.handle.tables lent.ensures.len in
    subst (λ z. All IsOnlyEnd z) (sym back) (only_still ends.items poked.new.ends (as_long chain_end_table chain_end_table poked.new.ends ends.items (poked.ensures.handle.tables ∙ ap (map chain_end_table) lent.ensures.value))
    (λ q. ap (λ (f : ℕ → ℕ). f q) ((poked_at _ _ _ _ _ _ poked.ensures.poked).1 ∙ ap chain_shares lent.ensures.value)) c.requires.whole)

pub returns : goal.returns
returns g c = homes_fit c.args.world.now c.args.chains.items (with_items c.args.ends c.poke-poked.new.ends).items c.retire_all.result.items c.requires.over c.retire_all.ensures.homes
