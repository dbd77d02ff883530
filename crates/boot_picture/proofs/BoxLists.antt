-- The boxes of blocks, box by box.
use Rattle.boot_picture.proofs.Common.{◌≡◌, ◌<◌, ◌+◌, ◌∙◌, ℕ, List, [], ◌∷◌, ◌++◌, sym, ap, subst, length, take, get_or, add-one, append_assoc, take-suc, all_zipped_more, AllZip, Shape, Placed, Track, IsBoxOf, AreBoxesDrawn}

-- the box of one more block
pub boxes_more : (tracks : List Track) (top : ℕ) (all : List Placed) (i : ℕ) (placed : Placed) (old middle new : List Shape) → i < length all → placed ≡ get_or all i placed → AreBoxesDrawn tracks top (take i all) old middle → (shape : Shape) × (new ≡ middle ++ shape ∷ []) × IsBoxOf tracks top placed shape → AreBoxesDrawn tracks top (take (i + 1) all) old new
boxes_more tracks top all i placed old middle new within is before next =
    let boxes : List Shape = before.0 in
    let longer : take (i + 1) all ≡ take i all ++ placed ∷ [] = ap (λ k. take k all) (add-one i) ∙ (take-suc all i placed within ∙ ap (λ (p : Placed). take i all ++ p ∷ []) (sym is)) in
    let drawn : new ≡ old ++ (boxes ++ next.0 ∷ []) = next.1 ∙ (ap (λ (s : List Shape). s ++ next.0 ∷ []) before.1 ∙ append_assoc old boxes (next.0 ∷ [])) in
    (boxes ++ next.0 ∷ [], drawn, subst (λ (ps : List Placed). AllZip (IsBoxOf tracks top) ps (boxes ++ next.0 ∷ [])) (sym longer) (all_zipped_more (IsBoxOf tracks top) (take i all) boxes placed next.0 before.2 next.2))
