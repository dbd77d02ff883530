-- Parts that are drawn outside of the lanes.
use Rattle.boot_picture.proofs.Common.{◌≡◌, ◌≤◌, ℕ, List, [], ◌∷◌, ◌++◌, Result, arith, sym, subst, All, All-push, on_ok_weaker, Shape, DrawsAbove, DrawsBelow, DrawsGround, DrawsTexts, IsClear, IsGround}
use Rattle.std.specs.Prelude.{OnOk}
use Rattle.event_theory.specs.declared.refusal.OutOfMemory.{OutOfMemory}

-- one more part that is clear of the lanes
clear_more : (top bottom : ℕ) (old new : List Shape) (shape : Shape) → new ≡ old ++ shape ∷ [] → IsClear top bottom shape → All (IsClear top bottom) old → All (IsClear top bottom) new
clear_more top bottom old new shape drawn clear all = subst (λ (shapes : List Shape). All (IsClear top bottom) shapes) (sym drawn) (All-push (IsClear top bottom) old shape all clear)

-- texts are drawn, and one more
pub text_more : (a b c : List Shape) (text : Shape) → DrawsTexts a b → c ≡ b ++ text ∷ [] → ((top bottom : ℕ) → IsClear top bottom text) → DrawsTexts a c
text_more a b c text first drawn clear = λ top bottom all. clear_more top bottom b c text drawn (clear top bottom) (first top bottom all)

-- texts are drawn, and more by a call whose answer is returned
pub then_texts : (result : Result (Unit {0}) OutOfMemory) (a b c : List Shape) → DrawsTexts a b → OnOk result (DrawsTexts b c) → OnOk result (DrawsTexts a c)
then_texts result a b c first h = on_ok_weaker result (λ later top bottom all. later top bottom (first top bottom all)) h

-- parts below a height are drawn, and one more
pub below_more : (side : ℕ) (a b c : List Shape) (shape : Shape) → DrawsBelow side a b → c ≡ b ++ shape ∷ [] → ((top bottom : ℕ) → bottom ≤ side → IsClear top bottom shape) → DrawsBelow side a c
below_more side a b c shape first drawn clear = λ top bottom within all. clear_more top bottom b c shape drawn (clear top bottom within) (first top bottom within all)

-- parts below a height are drawn, and others below one that is no higher
pub below_then : (side next : ℕ) (a b c : List Shape) → side ≤ next → DrawsBelow side a b → DrawsBelow next b c → DrawsBelow side a c
below_then side next a b c lower first later = λ top bottom within all. later top bottom (omega arith) (first top bottom within all)

-- texts above a height, or parts there, are drawn, and texts
pub above_then_text : (side : ℕ) (a b c : List Shape) (text : Shape) → DrawsAbove side a b → c ≡ b ++ text ∷ [] → ((top bottom : ℕ) → IsClear top bottom text) → DrawsAbove side a c
above_then_text side a b c text first drawn clear = λ bottom all. clear_more side bottom b c text drawn (clear side bottom) (first bottom all)

pub above_then : (side : ℕ) (a b c : List Shape) → DrawsAbove side a b → DrawsAbove side b c → DrawsAbove side a c
above_then side a b c first later = λ bottom all. later bottom (first bottom all)

-- no box is drawn, and one more part that is none
pub ground_more : (width height : ℕ) (a b c : List Shape) (shape : Shape) → DrawsGround width height a b → c ≡ b ++ shape ∷ [] → IsGround width height shape → DrawsGround width height a c
ground_more width height a b c shape first drawn ground = λ all. subst (λ (shapes : List Shape). All (IsGround width height) shapes) (sym drawn) (All-push (IsGround width height) b shape (first all) ground)

-- no box is drawn, and none by a call whose answer is returned
pub then_ground : (width height : ℕ) (result : Result (Unit {0}) OutOfMemory) (a b c : List Shape) → DrawsGround width height a b → OnOk result (DrawsGround width height b c) → OnOk result (DrawsGround width height a c)
then_ground width height result a b c first h = on_ok_weaker result (λ later all. later (first all)) h
