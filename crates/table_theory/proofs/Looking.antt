-- The record of an end by its steps, and looks one after the other, for any object.
use Rattle.table_theory.proofs.Common.{◌≡◌, List, [], ◌∷◌, ◌++◌, refl, sym, subst}
use Rattle.std.proofs.lemmas.List.{append-nil}
use Rattle.table_theory.specs.declared.views.EndState.{EndState}
use Rattle.table_theory.specs.Ledgers.{Step, ExtendsTrace, Performed, OnlyLoads}
use Rattle.table_theory.proofs.Parting.{made_then}
use Rattle.table_theory.proofs.Reaching.{adds_none}

-- the end did this, and its part among the ends is unchanged; these are its steps
pub record Does {K O : Type 0} (v : EndState K O) (own : K) (w : EndState K O) : Type 0 where
  pub steps : List (Step O)
  pub adds : ExtendsTrace v steps w
  pub did : w.own ≡ own
  pub member : w.member ≡ v.member

pub does : {K O : Type 0} → (v w : EndState K O) (own : K) (entries : List (Step O)) → Performed v entries own w → Does v own w
does v w own entries m = record { steps = entries; adds = m.adds; did = m.did; member = m.member }

pub looks_does : {K O : Type 0} → (v w : EndState K O) (entries : List (Step O)) → OnlyLoads v entries w → Does v v.own w
looks_does {K} {O} v w [] h = subst (λ (z : EndState K O). Does v v.own z) (sym h) (record { steps = []; adds = adds_none v; did = refl; member = refl })
looks_does v w (e ∷ entries) h = does v w v.own (e ∷ entries) h

pub looks_on : {K O : Type 0} → (v u w : EndState K O) (xs ys : List (Step O)) → OnlyLoads v xs u → OnlyLoads u ys w → OnlyLoads v (xs ++ ys) w
looks_on {K} {O} v u w [] ys a b = subst (λ (z : EndState K O). OnlyLoads z ys w) a b
looks_on {K} {O} v u w (x ∷ xs) [] a b = subst (λ (z : List (Step O)). Performed v z v.own w) (sym (append-nil (x ∷ xs))) (subst (λ (z : EndState K O). Performed v (x ∷ xs) v.own z) (sym b) a)
looks_on v u w (x ∷ xs) (y ∷ ys) a b = made_then v u w (x ∷ xs) (y ∷ ys) v.own (λ d. d) a b

pub looks_made : {K O : Type 0} → (F : K → K) (v u w : EndState K O) (xs ys : List (Step O)) → OnlyLoads v xs u → Performed u ys (F u.own) w → Performed v (xs ++ ys) (F v.own) w
looks_made {K} {O} F v u w [] ys a b = subst (λ (z : EndState K O). Performed z ys (F z.own) w) a b
looks_made F v u w (x ∷ xs) ys a b = made_then v u w (x ∷ xs) ys v.own F a b
