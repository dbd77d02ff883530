-- Lines that a producer put, one after the other.
use Rattle.spooler.proofs.Common.{ℕ, List, [], ◌∷◌, ◌++◌, ◌∙◌, refl, sym, ap, append_assoc, Result, append-nil, View, lines_put, SameLines, PutLine, answer_order, HasPut}
use Rattle.claim_queue.specs.declared.claim.ClaimRefusal.{ClaimRefusal}
use Rattle.claim_queue.specs.Puts.{PutAnswer}

-- one line was put
pub put_one : (room : ℕ) (v w : View) (items : List ℕ) (r : Result ℕ ClaimRefusal) → PutAnswer room v items r w → PutLine items v w → HasPut (items ∷ []) v w
put_one room v w items r a p = record { puts = p.puts; takes = p.takes; order = answer_order room v w items r a; share = p.share }

-- none was put
pub put_none : (v : View) → HasPut [] v v
put_none v = record { puts = sym (append-nil (lines_put v)); takes = refl; order = λ up. up; share = refl }

pub put_lost : (room : ℕ) (v w : View) (items : List ℕ) (r : Result ℕ ClaimRefusal) → PutAnswer room v items r w → SameLines v w → HasPut [] v w
put_lost room v w items r a s = record { puts = s.puts ∙ sym (append-nil (lines_put v)); takes = s.takes; order = answer_order room v w items r a; share = s.share }

-- more was put
pub put_on : (u v w : View) (lines more : List (List ℕ)) → HasPut lines u v → HasPut more v w → HasPut (lines ++ more) u w
put_on u v w lines more a b = record {
  puts = b.puts ∙ (ap (λ (z : List (List ℕ)). z ++ more) a.puts ∙ append_assoc (lines_put u) lines more);
  takes = b.takes ∙ a.takes;
  order = λ up. b.order (a.order up);
  share = b.share ∙ a.share;
}
