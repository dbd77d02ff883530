use Rattle.spooler.proofs.Common.{◌≡◌, ◌∷◌, ◌++◌, ◌∙◌, [], ap, sym, subst, List, ℕ, arith, take_all, IsWhole}
use Rattle.spooler.proofs.Wholes.{whole_of}
use Rattle.spooler.proofs.line.Line.of.Goals as goal

pub invariant_of-result : goal.invariant_of-result
invariant_of-result c =
    let i = c.loop-byte-test.false in
    let j = c.if-text-ge64.false in
    let none = c.if-contains.ensures.cases in
    let all : c.loop-byte.items.items ≡ c.args.text.now = c.loop-byte.invariant ∙ take_all c.loop-byte.byte-index c.args.text.now i in
    let items : c.push-2.new.self.items ≡ c.args.text.now ++ 10 ∷ [] = c.push-2.ensures.items ∙ ap (λ (z : List ℕ). z ++ 10 ∷ []) all in
    record { whole = subst IsWhole (sym items) (whole_of c.args.text.now (omega arith) (λ k low ten. let at = none k 0 (omega arith) low in grind arith)) }
