use Rattle.spooler.proofs.Common.{rules, ◌≡◌, ℕ, zero, suc, ◌+◌, ◌<◌, [], ◌∷◌, ◌++◌, List, take, get_or, length, ap, sym, subst, arith, view_of, Line, HasPut, lines_of}
use Rattle.spooler.proofs.Putting.{put_on}
use Rattle.spooler.proofs.spool.put_lines.Goals as goal

one_more : (lines : List Line) (i : ℕ) (x : Line) → x ≡ get_or lines i x → i < length lines → lines_of (take (suc i) lines) ≡ lines_of (take i lines) ++ x.items.items ∷ []
one_more [] i x e low = absurd (omega arith)
one_more (y ∷ ys) zero x e low = ap (λ (z : Line). z.items.items ∷ []) (sym e)
one_more (y ∷ ys) (suc i) x e low = ap (λ (z : List (List ℕ)). y.items.items ∷ z) (one_more ys i x e (omega arith))

pub loop-line-preserved : goal.loop-line-preserved
loop-line-preserved g c =
    let i : ℕ = c.loop-line.line-index in
    let next : suc i ≡ i + 1 = omega arith in
    let more = one_more c.args.lines.now i c.line-item.result c.line-item.is c.loop-line-test.true in
    let h = put_on (view_of c.args.end.now) (view_of c.loop-line.end) (view_of c.put_line.new.end) (lines_of (take i c.args.lines.now)) (c.line-item.result.items.items ∷ []) c.loop-line.invariant.1 c.put_line.ensures.put in (
      (search rules),
      subst (λ (z : ℕ). HasPut (lines_of (take z c.args.lines.now)) (view_of c.args.end.now) (view_of c.put_line.new.end)) next
          (subst (λ (z : List (List ℕ)). HasPut z (view_of c.args.end.now) (view_of c.put_line.new.end)) (sym more) h),
    )
