use Rattle.spooler.proofs.Common.{Vec, Some, None, ◌≡◌, ◌+◌, ◌++◌, ◌∙◌, List, Option, Result, IfOk, IfSome, sym, ap, subst, arith, Batch, given, kept, valid_end, join_grows, join_grows_other, view_of, SplitBy, IsNewEnd, JoinedBy, View, Line, HasTaken, lines_of}
use Rattle.std.specs.Option.{ok_or, option_zip}
use Rattle.spooler.proofs.Settling.{Idle, spooled, produced, taken, same_share, grown_two}
use Rattle.spooler.proofs.spool.run_spool.Goals as goal

-- a split leaves an end with nothing as it was, and gives one with nothing
split_idle : (v w : View) → SplitBy v w → Idle v → Idle w
split_idle v w d i = ((λ k. (d.own k).runs) ∙ i.0, (λ k. (d.own k).takes) ∙ i.1)

born_idle : (v w born : View) → IsNewEnd v w born → Idle born
born_idle v w born b = (ap (λ (z : View). z.own.runs) b, ap (λ (z : View). z.own.takes) b)

-- the shares of both are the share that was split
split_share : (v w born : View) → SplitBy v w → IsNewEnd v w born → w.member.share + born.member.share ≡ v.member.share
split_share v w born d b =
    let left : w.member.share ≡ kept v.member.share = (λ k. (d.member k).share) in
    let gone : born.member.share ≡ given v.member.share = ap (λ (z : View). z.member.share) b in
    omega arith

joined_share : (v u w : View) → JoinedBy v u w → w.member.share ≡ v.member.share + u.member.share
joined_share v u w t = λ k. (t.member k).share

-- what both came back with
both_kept : {E : Type 0} (one other : Option (Vec Line)) (r : Result (Vec Line × Vec Line) E) (e : E) (H K : Vec Line → Type 0) (P : Vec Line × Vec Line → Type 0)
    → r ≡ ok_or (option_zip one other) e → IfSome one H → IfSome other K → ((x y : Vec Line) → H x → K y → P (x, y)) → IfOk r P
both_kept None other r e H K P is h k f = subst (λ z. IfOk z P) (sym is) tt
both_kept (Some x) None r e H K P is h k f = subst (λ z. IfOk z P) (sym is) tt
both_kept (Some x) (Some y) r e H K P is h k f = subst (λ z. IfOk z P) (sym is) (f x y h k)

pub unreachable-requires : goal.unreachable-requires
unreachable-requires g c =
    let v0 : View = view_of c.in_ok-queue.last in
    let v1 : View = view_of c.split-a.new.end in
    let v2 : View = view_of c.split-b.new.end in
    let v3 : View = view_of c.split-c.new.end in
    let v4 : View = view_of c.split-d.new.end in
    let v5 : View = view_of c.split-e.new.end in
    let back = c.join-last.result in
    let whole = ap (λ (z : View). z.member.share) c.in_ok-queue.ensures.2 in
    let s1 = split_share v0 v1 (view_of c.split-a.result) c.split-a.ensures.trace c.split-a.ensures.born in
    let s2 = split_share v1 v2 (view_of c.split-b.result) c.split-b.ensures.trace c.split-b.ensures.born in
    let s3 = split_share v2 v3 (view_of c.split-c.result) c.split-c.ensures.trace c.split-c.ensures.born in
    let s4 = split_share v3 v4 (view_of c.split-d.result) c.split-d.ensures.trace c.split-d.ensures.born in
    let s5 = split_share v4 v5 (view_of c.split-e.result) c.split-e.ensures.trace c.split-e.ensures.born in
    let put = c.join-last.ensures.first.1 in
    let took = c.join-last.ensures.second in
    let p = put.gathered.share in
    let same = same_share _ _ put.backs put.puts in
    let t = took.0.1.share in
    let u = took.1.1.share in
    let j1 = joined_share (view_of back.0) (view_of back.1.0.0) (view_of c.join.new.end) c.join.ensures.trace in
    let j2 = joined_share (view_of c.join.new.end) (view_of back.1.1.0) (view_of c.join-2.new.end) c.join-2.ensures.trace in
    c.in_default.ensures.only (omega arith)

pub returns : goal.returns
returns g c =
    let v0 : View = view_of c.in_ok-queue.last in
    let v1 : View = view_of c.split-a.new.end in
    let v2 : View = view_of c.split-b.new.end in
    let v3 : View = view_of c.split-c.new.end in
    let v4 : View = view_of c.split-d.new.end in
    let v5 : View = view_of c.split-e.new.end in
    let new = c.in_ok-queue.ensures in
    let i0 : Idle v0 = (ap (λ (z : View). z.own.runs) new.2, ap (λ (z : View). z.own.takes) new.2) in
    let i1 : Idle v1 = split_idle v0 v1 c.split-a.ensures.trace i0 in
    let i2 : Idle v2 = split_idle v1 v2 c.split-b.ensures.trace i1 in
    let i3 : Idle v3 = split_idle v2 v3 c.split-c.ensures.trace i2 in
    let i4 : Idle v4 = split_idle v3 v4 c.split-d.ensures.trace i3 in
    let i5 : Idle v5 = split_idle v4 v5 c.split-e.ensures.trace i4 in
    let ia = born_idle v0 v1 (view_of c.split-a.result) c.split-a.ensures.born in
    let ib = born_idle v1 v2 (view_of c.split-b.result) c.split-b.ensures.born in
    let ic = born_idle v2 v3 (view_of c.split-c.result) c.split-c.ensures.born in
    let id = born_idle v3 v4 (view_of c.split-d.result) c.split-d.ensures.born in
    let ie = born_idle v4 v5 (view_of c.split-e.result) c.split-e.ensures.born in
    let back = c.join-last.result in
    let put = c.join-last.ensures.first.1 in
    let took = c.join-last.ensures.second in
    let d0 : View = view_of c.split-d.result in
    let e0 : View = view_of c.split-e.result in
    let p : View = view_of back.0 in
    let t : View = view_of back.1.0.0 in
    let u : View = view_of back.1.1.0 in
    let j1 : View = view_of c.join.new.end in
    let j2 : View = view_of c.join-2.new.end in
    let t1 = c.join.ensures.trace in
    let t2 = c.join-2.ensures.trace in
    let runs : j2.own.runs ≡ (p.own.runs ++ t.own.runs) ++ u.own.runs = (λ k. (t2.own k).runs) ∙ ap (λ (l : List Batch). l ++ u.own.runs) (λ k. (t1.own k).runs) in
    let takes : j2.own.takes ≡ (p.own.takes ++ t.own.takes) ++ u.own.takes = (λ k. (t2.own k).takes) ∙ ap (λ (l : List Batch). l ++ u.own.takes) (λ k. (t1.own k).takes) in
    both_kept back.1.0.1 back.1.1.1 c.ok_or.result _ (λ lines. HasTaken (lines_of lines.items) d0 t) (λ lines. HasTaken (lines_of lines.items) e0 u) _
    (c.ok_or.ensures.value ∙ ap (λ z. ok_or z _) c.zip.ensures) took.0.2 took.1.2
    (λ x y h k. spooled c.args.jobs.now x.items y.items v5 p t u j2 put.backs _ _ _ _ i5
    (produced _ _ put.backs (ia, (ib, (ic, tt))) put.puts) put.gathered
    (taken (lines_of x.items) d0 t id.0 id.1 took.0.1 h) (taken (lines_of y.items) e0 u ie.0 ie.1 took.1.1 k)
    runs takes (grown_two t.seen.object j1.seen.object j2.seen.object (join_grows_other p t j1 (valid_end back.1.0.0) (valid_end c.join.new.end) t1) (join_grows j1 u j2 (valid_end c.join.new.end) (valid_end c.join-2.new.end) t2)) c.in-Ok.ensures.closed.1)
