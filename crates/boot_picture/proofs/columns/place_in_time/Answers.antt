use Rattle.boot_picture.proofs.Common.{◌≡◌, ◌+◌, ◌∙◌, ℕ, ap, arith, max, refl, subst, sym, take_all, All, Scale, IsAtTime, blocks_of, place, scale_of}
use Rattle.boot_picture.proofs.Placing.{blocks_more, times_more, wide_more}
use Rattle.boot_picture.proofs.columns.place_in_time.Goals as goal

pub loop-ordered-preserved : goal.loop-ordered-preserved
loop-ordered-preserved c =
    let inv = c.loop-ordered.invariant in
    let pushed = c.in_ok-push.ensures.items in
    let scale = c.scale_of-scale.result in
    record {
      blocks = blocks_more c.args.order.now c.loop-ordered.ordered-index _ c.loop-ordered.all.items c.push.new.self.items _ c.loop-ordered-test.true inv.blocks refl pushed;
      wide = wide_more c.loop-ordered.all.items c.push.new.self.items _ inv.wide (omega arith) pushed;
      times = times_more c.args.tracks.now scale c.loop-ordered.all.items c.push.new.self.items _ inv.times (record { begins = c.left_of-left.ensures.exact; ends = c.max-right.ensures ∙ ap (λ (right : ℕ). max right (c.left_of-left.result + 2)) (c.place.ensures.exact ∙ ap (place scale) c.last_time_of.ensures) }) pushed;
    }

pub returns : goal.returns
returns c =
    let tracks = c.args.tracks.now in
    let all = c.loop-ordered.all.items in
    let inv = c.loop-ordered.invariant in
    let blocks : blocks_of all ≡ c.args.order.now = inv.blocks ∙ take_all c.loop-ordered.ordered-index c.args.order.now c.loop-ordered-test.false in
    record {
      blocks = blocks;
      wide = inv.wide;
      places = subst (λ (scale : Scale). All (IsAtTime tracks scale) all) (c.scale_of-scale.ensures ∙ ap (scale_of tracks) (sym blocks)) inv.times;
    }
