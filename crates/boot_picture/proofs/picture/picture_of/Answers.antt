use Rattle.boot_picture.proofs.Common.{◌≡◌, ◌≤◌, ◌<◌, ◌-◌, ◌∙◌, ℕ, List, Bor, arith, sym, subst, length, length-map, All-nil, AllZip-long, All, AllZip, Kept, kept_in, Shape, Placed, Ordered, Track, IsClear, IsGround, IsBoxOf, IsOrderOf, IsTrackOf, ArePlaced, IsWide}
use Rattle.boot_picture.specs.Pictures.{lanes_end}
use Rattle.boot_picture.proofs.Placing.{processors_of}
use Rattle.boot_picture.proofs.picture.picture_of.Goals as goal

-- there are as many tracks as logs
as_many : (logs : List (Bor Kept)) (tracks : List Track) → AllZip IsTrackOf (kept_in logs) tracks → length tracks ≡ length logs
as_many logs tracks h = AllZip-long IsTrackOf (kept_in logs) tracks h ∙ length-map logs (λ (log : Bor Kept). log.now)

pub frame_of-frame-requires : goal.frame_of-frame-requires
frame_of-frame-requires c =
    let many = as_many c.args.logs.now c.in_ok-tracks.tracks.items c.in_ok-tracks.ensures in
    let len = c.len.ensures in
    let ok = c.in_ok-tracks.tracks.ok.0 in
    let few = c.requires in
    omega arith

pub add_boxes-requires-clause-few : goal.add_boxes-requires-clause-few
add_boxes-requires-clause-few c =
    let many = as_many c.args.logs.now c.in_ok-tracks.tracks.items c.in_ok-tracks.ensures in
    subst (λ (ts : List Track). length ts ≤ 8) (sym c.deref-7.ensures.value) (subst (λ n. n ≤ 8) (sym many) c.requires)

pub add_boxes-requires-clause-processors : goal.add_boxes-requires-clause-processors
add_boxes-requires-clause-processors c =
    let tracks = c.in_ok-tracks.tracks.items in
    let order = c.in_ok-order.order.items in
    let all = c.in_ok-placed.placed.items in
    let ordered : IsOrderOf tracks order = subst (λ (ts : List Track). IsOrderOf ts order) c.deref.ensures.value c.in_ok-order.ensures in
    let by_time = c.args.boot.now.by_time in
    let placed : ArePlaced by_time tracks order all = subst (λ (ts : List Track). ArePlaced by_time ts order all) c.deref-2.ensures.value (subst (λ (os : List Ordered). ArePlaced by_time c.deref-2.result.now os all) c.deref-3.ensures.value c.in_ok-placed.ensures) in
    let known = processors_of (length tracks) all order placed.blocks ordered.of_tracks in
    subst (λ (ps : List Placed). All (λ (p : Placed). p.ordered.processor < length c.deref-7.result.now) ps) (sym c.deref-8.ensures.value) (subst (λ (ts : List Track). All (λ (p : Placed). p.ordered.processor < length ts) all) (sym c.deref-7.ensures.value) known)

pub add_boxes-requires-clause-wide : goal.add_boxes-requires-clause-wide
add_boxes-requires-clause-wide c = subst (λ (ps : List Placed). All IsWide ps) (sym c.deref-8.ensures.value) c.in_ok-placed.ensures.wide

pub returns : goal.returns
returns c =
    let logs = kept_in c.args.logs.now in
    let tracks = c.in_ok-tracks.tracks.items in
    let order = c.in_ok-order.order.items in
    let all = c.in_ok-placed.placed.items in
    let frame = c.frame_of-frame.result in
    let drawn = c.in_ok-add_boxes.ensures in
    let ordered : IsOrderOf tracks order = subst (λ (ts : List Track). IsOrderOf ts order) c.deref.ensures.value c.in_ok-order.ensures in
    let by_time = c.args.boot.now.by_time in
    let placed : ArePlaced by_time tracks order all = subst (λ (ts : List Track). ArePlaced by_time ts order all) c.deref-2.ensures.value (subst (λ (os : List Ordered). ArePlaced by_time c.deref-2.result.now os all) c.deref-3.ensures.value c.in_ok-placed.ensures) in
    let wide : All (λ (p : Placed). p.bounds.right ≤ frame.width) all = subst (λ (ps : List Placed). All (λ (p : Placed). p.bounds.right ≤ frame.width) ps) c.deref-4.ensures.value c.frame_of-frame.ensures.wide in
    let many : length tracks ≡ length logs = AllZip-long IsTrackOf logs tracks c.in_ok-tracks.ensures in
    let len = c.len.ensures in
    let ok = c.in_ok-tracks.tracks.ok.0 in
    let lanes = c.frame_of-frame.ensures.lanes in
    let high = c.frame_of-frame.ensures.high in
    let end : frame.threads - 20 ≡ lanes_end frame.processors (length logs) = omega arith in
    record {
      tracks = tracks;
      tracks_of = c.in_ok-tracks.ensures;
      all = all;
      order_of = subst (λ (os : List Ordered). IsOrderOf tracks os) (sym placed.blocks) ordered;
      places = placed.places;
      inside = λ k d within. record { wide = placed.wide k d within; ends = wide k d within };
      below = c.add_ground.new.canvas;
      boxes = drawn.0;
      above = c.add_rest.new.canvas;
      top = frame.processors;
      boxes_of = subst (λ (ts : List Track). AllZip (IsBoxOf ts frame.processors) all drawn.0) c.deref-7.ensures.value (subst (λ (ps : List Placed). AllZip (IsBoxOf c.deref-7.result.now frame.processors) ps drawn.0) c.deref-8.ensures.value drawn.2);
      ground = c.in_ok-add_ground.ensures (subst (λ (shapes : List Shape). All (IsGround frame.width frame.height) shapes) (sym c.new-below.ensures) (All-nil (IsGround frame.width frame.height)));
      lanes_inside = omega arith;
      lanes_clear = subst (λ (n : ℕ). All (IsClear frame.processors n) c.add_rest.new.canvas) end (c.in_ok-add_rest.ensures (subst (λ (shapes : List Shape). All (IsClear frame.processors (frame.threads - 20)) shapes) (sym c.new-above.ensures) (All-nil (IsClear frame.processors (frame.threads - 20)))));
      parts = let first = c.into_shapes.ensures in let second = c.into_shapes-2.ensures in let joined = c.in_ok-joined.ensures in let boxes = drawn.1 in cc;
    }
