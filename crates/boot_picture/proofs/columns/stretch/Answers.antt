use Rattle.boot_picture.proofs.Common.{◌∙◌, ◌-◌, ◌+◌, ◌<◌, ◌≡◌, ap, arith, get_or, length, length-set, refl, sym, All-set, Placed, IsWide}
use Rattle.boot_picture.proofs.Orders.{read_at}
use Rattle.boot_picture.proofs.Placing.{AreNexts, before_later, blocks_moved, moved, nexts_moved, pairs_moved}
use Rattle.boot_picture.proofs.columns.stretch.Goals as goal

pub loop-number-init : goal.loop-number-init
loop-number-init c =
    let len = c.in_ok-nexts.ensures.len in
    record {
      as_many = sym c.in_ok-nexts.nexts.ok.0 ∙ len;
      processors = c.requires.processors;
      blocks = refl;
      wide = c.requires.wide;
      turns = c.requires.turns;
      nexts = λ j d from below. absurd (omega (arith, from, below));
    }

pub loop-number-preserved : goal.loop-number-preserved
loop-number-preserved c =
    let inv = c.loop-number.invariant in
    let all = c.loop-number.all in
    let i = c.loop-number.number - 1 in
    let d = c.index-all-number.result in
    let was : Placed = get_or all i d in
    let right = c.stretched-placed.result in
    let nexts = c.loop-number.nexts.items in
    let many = c.loop-number.auto.all in
    let test = c.loop-number-test.true in
    let at = c.loop-number.auto.number in
    let within : i < length all = omega arith in
    let later : AreNexts nexts (i + 1) all = λ j e from below. inv.nexts j e (omega (arith, from)) below in
    let own = inv.processors i d within in
    let as_many = inv.as_many in
    let known : was.ordered.processor < length nexts = omega arith in
    let next = read_at nexts was.ordered.processor c.index_mut-next.result.now known c.index_mut-next.ensures.value in
    record {
      as_many = length-set nexts was.ordered.processor was.bounds.left ∙ inv.as_many;
      processors = All-set (λ (placed : Placed). placed.ordered.processor < length c.args.tracks.now) all i (moved was right) (inv.processors i d within) inv.processors;
      blocks = blocks_moved all i d right within ∙ inv.blocks;
      wide = All-set IsWide all i (moved was right) (let wide = inv.wide i d within in let more = c.stretched-placed.ensures.least in omega arith) inv.wide;
      turns = pairs_moved all i d right within inv.turns (λ j e less below same.
          let most = c.stretched-placed.ensures.most in
          let before = (before_later all i d right within inv.turns j e less below).ends same in
          let begins = inv.nexts j e (omega (arith, less)) below in
          let mine : get_or nexts was.ordered.processor 0 ≡ get_or nexts (get_or all j e).ordered.processor 0 = ap (λ p. get_or nexts p 0) same in
          omega arith);
      nexts = nexts_moved all i d right within inv.turns nexts known later;
    }
