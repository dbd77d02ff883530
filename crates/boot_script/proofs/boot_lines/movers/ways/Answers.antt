use Rattle.boot_script.proofs.Common.{◌≡◌, ◌<◌, [], sym, ap, subst, ◌∙◌, arith, length, true, false, Ok, slice_set, get_or-replicate, length-set, length-replicate, ◌>>=◌, at_most_of, ways_from}
use Rattle.boot_script.proofs.Escaping.Unescaped.{no_room}
use Rattle.boot_script.proofs.BootScripts.WaysSoFar.{AreReadSoFar, no_way_yet, pushed_way, full_way, way_refused, ways_read, ways_said, few_ways, many_ways, reported}
use Rattle.boot_script.proofs.boot_lines.movers.ways.Goals as goal

pub loop-seen-init : goal.loop-seen-init
loop-seen-init c = record {
  so_far = record {
    front = [];
    keys = [];
    marked = λ key few. get_or-replicate 256 key false false few;
    here = λ h. (c.new-ways.ensures, omega arith);
    lost = λ h. absurd (cc h);
    all = no_way_yet _;
  };
  whole = length-replicate 256 false;
}

pub loop-seen-preserved-then-push : goal.loop-seen-preserved-then-push
loop-seen-preserved-then-push c =
    let some : c.loop-seen.words ≡ [] → ⊥ = reported c.is_done-in-loop-seen.result c.loop-seen.words c.loop-seen-test.true c.is_done-in-loop-seen.ensures.1 in
    let room : c.in-Ok.way.key < length c.loop-seen.seen = omega (arith, c.loop-seen.invariant.whole) in
    let marked = ap (λ k. slice_set c.loop-seen.seen k true) c.from.ensures in
    record {
      so_far = subst (λ seen. AreReadSoFar c.loop-seen.fits c.push.new.self seen c.args.names.now c.way.new.words (ways_from c.args.names.now [] c.args.words.now)) (sym marked)
          (pushed_way c.loop-seen.fits c.loop-seen.ways c.push.new.self c.loop-seen.seen c.args.names.now c.loop-seen.words c.way.new.words _ c.in-Ok.way c.loop-seen.invariant.so_far some
          (sym (c.in-Ok.ensures.said c.loop-seen.invariant.so_far.keys c.loop-seen.invariant.so_far.marked)) c.way.ensures.rest room (c.push.ensures.room.0 c.if-push.true) (c.push.ensures.pushed c.if-push.true));
      whole = length-set c.loop-seen.seen c.from.result true ∙ c.loop-seen.invariant.whole;
    }

pub loop-seen-preserved : goal.loop-seen-preserved
loop-seen-preserved c =
    let some : c.loop-seen.words ≡ [] → ⊥ = reported c.is_done-in-loop-seen.result c.loop-seen.words c.loop-seen-test.true c.is_done-in-loop-seen.ensures.1 in
    let room : c.in-Ok.way.key < length c.loop-seen.seen = omega (arith, c.loop-seen.invariant.whole) in
    let marked = ap (λ k. slice_set c.loop-seen.seen k true) c.from.ensures in
    record {
      so_far = subst (λ seen. AreReadSoFar c.push.result c.push.new.self seen c.args.names.now c.way.new.words (ways_from c.args.names.now [] c.args.words.now)) (sym marked)
          (full_way c.loop-seen.fits c.push.result c.loop-seen.ways c.push.new.self c.loop-seen.seen c.args.names.now c.loop-seen.words c.way.new.words _ c.in-Ok.way c.loop-seen.invariant.so_far some
          (sym (c.in-Ok.ensures.said c.loop-seen.invariant.so_far.keys c.loop-seen.invariant.so_far.marked)) c.way.ensures.rest room c.if-push.false
          (no_room c.push.result (length c.loop-seen.ways) 4 c.if-push.false c.push.ensures.room.1));
      whole = length-set c.loop-seen.seen c.from.result true ∙ c.loop-seen.invariant.whole;
    }

pub returns-in-Err : goal.returns-in-Err
returns-in-Err c =
    let first : c.args.words.now ≡ [] → ⊥ = reported c.is_done.result c.args.words.now c.if-is_done.false c.is_done.ensures.1 in
    let some : c.loop-seen.words ≡ [] → ⊥ = reported c.is_done-in-loop-seen.result c.loop-seen.words c.loop-seen-test.true c.is_done-in-loop-seen.ensures.1 in
    let so_far = c.loop-seen.invariant.so_far in
    let said = way_refused so_far.front c.args.names.now so_far.keys c.loop-seen.words (ways_from c.args.names.now [] c.args.words.now) c.in-Err.refusal some (sym (c.in-Err.ensures.said so_far.keys so_far.marked)) so_far.all in
    sym (ways_said c.args.names.now c.args.words.now first ∙ ap (λ r. r >>= λ ways. at_most_of 4 ways >>= λ end. Ok ways) said)

pub returns-then-fits : goal.returns-then-fits
returns-then-fits c =
    let first : c.args.words.now ≡ [] → ⊥ = reported c.is_done.result c.args.words.now c.if-is_done.false c.is_done.ensures.1 in
    let so_far = c.loop-seen.invariant.so_far in
    let here = so_far.here c.if-fits.true in
    let said = ways_read so_far.front c.args.names.now so_far.keys c.loop-seen.words (ways_from c.args.names.now [] c.args.words.now) (c.is_done-in-loop-seen.ensures.0 c.loop-seen-test.false) so_far.all in
    ap Ok here.0 ∙ sym (ways_said c.args.names.now c.args.words.now first ∙ (ap (λ r. r >>= λ ways. at_most_of 4 ways >>= λ end. Ok ways) said ∙ few_ways so_far.front here.1))

pub returns-else-fits : goal.returns-else-fits
returns-else-fits c =
    let first : c.args.words.now ≡ [] → ⊥ = reported c.is_done.result c.args.words.now c.if-is_done.false c.is_done.ensures.1 in
    let so_far = c.loop-seen.invariant.so_far in
    let said = ways_read so_far.front c.args.names.now so_far.keys c.loop-seen.words (ways_from c.args.names.now [] c.args.words.now) (c.is_done-in-loop-seen.ensures.0 c.loop-seen-test.false) so_far.all in
    sym (ways_said c.args.names.now c.args.words.now first ∙ (ap (λ r. r >>= λ ways. at_most_of 4 ways >>= λ end. Ok ways) said ∙ many_ways so_far.front (so_far.lost c.if-fits.false)))
