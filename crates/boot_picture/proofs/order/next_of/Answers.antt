use Rattle.boot_picture.proofs.Common.{◌≡◌, ◌≤◌, refl, subst, length, get_or, List, Some, None, slice_get, slice_get_past, slice_get_read, Block}
use Rattle.boot_picture.proofs.Clocks.{next_is, next_known}
use Rattle.boot_picture.proofs.Orders.{used_none}
use Rattle.boot_picture.proofs.order.next_of.Goals as goal

pub returns-in-Some-clause-found : goal.returns-in-Some-clause-found
returns-in-Some-clause-found c =
    let tracks = c.args.tracks.now in
    let track = c.index-tracks-processor.result in
    let items = c.deref.result.now in
    let n = get_or c.args.nexts.now c.args.processor 0 in
    let found = c.in-Some.ensures.lookup in
    record {
      track = track;
      processor_of = slice_get_read tracks (length tracks) c.args.processor track refl c.requires.processor c.index-tracks-processor.is;
      next = subst (λ (bs : List Block). slice_get bs n ≡ Some c.in-Some.block.now) c.deref.ensures.value (slice_get_read items (length items) n c.in-Some.block.now refl found.3.0 found.1);
    }

pub returns-in-None-clause-none : goal.returns-in-None-clause-none
returns-in-None-clause-none c = λ none track at.
    let tracks = c.args.tracks.now in
    let n = get_or c.args.nexts.now c.args.processor 0 in
    let own = slice_get_read tracks (length tracks) c.args.processor c.index-tracks-processor.result refl c.requires.processor c.index-tracks-processor.is in
    used_none tracks c.args.processor n c.index-tracks-processor.result track own at (subst (λ (bs : List Block). length bs ≤ n) c.deref.ensures.value c.in-None.ensures.lookup.3)

pub returns-in-Some-clause-next : goal.returns-in-Some-clause-next
returns-in-Some-clause-next c = λ o next same.
    let tracks = c.args.tracks.now in
    let track = c.index-tracks-processor.result in
    let items = c.deref.result.now in
    let n = get_or c.args.nexts.now c.args.processor 0 in
    let lookup = c.in-Some.ensures.lookup in
    let there : slice_get track.blocks.items n ≡ Some c.in-Some.block.now = subst (λ (bs : List Block). slice_get bs n ≡ Some c.in-Some.block.now) c.deref.ensures.value (slice_get_read items (length items) n c.in-Some.block.now refl lookup.3.0 lookup.1) in
    let at = slice_get_read tracks (length tracks) c.args.processor track refl c.requires.processor c.index-tracks-processor.is in
    next_is c.args.processor c.in-Some.block.now o (next_known tracks c.args.nexts.now c.args.processor track (Some c.in-Some.block.now) o at there next same) same

pub returns-in-None-clause-next : goal.returns-in-None-clause-next
returns-in-None-clause-next c = λ o next same.
    let tracks = c.args.tracks.now in
    let track = c.index-tracks-processor.result in
    let n = get_or c.args.nexts.now c.args.processor 0 in
    let past : length track.blocks.items ≤ n = subst (λ (bs : List Block). length bs ≤ n) c.deref.ensures.value c.in-None.ensures.lookup.3 in
    let at = slice_get_read tracks (length tracks) c.args.processor track refl c.requires.processor c.index-tracks-processor.is in
    let none : None ≡ Some o.block = next_known tracks c.args.nexts.now c.args.processor track None o at (slice_get_past track.blocks.items n past) next same in
    absurd cc
