use Rattle.boot_picture.proofs.Common.{◌≡◌, ◌+◌, ◌-◌, List, sym, subst, arith, length, take, drop, length-drop, All, All-push, Entry, Block, AreBlock, AreInARow, IsBlock, take_all}
use Rattle.boot_picture.proofs.BlockTurns.{more_turns, row_more}
use Rattle.boot_picture.proofs.blocks.blocks_of.Goals as goal

pub loop-first-preserved : goal.loop-first-preserved
loop-first-preserved c =
    let entries = c.args.entries.now in
    let blocks = c.loop-first.blocks.items in
    let block : Block = record { first = c.loop-first.first; turns = c.first_block-turns.result } in
    let pushed = c.in_ok-push.ensures.items in
    let rest = drop block.first entries in
    let whole : take (length entries - block.first) rest ≡ rest = take_all (length entries - block.first) rest (let l = length-drop block.first entries in omega arith) in
    let front : AreBlock rest block.turns = subst (λ (es : List Entry). AreBlock es block.turns) whole c.first_block-turns.ensures in
    let is : IsBlock entries block = record { begins = c.loop-first.invariant.within; block_of = front } in
    record {
      within = let w = front.within in let l = length-drop block.first entries in let h = c.loop-first-test.true in omega arith;
      each_once = rw pushed (more_turns entries blocks block c.loop-first.invariant.each_once);
      each = subst (λ (bs : List Block). All (IsBlock entries) bs) (sym pushed) (All-push (IsBlock entries) blocks block c.loop-first.invariant.each is);
      in_a_row = subst (λ (bs : List Block). AreInARow 0 bs (block.first + block.turns)) (sym pushed) (row_more 0 blocks block c.loop-first.invariant.in_a_row);
    }
