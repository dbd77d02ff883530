use Rattle.boot_script.proofs.Common.{ℕ, refl, get_or-replicate, length-replicate}
use Rattle.boot_script.proofs.Drafts.Drawn.{empty_plan}
use Rattle.boot_script.proofs.draft.Draft.new.Goals as goal

pub returns : goal.returns
returns c = record {
  names = c.new-7.ensures;
  ttys = refl;
  threads = refl;
  going = refl;
  typed = λ tty few. get_or-replicate 2 tty 0 0 few;
  alarms = refl;
  steps = λ thread few. get_or-replicate 64 thread 0 0 few;
  sizes = (length-replicate {A = ℕ} 2 0, length-replicate {A = ℕ} 64 0);
  plan = λ kept. empty_plan _ _ _ _ _ _ c.new.ensures.items c.new-2.ensures.items c.new-3.ensures.items c.new-4.ensures.items c.new-5.ensures.items c.new-6.ensures.items;
}
