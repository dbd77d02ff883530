use Rattle.boot_threads.proofs.Allowing.{all_may, as_many_posts, as_many_works}
use Rattle.boot_threads.proofs.laws.works_may_run.Goals as goal

pub returns : goal.returns
returns g c = record {
  may = λ shared turns gates old new devices posts works. all_may shared turns gates old new devices posts works;
  posts = λ shared turns gates old new posts. as_many_posts shared 0 turns gates old new posts;
  number = as_many_works;
}
