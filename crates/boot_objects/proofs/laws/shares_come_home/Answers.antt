use Rattle.boot_objects.proofs.Common.{map, post_at}
use Rattle.boot_objects.proofs.Homes.{posts_are}
use Rattle.boot_objects.proofs.laws.shares_come_home.Goals as goal

pub returns : goal.returns
returns c = λ pact first v home h. posts_are pact.opening.value (map post_at home.small, map post_at home.large) h.posts
