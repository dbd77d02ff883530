-- The ends that come home are those of the quaject that was given.
use Rattle.boot_objects.proofs.Common.{◌≡◌, List, Option, AnyQuaject, PostsOf, Post, post_shares, quaject_shares}
use Rattle.quajects.specs.declared.any.AnyQuaject.TheVariants as any

-- what came home has the shares that it had
pub posts_are : (x : AnyQuaject) (posts : List (Option Post) × List (Option Post)) → PostsOf x posts → post_shares posts.0 posts.1 ≡ quaject_shares x
posts_are (any.Cooked tty) posts h = λ i. post_shares (h.0 i) (h.1 i)
posts_are (any.Pump pump) posts h = λ i. post_shares (h.0 i) (h.1 i)
posts_are (any.Switch switch) posts h = λ i. post_shares (h.0 i) (h.1 i)
