-- Room for the answers of closing all objects.
use Rattle.std.specs.Prelude.{◌≡◌, [], length, vec_capacity}
use Rattle.processor.specs.declared.shared.Shared.{Shared}
use Rattle.boot_objects.specs.declared.closing.all.Answers.{Answers}

-- the lists are empty, and have room for an answer of each object and for no more
pub record HaveRoom (shared : Shared) (answers : Answers) : Type 0 where
  pub homes : (answers.homes.items ≡ []) × (vec_capacity answers.homes ≡ length shared.chains.items)
  pub counts : (answers.counts.items ≡ []) × (vec_capacity answers.counts ≡ length shared.chains.items)
  pub small : (answers.small.items ≡ []) × (vec_capacity answers.small ≡ length shared.queues.small.items)
  pub large : (answers.large.items ≡ []) × (vec_capacity answers.large ≡ length shared.queues.large.items)
