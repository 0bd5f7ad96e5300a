use Rattle.std.proofs.Common.{rules}
use Rattle.std.proofs.lemmas.Int.{to_z-of_z}
use Rattle.std.proofs.lemmas.List.Sorted.{answers_always}
use Rattle.fx_params.proofs.KeyLemmas.{searched}
use Rattle.fx_params.proofs.param.place.Goals as goal

-- the closure gives a key's frame
pub returns : goal.returns
returns c =
    let facts = c.binary_search_by_key.ensures in
    let by_frame = facts.position (λ key. key.frame) (answers_always _ _ _ (λ f a r g called. search rules)) in
    let fits = c.ranges.frame in
    searched _ c.requires c.args.frame _ facts.bound (simp to_z-of_z at by_frame)
