use Rattle.std.proofs.Common.{◌≡◌, ◌∷◌, subst, sym, ◌∙◌}
use Rattle.std.proofs.lemmas.List.{nil_from_length}
use Rattle.fx_image.specs.Rows.{Raster, HasRows, HaveRows, no_rows}
use Rattle.fx_image.proofs.RowsCut.{JoinSoFar, none_joined, join_more, join_all}
use Rattle.fx_image.proofs.rows.Rows.of_bands.Goals as goal

pub loop-band-init : goal.loop-band-init
loop-band-init c = rw (c.new-blocks.ensures.items, c.into_iter-band-iterator.ensures.into_iter_gives.0) (none_joined _)

pub loop-band-preserved : goal.loop-band-preserved
loop-band-preserved c =
    let b : Raster = record { pitch = c.band.inside.pitch; height = c.band.inside.height; step = c.band.inside.step; blocks = c.band.inside.blocks.items } in
    let next = subst (λ (x : Raster). c.loop-band.band-iterator.rest.items ≡ x ∷ c.next.new.self.rest.items) (sym c.band.view_is) c.in-Some.ensures.steps.0 in
    rw (c.in_ok-append.ensures.items) (join_more (no_rows c.args.pitch c.args.height c.args.step) c.args.bands.items _ _ c.loop-band.blocks.items b c.requires.bands c.loop-band.invariant next c.band.invariant.1)

-- the rows that are put together
abbrev joined : (c : goal.After-drop-band-iterator-2) → Raster
joined c = record { pitch = c.args.pitch; height = c.args.height; step = c.args.step; blocks = c.loop-band.blocks.items }

all_joined : (c : goal.After-drop-band-iterator-2) → HasRows (joined c) × HaveRows (joined c) c.args.bands.items
all_joined c =
    let none = nil_from_length c.loop-band.band-iterator.rest.items (sym c.loop-band.band-iterator.rest.ok.0 ∙ c.in-None.ensures.steps.0) in
    let have = c.requires.bands in
    join_all (joined c) c.args.bands.items c.requires.step
    (record { enough = have.enough; no_spare = have.no_spare; each = λ k d low. let is = have.each k d low in record { pitch = is.pitch; step = is.step; height = is.height } })
    (subst (λ r. JoinSoFar c.args.bands.items r c.loop-band.blocks.items) none c.loop-band.invariant)

pub invariant_of-result : goal.invariant_of-result
invariant_of-result c = (c.requires.small, (all_joined c).0)

pub returns-clause-rows : goal.returns-clause-rows
returns-clause-rows c = (all_joined c).1
