use Rattle.std.proofs.Common.{◌≡◌, ◌∙◌, ap}
use Rattle.fx_base.specs.Bounds.{IsRect}
use Rattle.fx_image.specs.Stored.{Stored, IsStored, pixel_size}
use Rattle.fx_image.proofs.ImageLaws.{near_within, row_is_small}
use Rattle.fx_image.proofs.image.Image.bytes_in.Goals as goal

pub columns_in-requires : goal.columns_in-requires
columns_in-requires c =
    let rect : IsRect c.args.rect = rw (← c.rect.view_is) c.rect.invariant in
    let stored : IsStored c.args.self.now = rw (← c.self.view_is) c.self.invariant in
    near_within c.args.rect c.args.self.now.rect rect c.requires stored.near

pub returns-clause-small : goal.returns-clause-small
returns-clause-small c =
    let rect : IsRect c.args.rect = rw (← c.rect.view_is) c.rect.invariant in
    let stored : IsStored c.args.self.now = rw (← c.self.view_is) c.self.invariant in
    let size : c.pixel_size-size.result ≡ pixel_size c.args.self.now.depth c.args.self.now.components =
    c.pixel_size-size.ensures.value ∙ ap (λ (s : Stored). pixel_size s.depth s.components) c.self.view_is in
    rw (c.columns_in.ensures.value, size) (row_is_small c.args.self.now c.args.rect stored rect c.requires)

pub returns-clause-near : goal.returns-clause-near
returns-clause-near c =
    let rect : IsRect c.args.rect = rw (← c.rect.view_is) c.rect.invariant in
    let stored : IsStored c.args.self.now = rw (← c.self.view_is) c.self.invariant in
    near_within c.args.rect c.args.self.now.rect rect c.requires stored.near
