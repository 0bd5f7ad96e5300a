use Rattle.std.proofs.Common.{◌≡◌, ◌<◌, ◌^◌, ◌∷◌, refl, subst, sym, ◌∙◌, rules, arith}
use Rattle.std.proofs.lemmas.List.{nil_from_length}
use Rattle.fx_base.specs.Bounds.{IsRect}
use Rattle.fx_image.specs.Rows.{no_rows}
use Rattle.fx_image.specs.Stored.{Stored, IsStored}
use Rattle.fx_image.specs.Bands.{layout_of}
use Rattle.fx_image.proofs.BandLaws.{JoinImages, taken_more, are_blocks, are_whole, joined_show}
use Rattle.fx_image.proofs.image.Image.of_bands.Goals as goal

pub loop-band-preserved : goal.loop-band-preserved
loop-band-preserved c =
    let b : Stored = record { rect = c.band.inside.rect; depth = c.band.inside.depth; components = c.band.inside.components; raster = c.band.inside.rows } in
    let next = subst (λ (x : Stored). c.loop-band.band-iterator.rest.items ≡ x ∷ c.next.new.self.rest.items) (sym c.band.view_is) c.in-Some.ensures.steps.0 in
    rw (c.in_ok-push.ensures.items) (taken_more c.args.bands.items _ _ c.loop-band.all.items b c.loop-band.invariant next c.band.invariant)

pub of_bands-requires-clause-bands : goal.of_bands-requires-clause-bands
of_bands-requires-clause-bands c =
    let none = nil_from_length c.loop-band.band-iterator.rest.items (sym c.loop-band.band-iterator.rest.ok.0 ∙ c.in-None.ensures.steps.0) in
    let taken = subst (λ rest. JoinImages c.args.bands.items rest c.loop-band.all.items) none c.loop-band.invariant in
    let l = c.args.layout.now in
    let any : Stored = record { rect = l.rect; depth = l.depth; components = l.components; raster = no_rows 0 0 0 } in
    rw c.rows_in.ensures.value (are_blocks l c.args.bands.items c.loop-band.all.items c.requires.bands taken any)

pub returns-clause-whole : goal.returns-clause-whole
returns-clause-whole c =
    let rect : IsRect c.args.layout.now.rect = rw (← c.rect.view_is) c.rect.invariant in
    are_whole c.args.layout.now c.args.bands.items rect c.requires.layout.some_rows c.requires.bands

pub returns-clause-pixels : goal.returns-clause-pixels
returns-clause-pixels c =
    let none = nil_from_length c.loop-band.band-iterator.rest.items (sym c.loop-band.band-iterator.rest.ok.0 ∙ c.in-None.ensures.steps.0) in
    let taken = subst (λ rest. JoinImages c.args.bands.items rest c.loop-band.all.items) none c.loop-band.invariant in
    let l = c.args.layout.now in
    let made = c.in_ok-rows.ensures in
    let s : Stored = record { rect = l.rect; depth = l.depth; components = l.components; raster = c.in_ok-rows.rows } in
    let laid : layout_of s ≡ l = rw (made.pitch, made.step) refl in
    let some : 0 < s.raster.step = omega (arith, made.step, c.requires.layout.some_rows) in
    let rect : IsRect l.rect = rw (← c.rect.view_is) c.rect.invariant in
    let narrow : s.raster.pitch < 2 ^ 32 = search (rules, made.pitch) in
    let stored : IsStored s =
    record { rect = rect; near = c.requires.layout.near; row_count = made.height ∙ c.rows_in.ensures.value; narrow = narrow; row_fits = rw made.pitch c.requires.layout.rows_fit } in
    joined_show l c.args.bands.items c.loop-band.all.items c.requires.bands taken s s laid stored some made.rows
