use Rattle.std.proofs.Common.{◌≡◌, ◌≢◌, ◌⊎◌, inl, inr, ℕ, ◌<◌, List, length, slice_index_or, slice_set, ap, rules, ◌∙◌}
use Rattle.std.proofs.lemmas.Bool.{cases_eq}
use Rattle.std.proofs.lemmas.List.{length-set, get_or-set_same, get_or-set_other, get_or_read}
use Rattle.fx_image.specs.Stored.{Stored}
use Rattle.fx_image.specs.Bands.{layout_of, AreBands}
use Rattle.fx_image.specs.declared.layout.Layout.{Layout}
use Rattle.fx_image.proofs.BandLaws.{still_bands, same_layout}
use Rattle.fx_units.proofs.image.an_image_is_cut_into_bands.Goals as goal

-- a band of its layout in the place of another
one_written : (l : Layout) (bands : List Stored) (i : ℕ) (new : Stored) → AreBands l bands → i < length bands → ((d : Stored) → layout_of new ≡ layout_of (slice_index_or bands i d)) → AreBands l (slice_set bands i new)
one_written l bands i new have low same = still_bands l bands (slice_set bands i new) have (length-set _ _ _) (λ k d there. at k d (cases_eq k i))
  where
    at : (k : ℕ) (d : Stored) → (k ≡ i) ⊎ (k ≢ i) → layout_of (slice_index_or (slice_set bands i new) k d) ≡ layout_of (slice_index_or bands k d)
    at k d (inl e) = rw (e, get_or-set_same bands i new d low) (same d)
    at k d (inr n) = ap layout_of (get_or-set_other bands i k new d n)

pub of_bands-requires-clause-bands : goal.of_bands-requires-clause-bands
of_bands-requires-clause-bands g c =
    let bands = c.expect-bands.result.items in
    let layout = rw c.expect-image.ensures at c.in_bands.ensures.layout in
    let made = rw c.expect-bands.ensures at c.into_bands.ensures.bands in
    let have = rw layout at made in
    let low : 1 < length bands = search rules in
    one_written _ bands 1 c.mark.new.band have low (λ d. same_layout _ _ c.mark.ensures ∙ ap layout_of (get_or_read bands 1 c.index_mut.result.now low c.index_mut.ensures.value d))
