-- An image in bands: whole rows that follow one another from its bottom to its top.
use Rattle.std.specs.Prelude.{◌≡◌, ℕ, ◌+◌, ◌-◌, ◌*◌, ◌^◌, ◌<◌, ◌≤◌, min, ℤ, pos, ◌+ℤ◌, List, length, slice_index_or}
use Rattle.fx_base.specs.Bounds.{Bounds}
use Rattle.fx_base.specs.Rect.{Holds, IsWithin, columns, rows, IsNear}
use Rattle.fx_image.specs.Stored.{Stored, pixel_size, shown}
use Rattle.fx_image.specs.declared.layout.Layout.{Layout}

-- how an image is laid out
abbrev pub layout_of : Stored → Layout
layout_of s =
    record {
      rect = s.rect;
      depth = s.depth;
      components = s.components;
      row_bytes = s.raster.pitch;
      band_rows = s.raster.step;
    }

-- an image can be laid out so: its rows have room for their pixels, and each band has rows
pub record IsLayout (l : Layout) : Type 0 where
  pub near : IsNear l.rect
  pub rows_fit : columns l.rect * pixel_size l.depth l.components ≤ l.row_bytes
  pub some_rows : 0 < l.band_rows
  pub small : l.band_rows * l.row_bytes ≤ 2 ^ 31

-- band k of a rectangle: the `height` rows from row k * height of it on, or as many as are left
abbrev pub band_rect : Bounds → ℕ → ℕ → Bounds
band_rect r height k =
    record {
      x1 = r.x1;
      y1 = r.y1 +ℤ pos (k * height);
      x2 = r.x2;
      y2 = r.y1 +ℤ pos (k * height + min height (rows r - k * height));
    }

-- the rectangle of band k, and how that band is laid out
abbrev pub band : Layout → ℕ → Bounds
band l k = band_rect l.rect l.band_rows k

abbrev pub band_layout : Layout → ℕ → Layout
band_layout l k = record l { rect = band l k }

-- they are the bands of an image of this layout, as many as its rows fill
pub record AreBands (l : Layout) (bands : List Stored) : Type 0 where
  pub enough : rows l.rect ≤ length bands * l.band_rows
  pub no_spare : length bands * l.band_rows < rows l.rect + l.band_rows
  pub each : (k : ℕ) (d : Stored) → k < length bands → layout_of (slice_index_or bands k d) ≡ band_layout l k

-- at each place of a band, the band shows what the image shows
abbrev pub ShowBands : Stored → List Stored → Type 0
ShowBands s bands =
    (k : ℕ) (d : Stored) → k < length bands → (x y : ℤ) → Holds (band_rect s.rect s.raster.step k) x y
    → shown (slice_index_or bands k d) x y ≡ shown s x y

-- The bands are disjoint, follow one another from the bottom, and are together the image.
pub record AreWhole (l : Layout) (bands : List Stored) : Type 0 where
  pub within : (k : ℕ) → k < length bands → IsWithin (band l k) l.rect
  pub follow : (k : ℕ) → k + 1 < length bands → (band l (k + 1)).y1 ≡ (band l k).y2
  pub apart : (j k : ℕ) → j < k → (x y : ℤ) → Holds (band l j) x y → Holds (band l k) x y → ⊥
  pub together : (x y : ℤ) → Holds l.rect x y → (k : ℕ) × (k < length bands) × Holds (band l k) x y
