-- Bands of pieces: those behind one another that have the same rows.
use Rattle.std.specs.Prelude.{◌≡◌, ◌≤◌, ◌<◌, ◌+◌, ℕ, List, length, slice_index_or}
use Rattle.std.specs.List.{All}
use Rattle.fx_effect.specs.Placed.{piece_rect}
use Rattle.fx_effect.specs.declared.piece.Placed.{Placed}
use Rattle.fx_effect.specs.declared.bands.Band.{Band}

-- the piece stands for the clip and the frame of the band, and has its rows
pub record IsInBand (b : Band) (p : Placed) : Type 0 where
  pub clip : p.clip ≡ b.clip
  pub frame : p.frame ≡ b.frame
  pub bottom : (piece_rect p.piece).y1 ≡ b.bottom
  pub top : (piece_rect p.piece).y2 ≡ b.top

-- the band has a piece, and the pieces from its first to the one before its end are there and in it
pub record IsBand (pieces : List Placed) (b : Band) : Type 0 where
  pub some : b.from < b.to
  pub there : b.to ≤ length pieces
  pub same : (j : ℕ) (d : Placed) → b.from ≤ j → j < b.to → IsInBand b (slice_index_or pieces j d)

-- one of the bands has the piece at this index
pub record HasPiece (bands : List Band) (j : ℕ) : Type 0 where
  pub band : ℕ
  pub there : band < length bands
  pub from : (d : Band) → (slice_index_or bands band d).from ≤ j
  pub to : (d : Band) → j < (slice_index_or bands band d).to

-- the bands have each of the pieces, and the last one ends with the last piece
pub record AreBands (bands : List Band) (pieces : List Placed) : Type 0 where
  pub each : All (IsBand pieces) bands
  pub all : (j : ℕ) → j < length pieces → HasPiece bands j
  pub last : (k : ℕ) (d : Band) → k + 1 ≡ length bands → (slice_index_or bands k d).to ≡ length pieces
