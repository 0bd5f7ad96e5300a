-- Pieces show what their needs are found to be.
use Rattle.std.proofs.Common.{zero, suc, ◌≡◌, ℕ, ◌<◌, ◌+◌, ℤ, List, [], ◌∷◌, ◌++◌, length, get_or, take, drop, refl, sym, ap, ◌∙◌, subst, Option, Some, Bool, true, false, cond, nat_eq, ◌&&◌, arith}
use Rattle.std.specs.Ordering.{int_eq}
use Rattle.std.specs.declared.sync.Arc.{Arc}
use Rattle.std.specs.declared.alloc.Global.{Global}
use Rattle.std.proofs.lemmas.Bool.{and_parts}
use Rattle.std.proofs.lemmas.List.{at_drop_more, take_more}
use Rattle.std.proofs.lemmas.List.Sums.{sum_by-drop_more}
use Rattle.std.specs.List.{sum_by}
use Rattle.fx_base.specs.Bounds.{Bounds}
use Rattle.fx_base.specs.Rect.{IsWithin, within}
use Rattle.fx_pixel.specs.declared.Depth.{Depth}
use Rattle.fx_pixel.specs.declared.Components.{Components}
use Rattle.fx_pixel.specs.declared.Pixel.{Pixel}
use Rattle.fx_image.specs.Image.{Image}
use Rattle.fx_image.specs.Stored.{Stored, image_of, shown}
use Rattle.fx_effect.specs.Tap.{Tap}
use Rattle.fx_effect.specs.Given.{Given, GivenPiece, converted, first_pixel, holds_tap, piece_pixel}
use Rattle.fx_effect.specs.declared.steps.Step.{Step}
use Rattle.fx_scene.specs.Right.{IsTile}
use Rattle.fx_scene.specs.Nodes.{Node, Nodes, Source, SourceFrames, depth_at}
use Rattle.fx_scene.specs.Value.{value}
use Rattle.fx_region.specs.declared.ends.End.{End}
use Rattle.fx_region.specs.declared.ends.End.TheVariants as code
use Rattle.fx_region.specs.declared.ends.Need.{Need}
use Rattle.fx_region.specs.Ends.{EndShown, Frame, Render, end_holds, end_pixel, end_shown, frame_through, image_through}
use Rattle.fx_region.specs.Needs.{need_holds, need_shown, needs_pixel}
use Rattle.std.proofs.Common.{map}
use Rattle.fx_tile.specs.Inputs.{AddsPiece, AreInputs, ArePiecesOf, IsPieceOf, piece_of}
use Rattle.fx_tile.specs.Counts.{one_if_some}
use Rattle.fx_tile.specs.Setups.{EachTile}

-- ---- the piece of a need

-- over the frame of a source
pub frame_piece : (nodes : Nodes) (need : Need) (m : ℕ) (f : ℤ) (region : Bounds) (through : List Step) (s : SourceFrames) (image : Stored)
    → need.end ≡ code.Frame m f region through → nodes m ≡ Source s → s.frames f ≡ Some (image_of image)
    → IsPieceOf nodes need (piece_of need.clip need.frame region through image)
frame_piece nodes need m f region through s image is there shows =
    let found : end_shown need.end ≡ Frame m f region through = ap end_shown is in
    record {
      clip = refl;
      frame = refl;
      holds = λ x y. sym (ap (λ (e : EndShown). end_holds e x y) found);
      pixels = λ to c x y h.
          let inside : within region x y ≡ true = sym (ap (λ (e : EndShown). end_holds e x y) found) ∙ h in
          let one : frame_through (nodes m) f through to c x y ≡ converted image.depth through to c (shown image x y) =
          ap (λ (n : Node). frame_through n f through to c x y) there ∙ ap (λ (o : Option Image). image_through o through to c x y) shows in
          let two : end_pixel nodes (Frame m f region through) to c x y ≡ converted image.depth through to c (shown image x y) = rw inside one in
          sym (ap (λ (e : EndShown). end_pixel nodes e to c x y) found ∙ two);
    }

-- over the image of a render
pub tile_piece : (nodes : Nodes) (need : Need) (m : ℕ) (f : ℤ) (region cut : Bounds) (through : List Step) (image : Stored)
    → need.end ≡ code.Render m f region cut through → IsTile nodes m f region image → IsWithin cut region
    → IsPieceOf nodes need (piece_of need.clip need.frame cut through image)
tile_piece nodes need m f region cut through image is tile holds =
    let found : end_shown need.end ≡ Render m f region cut through = ap end_shown is in
    record {
      clip = refl;
      frame = refl;
      holds = λ x y. sym (ap (λ (e : EndShown). end_holds e x y) found);
      pixels = λ to c x y h.
          let inside : within cut x y ≡ true = sym (ap (λ (e : EndShown). end_holds e x y) found) ∙ h in
          let one : converted (depth_at nodes m) through to c (value nodes m f x y) ≡ converted image.depth through to c (shown image x y) =
          ap (λ (d : Depth). converted d through to c (value nodes m f x y)) (sym tile.depth) ∙ ap (converted image.depth through to c) (sym (tile.pixels x y (holds x y inside))) in
          let held : within region x y ≡ true = holds x y inside in
          let two : end_pixel nodes (Render m f region cut through) to c x y ≡ converted image.depth through to c (shown image x y) = rw (inside, held) one in
          sym (ap (λ (e : EndShown). end_pixel nodes e to c x y) found ∙ two);
    }

-- ---- one need more

pieces_push : (nodes : Nodes) (ns : List Need) (ps : List GivenPiece) (n : Need) (p : GivenPiece) → ArePiecesOf nodes ns ps
    → IsPieceOf nodes n p → ArePiecesOf nodes (ns ++ n ∷ []) (ps ++ p ∷ [])
pieces_push nodes [] [] n p h i = (i, tt)
pieces_push nodes [] (q ∷ ps) n p h i = absurd h
pieces_push nodes (m ∷ ns) [] n p h i = absurd h
pieces_push nodes (m ∷ ns) (q ∷ ps) n p h i = (h.0, pieces_push nodes ns ps n p h.1 i)

pub inputs_more : (nodes : Nodes) (depth : Depth) (seen : List Components) (ns : List Need) (i : ℕ) (n : Need) (old new : Given)
    → i < length ns → n ≡ get_or ns i n → AreInputs nodes depth seen (take i ns) old → AddsPiece nodes n old new
    → AreInputs nodes depth seen (take (i + 1) ns) new
inputs_more nodes depth seen ns i n old new l e are adds =
    subst (λ (g : Given). AreInputs nodes depth seen (take (i + 1) ns) g) (sym adds.added) (record {
      depth_is = are.depth_is;
      seen_is = are.seen_is;
      pieces = subst (λ (z : List Need). ArePiecesOf nodes z (old.pieces ++ adds.piece ∷ []))
          (ap (λ (z : Need). take i ns ++ z ∷ []) e ∙ sym (take_more ns i n l))
          (pieces_push nodes (take i ns) old.pieces n adds.piece are.pieces adds.is);
    })

-- ---- pixels

same_hold : (nodes : Nodes) (n : Need) (p : GivenPiece) → IsPieceOf nodes n p → (t : Tap) → holds_tap p t ≡ need_holds (need_shown n) t
same_hold nodes n p h t = rw (h.clip, h.frame, h.holds t.x t.y) refl

piece_by : (nodes : Nodes) (n : Need) (p : GivenPiece) → IsPieceOf nodes n p → (d : Depth) (k : Components) (t : Tap) (u v : Pixel) (b : Bool)
    → need_holds (need_shown n) t ≡ b → u ≡ v
    → cond b (piece_pixel d k p t.x t.y) u ≡ cond b (end_pixel nodes (end_shown n.end) d k t.x t.y) v
piece_by nodes n p h d k t u v true e q =
    h.pixels d k t.x t.y ((and_parts (nat_eq n.clip t.clip && int_eq n.frame t.frame) (end_holds (end_shown n.end) t.x t.y) e).1)
piece_by nodes n p h d k t u v false e q = q

-- the pixel of the first piece is that of the first need
pub pieces_pixel : (nodes : Nodes) (ns : List Need) (ps : List GivenPiece) → ArePiecesOf nodes ns ps → (d : Depth) (k : Components) (t : Tap)
    → first_pixel d k ps t ≡ needs_pixel nodes d k (map need_shown ns) t
pieces_pixel nodes [] [] h d k t = refl
pieces_pixel nodes [] (p ∷ ps) h d k t = absurd h
pieces_pixel nodes (n ∷ ns) [] h d k t = absurd h
pieces_pixel nodes (n ∷ ns) (p ∷ ps) h d k t =
    ap (λ b. cond b (piece_pixel d k p t.x t.y) (first_pixel d k ps t)) (same_hold nodes n p h.0 t)
    ∙ piece_by nodes n p h.0 d k t (first_pixel d k ps t) (needs_pixel nodes d k (map need_shown ns) t) (need_holds (need_shown n) t) refl
    (pieces_pixel nodes ns ps h.1 d k t)

-- ---- tiles of needs, one by one

pub tiles_long : (P : End → Option (Arc Stored Global) → Type 0) (ns : List Need) (ts : List (Option (Arc Stored Global))) → EachTile P ns ts → length ts ≡ length ns
tiles_long P [] [] h = refl
tiles_long P [] (t ∷ ts) h = absurd h
tiles_long P (n ∷ ns) [] h = absurd h
tiles_long P (n ∷ ns) (t ∷ ts) h = ap suc (tiles_long P ns ts h.1)

tiles_at : (P : End → Option (Arc Stored Global) → Type 0) (ns : List Need) (ts : List (Option (Arc Stored Global))) (i : ℕ) (n : Need) (t : Option (Arc Stored Global))
    → EachTile P ns ts → i < length ns → P (get_or ns i n).end (get_or ts i t)
tiles_at P [] [] i n t h low = absurd (omega (arith, low))
tiles_at P [] (u ∷ ts) i n t h low = absurd h
tiles_at P (m ∷ ns) [] i n t h low = absurd h
tiles_at P (m ∷ ns) (u ∷ ts) zero n t h low = h.0
tiles_at P (m ∷ ns) (u ∷ ts) (suc i) n t h low = tiles_at P ns ts i n t h.1 (omega (arith, low))

pub tile_at : (P : End → Option (Arc Stored Global) → Type 0) (ns : List Need) (ts : List (Option (Arc Stored Global))) (i : ℕ) (n : Need) (t : Option (Arc Stored Global))
    → EachTile P ns ts → i < length ns → n ≡ get_or ns i n → t ≡ get_or ts i t → P n.end t
tile_at P ns ts i n t h low e f =
    subst (λ (m : Need). P m.end t) (sym e)
    (subst (λ (u : Option (Arc Stored Global)). P (get_or ns i n).end u) (sym f) (tiles_at P ns ts i n t h low))

tiles_push : (P : End → Option (Arc Stored Global) → Type 0) (ns : List Need) (ts : List (Option (Arc Stored Global))) (n : Need) (t : Option (Arc Stored Global))
    → EachTile P ns ts → P n.end t → EachTile P (ns ++ n ∷ []) (ts ++ t ∷ [])
tiles_push P [] [] n t h i = (i, tt)
tiles_push P [] (u ∷ ts) n t h i = absurd h
tiles_push P (m ∷ ns) [] n t h i = absurd h
tiles_push P (m ∷ ns) (u ∷ ts) n t h i = (h.0, tiles_push P ns ts n t h.1 i)

pub tiles_more : (P : End → Option (Arc Stored Global) → Type 0) (ns : List Need) (ts new : List (Option (Arc Stored Global))) (i : ℕ) (n : Need) (t : Option (Arc Stored Global))
    → i < length ns → n ≡ get_or ns i n → EachTile P (take i ns) ts → P n.end t → new ≡ ts ++ t ∷ []
    → EachTile P (take (i + 1) ns) new
tiles_more P ns ts new i n t l e h tile q =
    subst (λ (z : List (Option (Arc Stored Global))). EachTile P (take (i + 1) ns) z) (sym q)
    (subst (λ (z : List Need). EachTile P z (ts ++ t ∷ [])) (ap (λ (z : Need). take i ns ++ z ∷ []) e ∙ sym (take_more ns i n l))
    (tiles_push P (take i ns) ts n t h tile))

-- what stands beside the first of those that are left
module _ (P : End → Option (Arc Stored Global) → Type 0) (ns : List Need) (ts : List (Option (Arc Stored Global))) (i : ℕ) (n : Need) (t : Option (Arc Stored Global))
    (low : i < length ns) (long : length ts ≡ length ns) (need : n ≡ get_or ns i n) (tile : t ≡ get_or ts i t) where
  tiles_left : drop i ts ≡ get_or ts i t ∷ drop (i + 1) ts
  tiles_left = at_drop_more (λ z. z) ts i t (omega (arith, low, long))

  parts : EachTile P (drop i ns) (drop i ts) → P (get_or ns i n).end (get_or ts i t) × EachTile P (drop (i + 1) ns) (drop (i + 1) ts)
  parts each =
      subst (λ (z : List Need). EachTile P z (get_or ts i t ∷ drop (i + 1) ts)) (at_drop_more (λ z. z) ns i n low)
      (subst (λ (z : List (Option (Arc Stored Global))). EachTile P (drop i ns) z) tiles_left each)

  pub first_left : EachTile P (drop i ns) (drop i ts) → P n.end t
  first_left each =
      subst (λ (m : Need). P m.end t) (sym need) (subst (λ (u : Option (Arc Stored Global)). P (get_or ns i n).end u) (sym tile) (parts each).0)

  pub others_left : EachTile P (drop i ns) (drop i ts) → EachTile P (drop (i + 1) ns) (drop (i + 1) ts)
  others_left each = (parts each).1

  pub some_left : sum_by one_if_some (drop i ts) ≡ one_if_some t + sum_by one_if_some (drop (i + 1) ts)
  some_left =
      sum_by-drop_more one_if_some ts i t (omega (arith, low, long))
      ∙ ap (λ (u : Option (Arc Stored Global)). one_if_some u + sum_by one_if_some (drop (i + 1) ts)) (sym tile)
