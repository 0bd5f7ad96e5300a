-- What is needed is gathered clip by clip, frame by frame and tile by tile.
use Rattle.std.proofs.Common.{◌≡◌, ℕ, ◌<◌, ◌+◌, ℤ, pos, ◌<ℤ◌, ◌≤ℤ◌, ◌+ℤ◌, append_assoc, append-nil, List, [], ◌∷◌, ◌++◌, map, length, get_or, take, Option, refl, sym, ap, ◌∙◌, arith}
use Rattle.std.specs.List.{flat_map, range_with_len}
use Rattle.std.proofs.lemmas.Grind.{flat_map-append}
use Rattle.std.proofs.lemmas.List.{flat_map_more, take_more}
use Rattle.std.proofs.lemmas.List.Concat.{flat_map-cons}
use Rattle.std.proofs.lemmas.List.FromFn.{get_or-map-range_with_len, length-map-range_with_len, map-range_with_len_more}
use Rattle.fx_base.specs.Bounds.{Bounds, none}
use Rattle.fx_base.specs.Grid.{tile_after, tile_at, tile_of, tiles_between, tiles_in_rows, tiles_of}
use Rattle.fx_base.specs.Rect.{meet}
use Rattle.fx_base.proofs.GridLaws.{row_step, rows_end, rows_step, tiles_of-empty}
use Rattle.fx_base.proofs.RectLemmas.{is_empty-none}
use Rattle.fx_base.proofs.RunLaws.{int_range-end}
use Rattle.fx_actions.specs.Clips.{each_clip}
use Rattle.fx_effect.specs.declared.values.Values.{Values}
use Rattle.fx_scene.specs.Areas.{area}
use Rattle.fx_scene.specs.Frames.{clip_frames}
use Rattle.fx_scene.specs.Nodes.{EffectNode, Nodes, clip_node}
use Rattle.fx_region.specs.Ends.{EndShown, end_of}
use Rattle.fx_region.specs.Tables.{IsInterest}
use Rattle.fx_region.specs.Needs.{NeedShown, clip_needs, frame_needs, needed, needs_at, tile_needs}

-- what was gathered of the first elements, and then of one more
pub more_taken : {X Y : Type 0} (F : X → List Y) (old mid new : List Y) (xs : List X) (i : ℕ) (d : X) → i < length xs
    → mid ≡ old ++ flat_map F (take i xs) → new ≡ mid ++ F (get_or xs i d) → new ≡ old ++ flat_map F (take (i + 1) xs)
more_taken F old mid new xs i d low so now =
    now ∙ (rw so (flat_map_more F old (take i xs) (get_or xs i d) ∙ ap (λ zs. old ++ flat_map F zs) (sym (take_more xs i d low))))

map_id : (xs : List ℕ) → map (λ k. k) xs ≡ xs
map_id [] = refl
map_id (x ∷ xs) = ap (λ zs. x ∷ zs) (map_id xs)

range_more : (n : ℕ) → range_with_len 0 (n + 1) ≡ range_with_len 0 n ++ n ∷ []
range_more n =
    sym (map_id (range_with_len 0 (n + 1))) ∙ map-range_with_len_more (λ k. k) 0 n n (omega arith)
    ∙ ap (λ zs. zs ++ n ∷ []) (map_id (range_with_len 0 n))

pub more_ranged : {Y : Type 0} (F : ℕ → List Y) (mid new : List Y) (n : ℕ) → mid ≡ flat_map F (range_with_len 0 n)
    → new ≡ mid ++ F n → new ≡ flat_map F (range_with_len 0 (n + 1))
more_ranged F mid new n so now =
    now ∙ (rw so (flat_map_more F [] (range_with_len 0 n) n ∙ ap (flat_map F) (sym (range_more n))))

-- the end of a tile that is cut to the area
pub tile_done : (nodes : Nodes) (c m : ℕ) (f : ℤ) (tile a cut : Bounds) (e : EndShown) (old new : List NeedShown)
    → a ≡ area nodes m f → cut ≡ meet tile a → e ≡ end_of nodes m f cut → new ≡ old ++ needed c f e
    → new ≡ old ++ tile_needs (end_of nodes) (area nodes) c m f tile
tile_done nodes c m f tile a cut e old new is at found pushed =
    pushed ∙ ap (λ z. old ++ needed c f z) (found ∙ ap (end_of nodes m f) (at ∙ ap (meet tile) is))

-- one tile more of a row
pub row_more : (F : Bounds → List NeedShown) (side : ℕ) (j i next end i' j' : ℤ) (tile : Bounds)
    (mid new all : List NeedShown) → i <ℤ end → next ≡ i +ℤ pos 1 → i' ≡ i → j' ≡ j → tile ≡ tile_at side i' j'
    → new ≡ mid ++ F tile → mid ++ flat_map F (tiles_between side j i end) ≡ all
    → new ++ flat_map F (tiles_between side j next end) ≡ all
row_more F side j i next end i' j' tile mid new all low is column row at pushed so =
    let rest = tiles_between side j next end in
    let step : tile ∷ rest ≡ tiles_between side j i end = row_step side i j next end i' j' tile [] (tile ∷ []) low is column row at refl in
    ap (λ xs. xs ++ flat_map F rest) pushed ∙ append_assoc mid (F tile) (flat_map F rest)
    ∙ ap (λ xs. mid ++ xs) (sym (flat_map-cons F tile rest)) ∙ ap (λ tiles. mid ++ flat_map F tiles) step ∙ so

-- in the end the row is done
pub row_done : (F : Bounds → List NeedShown) (side : ℕ) (j i end : ℤ) (new all : List NeedShown) → end ≤ℤ i
    → new ++ flat_map F (tiles_between side j i end) ≡ all → new ≡ all
row_done F side j i end new all past so =
    sym (append-nil new)
    ∙ sym (ap (λ columns. new ++ flat_map F (map (λ k. tile_at side k j) columns)) (int_range-end i end past)) ∙ so

-- one row more
pub rows_more : (F : Bounds → List NeedShown) (side : ℕ) (r : Bounds) (j next end j' left right : ℤ)
    (mid new all : List NeedShown) → j <ℤ end → next ≡ j +ℤ pos 1 → j' ≡ j → left ≡ tile_of side r.x1
    → right ≡ tile_after side r.x2 → new ≡ mid ++ flat_map F (tiles_between side j' left right)
    → mid ++ flat_map F (tiles_in_rows side r j end) ≡ all → new ++ flat_map F (tiles_in_rows side r next end) ≡ all
rows_more F side r j next end j' left right mid new all low is row from to pushed so =
    let tiles = tiles_between side j' left right in
    let rest = tiles_in_rows side r next end in
    let step : tiles ++ rest ≡ tiles_in_rows side r j end = rows_step side r j next end j' left right [] tiles low is row from to refl in
    ap (λ xs. xs ++ flat_map F rest) pushed ∙ append_assoc mid (flat_map F tiles) (flat_map F rest)
    ∙ ap (λ xs. mid ++ xs) (sym (flat_map-append F tiles rest)) ∙ ap (λ ts. mid ++ flat_map F ts) step ∙ so

-- in the end all rows are done
pub rows_done : (F : Bounds → List NeedShown) (side : ℕ) (r : Bounds) (j end : ℤ) (new all : List NeedShown)
    → end ≤ℤ j → new ++ flat_map F (tiles_in_rows side r j end) ≡ all → new ≡ all
rows_done F side r j end new all past so =
    sym (append-nil new) ∙ sym (ap (λ tiles. new ++ flat_map F tiles) (rows_end side r j end [] past)) ∙ so

-- a region that has no place needs none
pub no_tiles : (nodes : Nodes) (side : ℕ) (interest a cut : Bounds) (c m : ℕ) (f : ℤ) (old : List NeedShown)
    → a ≡ area nodes m f → cut ≡ meet interest a → cut ≡ none
    → old ≡ old ++ frame_needs (end_of nodes) (area nodes) side interest c m f
no_tiles nodes side interest a cut c m f old is at e =
    let r = meet interest (area nodes m f) in
    let same : cut ≡ r = at ∙ ap (meet interest) is in
    sym (append-nil old)
    ∙ ap (λ tiles. old ++ flat_map (tile_needs (end_of nodes) (area nodes) c m f) tiles)
    (sym (tiles_of-empty side r (is_empty-none r (sym same ∙ e))))

-- and every other those of its tiles
pub some_tiles : (nodes : Nodes) (side : ℕ) (interest a cut : Bounds) (c m : ℕ) (f : ℤ) (old new : List NeedShown)
    → a ≡ area nodes m f → cut ≡ meet interest a
    → new ≡ old ++ flat_map (tile_needs (end_of nodes) (area nodes) c m f) (tiles_of side cut)
    → new ≡ old ++ frame_needs (end_of nodes) (area nodes) side interest c m f
some_tiles nodes side interest a cut c m f old new is at now =
    now ∙ ap (λ z. old ++ flat_map (tile_needs (end_of nodes) (area nodes) c m f) (tiles_of side z))
    (at ∙ ap (meet interest) is)

-- the interest in a clip
pub interest_at : (o : EffectNode) (t : ℤ) (region : Bounds) (interest : List Bounds) (c : ℕ) (r : Bounds)
    → IsInterest o t region interest → c < length o.clips → r ≡ get_or interest c r
    → r ≡ o.meaning.roi (o.values t) region c
interest_at o t region interest c r are low there =
    there ∙ ap (λ (rs : List Bounds). get_or rs c r) are
    ∙ get_or-map-range_with_len (o.meaning.roi (o.values t) region) 0 (length o.clips) c c r low (omega arith)

pub interest_long : (o : EffectNode) (t : ℤ) (region : Bounds) (interest : List Bounds) → IsInterest o t region interest
    → length interest ≡ length o.clips
interest_long o t region interest are =
    ap (λ (rs : List Bounds). length rs) are
    ∙ length-map-range_with_len (o.meaning.roi (o.values t) region) 0 (length o.clips)

-- the interest by the names of the clips
pub is_interest : (o : EffectNode) (t : ℤ) (region : Bounds) (names : List (List ℕ)) (v : Values) (interest : List Bounds)
    → interest ≡ each_clip names (o.meaning.roi v region) → v ≡ o.values t → length names ≡ length o.clips
    → IsInterest o t region interest
is_interest o t region names v interest are is many =
    are ∙ ap (λ (w : Values). each_clip names (o.meaning.roi w region)) is
    ∙ ap (λ (k : ℕ). map (o.meaning.roi (o.values t) region) (range_with_len 0 k)) many

-- one clip more is done
pub clip_step : (nodes : Nodes) (side : ℕ) (o : EffectNode) (t : ℤ) (r : Bounds) (k : ℕ) (interest : Bounds)
    (frames : List ℤ) (clip : Option ℕ) (old new : List NeedShown)
    → old ≡ flat_map (needs_at (end_of nodes) (area nodes) side o t r) (range_with_len 0 k)
    → new ≡ old ++ clip_needs (end_of nodes) (area nodes) side interest k frames clip
    → interest ≡ o.meaning.roi (o.values t) r k → frames ≡ clip_frames o t k → clip ≡ clip_node o k
    → new ≡ flat_map (needs_at (end_of nodes) (area nodes) side o t r) (range_with_len 0 (k + 1))
clip_step nodes side o t r k interest frames clip old new so now wanted read is =
    more_ranged (needs_at (end_of nodes) (area nodes) side o t r) old new k so
    (now ∙ ap (λ (i : Bounds). old ++ clip_needs (end_of nodes) (area nodes) side i k frames clip) wanted
    ∙ ap (λ (fs : List ℤ). old ++ clip_needs (end_of nodes) (area nodes) side (o.meaning.roi (o.values t) r k) k fs clip) read
    ∙ ap (λ (m : Option ℕ). old ++ clip_needs (end_of nodes) (area nodes) side (o.meaning.roi (o.values t) r k) k (clip_frames o t k) m) is)
