-- The images of needs, gathered one by one.
use Rattle.std.proofs.Common.{zero, suc, ◌≡◌, ℕ, ◌<◌, ◌+◌, List, [], ◌∷◌, ◌++◌, length, get_or, take, drop, set, Option, Some, None, refl, sym, ap, ◌∙◌, subst, arith}
use Rattle.std.proofs.lemmas.List.{drop-set-lt}
use Rattle.std.proofs.Math.ListN.{length-set}
use Rattle.std.specs.List.{sum_by}
use Rattle.std.specs.declared.alloc.Global.{Global}
use Rattle.std.specs.declared.sync.Arc.{Arc}
use Rattle.fx_directory.specs.Seats.{Made}
use Rattle.fx_effect.specs.Meaning.{Meaning}
use Rattle.fx_image.specs.Stored.{Stored}
use Rattle.fx_scene.specs.Sites.{scene_nodes}
use Rattle.fx_region.specs.declared.ends.Need.{Need}
use Rattle.fx_scene.specs.Nodes.{Nodes}
use Rattle.fx_tile.specs.Counts.{Met, one_if_some}
use Rattle.fx_tile.specs.Setups.{AreTilesOf, IsFound, IsTileOf, MayBeTileOf, MayBeTilesOf, renders_of}
use Rattle.fx_tile.specs.declared.setup.Setup.{Setup}
use Rattle.fx_tile.proofs.FlightLemmas.{met_already, met_more, met_same, there_by, tile_there}
use Rattle.fx_tile.proofs.PieceLemmas.{first_left, others_left, some_left, tiles_more}

element : {A : Type 0} (xs : List A) (i : ℕ) → i < length xs → (x : A) × (x ≡ get_or xs i x)
element [] i low = absurd (omega (arith, low))
element (x ∷ xs) zero low = (x, refl)
element (x ∷ xs) (suc i) low = element xs i (omega (arith, low))

-- before a need: those before it have their images, and of the others some are there
pub record Gathers {E : Type 0} {c e : _} (meaning : E → Meaning) (setup : Setup E c e) (needs : List Need) (i : ℕ) (early tiles : List (Option (Arc Stored Global)))
    (l m : Made) : Type 0 where
  pub met : Met (renders_of (take i needs) + sum_by one_if_some (drop i early)) l m
  pub long : length early ≡ length needs
  pub early_are : MayBeTilesOf (scene_nodes meaning setup.scene.now) (drop i needs) (drop i early)
  pub tiles_are : AreTilesOf (scene_nodes meaning setup.scene.now) (take i needs) tiles

module _ {E : Type 0} {c e : _} (meaning : E → Meaning) (setup : Setup E c e) (needs : List Need) (i : ℕ) (early next tiles more : List (Option (Arc Stored Global)))
    (l m n : Made) (low : i < length needs) (gathers : Gathers meaning setup needs i early tiles l m) (old : Option (Arc Stored Global)) (was : old ≡ get_or early i old)
    (after : next ≡ set early i None) where
  abbrev nodes : Nodes
  nodes = scene_nodes meaning setup.scene.now

  behind : drop (i + 1) next ≡ drop (i + 1) early
  behind = ap (drop (i + 1)) after ∙ drop-set-lt (i + 1) early i None (omega arith)

  as_long : length next ≡ length needs
  as_long = ap length after ∙ length-set early i None ∙ gathers.long

  some_behind : sum_by one_if_some (drop i early) ≡ one_if_some old + sum_by one_if_some (drop (i + 1) next)
  some_behind =
      let need = element needs i low in
      some_left (MayBeTileOf nodes) needs early i need.0 old low gathers.long need.1 was
      ∙ ap (λ (ts : List (Option (Arc Stored Global))). one_if_some old + sum_by one_if_some ts) (sym behind)

  early_behind : MayBeTilesOf nodes (drop (i + 1) needs) (drop (i + 1) next)
  early_behind =
      let need = element needs i low in
      subst (λ (ts : List (Option (Arc Stored Global))). MayBeTilesOf nodes (drop (i + 1) needs) ts) (sym behind)
      (others_left (MayBeTileOf nodes) needs early i need.0 old low gathers.long need.1 was gathers.early_are)

  -- the image of the need was there
  pub gathers_early : (t : Arc Stored Global) → old ≡ Some t → more ≡ tiles ++ Some t ∷ [] → Gathers meaning setup needs (i + 1) next more l m
  gathers_early t is pushed =
      let need = element needs i low in
      let h = sum_by one_if_some (drop (i + 1) next) in
      let there : MayBeTileOf nodes need.0.end (Some t) =
      subst (λ (o : Option (Arc Stored Global)). MayBeTileOf nodes need.0.end o) is
      (first_left (MayBeTileOf nodes) needs early i need.0 old low gathers.long need.1 was gathers.early_are) in
      let one : one_if_some old ≡ 1 = ap (λ (o : Option (Arc Stored Global)). one_if_some o) is in
      let count = some_behind in
      record {
        met = met_already meaning setup needs i need.0 low need.1 h l m m (there_by nodes need.0.end t there)
            (met_same (renders_of (take i needs) + sum_by one_if_some (drop i early)) (renders_of (take i needs) + (1 + h)) l m (omega (arith, one, count)) gathers.met);
        long = as_long;
        early_are = early_behind;
        tiles_are = tiles_more (IsTileOf nodes) needs tiles more i need.0 (Some t) low need.1 gathers.tiles_are (tile_there nodes need.0.end t there) pushed;
      }

  -- it was found now
  pub gathers_now : (need : Need) (tile : Option (Arc Stored Global)) → old ≡ None → need ≡ get_or needs i need → IsFound meaning setup need.end m n
      → IsTileOf nodes need.end tile → more ≡ tiles ++ tile ∷ [] → Gathers meaning setup needs (i + 1) next more l n
  gathers_now need tile is there found of pushed =
      let h = sum_by one_if_some (drop (i + 1) next) in
      let none : one_if_some old ≡ 0 = ap (λ (o : Option (Arc Stored Global)). one_if_some o) is in
      let count = some_behind in
      record {
        met = met_more meaning setup needs i need low there h l m n
            (met_same (renders_of (take i needs) + sum_by one_if_some (drop i early)) (renders_of (take i needs) + h) l m (omega (arith, none, count)) gathers.met)
            found;
        long = as_long;
        early_are = early_behind;
        tiles_are = tiles_more (IsTileOf nodes) needs tiles more i need tile low there gathers.tiles_are of pushed;
      }
