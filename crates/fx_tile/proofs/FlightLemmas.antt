-- Flights of the directory, what they land, and what is counted.
use Rattle.std.proofs.Common.{◌≡◌, ℕ, ◌<◌, ◌≤◌, ◌+◌, ℤ, List, [], ◌∷◌, ◌++◌, Contains, suc, length, get_or, take, Option, Some, None, Bool, true, false, refl, arith, sym, ap, ◌∙◌, subst, inl, inr, ◌⊎◌}
use Rattle.std.proofs.lemmas.List.Sums.{count_by_more_no, count_by_more_yes}
use Rattle.std.specs.declared.alloc.Global.{Global}
use Rattle.std.specs.declared.sync.Arc.{Arc}
use Rattle.fx_base.specs.Bounds.{Bounds}
use Rattle.fx_directory.specs.Seats.{Made}
use Rattle.fx_image.specs.Stored.{Stored}
use Rattle.fx_effect.specs.Meaning.{Meaning}
use Rattle.fx_scene.specs.declared.key.Key.{Key}
use Rattle.fx_scene.specs.Nodes.{Nodes}
use Rattle.fx_graph.specs.Shown.{GraphShown}
use Rattle.fx_scene.specs.Scenes.{Shot, fetched_in, graph_nodes, images_in, no_images, node_values}
use Rattle.fx_scene.specs.Holds.{IsHeldAt}
use Rattle.fx_scene.specs.Reach.{IsReached}
use Rattle.fx_scene.specs.Right.{HasWanted, IsTile}
use Rattle.fx_scene.specs.Scripts.{IsRightFor, era_of}
use Rattle.fx_scene.specs.Takes.{graph_of_take}
use Rattle.fx_scene.proofs.SiteLemmas.{reads_same}
use Rattle.fx_region.specs.Tables.{Has}
use Rattle.fx_region.proofs.TableLemmas.{reached_same}
use Rattle.fx_region.specs.Counts.{is_asked}
use Rattle.fx_region.specs.Ends.{end_shown}
use Rattle.fx_scene.specs.Sites.{scene_nodes}
use Rattle.fx_region.specs.declared.ends.End.{End}
use Rattle.fx_region.specs.declared.ends.End.TheVariants as code
use Rattle.fx_region.specs.declared.ends.Need.{Need}
use Rattle.fx_tile.specs.Counts.{AskedOnce, Fetched, Follows, IsUnasked, Lands, Met, one_if_some}
use Rattle.fx_tile.specs.Kept.{row_in}
use Rattle.fx_tile.specs.Setups.{IsFound, IsKeyOf, IsSetup, IsTileOf, MayBeTileOf, renders_of}
use Rattle.fx_tile.specs.declared.count.RenderCount.{RenderCount}
use Rattle.fx_tile.specs.declared.setup.Setup.{Setup}

-- ---- keys

module _ {E : Type 0} {c e : _} (meaning : E → Meaning) (number : E → ℕ) (setup : Setup E c e) (is : IsSetup meaning number setup) where
  abbrev scene : Shot E
  scene = setup.scene.now

  abbrev taken : GraphShown E
  taken = graph_of_take scene.script.written scene.script.takes scene.script.take

  same : scene.graph ≡ taken
  same = is.keeps.is.played.graph_is

  -- what the scene's frame wants is held of all that was fetched
  held_at : IsHeldAt meaning scene.script.written scene.script.takes (images_in scene.store) (fetched_in scene.store) scene.script.take is.regions.at
  held_at =
      record {
        few = is.keeps.is.played.among;
        held_are = is.keeps.is.held;
        all_are = is.keeps.is.fetched;
        among = is.keeps.is.among;
        holds = subst (λ (g : GraphShown E). HasWanted meaning g (images_in scene.store) g.output is.regions.at) same is.holds;
      }

  reached_at : (node : ℕ) (frame : ℤ) → Has setup.regions.now node frame
      → IsReached (graph_nodes meaning taken no_images) taken.output is.regions.at is.regions.at node frame
  reached_at node frame has =
      subst (λ (g : GraphShown E). IsReached (graph_nodes meaning g no_images) g.output is.regions.at is.regions.at node frame) same
      (reached_same (scene_nodes meaning scene) (graph_nodes meaning scene.graph no_images) scene.graph.output is.regions.at is.regions.at node frame
      (λ n t m f. reads_same meaning scene.graph (images_in scene.store) no_images n t m f) (is.regions.are.only node frame has))

  -- both directories are of the scene
  named_in : (whole : Bool) → (row_in whole setup.shared.now).name.scene.value ≡ scene
  named_in true = is.whole_name
  named_in false = is.name

  -- the image of a key's region is right under it, in either directory
  pub right_of : (whole : Bool) (node : ℕ) (frame : ℤ) (region : Bounds) (key : Key) (image : Stored) → Has setup.regions.now node frame
      → IsKeyOf scene node frame region key → IsTile (scene_nodes meaning scene) node frame region image
      → IsRightFor meaning (row_in whole setup.shared.now).name.scene.value key image
  right_of whole node frame region key image has of tile =
      subst (λ (s : Shot E). IsRightFor meaning s key image) (sym (named_in whole))
      (subst (λ (k : Key). IsRightFor meaning scene k image) (sym of)
      (is.keeps.made (images_in scene.store) (fetched_in scene.store) scene.script.take is.regions.at own image held_at (reached_at node frame has) refl
      (ap (λ (g : GraphShown E). node_values g node frame) same)
      (subst (λ (g : GraphShown E). IsTile (graph_nodes meaning g (images_in scene.store)) node frame region image) same tile)))
    where
      own : Key
      own = record { node = node; frame = frame; region = region; values = node_values scene.graph node frame; era = era_of scene.script node }

  -- and what is right under the key is the image of its region
  pub tile_of : (whole : Bool) (node : ℕ) (frame : ℤ) (region : Bounds) (key : Key) (image : Stored) → Has setup.regions.now node frame
      → IsKeyOf scene node frame region key → IsRightFor meaning (row_in whole setup.shared.now).name.scene.value key image
      → IsTile (scene_nodes meaning scene) node frame region image
  tile_of whole node frame region key image has of right =
      subst (λ (g : GraphShown E). IsTile (graph_nodes meaning g (images_in scene.store)) node frame region image) (sym same)
      (is.keeps.right (images_in scene.store) (fetched_in scene.store) scene.script.take is.regions.at own image held_at (reached_at node frame has) refl
      (subst (λ (k : Key). IsRightFor meaning scene k image) of
      (subst (λ (s : Shot E). IsRightFor meaning s key image) (named_in whole) right)))
    where
      own : Key
      own = record { node = node; frame = frame; region = region; values = node_values scene.graph node frame; era = era_of scene.script node }

-- ---- the flight that joined stands among the seat's

later : {A : Type 0} (y : A) (xs : List A) (x : A) → Contains xs x → Contains (y ∷ xs) x
later y xs x c = let low = c.1 in (suc c.0, omega (arith, low), c.2)

at_end : {A : Type 0} (xs : List A) (x : A) → Contains (xs ++ x ∷ []) x
at_end [] x = (0, omega arith, refl)
at_end (y ∷ xs) x = later y (xs ++ x ∷ []) x (at_end xs x)

pub joined : {A : Type 0} (l xs : List A) (x : A) → l ≡ xs ++ x ∷ [] → Contains l x
joined l xs x e = subst (λ (z : List _). Contains z x) (sym e) (at_end xs x)

nil_right : {A : Type 0} (xs : List A) → xs ++ [] ≡ xs
nil_right [] = refl
nil_right (x ∷ xs) = ap (λ ys. x ∷ ys) (nil_right xs)

-- and once it has left the seat's are as before
pub left : {A : Type 0} (old mid new : List A) (x : A) → mid ≡ old ++ x ∷ []
    → ((before after : List A) → mid ≡ before ++ x ∷ after → new ≡ before ++ after) → new ≡ old
left old mid new x joins leaves = leaves old [] joins ∙ nil_right old

-- ---- counts

pub follows_more : (a b c : RenderCount) (l m n : Made) → Follows a b l m → Follows b c m n → Follows a c l n
follows_more a b c l m n f g =
    let f1 = f.landed in let f2 = f.hits in let g1 = g.landed in let g2 = g.hits in
    record { landed = omega (arith, f1, g1); hits = omega (arith, f2, g2) }

-- it makes no difference where these counts stay
pub fetched_from : (r : ℕ) (l m n : Made) → m.dropped ≡ l.dropped → m.landed ≡ l.landed → m.hits ≡ l.hits → Fetched r m n → Fetched r l n
fetched_from r l m n d a b got =
    let g1 = got.landed in let g2 = got.hits in
    record {
      dropped = got.dropped ∙ d;
      landed = omega (arith, a, g1);
      hits = omega (arith, b, g2);
      way = subst (λ (k : ℕ). ((n.landed ≡ k) × (n.hits ≡ l.hits + 1)) ⊎ ((k < n.landed) × (k + l.hits + 1 + r ≤ n.landed + n.hits))) a
          (subst (λ (k : ℕ). ((n.landed ≡ m.landed) × (n.hits ≡ k + 1)) ⊎ ((m.landed < n.landed) × (m.landed + k + 1 + r ≤ n.landed + n.hits))) b got.way);
    }

pub follows_from : (a t b : RenderCount) (l m n : Made) → t ≡ a → m.landed ≡ l.landed → m.hits ≡ l.hits → Follows t b m n → Follows a b l n
follows_from a t b l m n is p q f =
    let f1 = f.landed in let f2 = f.hits in
    subst (λ (u : RenderCount). Follows u b l n) is (record { landed = omega (arith, p, f1); hits = omega (arith, q, f2) })

-- what was met, and one that landed
pub met_lands : (r : ℕ) (l m n : Made) → Met r l m → Lands m n → Fetched r l n
met_lands r l m n met lands =
    let d1 = met.dropped in let d2 = lands.dropped in
    let m1 = met.landed in let m2 = met.hits in let m3 = met.enough in
    let n1 = lands.landed in let n2 = lands.hits in
    record {
      dropped = d2 ∙ d1;
      landed = omega (arith, m1, n1);
      hits = omega (arith, m2, n2);
      way = inr (omega (arith, m1, n1), omega (arith, m3, n1, n2));
    }

pub met_none : (m : Made) → Met 0 m m
met_none m = record { dropped = refl; landed = omega arith; hits = omega arith; enough = omega arith }

-- and so were fewer
met_less : (r s : ℕ) (m n : Made) → s ≤ r → Met r m n → Met s m n
met_less r s m n low met =
    let enough = met.enough in record { dropped = met.dropped; landed = met.landed; hits = met.hits; enough = omega (arith, low, enough) }

-- what was fetched once nothing had been asked before
pub fetched_after : (r : ℕ) (l m n : Made) → IsUnasked l m → Fetched r m n → Fetched r l n
fetched_after r l m n unasked fetched =
    let a = unasked.landed in
    let b = unasked.hits in
    let x = fetched.landed in
    let y = fetched.hits in
    record {
      dropped = fetched.dropped ∙ unasked.dropped;
      landed = omega (arith, a, x);
      hits = omega (arith, b, y);
      way = elim (fetched.way) [
        | inl p ↦ let p0 = p.0 in let p1 = p.1 in inl (omega (arith, a, p0), omega (arith, b, p1))
        | inr p ↦ let p0 = p.0 in let p1 = p.1 in inr (omega (arith, a, p0), omega (arith, a, b, p1))
      ];
    }

met_unasked : (r : ℕ) (l m n : Made) → Met r l m → IsUnasked m n → Met r l n
met_unasked r l m n met un =
    let d1 = met.dropped in let d2 = un.dropped in
    let m1 = met.landed in let m2 = met.hits in let m3 = met.enough in
    let n1 = un.landed in let n2 = un.hits in
    record { dropped = d2 ∙ d1; landed = omega (arith, m1, n1); hits = omega (arith, m2, n2); enough = omega (arith, m3, n1, n2) }

enough_by : (q : ℕ) (m n : Made) → ((n.landed ≡ m.landed) × (n.hits ≡ m.hits + 1)) ⊎ ((m.landed < n.landed) × (m.landed + m.hits + 1 + q ≤ n.landed + n.hits))
    → m.landed + m.hits + 1 ≤ n.landed + n.hits
enough_by q m n (inl h) = let a = h.0 in let b = h.1 in omega (arith, a, b)
enough_by q m n (inr h) = let b = h.1 in omega (arith, b)

met_fetched : (r q : ℕ) (l m n : Made) → Met r l m → Fetched q m n → Met (r + 1) l n
met_fetched r q l m n met got =
    let d1 = met.dropped in let d2 = got.dropped in
    let m1 = met.landed in let m2 = met.hits in let m3 = met.enough in
    let n1 = got.landed in let n2 = got.hits in
    let n3 = enough_by q m n got.way in
    record { dropped = d2 ∙ d1; landed = omega (arith, m1, n1); hits = omega (arith, m2, n2); enough = omega (arith, m3, n3) }

-- what was asked for once
pub met_once : {A : Type 0} (found : Option A) (r : ℕ) (m n : Made) → AskedOnce found r m n → Met (one_if_some found) m n
met_once None r m n un = met_unasked 0 m m n (met_none m) un
met_once (Some image) r m n got = met_less (0 + 1) 1 m n (omega arith) (met_fetched 0 r m m n (met_none m) got)

pub met_same : (r s : ℕ) (m n : Made) → r ≡ s → Met r m n → Met s m n
met_same r s m n e met = met_less r s m n (omega (arith, e)) met

-- what was met before and then
pub met_both : (r s : ℕ) (l m n : Made) → Met r l m → Met s m n → Met (r + s) l n
met_both r s l m n a b =
    let a1 = a.landed in let a2 = a.hits in let a3 = a.enough in
    let b1 = b.landed in let b2 = b.hits in let b3 = b.enough in
    record { dropped = b.dropped ∙ a.dropped; landed = omega (arith, a1, b1); hits = omega (arith, a2, b2); enough = omega (arith, a3, b3) }

abbrev is_render : Need → Bool
is_render n = is_asked (end_shown n.end)

-- what is there is an image of a render
pub there_by : (nodes : Nodes) (end : End) (t : Arc Stored Global) → MayBeTileOf nodes end (Some t) → is_asked (end_shown end) ≡ true
there_by nodes code.Void t is = cc
there_by nodes (code.Frame node frame region through) t is = cc
there_by nodes (code.Render node frame region cut through) t is = refl

pub tile_there : (nodes : Nodes) (end : End) (t : Arc Stored Global) → MayBeTileOf nodes end (Some t) → IsTileOf nodes end (Some t)
tile_there nodes code.Void t is = tt
tile_there nodes (code.Frame node frame region through) t is = tt
tile_there nodes (code.Render node frame region cut through) t is = is

-- One need more, where of those behind it h are met already.
module _ {E : Type 0} {c e : _} (meaning : E → Meaning) (setup : Setup E c e) (needs : List Need) (i : ℕ) (need : Need) (low : i < length needs) (there : need ≡ get_or needs i need)
    (h : ℕ) (l m n : Made) where
  same_as : (b : Bool) → is_render need ≡ b → is_render (get_or needs i need) ≡ b
  same_as b is = sym (ap is_render there) ∙ is

  -- it was met already
  pub met_already : is_render need ≡ true → Met (renders_of (take i needs) + (1 + h)) l m → Met (renders_of (take (i + 1) needs) + h) l m
  met_already is met =
      let count = count_by_more_yes is_render needs i need low (same_as true is) in
      met_less (renders_of (take i needs) + (1 + h)) (renders_of (take (i + 1) needs) + h) l m (omega (arith, count)) met

  no_more : is_render need ≡ false → Met (renders_of (take i needs) + h) l m → IsUnasked m n → Met (renders_of (take (i + 1) needs) + h) l n
  no_more is met un =
      let count = count_by_more_no is_render needs i need low (same_as false is) in
      met_unasked (renders_of (take (i + 1) needs) + h) l m n
      (met_less (renders_of (take i needs) + h) (renders_of (take (i + 1) needs) + h) l m (omega (arith, count)) met) un

  one_more : (q : ℕ) → is_render need ≡ true → Met (renders_of (take i needs) + h) l m → Fetched q m n → Met (renders_of (take (i + 1) needs) + h) l n
  one_more q is met got =
      let count = count_by_more_yes is_render needs i need low (same_as true is) in
      met_less (renders_of (take i needs) + h + 1) (renders_of (take (i + 1) needs) + h) l n (omega (arith, count))
      (met_fetched (renders_of (take i needs) + h) q l m n met got)

  met_by : (end : End) → need.end ≡ end → Met (renders_of (take i needs) + h) l m → IsFound meaning setup end m n → Met (renders_of (take (i + 1) needs) + h) l n
  met_by code.Void is met found = no_more (ap (λ (z : End). is_asked (end_shown z)) is) met found
  met_by (code.Frame node frame region through) is met found = no_more (ap (λ (z : End). is_asked (end_shown z)) is) met found
  met_by (code.Render node frame region cut through) is met found = one_more _ (ap (λ (z : End). is_asked (end_shown z)) is) met found

  -- it is met now
  pub met_more : Met (renders_of (take i needs) + h) l m → IsFound meaning setup need.end m n → Met (renders_of (take (i + 1) needs) + h) l n
  met_more met found = met_by need.end refl met found
