-- A tile of the picture shows where it is found, and what is counted for it.
use Rattle.std.proofs.Common.{◌≡◌, ℕ, ◌<◌, ◌≤◌, ◌+◌, ℤ, List, [], ◌∷◌, ◌++◌, Bool, true, false, cond, refl, sym, ap, ◌∙◌, subst, arith, inl, inr, ◌⊎◌}
use Rattle.std.specs.Ordering.{int_eq}
use Rattle.std.proofs.lemmas.Int.{ints}
use Rattle.std.proofs.lemmas.Bool.Decides.{Decides-int_eq}
use Rattle.fx_base.specs.Bounds.{Bounds, IsRect}
use Rattle.fx_base.specs.Rect.{Holds, IsWithin, within}
use Rattle.fx_pam.specs.Laws.{components_for}
use Rattle.fx_pixel.specs.declared.Depth.{Depth}
use Rattle.fx_pixel.specs.declared.Components.{Components}
use Rattle.fx_pixel.specs.declared.Pixel.{Pixel}
use Rattle.fx_pixel.specs.Pixel.{convert, zero}
use Rattle.fx_pixel.specs.PixelLaws.{convert_zero}
use Rattle.fx_image.specs.Image.{pixel_at}
use Rattle.fx_image.specs.Part.{IsPart, IsWritten, SamePart, narrowed}
use Rattle.fx_image.specs.declared.part.Part.{Part}
use Rattle.fx_directory.specs.Seats.{Made}
use Rattle.fx_effect.specs.Given.{Given, row_pixel}
use Rattle.fx_effect.specs.Meaning.{Meaning}
use Rattle.fx_effect.specs.Rows.{ShowsRow}
use Rattle.fx_effect.specs.Tap.{tap}
use Rattle.fx_graph.specs.Shown.{GraphShown}
use Rattle.fx_scene.specs.Nodes.{Nodes, components_at, depth_at}
use Rattle.fx_scene.specs.Scenes.{Images, graph_nodes, picture}
use Rattle.fx_scene.specs.Value.{value}
use Rattle.fx_region.specs.declared.ends.End.{End}
use Rattle.fx_region.specs.declared.ends.End.TheVariants as code
use Rattle.fx_region.specs.declared.ends.Need.{Need}
use Rattle.fx_region.specs.Ends.{EndShown, Frame, Render, Void, end_holds, end_pixel, end_shown}
use Rattle.fx_region.specs.Needs.{need_shown, needs_pixel}
use Rattle.fx_scene.specs.Sites.{scene_nodes}
use Rattle.fx_region.specs.Suffice.{ShowsEnd}
use Rattle.fx_tile.specs.declared.count.RenderCount.{RenderCount}
use Rattle.fx_tile.specs.declared.count.TileCount.{TileCount}
use Rattle.fx_tile.specs.declared.setup.Setup.{Setup}
use Rattle.fx_tile.specs.Counts.{CountsEnd, CountsRises, Follows, IsUnasked}
use Rattle.fx_tile.specs.Inputs.{AddsPiece}
use Rattle.fx_tile.specs.Setups.{IsFound, end_renders}
use Rattle.fx_tile.proofs.PieceLemmas.{pieces_pixel}

-- ---- one need alone shows its end

pub not_held : (nodes : Nodes) (e : EndShown) (d : Depth) (k : Components) (x y : ℤ) → end_holds e x y ≡ false → zero k ≡ end_pixel nodes e d k x y
not_held nodes Void d k x y h = refl
not_held nodes (Frame node frame region through) d k x y h = rw h refl
not_held nodes (Render node frame region cut through) d k x y h = rw h refl

same_int : (t : ℤ) → int_eq t t ≡ true
same_int t = grind (arith, ints, Decides-int_eq)

alone_by : (nodes : Nodes) (e : EndShown) (d : Depth) (k : Components) (x y : ℤ) (b : Bool) → end_holds e x y ≡ b
    → cond b (end_pixel nodes e d k x y) (zero k) ≡ end_pixel nodes e d k x y
alone_by nodes e d k x y true h = refl
alone_by nodes e d k x y false h = not_held nodes e d k x y h

alone : (nodes : Nodes) (n : Need) (d : Depth) (k : Components) (x y : ℤ) → n.clip ≡ 0
    → needs_pixel nodes d k (need_shown n ∷ []) (tap 0 n.frame x y) ≡ end_pixel nodes (end_shown n.end) d k x y
alone nodes n d k x y first = rw (first, same_int n.frame) (alone_by nodes (end_shown n.end) d k x y (end_holds (end_shown n.end) x y) refl)

pub shows_alone : (nodes : Nodes) (n : Need) (old new : Given) (d : Depth) (k : Components) → AddsPiece nodes n old new
    → old ≡ record { depth = d; components = k ∷ []; pieces = [] } → n.clip ≡ 0 → (x y : ℤ)
    → row_pixel new 0 n.frame x y ≡ end_pixel nodes (end_shown n.end) d k x y
shows_alone nodes n old new d k adds is first x y =
    let made : new ≡ record { depth = d; components = k ∷ []; pieces = adds.piece ∷ [] } =
    adds.added ∙ ap (λ (g : Given). record g { pieces = g.pieces ++ adds.piece ∷ [] }) is in
    ap (λ (g : Given). row_pixel g 0 n.frame x y) made
    ∙ pieces_pixel nodes (n ∷ []) (adds.piece ∷ []) (adds.is, tt) d k (tap 0 n.frame x y)
    ∙ alone nodes n d k x y first

-- ---- parts

-- the same part is one still
pub part_again : (p q : Part) → SamePart p q → IsPart p → IsPart q
part_again p q same part =
    record {
      rect = subst IsRect (sym same.1) part.rect;
      within = subst (λ (r : Bounds). IsWithin r q.image.now.rect) (sym same.1) (subst (λ (r : Bounds). IsWithin p.rect r) (sym same.2.rect) part.within);
    }

-- and a rectangle within one
pub part_within : (p : Part) (rect : Bounds) → IsPart p → IsRect rect → IsWithin rect p.rect → IsPart (narrowed p rect)
part_within p rect part bounds inside = record { rect = bounds; within = λ x y h. part.within x y (inside x y h) }

pub shows_row : (d e : Depth) (j k : Components) (rect : Bounds) (y : ℤ) (f : ℤ → ℤ → Pixel) (ws : List ℕ) → d ≡ e → j ≡ k
    → ShowsRow d j rect y f ws → ShowsRow e k rect y f ws
shows_row d e j k rect y f ws deep samples shows =
    subst (λ (z : Depth). ShowsRow z k rect y f ws) deep (subst (λ (z : Components). ShowsRow d z rect y f ws) samples shows)

-- ---- the picture

-- what is written is what other pixels are at these places
pub written_as : (p q : Part) (f g : ℤ → ℤ → Pixel) → ((x y : ℤ) → Holds p.rect x y → f x y ≡ g x y) → IsWritten p q f → IsWritten p q g
written_as p q f g same w =
    (w.0, record { inside = λ x y inside low. w.1.inside x y inside low ∙ same x y inside; outside = w.1.outside })

picture_by : (nodes : Nodes) (n : ℕ) (t : ℤ) (tile : Bounds) (e : EndShown) (d : Depth) (k : Components) → ShowsEnd nodes n t tile e
    → (x y : ℤ) → Holds tile x y → (b : Bool) → end_holds e x y ≡ b
    → end_pixel nodes e d k x y ≡ convert (depth_at nodes n) d k (value nodes n t x y)
picture_by nodes n t tile e d k shows x y inside true h = shows.pixels d k x y h
picture_by nodes n t tile e d k shows x y inside false h =
    sym (not_held nodes e d k x y h) ∙ sym (convert_zero (depth_at nodes n) d (components_at nodes n) k)
    ∙ ap (convert (depth_at nodes n) d k) (sym (shows.zero x y inside h))

pub shows_picture : {E : Type 0} (meaning : E → Meaning) (g : GraphShown E) (images : Images) (t : ℤ) (tile : Bounds) (e : EndShown)
    (d : Depth) (k : Components) → d ≡ g.depth → k ≡ components_for g.format
    → ShowsEnd (graph_nodes meaning g images) g.output t tile e → (x y : ℤ) → Holds tile x y → Holds g.project x y
    → end_pixel (graph_nodes meaning g images) e d k x y ≡ pixel_at (picture meaning g images t) x y
shows_picture meaning g images t tile e d k deep samples shows x y here inside =
    let nodes = graph_nodes meaning g images in
    let there : within g.project x y ≡ true = inside in
    let one : convert (depth_at nodes g.output) g.depth (components_for g.format) (value nodes g.output t x y) ≡ pixel_at (picture meaning g images t) x y = rw there refl in
    picture_by nodes g.output t tile e d k shows x y here (end_holds e x y) refl
    ∙ ap (λ (z : Depth). convert (depth_at nodes g.output) z k (value nodes g.output t x y)) deep
    ∙ ap (λ (z : Components). convert (depth_at nodes g.output) g.depth z (value nodes g.output t x y)) samples
    ∙ one

-- ---- counts

not_asked : (n : ℕ) {X : Type 0} → n ≡ 0 → n ≡ 1 → X
not_asked n none one = absurd (omega (arith, none, one))

asked_by : (r : ℕ) (m n : Made) (a b : ℕ) → n.landed ≡ m.landed + a → n.hits ≡ m.hits + b
    → ((n.landed ≡ m.landed) × (n.hits ≡ m.hits + 1)) ⊎ ((m.landed < n.landed) × (m.landed + m.hits + 1 + r ≤ n.landed + n.hits))
    → ((a ≡ 0) × (b ≡ 1)) ⊎ ((1 ≤ a) × (1 + r ≤ a + b))
asked_by r m n a b l h (inl w) = let w0 = w.0 in let w1 = w.1 in inl (omega (arith, l, w0), omega (arith, h, w1))
asked_by r m n a b l h (inr w) = let w0 = w.0 in let w1 = w.1 in inr (omega (arith, l, w0), omega (arith, l, h, w1))

module _ {E : Type 0} {c e : _} (meaning : E → Meaning) (setup : Setup E c e) (m n : Made) (count : TileCount)
    (landed : n.landed ≡ m.landed + count.landed) (hits : n.hits ≡ m.hits + count.hits) where
  unasked : (r : ℕ) → IsUnasked m n → count.asked ≡ 0 → CountsRises r m n count
  unasked r un none =
      record { dropped = un.dropped; landed = landed; hits = hits; way = λ one. not_asked count.asked none one }

  rises_by : (end : End) → IsFound meaning setup end m n → CountsEnd (end_shown end) count
      → CountsRises (end_renders (scene_nodes meaning setup.scene.now) setup.shared.now.grid (end_shown end)) m n count
  rises_by code.Void found ends = unasked _ found ends.2
  rises_by (code.Frame node frame region through) found ends = unasked _ found ends.2
  rises_by (code.Render node frame region cut through) found ends =
      record { dropped = found.dropped; landed = landed; hits = hits; way = λ one. asked_by _ m n count.landed count.hits landed hits found.way }

-- the count of a tile rises as the seat's counts do
pub rises : {E : Type 0} {c e : _} (meaning : E → Meaning) (setup : Setup E c e) (m n : Made) (old new : RenderCount) (count : TileCount) (end : End)
    → old ≡ record { landed = 0; hits = 0 } → Follows old new m n → count.landed ≡ new.landed → count.hits ≡ new.hits
    → IsFound meaning setup end m n → CountsEnd (end_shown end) count
    → CountsRises (end_renders (scene_nodes meaning setup.scene.now) setup.shared.now.grid (end_shown end)) m n count
rises meaning setup m n old new count end start follows landed hits found ends =
    let l0 = ap (λ (t : RenderCount). t.landed) start in let h0 = ap (λ (t : RenderCount). t.hits) start in
    let l1 = follows.landed in let h1 = follows.hits in
    rises_by meaning setup m n count (omega (arith, l0, l1, landed)) (omega (arith, h0, h1, hits)) end found ends
