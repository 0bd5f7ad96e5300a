-- Which takes a run renders, and where it renders the frames of a graph as it is written alone.
use Rattle.std.proofs.Common.{◌≡◌, ◌≢◌, ◌<◌, ◌+◌, ◌*◌, ℕ, List, [], ◌∷◌, map, length, All, refl, sym, ap, subst, ◌∙◌, arith}
use Rattle.std.proofs.Math.Nat.{div-eq_of_lt, mod-eq_of_lt}
use Rattle.std.proofs.lemmas.List.{length-map}
use Rattle.fx_base.specs.Pattern.{name_of}
use Rattle.fx_seq.specs.declared.used.Use.{Use}
use Rattle.fx_graph.specs.Shown.{Shown}
use Rattle.fx_scene.specs.Takes.{AreEdits, edits_of}
use Rattle.fx_scene.specs.Uses.{AreUses, frame_at, take_at, wanting}
use Rattle.fx_scene.specs.Wants.{IsNamedIn}
use Rattle.fx_scene.specs.declared.take.Take.{Take}
use Rattle.fx_shipped.specs.declared.shipped.Shipped.{Shipped}
use Rattle.fx_shipped.specs.Shipped.{meaning_of, number_of}
use Rattle.fx_proxy.specs.Scaled.{scaled_take}
use Rattle.fx_takes.specs.Shown.{TakeShown, edit_shown, take_shown}
use Rattle.fx_words.specs.Ordered.{Ordered}
use Rattle.fx_words.specs.declared.order.Mode.{Mode}
use Rattle.fx_words.specs.declared.order.Mode.TheVariants.{Render, Check, Bench, Migrate, Takes, Plan}
use Rattle.fx_modes.specs.Graphs.{FileShown, Graph, first_of, frame_count, last_of}
use Rattle.fx_modes.specs.Files.{AreUsesOf}
use Rattle.fx_modes.specs.Reels.{IsReelOf, Reel, file_name, moments_in, ordered_file, pattern_at, plain_reel, takes_for}

-- n frames of a graph from a on, as it is written
abbrev pub alone : ℕ → Graph → ℕ → ℕ → Reel
alone q g a n = record { scale = q; graph = g; edits = []; files = []; first = a; count = n }

-- its moments are its frames
pub alone_many : (q : ℕ) (g : Graph) (a n : ℕ) → moments_in (alone q g a n) ≡ n
alone_many q g a n = omega arith

pub alone_name : (q : ℕ) (g : Graph) (a n j : ℕ) → j < n → file_name (alone q g a n) j ≡ name_of g.file (a + j)
alone_name q g a n j low =
    let written : take_at n j ≡ 0 = div-eq_of_lt low in
    let frame : frame_at a n j ≡ a + j = ap (λ k. a + k) (mod-eq_of_lt low) in
    ap (λ k. name_of (pattern_at (alone q g a n) k) (frame_at a n j)) written ∙ ap (name_of g.file) frame

-- ---- which takes are ordered

-- in mode `takes` all of them
pub all_ordered : (mode : Mode) (file : FileShown) → mode ≡ Takes → file ≡ record file { takes = takes_for mode file.takes }
all_ordered mode file is = ap (λ (m : Mode). record file { takes = takes_for m file.takes }) (sym is)

-- and else none
pub none_ordered : (mode : Mode) (takes : List TakeShown) → mode ≢ Takes → takes_for mode takes ≡ []
none_ordered Render takes other = refl
none_ordered Check takes other = refl
none_ordered Bench takes other = refl
none_ordered Migrate takes other = refl
none_ordered Plan takes other = refl
none_ordered Takes takes other = absurd (other refl)

-- so many are rendered, and the graph as it is written
pub all_counted : (mode : Mode) (takes : List Take) (n : ℕ) → mode ≡ Takes → n ≡ length takes
    → n + 1 ≡ length (takes_for mode (map take_shown takes)) + 1
all_counted mode takes n is many =
    let all : length (takes_for mode (map take_shown takes)) ≡ length (map take_shown takes) =
    ap (λ (m : Mode). length (takes_for m (map take_shown takes))) is in
    let shown : length (map take_shown takes) ≡ length takes = length-map takes take_shown in
    omega (arith, all, shown, many)

pub none_counted : (mode : Mode) (takes : List TakeShown) → mode ≢ Takes → 1 ≡ length (takes_for mode takes) + 1
none_counted mode takes other =
    let none : length (takes_for mode takes) ≡ length {A = TakeShown} [] = ap length (none_ordered mode takes other) in omega (arith, none)

-- ---- takes of which there are none

pub no_edits : (nodes : List (Shown Shipped)) (takes : List Take) → takes ≡ [] → AreEdits nodes (edits_of takes)
no_edits nodes takes none = subst (λ (ts : List Take). AreEdits nodes (edits_of ts)) (sym none) (λ k. tt)

-- what is used where there are none is used by the frames of the graph as it is written
pub plain_uses : (q : ℕ) (g : Graph) (a b : ℕ) (takes : List Take) (uses : List Use) → takes ≡ []
    → (let n = frame_count a b in let edits = edits_of takes in AreUses (wanting meaning_of g edits a n) (n * (length edits + 1)) uses)
    → All (λ u. IsNamedIn g u.wanted) uses → AreUsesOf (plain_reel q g a b) uses
plain_uses q g a b takes uses none moments names =
    record {
      moments = subst (λ (ts : List Take). AreUses (wanting meaning_of g (edits_of ts) a (frame_count a b)) (frame_count a b * (length (edits_of ts) + 1)) uses)
          none moments;
      names = names;
    }

-- ---- what is ordered where no takes are

none_shown : {A B : Type 0} (f : A → B) (xs : List A) → map f xs ≡ [] → xs ≡ []
none_shown f [] none = refl
none_shown f (x ∷ xs) none = cc

module _ (order : Ordered) (file : FileShown) (none : takes_for order.mode file.takes ≡ []) where
  abbrev g : Graph
  g = (ordered_file order file).graph

  no_takes : (ordered_file order file).takes ≡ []
  no_takes = ap (map (scaled_take number_of order.scale file.graph.nodes)) none

  pub plain_is : (r : Reel) → IsReelOf order file r → r ≡ plain_reel order.scale g (first_of g order) (last_of g order)
  plain_is r is =
      let edits : r.edits ≡ [] = none_shown (map edit_shown) r.edits (is.edits ∙ ap (λ takes. map (λ (t : TakeShown). t.edits) takes) no_takes) in
      let files : r.files ≡ [] = is.files ∙ ap (λ takes. map (λ (t : TakeShown). t.file) takes) no_takes in
      let scale = is.scale in
      let graph = is.graph in
      let first = is.first in
      let count = is.count in
      λ i. record { scale = scale i; graph = graph i; edits = edits i; files = files i; first = first i; count = count i }

  pub plain_of : (a b : ℕ) → a ≡ first_of g order → b ≡ last_of g order → IsReelOf order file (plain_reel order.scale g a b)
  plain_of a b first last =
      record {
        scale = refl;
        graph = refl;
        edits = ap (λ takes. map (λ (t : TakeShown). t.edits) takes) (sym no_takes);
        files = ap (λ takes. map (λ (t : TakeShown). t.file) takes) (sym no_takes);
        first = first;
        count = ap (λ m. frame_count m b) first ∙ ap (λ m. frame_count (first_of g order) m) last;
      }
