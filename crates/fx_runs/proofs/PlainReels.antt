-- What is rendered of a graph as it is written alone: its moments are the frames of a stretch.
use Rattle.std.proofs.Common.{◌≡◌, ◌≤◌, ◌<◌, ◌+◌, ℕ, zero, suc, ℤ, pos, List, [], Option, Some, if◌then◌else◌, refl, sym, ap, subst, ◌∙◌, arith}
use Rattle.std.specs.Str.{bytes_eq}
use Rattle.std.proofs.Math.Nat.{mod-eq_of_lt}
use Rattle.fx_base.specs.Pattern.{name_of}
use Rattle.fx_outside.specs.Outside.{Files}
use Rattle.fx_graph.specs.Shown.{Shown}
use Rattle.fx_scene.specs.Scenes.{Images, graph_nodes, no_images}
use Rattle.fx_scene.specs.Takes.{graph_of_take, nodes_at}
use Rattle.fx_scene.specs.Uses.{frame_at, take_at}
use Rattle.fx_scene.specs.Wants.{IsWanted}
use Rattle.fx_shipped.specs.declared.shipped.Shipped.{Shipped}
use Rattle.fx_shipped.specs.Shipped.{meaning_of}
use Rattle.fx_words.specs.Ordered.{Ordered}
use Rattle.fx_words.specs.declared.order.Mode.{Mode}
use Rattle.fx_words.specs.declared.order.Mode.TheVariants.{Render}
use Rattle.fx_modes.specs.Graphs.{Graph, first_of, frame_count, last_of}
use Rattle.fx_modes.specs.Files.{with_file, with_moments}
use Rattle.fx_modes.specs.Reels.{file_name, file_text, moments_in, ordered_file, picture_text, plain_reel, takes_for, wanting_in}
use Rattle.fx_modes.specs.Run.{Job}
use Rattle.fx_modes.proofs.ReelLemmas.{alone_many, alone_name, plain_is}

-- ---- its moments

pub moments_are : (q : ℕ) (g : Graph) (a b : ℕ) → moments_in (plain_reel q g a b) ≡ frame_count a b
moments_are q g a b = alone_many q g a (frame_count a b)

nodes_stay : (nodes : List (Shown Shipped)) (k : ℕ) → nodes_at nodes [] k ≡ nodes
nodes_stay nodes zero = refl
nodes_stay nodes (suc k) = nodes_stay nodes k

graph_stays : (g : Graph) (k : ℕ) → graph_of_take g [] k ≡ g
graph_stays g k = ap (λ (nodes : List (Shown Shipped)). record g { nodes = nodes }) (nodes_stay g.nodes k)

frame_is : (a n j : ℕ) → j < n → frame_at a n j ≡ a + j
frame_is a n j low = ap (λ (k : ℕ). a + k) (mod-eq_of_lt low)

-- what the frame of moment j wants, both ways
module _ (q : ℕ) (g : Graph) (a b j k : ℕ) (f : ℤ) (low : j < frame_count a b) where
  abbrev Wants : Graph → ℕ → Type 0
  Wants h t = IsWanted (graph_nodes meaning_of h no_images) g.output (pos t) (pos t) k f

  pub moment_wants : Wants g (a + j) → wanting_in (plain_reel q g a b) j k f
  moment_wants wants =
      let n = frame_count a b in
      subst (λ (h : Graph). Wants h (frame_at a n j)) (sym (graph_stays g (take_at n j)))
      (subst (λ (t : ℕ). Wants g t) (sym (frame_is a n j low)) wants)

  pub wants_of : wanting_in (plain_reel q g a b) j k f → Wants g (a + j)
  wants_of wants =
      let n = frame_count a b in
      subst (λ (t : ℕ). Wants g t) (frame_is a n j low)
      (subst (λ (h : Graph). Wants h (frame_at a n j)) (graph_stays g (take_at n j)) wants)

-- ---- its files

-- the name of a frame's file
abbrev pub frame_name : Graph → ℕ → List ℕ
frame_name g t = name_of g.file t

-- files, to which those of n frames from a on are added
abbrev pub with_frames : Graph → Images → ℕ → ℕ → Files → Files
with_frames g images a zero files = files
with_frames g images a (suc n) files =
    with_file (frame_name g (a + n)) (picture_text g images (a + n)) (with_frames g images a n files)

text_is : (q : ℕ) (g : Graph) (images : Images) (a b j : ℕ) → j < frame_count a b
    → file_text (plain_reel q g a b) images j ≡ picture_text g images (a + j)
text_is q g images a b j low =
    let n = frame_count a b in
    ap (λ (h : Graph). picture_text h images (frame_at a n j)) (graph_stays g (take_at n j))
    ∙ ap (λ (t : ℕ). picture_text g images t) (frame_is a n j low)

one_file : (name m n x y : List ℕ) (o p : Option (List ℕ)) → m ≡ n → x ≡ y → o ≡ p
    → (if bytes_eq m name then Some x else o) ≡ (if bytes_eq n name then Some y else p)
one_file name m n x y o p names texts rest =
    ap (λ (k : List ℕ). if bytes_eq k name then Some x else o) names
    ∙ ap (λ (k : List ℕ). if bytes_eq n name then Some k else o) texts
    ∙ ap (λ (q : Option (List ℕ)). if bytes_eq n name then Some y else q) rest

first_moments : (q : ℕ) (g : Graph) (images : Images) (a b n : ℕ) (files : Files) (name : List ℕ) → n ≤ frame_count a b
    → with_moments (plain_reel q g a b) images n files name ≡ with_frames g images a n files name
first_moments q g images a b zero files name few = refl
first_moments q g images a b (suc n) files name few =
    let r = plain_reel q g a b in
    let low : n < frame_count a b = omega (arith, few) in
    one_file name (file_name r n) (frame_name g (a + n)) (file_text r images n) (picture_text g images (a + n))
    (with_moments r images n files name) (with_frames g images a n files name)
    (alone_name q g a (frame_count a b) n low) (text_is q g images a b n low)
    (first_moments q g images a b n files name (omega (arith, few)))

-- the files of its moments are those of the stretch's frames
pub moments_are_frames : (q : ℕ) (g : Graph) (images : Images) (a b : ℕ) (files : Files) (name : List ℕ)
    → with_moments (plain_reel q g a b) images (moments_in (plain_reel q g a b)) files name
    ≡ with_frames g images a (frame_count a b) files name
moments_are_frames q g images a b files name =
    ap (λ (n : ℕ). with_moments (plain_reel q g a b) images n files name) (moments_are q g a b)
    ∙ first_moments q g images a b (frame_count a b) files name (omega arith)

-- ---- in mode `render` it is what is rendered

pub is_plain : {asked : Option Ordered} {library : Files} (job : Job asked library) → job.order.mode ≡ Render
    → (let g = (ordered_file job.order job.file).graph in
    job.reel ≡ plain_reel job.order.scale g (first_of g job.order) (last_of g job.order))
is_plain job render =
    let none : takes_for job.order.mode job.file.takes ≡ [] = ap (λ (m : Mode). takes_for m job.file.takes) render in
    plain_is job.order job.file none job.reel job.is
