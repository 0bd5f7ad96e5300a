-- From one moment to the next.
use Rattle.std.proofs.Common.{◌≡◌, ◌≤◌, ◌<◌, ◌+◌, ◌*◌, ◌-◌, ℕ, suc, pos, List, [], ◌∷◌, ◌++◌, length, Some, refl, sym, ap, subst, ◌∙◌, arith, inl, inr}
use Rattle.std.proofs.Math.Nat.{mul-le-mul_left, mul-le-mul_right, suc-mul}
use Rattle.std.specs.List.{AllZip}
use Rattle.std.proofs.lemmas.Bool.{cases_lt}
use Rattle.std.proofs.lemmas.Int.{ints}
use Rattle.std.proofs.lemmas.Nat.{div-mul-add, mod-mul-add}
use Rattle.fx_base.specs.Pattern.{name_of}
use Rattle.fx_base.specs.declared.limits.TheConstants.{LAST_FRAME}
use Rattle.fx_pam.specs.Text.{pam_text}
use Rattle.fx_pool.specs.Weights.{plus}
use Rattle.fx_region.specs.Counts.{window_ends}
use Rattle.fx_region.specs.Held.{EndsReached, EndsStay}
use Rattle.fx_text.specs.declared.raw.TheConstants.{MOST_TAKES}
use Rattle.fx_seq.specs.declared.source.SourceFrame.{SourceFrame}
use Rattle.fx_seq.specs.declared.store.Store.{Store}
use Rattle.fx_seq.specs.declared.used.Use.{Use}
use Rattle.fx_seq.specs.Held.{got_frames}
use Rattle.fx_scene.specs.Depends as scene
use Rattle.fx_scene.specs.Holds.{PicturesStay}
use Rattle.fx_scene.specs.Right.{HasGrown, HasWanted}
use Rattle.fx_proxy.specs.Proxy.{IsScaledFrame, scaled_images}
use Rattle.fx_proxy.specs.Reduced.{IsScale}
use Rattle.fx_scene.specs.Scenes.{Images, Script, Shot, fetched_in, graph_nodes, images_in}
use Rattle.fx_scene.specs.Scripts.{HasGrownTo, taken}
use Rattle.fx_scene.specs.Takes.{edits_after, graph_of_take}
use Rattle.fx_scene.specs.declared.take.Take.{Take}
use Rattle.fx_scene.proofs.TakeLemmas.{nodes_long}
use Rattle.fx_scene.proofs.StoreLemmas.{fetched_images, held_fetched, store_images}
use Rattle.fx_shipped.specs.declared.shipped.Shipped.{Shipped}
use Rattle.fx_shipped.specs.Shipped.{meaning_of}
use Rattle.fx_tile.specs.declared.count.TileCount.{TileCount}
use Rattle.fx_tile.specs.Counts.{both_counts}
use Rattle.fx_tile.specs.Moments.{CountsTiles, count_weight, seat_weight}
use Rattle.fx_modes.specs.declared.crew.Crew.{Crew}
use Rattle.fx_modes.specs.declared.making.Making.{Making}
use Rattle.fx_modes.specs.Crews.{IsRenewed, KnewScene}
use Rattle.fx_modes.specs.Graphs.{Graph}
use Rattle.fx_plan.specs.Agree.{EndsAgree}
use Rattle.fx_modes.specs.Making.{AreTakesFrom, CountsFrame, EndsHold, HasDrawn, HoldsScaled, IsAt, IsMaking, IsPlan, MayMake, Plan, pattern_in, seen_by}
use Rattle.fx_modes.specs.Moments.{images_of}
use Rattle.fx_modes.specs.Reels.{Reel, file_name, file_text, frame_in, graph_in, moments_in, pattern_at, picture_text, scaled_in, take_in, takes_in}
use Rattle.fx_modes.specs.Tiles.{HasCounted, moment_ends, nodes_in}
use Rattle.fx_modes.proofs.CountLemmas.{counted_more}
use Rattle.fx_modes.proofs.GrownLemmas.{counted_grown, images_grow, tiles_same}
use Rattle.fx_modes.proofs.ReadLemmas.{WantsIn, has_wanted, holds_wanted, small_wanted}
use Rattle.fx_modes.proofs.ScaledLemmas.{same_images, small_grow, small_images}

-- ---- what a store holds, and what it ever got

got_images : (store : Store) → scene.AreImages (fetched_in store)
got_images store = fetched_images store store.known

images_among : (store : Store) → HasGrown (images_in store) (fetched_in store)
images_among store = held_fetched store store.among

-- over all that was got a text is what it is over what is held
pub held_text : (g : Graph) → PicturesStay meaning_of g [] → (store : Store) (t : ℕ) → HasWanted meaning_of g (images_in store) g.output (pos t)
    → picture_text g (images_in store) t ≡ picture_text g (fetched_in store) t
unfolding picture_text
held_text g stay store t has =
    ap (pam_text g.format)
    (stay (images_in store) (fetched_in store) 0 (pos t) (store_images store store.sound) (got_images store) (images_among store) has)

-- and over the frames that were handed in, at the size that is rendered
small_text : (g : Graph) → scene.PicturesDependOnWanted meaning_of g → (q : ℕ) → IsScale q → (seen : List SourceFrame) (store : Store)
    → AllZip (IsScaledFrame q) seen (got_frames store) → (t : ℕ)
    → picture_text g (fetched_in store) t ≡ picture_text g (scaled_images q (images_of seen)) t
unfolding picture_text
small_text g depend q scale seen store are t =
    ap (pam_text g.format)
    (depend (pos t) (pos t) (fetched_in store) (scaled_images q (images_of seen)) (got_images store) (small_images q scale seen)
    (λ k f wanted. same_images q seen store are k f) (pos t) (omega (arith, ints)) (omega (arith, ints)))

-- ---- which moment is next

-- the takes that are left are those up to the last
pub left_long : (r : Reel) (k : ℕ) (takes : List Take) → AreTakesFrom r k takes → k + length takes ≡ length r.edits
left_long r k [] end = omega (arith, end)
left_long r k (take ∷ takes) left = let more = left_long r (suc k) takes left.1 in omega (arith, more)

-- moment n of takes of so many frames, where t is the frame
place_at : (take count n first frame : ℕ) → first ≤ frame → frame < first + count → n + first ≡ take * count + frame
    → n ≡ take * count + (frame - first)
place_at take count n first frame from to at = by (take * count) at
  where
    by : (x : ℕ) → n + first ≡ x + frame → n ≡ x + (frame - first)
    by x is = omega (arith, is, from)

-- where a frame of the take is next, it is that of the next moment
module _ (p : Plan) (m : Making) (at : IsAt p m) (here : m.frame ≤ m.last) where
  abbrev d : ℕ
  d = m.frame - m.first

  below : d < p.reel.count
  below = let first = at.first in let last = at.last in let from = at.from in omega (arith, first, last, from, here)

  next_is : m.next ≡ m.scene.script.take * p.reel.count + d
  next_is =
      let first = at.first in
      let last = at.last in
      place_at m.scene.script.take p.reel.count m.next m.first m.frame at.from (omega (arith, first, last, here)) at.next

  pub take_is : take_in p.reel m.next ≡ m.scene.script.take
  take_is = ap (λ n. take_in p.reel n) next_is ∙ div-mul-add m.scene.script.take p.reel.count d below

  pub frame_is : frame_in p.reel m.next ≡ m.frame
  frame_is =
      let first = at.first in
      let from = at.from in
      let rest = mod-mul-add m.scene.script.take p.reel.count d below in
      ap (λ n. frame_in p.reel n) next_is ∙ ap (λ n. p.reel.first + n) rest ∙ omega (arith, first, from)

  pub graph_is : m.scene.graph ≡ graph_in p.reel m.next
  graph_is = at.graph ∙ ap (λ k. graph_of_take p.reel.graph p.reel.edits k) (sym take_is)

  pub name_is : name_of (pattern_in m.file m.scene.graph.file) m.frame ≡ file_name p.reel m.next
  name_is =
      ap (λ (g : Graph). name_of (pattern_in m.file g.file) m.frame) at.graph
      ∙ ap (λ (file : List ℕ). name_of file m.frame) (at.file ∙ ap (pattern_at p.reel) (sym take_is))
      ∙ ap (λ t. name_of (pattern_at p.reel (take_in p.reel m.next)) t) (sym frame_is)

  pub frame_low : IsPlan p → m.frame ≤ LAST_FRAME
  frame_low plan = let few = plan.few in let last = at.last in omega (arith, few, last, here)

-- there are no more moments than frames of 65 takes
pub moments_few : (p : Plan) → IsPlan p → moments_in p.reel ≤ 65000000
moments_few p plan =
    let few = plan.few in
    let takes = plan.few_takes in
    let frames = mul-le-mul_right (takes_in p.reel) (count_few few) in
    let all = mul-le-mul_left 1000000 (takes_few takes) in
    omega (arith, frames, all)
  where
    count_few : p.reel.first + p.reel.count ≤ LAST_FRAME + 1 → p.reel.count ≤ 1000000
    count_few few = omega (arith, few)

    takes_few : takes_in p.reel ≤ MOST_TAKES + 1 → takes_in p.reel ≤ 65
    takes_few few = omega (arith, few)

-- a scene of the same graph and script stands at the same moment
pub at_scene : (p : Plan) (m now : Making) → IsAt p m → now.scene.graph ≡ m.scene.graph → now.scene.script ≡ m.scene.script
    → IsAt p (record m { scene = now.scene; seen = now.seen })
at_scene p m now at graph script =
    record {
      scale = at.scale;
      written = ap (λ (c : Script Shipped). c.written) script ∙ at.written;
      takes = ap (λ (c : Script Shipped). c.takes) script ∙ at.takes;
      graph = graph ∙ at.graph ∙ ap (λ (c : Script Shipped). graph_of_take p.reel.graph p.reel.edits c.take) (sym script);
      left = subst (λ (c : Script Shipped). AreTakesFrom p.reel c.take m.takes.items) (sym script) at.left;
      file = at.file ∙ ap (λ (c : Script Shipped). pattern_at p.reel c.take) (sym script);
      first = at.first;
      last = at.last;
      from = at.from;
      to = at.to;
      next = at.next ∙ ap (λ (c : Script Shipped). c.take * p.reel.count + m.frame) (sym script);
    }

-- one moment more of the take
at_next : (p : Plan) (m : Making) → IsAt p m → m.frame ≤ m.last → IsAt p (record m { frame = m.frame + 1; next = m.next + 1 })
at_next p m at here =
    record {
      scale = at.scale;
      written = at.written;
      takes = at.takes;
      graph = at.graph;
      left = at.left;
      file = at.file;
      first = at.first;
      last = at.last;
      from = let from = at.from in omega (arith, from);
      to = omega (arith, here);
      next = by (m.scene.script.take * p.reel.count) at.next;
    }
  where
    by : (x : ℕ) → m.next + m.first ≡ x + m.frame → m.next + 1 + m.first ≡ x + (m.frame + 1)
    by x is = omega (arith, is)

-- the take behind one of which all moments were made
pub at_take : (p : Plan) (m : Making) (take : Take) (rest : List Take) → IsPlan p → IsAt p m → m.last < m.frame → m.takes.items ≡ take ∷ rest
    → (now : Making) → now ≡ record m { scene = taken m.scene; takes = now.takes; file = Some take.file; frame = m.first }
    → now.takes.items ≡ rest → IsAt p now
at_take p m take rest plan at past split now is left = subst (IsAt p) (sym is) begun
  where
    by : (x y : ℕ) → m.next + m.first ≡ x + m.frame → y ≡ x + p.reel.count → m.next + m.first ≡ y + m.first
    by x y is more =
        let first = at.first in
        let last = at.last in
        let to = at.to in
        omega (arith, is, more, first, last, to, past)

    same : suc m.scene.script.take ≡ m.scene.script.take + 1
    same = omega arith

    ahead : AreTakesFrom p.reel m.scene.script.take (take ∷ rest)
    ahead = subst (λ (ts : List Take). AreTakesFrom p.reel m.scene.script.take ts) split at.left

    begun : IsAt p (record m { scene = taken m.scene; takes = now.takes; file = Some take.file; frame = m.first })
    begun =
        record {
          scale = at.scale;
          written = at.written;
          takes = at.takes;
          graph =
              ap (λ (g : Graph). graph_of_take g m.scene.script.takes (m.scene.script.take + 1)) at.written
              ∙ ap (λ es. graph_of_take p.reel.graph es (m.scene.script.take + 1)) at.takes;
          left = subst (λ (ts : List Take). AreTakesFrom p.reel (m.scene.script.take + 1) ts) (sym left)
              (subst (λ (n : ℕ). AreTakesFrom p.reel n rest) same ahead.1);
          file = sym ahead.0.file ∙ ap (pattern_at p.reel) same;
          first = at.first;
          last = at.last;
          from = omega arith;
          to = let first = at.first in let last = at.last in omega (arith, first, last);
          next =
              by (m.scene.script.take * p.reel.count) (m.scene.script.take * p.reel.count + p.reel.count) at.next refl
              ∙ ap (λ n. n + m.first) (sym (suc-mul m.scene.script.take p.reel.count))
              ∙ ap (λ n. n * p.reel.count + m.first) same;
        }

-- of a scene at its take the next one is there, and has as many nodes
module _ (p : Plan) (m : Making) (take : Take) (rest : List Take) (at : IsAt p m) (split : m.takes.items ≡ take ∷ rest) where
  abbrev script : Script Shipped
  script = m.scene.script

  front : AreTakesFrom p.reel script.take (take ∷ rest)
  front = subst (λ (ts : List Take). AreTakesFrom p.reel script.take ts) split at.left

  pub take_there : script.take < length script.takes
  take_there =
      let long = left_long p.reel script.take (take ∷ rest) front in
      let same = ap length at.takes in
      omega (arith, long, same)

  pub take_edits : take.edits.items ≡ edits_after script.takes script.take
  take_edits = sym front.0.edits ∙ ap (λ es. edits_after es script.take) (sym at.takes)

  pub taken_long : length (taken m.scene).graph.nodes ≡ length m.scene.graph.nodes
  taken_long =
      nodes_long script.written.nodes script.takes (script.take + 1)
      ∙ sym (nodes_long script.written.nodes script.takes script.take)
      ∙ ap (λ (g : Graph). length (graph_of_take g script.takes script.take).nodes) at.written
      ∙ ap (λ es. length (graph_of_take p.reel.graph es script.take).nodes) at.takes
      ∙ sym (ap (λ (g : Graph). length g.nodes) at.graph)

-- ---- what stands between two moments

-- The moment's take was begun and its frames came, those who render got the scene's new name, and its picture was drawn
pub record HasGone (p : Plan) (frames : List SourceFrame) (old begun came renewed drawn : Making) : Type 0 where
  pub rest_begun : begun ≡ record old { scene = begun.scene; takes = begun.takes; file = begun.file; frame = begun.frame }
  pub store : begun.scene.store ≡ old.scene.store
  pub at : IsAt p begun
  pub here : begun.frame ≤ begun.last
  pub rest_came : came ≡ record begun { scene = came.scene; seen = came.seen }
  pub graph : came.scene.graph ≡ begun.scene.graph
  pub script : came.scene.script ≡ begun.scene.script
  pub read : HoldsScaled p.reel.scale p.uses (old.next + 1) (seen_by came) came.scene.store
  pub seen : seen_by came ≡ seen_by begun ++ frames
  pub rest_renewed : renewed ≡ record came { crew = renewed.crew }
  pub again : (crew : Crew) → came.crew ≡ Some crew
      → (new : Crew) × (renewed.crew ≡ Some new) × IsRenewed renewed.scene crew new
  pub rest_drawn : drawn ≡ record renewed { crew = drawn.crew; sum = drawn.sum; spare = drawn.spare }
  pub drew : (crew : Crew) → renewed.crew ≡ Some crew → HasDrawn renewed.frame crew renewed drawn

-- what came at the size of what stood there came at the reel's
pub read_at : (p : Plan) (old begun came : Making) → IsAt p old
    → begun ≡ record old { scene = begun.scene; takes = begun.takes; file = begun.file; frame = begun.frame } → (uses : List Use)
    → HoldsScaled begun.scale uses (begun.next + 1) (seen_by came) came.scene.store
    → HoldsScaled p.reel.scale uses (begun.next + 1) (seen_by came) came.scene.store
read_at p old begun came at rest uses read =
    subst (λ (q : ℕ). HoldsScaled q uses (begun.next + 1) (seen_by came) came.scene.store)
    (ap (λ (m : Making). m.scale) rest ∙ at.scale) read

-- ---- the moment that is made

module _ (p : Plan) (begun came renewed : Making) (at : IsAt p begun) (here : begun.frame ≤ begun.last)
    (rest_came : came ≡ record begun { scene = came.scene; seen = came.seen }) (graph : came.scene.graph ≡ begun.scene.graph)
    (script : came.scene.script ≡ begun.scene.script) (rest_renewed : renewed ≡ record came { crew = renewed.crew }) where
  at_came : IsAt p came
  at_came = subst (IsAt p) (sym rest_came) (at_scene p begun came at graph script)

  -- those who render change nothing of it
  pub at_renewed : IsAt p renewed
  at_renewed = subst (IsAt p) (sym rest_renewed) same
    where
      same : IsAt p (record came { crew = renewed.crew })
      same =
          record {
            scale = at_came.scale;
            written = at_came.written;
            takes = at_came.takes;
            graph = at_came.graph;
            left = at_came.left;
            file = at_came.file;
            first = at_came.first;
            last = at_came.last;
            from = at_came.from;
            to = at_came.to;
            next = at_came.next;
          }

  pub here_renewed : renewed.frame ≤ renewed.last
  here_renewed =
      let frame : renewed.frame ≡ begun.frame = ap (λ (m : Making). m.frame) rest_renewed ∙ ap (λ (m : Making). m.frame) rest_came in
      let last : renewed.last ≡ begun.last = ap (λ (m : Making). m.last) rest_renewed ∙ ap (λ (m : Making). m.last) rest_came in
      omega (arith, here, frame, last)

  pub scene_renewed : renewed.scene ≡ came.scene
  scene_renewed = ap (λ (m : Making). m.scene) rest_renewed

  pub next_renewed : renewed.next ≡ begun.next
  next_renewed = ap (λ (m : Making). m.next) rest_renewed ∙ ap (λ (m : Making). m.next) rest_came

  pub seen_renewed : seen_by renewed ≡ seen_by came
  seen_renewed = ap seen_by rest_renewed

  pub read_renewed : (uses : List Use) → p.uses ≡ uses → HoldsScaled p.reel.scale uses (begun.next + 1) (seen_by came) came.scene.store
      → HoldsScaled p.reel.scale p.uses (renewed.next + 1) (seen_by renewed) renewed.scene.store
  read_renewed uses are read =
      let q = p.reel.scale in
      subst (λ (s : Shot Shipped). HoldsScaled q p.uses (renewed.next + 1) (seen_by renewed) s.store) (sym scene_renewed)
      (subst (λ (ss : List SourceFrame). HoldsScaled q p.uses (renewed.next + 1) ss came.scene.store) (sym seen_renewed)
      (subst (λ (n : ℕ). HoldsScaled q p.uses (n + 1) (seen_by came) came.scene.store) (sym next_renewed)
      (subst (λ (us : List Use). HoldsScaled q us (begun.next + 1) (seen_by came) came.scene.store) (sym are) read)))

  -- what it wants is held
  module _ (plan : IsPlan p) (low : renewed.next < moments_in p.reel)
      (read : HoldsScaled p.reel.scale p.uses (renewed.next + 1) (seen_by renewed) renewed.scene.store) where
    abbrev small : Images
    small = scaled_in p.reel (images_of (seen_by renewed))

    pub wants_in : WantsIn p.reel renewed.next (images_in renewed.scene.store)
    wants_in = holds_wanted p.reel p.uses plan.are renewed.next low (seen_by renewed) renewed.scene.store read

    pub wants_now :
        HasWanted meaning_of renewed.scene.graph (images_in renewed.scene.store) renewed.scene.graph.output (pos renewed.frame)
    wants_now =
        subst (λ (g : Graph). HasWanted meaning_of g (images_in renewed.scene.store) g.output (pos renewed.frame))
        (sym (graph_is p renewed at_renewed here_renewed))
        (subst (λ (t : ℕ). HasWanted meaning_of (graph_in p.reel renewed.next) (images_in renewed.scene.store) p.reel.graph.output (pos t))
        (frame_is p renewed at_renewed here_renewed) wants_in)

    -- its text over what is held is its text over all that was handed in
    pub text_now : PicturesStay meaning_of renewed.scene.graph [] → scene.PicturesDependOnWanted meaning_of renewed.scene.graph
        → picture_text renewed.scene.graph (images_in renewed.scene.store) renewed.frame ≡ file_text p.reel small renewed.next
    text_now stay depend =
        held_text renewed.scene.graph stay renewed.scene.store renewed.frame wants_now
        ∙ small_text renewed.scene.graph depend p.reel.scale plan.size (seen_by renewed) renewed.scene.store read.got renewed.frame
        ∙ ap (λ (g : Graph). picture_text g small renewed.frame) (graph_is p renewed at_renewed here_renewed)
        ∙ ap (λ (t : ℕ). picture_text (graph_in p.reel renewed.next) small t) (sym (frame_is p renewed at_renewed here_renewed))

    -- and its tiles are counted over that
    pub counts_now : EndsStay meaning_of (graph_in p.reel renewed.next) → EndsReached meaning_of (graph_in p.reel renewed.next)
        → EndsAgree meaning_of (graph_in p.reel renewed.next) → (side : ℕ) (count : TileCount) → CountsFrame renewed.scene side renewed.frame count
        → CountsTiles (nodes_in p.reel small renewed.next) side (moment_ends p.reel small side renewed.next) count
    counts_now stay lead agree side count tiles =
        let t = pos (frame_in p.reel renewed.next) in
        let store = renewed.scene.store in
        let got = got_images store in
        let are = small_images p.reel.scale plan.size (seen_by renewed) in
        tiles_same p.reel renewed.next lead (fetched_in store) small are
        (agree (fetched_in store) small t got are (λ k f wanted. same_images p.reel.scale (seen_by renewed) store read.got k f)) side count
        (tiles_same p.reel renewed.next lead (images_in store) (fetched_in store) got
        (stay (images_in store) (fetched_in store) t (store_images store store.sound) got (images_among store) wants_in) side count
        (subst (λ (t : ℕ). Counts (graph_in p.reel renewed.next) t) (sym (frame_is p renewed at_renewed here_renewed))
        (subst (λ (g : Graph). Counts g renewed.frame) (graph_is p renewed at_renewed here_renewed) tiles)))
      where
        Counts : Graph → ℕ → Type 0
        Counts g t =
            let nodes = graph_nodes meaning_of g (images_in renewed.scene.store) in
            CountsTiles nodes side (window_ends nodes g.output side g.project (pos t)) count

-- a scene has grown to itself
pub grown_itself : (s : Shot Shipped) → HasGrownTo s s
grown_itself s = record { written = refl; takes = refl; among = λ n f image there. there }

pub grown_on : (a b c : Shot Shipped) → HasGrownTo a b → HasGrownTo b c → HasGrownTo a c
grown_on a b c first then =
    record {
      written = then.written ∙ first.written;
      takes = then.takes ∙ first.takes;
      among = λ n f image there. then.among n f image (first.among n f image there);
    }

-- a scene at its next take has grown to it
pub grown_taken : (s : Shot Shipped) → HasGrownTo s (taken s)
grown_taken s = record { written = refl; takes = refl; among = λ n f image there. there }

module _ (p : Plan) (frames : List SourceFrame) (old begun came renewed drawn : Making) (may : MayMake p p.uses 1 old)
    (h : HasGone p frames old begun came renewed drawn)
    (ends : EndsStay meaning_of renewed.scene.graph) (lead : EndsReached meaning_of renewed.scene.graph)
    (agree : EndsAgree meaning_of renewed.scene.graph) where
  abbrev making : IsMaking p old
  making = may.making

  abbrev ready : IsAt p renewed
  ready = at_renewed p begun came renewed h.at h.here h.rest_came h.graph h.script h.rest_renewed

  abbrev inside : renewed.frame ≤ renewed.last
  inside = here_renewed p begun came renewed h.at h.here h.rest_came h.graph h.script h.rest_renewed

  next_was : renewed.next ≡ old.next
  next_was =
      next_renewed p begun came renewed h.at h.here h.rest_came h.graph h.script h.rest_renewed
      ∙ ap (λ (m : Making). m.next) h.rest_begun

  low : renewed.next < moments_in p.reel
  low = let few = may.few in let same = next_was in omega (arith, few, same)

  same_scene : renewed.scene ≡ came.scene
  same_scene = ap (λ (m : Making). m.scene) h.rest_renewed

  read : HoldsScaled p.reel.scale p.uses (renewed.next + 1) (seen_by renewed) renewed.scene.store
  read =
      let q = p.reel.scale in
      subst (λ (s : Shot Shipped). HoldsScaled q p.uses (renewed.next + 1) (seen_by renewed) s.store) (sym same_scene)
      (subst (λ (ss : List SourceFrame). HoldsScaled q p.uses (renewed.next + 1) ss came.scene.store) (sym (ap seen_by h.rest_renewed))
      (subst (λ (n : ℕ). HoldsScaled q p.uses (n + 1) (seen_by came) came.scene.store) (sym next_was) h.read))

  -- all that was handed in before, and what came
  got : seen_by renewed ≡ seen_by old ++ frames
  got =
      ap seen_by h.rest_renewed ∙ h.seen ∙ ap (λ (m : Making). seen_by m ++ frames) h.rest_begun

  abbrev small_old : Images
  small_old = scaled_in p.reel (images_of (seen_by old))

  abbrev small_now : Images
  small_now = scaled_in p.reel (images_of (seen_by renewed))

  grown : HasGrown small_old small_now
  grown =
      small_grow p.reel.scale (images_of (seen_by old)) (images_of (seen_by renewed))
      (subst (λ (xs : List SourceFrame). HasGrown (images_of (seen_by old)) (images_of xs)) (sym got)
      (images_grow (seen_by old) frames))

  before : (j : ℕ) → j < renewed.next → WantsIn p.reel j small_old
  before j under =
      let same = next_was in
      small_wanted p.reel j (images_of (seen_by old))
      (has_wanted p.reel p.uses may.plan.are old.next (seen_by old) making.read.seen_are j (omega (arith, under, low)) (omega (arith, under, same)))

  held_ends : EndsHold p.reel renewed.next
  held_ends = subst (EndsHold p.reel) (sym next_was) making.hold

  abbrev crew : Crew
  crew = making.crew

  there : came.crew ≡ Some crew
  there = ap (λ (m : Making). m.crew) h.rest_came ∙ ap (λ (m : Making). m.crew) h.rest_begun ∙ making.crew_is.there

  abbrev again : (new : Crew) × (renewed.crew ≡ Some new) × IsRenewed renewed.scene crew new
  again = h.again crew there

  abbrev shown : HasDrawn renewed.frame again.0 renewed drawn
  shown = h.drew again.0 again.1

  grid : again.0.shared.grid ≡ p.side
  grid = again.2.grid ∙ making.crew_is.side

  capacity : again.0.shared.directory.capacity ≡ p.cache
  capacity = again.2.capacity ∙ making.crew_is.capacity

  wholes : p.cache ≡ 0 → again.0.shared.wholes.capacity ≡ 0
  wholes none = again.2.whole_capacity ∙ making.crew_is.wholes none

  sum_was : renewed.sum ≡ old.sum
  sum_was =
      ap (λ (m : Making). m.sum) h.rest_renewed ∙ ap (λ (m : Making). m.sum) h.rest_came ∙ ap (λ (m : Making). m.sum) h.rest_begun

  more : drawn.sum ≡ both_counts old.sum shown.count
  more = shown.sum ∙ ap (λ (s : TileCount). both_counts s shown.count) sum_was

  graph_now : renewed.scene.graph ≡ graph_in p.reel renewed.next
  graph_now = graph_is p renewed ready inside

  ends_now : EndsStay meaning_of (graph_in p.reel renewed.next)
  ends_now = subst (λ (g : Graph). EndsStay meaning_of g) graph_now ends

  lead_now : EndsReached meaning_of (graph_in p.reel renewed.next)
  lead_now = subst (λ (g : Graph). EndsReached meaning_of g) graph_now lead

  agree_now : EndsAgree meaning_of (graph_in p.reel renewed.next)
  agree_now = subst (λ (g : Graph). EndsAgree meaning_of g) graph_now agree

  one : CountsTiles (nodes_in p.reel small_now renewed.next) p.side (moment_ends p.reel small_now p.side renewed.next) shown.count
  one =
      counts_now p begun came renewed h.at h.here h.rest_came h.graph h.script h.rest_renewed may.plan low read ends_now lead_now
      agree_now p.side shown.count (subst (λ (s : ℕ). CountsFrame renewed.scene s renewed.frame shown.count) grid shown.tiles)

  counted : HasCounted p.reel small_now p.side p.cache (renewed.next + 1) drawn.sum
  counted =
      let q = p.reel.scale in
      let size = may.plan.size in
      counted_more p.reel small_now p.side p.cache renewed.next old.sum shown.count drawn.sum more
      (counted_grown p.reel renewed.next held_ends small_old small_now
      (small_images q size (seen_by old)) (small_images q size (seen_by renewed)) grown p.side before p.cache old.sum
      (subst (λ (n : ℕ). HasCounted p.reel small_old p.side p.cache n old.sum) (sym next_was) making.counted))
      one (λ none. shown.none_kept (capacity ∙ none) (wholes none))

  ends_more : EndsHold p.reel (renewed.next + 1)
  ends_more j under = elim (cases_lt j renewed.next) [
    | inl before ↦ held_ends j before
    | inr behind ↦
        let at : renewed.next ≡ j = omega (arith, under, behind) in
        subst (λ (i : ℕ). EndsStay meaning_of (graph_in p.reel i) × EndsReached meaning_of (graph_in p.reel i)) at (ends_now, lead_now)
  ]

  weighs : seat_weight shown.after.seat ≡ count_weight drawn.sum
  weighs =
      shown.keeps.weight
      ∙ ap (λ (w : ℕ × ℕ). plus w (count_weight shown.count)) (again.2.weight ∙ making.crew_is.weight)
      ∙ sym (ap count_weight more)

  scene_drawn : drawn.scene ≡ renewed.scene
  scene_drawn = ap (λ (m : Making). m.scene) h.rest_drawn

  abbrev after_drawn : Making
  after_drawn =
      record renewed {
        crew = drawn.crew;
        sum = drawn.sum;
        spare = drawn.spare;
        frame = renewed.frame + 1;
        next = renewed.next + 1;
      }

  made : IsMaking p after_drawn
  made =
      let then = at_next p renewed ready inside in
      record {
        at = record {
          scale = then.scale;
          written = then.written;
          takes = then.takes;
          graph = then.graph;
          left = then.left;
          file = then.file;
          first = then.first;
          last = then.last;
          from = then.from;
          to = then.to;
          next = then.next;
        };
        read = read;
        crew = shown.after;
        crew_is = record {
          there = shown.there;
          side = ap (λ s. s.grid) shown.keeps.shared ∙ grid;
          capacity = ap (λ s. s.directory.capacity) shown.keeps.shared ∙ capacity;
          wholes = λ none. ap (λ s. s.wholes.capacity) shown.keeps.shared ∙ wholes none;
          weight = weighs;
        };
        knew = subst (λ (s : Shot Shipped). KnewScene s shown.after) scene_drawn
            (record { was = drawn.scene; is = shown.is; nodes = refl; grown = grown_itself drawn.scene });
        hold = ends_more;
        counted = counted;
      }

  -- then what stands there is of the plan again
  pub goes_on : (final : Making) → final ≡ record drawn { frame = drawn.frame + 1; next = drawn.next + 1 } → IsMaking p final
  goes_on final is =
      let same : record drawn { frame = drawn.frame + 1; next = drawn.next + 1 } ≡ after_drawn =
      ap (λ (m : Making). record m { frame = m.frame + 1; next = m.next + 1 }) h.rest_drawn in
      subst (IsMaking p) (sym (is ∙ same)) made

-- those who rendered knew the scene before the take was begun and the frames came
pub knew : (p : Plan) (old begun came : Making) → IsMaking p old
    → begun ≡ record old { scene = begun.scene; takes = begun.takes; file = begun.file; frame = begun.frame }
    → HasGrownTo old.scene begun.scene → length begun.scene.graph.nodes ≡ length old.scene.graph.nodes
    → came ≡ record begun { scene = came.scene; seen = came.seen } → came.scene.graph ≡ begun.scene.graph → HasGrownTo begun.scene came.scene
    → (crew : Crew) × (came.crew ≡ Some crew) × KnewScene came.scene crew
knew p old begun came making rest_begun first nodes rest_came graph then =
    let k = making.knew in (
      making.crew,
      ap (λ (m : Making). m.crew) rest_came ∙ ap (λ (m : Making). m.crew) rest_begun ∙ making.crew_is.there,
      record {
        was = k.was;
        is = k.is;
        nodes = ap (λ (g : Graph). length g.nodes) graph ∙ nodes ∙ k.nodes;
        grown = grown_on k.was old.scene came.scene k.grown (grown_on old.scene begun.scene came.scene first then);
      },
    )
