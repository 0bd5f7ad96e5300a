use Rattle.std.proofs.Common.{◌≡◌, ◌+◌, ◌∙◌, ℕ, List, [], sym, ap, subst, refl, arith}
use Rattle.fx_seq.specs.Lists.{AreFramesOf}
use Rattle.fx_seq.specs.Moments.{AreOnce, due_at}
use Rattle.fx_seq.specs.declared.source.SourceFrame.{SourceFrame}
use Rattle.fx_seq.specs.declared.store.Store.{Store}
use Rattle.fx_seq.specs.declared.used.Use.{Use}
use Rattle.fx_region.specs.Held.{EndsReached, EndsStay}
use Rattle.fx_life.specs.Posts.{HasLife}
use Rattle.fx_proxy.specs.Reduced.{IsScale}
use Rattle.fx_scene.specs.Depends.{PicturesDependOnWanted}
use Rattle.fx_scene.specs.Holds.{PicturesStay}
use Rattle.fx_shipped.specs.Shipped.{meaning_of, number_of}
use Rattle.fx_modes.specs.declared.making.Making.{Making}
use Rattle.fx_modes.specs.Graphs.{Graph}
use Rattle.fx_plan.specs.Agree.{EndsAgree}
use Rattle.fx_modes.specs.Making.{HoldsScaled, MayMake, seen_by}
use Rattle.fx_modes.specs.Moments.{images_of}
use Rattle.fx_modes.specs.Reels.{file_name, file_text, scaled_in}
use Rattle.fx_modes.proofs.MakingLemmas.{at_renewed, frame_low, goes_on, here_renewed, knew, moments_few, name_is, next_renewed, read_at, read_renewed, text_now, wants_now}
use Rattle.fx_modes.proofs.ReadLemmas.{uses_are_once}
use Rattle.fx_modes.proofs.TakeLemmas.{life_at}
use Rattle.fx_modes.proofs.making.Making.made.Goals as goal

pub begin-requires : goal.begin-requires
begin-requires g c = let w = c.requires.may in record { at = (w.0, w.1.plan, w.1.making.at) }

pub advance-requires : goal.advance-requires
advance-requires g c =
    let p = c.requires.may.0 in
    let may = c.requires.may.1 in
    let uses = c.args.uses.now in
    let begun = c.in_ok-begin.ensures in
    let old = c.args.self.now in
    let beg = c.begin.new.self in
    let next : old.next ≡ beg.next = sym (ap (λ (m : Making). m.next) begun.rest) in
    let seen : seen_by old ≡ seen_by beg = sym (ap seen_by begun.rest) in
    let scale : p.reel.scale ≡ beg.scale = sym (ap (λ (m : Making). m.scale) begun.rest ∙ may.making.at.scale) in
    record {
      scale = subst IsScale scale may.plan.size;
      once = subst (λ (us : List Use). AreOnce us) may.uses_are (uses_are_once p.reel p.uses may.plan.are);
      read =
          subst (λ (q : ℕ). HoldsScaled q uses beg.next (seen_by beg) beg.scene.store) scale
          (subst (λ (s : Store). HoldsScaled p.reel.scale uses beg.next (seen_by beg) s) (sym begun.store)
          (subst (λ (ss : List SourceFrame). HoldsScaled p.reel.scale uses beg.next ss old.scene.store) seen
          (subst (λ (n : ℕ). HoldsScaled p.reel.scale uses n (seen_by old) old.scene.store) next
          (subst (λ (us : List Use). HoldsScaled p.reel.scale us old.next (seen_by old) old.scene.store) may.uses_are may.making.read))));
      due = subst (λ (n : ℕ). AreFramesOf (due_at uses n) c.args.frames.items) next c.requires.due;
    }

pub renew-requires : goal.renew-requires
renew-requires g c =
    let begun = c.in_ok-begin.ensures in
    let came = c.in_ok-advance.ensures in
    record {
      knew = knew c.requires.may.0 c.args.self.now c.begin.new.self c.advance.new.self c.requires.may.1.making begun.rest begun.grown begun.nodes
          came.rest came.graph came.grown;
    }

pub text-requires-clause-life : goal.text-requires-clause-life
text-requires-clause-life g c κs within =
    let p = c.requires.may.0 in
    let may = c.requires.may.1 in
    let begun = c.in_ok-begin.ensures.at p may.plan may.making.at in
    let came = c.in_ok-advance.ensures in
    let ren = c.renew.new.self in
    let at = at_renewed p c.begin.new.self c.advance.new.self ren begun.0 begun.1 came.rest came.graph came.script c.in_ok-renew.ensures.rest in
    subst (λ (h : Graph). HasLife number_of h c.args.life.now) (sym at.graph)
    (life_at number_of p.reel.graph p.reel.edits ren.scene.script.take c.args.life.now
    (subst (λ (h : Graph). HasLife number_of h c.args.life.now) may.making.at.written c.requires.life))

pub text-requires-clause-crew : goal.text-requires-clause-crew
text-requires-clause-crew g c κs within =
    let making = c.requires.may.1.making in
    let there =
    ap (λ (m : Making). m.crew) c.in_ok-advance.ensures.rest ∙ ap (λ (m : Making). m.crew) c.in_ok-begin.ensures.rest ∙ making.crew_is.there in
    let again = c.in_ok-renew.ensures.renewed making.crew there in
    (again.0, again.1, again.2.is)

pub text-requires-clause-frame : goal.text-requires-clause-frame
text-requires-clause-frame g c κs within =
    let p = c.requires.may.0 in
    let may = c.requires.may.1 in
    let begun = c.in_ok-begin.ensures.at p may.plan may.making.at in
    let came = c.in_ok-advance.ensures in
    let ren = c.renew.new.self in
    let at = at_renewed p c.begin.new.self c.advance.new.self ren begun.0 begun.1 came.rest came.graph came.script c.in_ok-renew.ensures.rest in
    let here = here_renewed p c.begin.new.self c.advance.new.self ren begun.0 begun.1 came.rest came.graph came.script c.in_ok-renew.ensures.rest in
    frame_low p ren at here may.plan

pub text-requires-clause-holds : goal.text-requires-clause-holds
text-requires-clause-holds g c κs within =
    let p = c.requires.may.0 in
    let may = c.requires.may.1 in
    let old = c.args.self.now in
    let begin = c.in_ok-begin.ensures in
    let begun = begin.at p may.plan may.making.at in
    let came = c.in_ok-advance.ensures in
    let ren = c.renew.new.self in
    let rest = c.in_ok-renew.ensures.rest in
    let next : ren.next ≡ c.args.self.now.next =
    next_renewed p c.begin.new.self c.advance.new.self ren begun.0 begun.1 came.rest came.graph came.script rest ∙ ap (λ (m : Making). m.next) begin.rest in
    let few = may.few in
    let read = read_renewed p c.begin.new.self c.advance.new.self ren begun.0 begun.1 came.rest came.graph came.script rest c.args.uses.now may.uses_are (read_at p old c.begin.new.self c.advance.new.self may.making.at begin.rest c.args.uses.now came.read) in
    wants_now p c.begin.new.self c.advance.new.self ren begun.0 begun.1 came.rest came.graph came.script rest may.plan (omega (arith, few, next)) read

pub overflow_add-self-2 : goal.overflow_add-self-2
overflow_add-self-2 g c =
    let may = c.requires.may.1 in
    let few = may.few in
    let all = moments_few c.requires.may.0 may.plan in
    let next : c.text.new.self.next ≡ c.args.self.now.next =
    ap (λ (m : Making). m.next) c.in_ok-bytes.ensures.rest ∙ ap (λ (m : Making). m.next) c.in_ok-renew.ensures.rest
    ∙ ap (λ (m : Making). m.next) c.in_ok-advance.ensures.rest ∙ ap (λ (m : Making). m.next) c.in_ok-begin.ensures.rest in
    omega (arith, few, all, next)

pub returns-clause-file : goal.returns-clause-file
returns-clause-file g c = λ p may.
    let old = c.args.self.now in
    let begin = c.in_ok-begin.ensures in
    let begun = begin.at p may.plan may.making.at in
    let came = c.in_ok-advance.ensures in
    let ren = c.renew.new.self in
    let rest = c.in_ok-renew.ensures.rest in
    let at = at_renewed p c.begin.new.self c.advance.new.self ren begun.0 begun.1 came.rest came.graph came.script rest in
    let here = here_renewed p c.begin.new.self c.advance.new.self ren begun.0 begun.1 came.rest came.graph came.script rest in
    let next : ren.next ≡ c.args.self.now.next =
    next_renewed p c.begin.new.self c.advance.new.self ren begun.0 begun.1 came.rest came.graph came.script rest ∙ ap (λ (m : Making). m.next) begin.rest in
    let few = may.few in
    let read = read_renewed p c.begin.new.self c.advance.new.self ren begun.0 begun.1 came.rest came.graph came.script rest c.args.uses.now may.uses_are (read_at p old c.begin.new.self c.advance.new.self may.making.at begin.rest c.args.uses.now came.read) in
    let stay : PicturesStay meaning_of ren.scene.graph [] =
    subst (λ (h : Graph). PicturesStay meaning_of h []) c.graph.ensures.shown (c.more_is_same.ensures.pictures [] (λ k. tt)) in
    let depend : PicturesDependOnWanted meaning_of ren.scene.graph =
    subst (λ (h : Graph). PicturesDependOnWanted meaning_of h) c.graph.ensures.shown c.more_is_same.ensures.depend in
    let seen : seen_by ren ≡ seen_by c.text.new.self = sym (ap seen_by c.in_ok-bytes.ensures.rest) in
    record {
      name = c.in_ok-name.ensures ∙ name_is p ren at here ∙ ap (file_name p.reel) next;
      text =
          c.in_ok-bytes.ensures.text
          ∙ text_now p c.begin.new.self c.advance.new.self ren begun.0 begun.1 came.rest came.graph came.script rest may.plan (omega (arith, few, next)) read stay depend
          ∙ ap (λ (ss : List SourceFrame). file_text p.reel (scaled_in p.reel (images_of ss)) ren.next) seen
          ∙ ap (file_text p.reel (scaled_in p.reel (images_of (seen_by c.text.new.self)))) next;
    }

pub returns-clause-making : goal.returns-clause-making
returns-clause-making g c = λ p may.
    let begin = c.in_ok-begin.ensures in
    let begun = begin.at p may.plan may.making.at in
    let came = c.in_ok-advance.ensures in
    let ren = c.renew.new.self in
    let txt = c.text.new.self in
    let old = c.args.self.now in
    let next : c.begin.new.self.next ≡ old.next = ap (λ (m : Making). m.next) begin.rest in
    let ends : EndsStay meaning_of ren.scene.graph = subst (λ (h : Graph). EndsStay meaning_of h) c.graph.ensures.shown c.more_is_same.ensures.ends in
    let agree : EndsAgree meaning_of ren.scene.graph =
    subst (λ (h : Graph). EndsAgree meaning_of h) c.graph.ensures.shown c.more_is_same.ensures.agree in
    let lead : EndsReached meaning_of ren.scene.graph =
    subst (λ (h : Graph). EndsReached meaning_of h) c.graph.ensures.shown c.more_is_same.ensures.reached in
    let final : Making = record txt { frame = txt.frame + 1; next = txt.next + 1 } in
    let of : MayMake p p.uses 1 old = record { plan = may.plan; uses_are = refl; few = may.few; making = may.making } in
    goes_on p c.args.frames.items old c.begin.new.self c.advance.new.self ren txt of
    (record {
      rest_begun = begin.rest;
      store = begin.store;
      at = begun.0;
      here = begun.1;
      rest_came = came.rest;
      graph = came.graph;
      script = came.script;
      read =
          let new = c.advance.new.self in
          let q = p.reel.scale in
          subst (λ (us : List Use). HoldsScaled q us (old.next + 1) (seen_by new) new.scene.store) (sym may.uses_are)
          (subst (λ (n : ℕ). HoldsScaled q c.args.uses.now (n + 1) (seen_by new) new.scene.store) next
          (read_at p old c.begin.new.self new may.making.at begin.rest c.args.uses.now came.read));
      seen = came.seen;
      rest_renewed = c.in_ok-renew.ensures.rest;
      again = c.in_ok-renew.ensures.renewed;
      rest_drawn = c.in_ok-bytes.ensures.rest;
      drew = c.in_ok-bytes.ensures.drawn;
    }) ends lead agree final refl
