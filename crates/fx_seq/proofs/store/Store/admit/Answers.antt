use Rattle.std.proofs.Common.{◌≡◌, ◌++◌, List, filter, sym, subst}
use Rattle.fx_seq.specs.declared.kept.Kept.{Kept}
use Rattle.fx_seq.specs.declared.source.SourceFrame.{SourceFrame}
use Rattle.fx_seq.specs.Lists.{frames_in, is_used_frame, seen_in}
use Rattle.fx_seq.specs.Frames.{AreAmong}
use Rattle.fx_seq.proofs.LookLemmas.{among_more, frames_sound}
use Rattle.fx_seq.proofs.store.Store.admit.Goals as goal

pub invariant_of-self : goal.invariant_of-self
invariant_of-self c =
    let s = c.args.self.now in
    record {
      sound = frames_sound c.reserve.new.self.items;
      known = s.known;
      among = subst (λ (fs : List SourceFrame). AreAmong (frames_in fs) (frames_in (seen_in s.got.items))) (sym c.reserve.ensures.items) s.among;
    }

pub invariant_of-self-then-is_err-2 : goal.invariant_of-self-then-is_err-2
invariant_of-self-then-is_err-2 c =
    let s = c.args.self.now in
    record {
      sound = frames_sound c.reserve.new.self.items;
      known = frames_sound (seen_in c.reserve-2.new.self.items);
      among = subst (λ (gs : List (Kept SourceFrame)). AreAmong (frames_in c.reserve.new.self.items) (frames_in (seen_in gs))) (sym c.reserve-2.ensures.items)
          (subst (λ (fs : List SourceFrame). AreAmong (frames_in fs) (frames_in (seen_in s.got.items))) (sym c.reserve.ensures.items) s.among);
    }

pub invariant_of-self-2 : goal.invariant_of-self-2
invariant_of-self-2 c =
    let s = c.args.self.now in
    let came = c.args.frames.items in
    let got = seen_in s.got.items in
    let still = filter (is_used_frame c.args.uses.now c.args.moment) s.frames.items in
    let frames : c.turn_over.new.frames.items ≡ still ++ came =
    subst (λ (fs : List SourceFrame). c.turn_over.new.frames.items ≡ filter (is_used_frame c.args.uses.now c.args.moment) fs ++ came) c.reserve.ensures.items c.turn_over.ensures in
    let noted : seen_in c.note.new.got.items ≡ got ++ came =
    subst (λ (gs : List (Kept SourceFrame)). seen_in c.note.new.got.items ≡ seen_in gs ++ came) c.reserve-2.ensures.items
    (rw c.deref.ensures.value at c.note.ensures) in
    record {
      sound = frames_sound c.turn_over.new.frames.items;
      known = frames_sound (seen_in c.note.new.got.items);
      among = subst (λ (fs : List SourceFrame). AreAmong (frames_in fs) (frames_in (seen_in c.note.new.got.items))) (sym frames)
          (subst (λ (es : List SourceFrame). AreAmong (frames_in (still ++ came)) (frames_in es)) (sym noted)
          (among_more c.args.uses.now c.args.moment s.frames.items came got s.among c.requires.new));
    }
