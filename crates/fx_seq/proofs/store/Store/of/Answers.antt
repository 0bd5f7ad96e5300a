use Rattle.std.proofs.Common.{◌≡◌, ◌++◌, List, sym, subst, ap, ◌∙◌}
use Rattle.fx_seq.specs.declared.kept.Kept.{Kept}
use Rattle.fx_seq.specs.declared.source.SourceFrame.{SourceFrame}
use Rattle.fx_seq.specs.Lists.{frames_in, seen_in}
use Rattle.fx_seq.specs.Frames.{AreAmong}
use Rattle.fx_seq.proofs.LookLemmas.{frames_sound}
use Rattle.fx_seq.proofs.store.Store.of.Goals as goal

pub invariant_of-result : goal.invariant_of-result
invariant_of-result c =
    let came = c.args.frames.items in
    let noted : seen_in c.note.new.got.items ≡ came =
    (rw c.deref.ensures.value at c.note.ensures)
    ∙ ap (λ (gs : List (Kept SourceFrame)). seen_in gs ++ came) c.in_ok-got.ensures.items in
    record {
      sound = frames_sound came;
      known = frames_sound (seen_in c.note.new.got.items);
      among = subst (λ (es : List SourceFrame). AreAmong (frames_in came) (frames_in es)) (sym noted) (λ n f image h. h);
    }
