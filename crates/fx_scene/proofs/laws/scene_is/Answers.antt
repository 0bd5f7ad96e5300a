use Rattle.std.proofs.Common.{subst}
use Rattle.fx_seq.specs.declared.store.Store.{Store}
use Rattle.fx_scene.specs.Depends.{AreImages}
use Rattle.fx_scene.specs.Right.{HasGrown}
use Rattle.fx_scene.specs.Scenes.{fetched_in, images_in}
use Rattle.fx_scene.proofs.StoreLemmas.{fetched_images, held_fetched, store_images}
use Rattle.fx_scene.proofs.laws.scene_is.Goals as goal

pub returns : goal.returns
returns g c =
    let store = c.store-store.result.now in
    record {
      played = c.is_played.ensures;
      held = subst (λ (s : Store). AreImages (images_in s)) c.store-store.ensures (store_images store store.sound);
      fetched = subst (λ (s : Store). AreImages (fetched_in s)) c.store-store.ensures (fetched_images store store.known);
      among = subst (λ (s : Store). HasGrown (images_in s) (fetched_in s)) c.store-store.ensures (held_fetched store store.among);
    }
