use Rattle.std.proofs.Common.{◌≡◌, pos, List, ℕ, ◌++◌, ◌∙◌, ap}
use Rattle.fx_pixel.specs.declared.Format.{Format}
use Rattle.fx_image.specs.Image.{Image, SameImage}
use Rattle.fx_image.specs.Stored.{image_of}
use Rattle.fx_pam.specs.Text.{pam_text}
use Rattle.fx_pam.proofs.TextLaws.{text-same}
use Rattle.fx_scene.specs.Scenes.{Shot, images_in, picture}
use Rattle.fx_shipped.specs.declared.shipped.Shipped.{Shipped}
use Rattle.fx_shipped.specs.Shipped.{meaning_of}
use Rattle.fx_modes.specs.declared.making.Making.{Making}
use Rattle.fx_modes.specs.Graphs.{Graph}
use Rattle.fx_modes.specs.Reels.{picture_text}
use Rattle.fx_modes.proofs.making.Making.text.Goals as goal

text_as : (bytes : List ℕ) (format other : Format) (image shown : Image) → bytes ≡ pam_text format image → format ≡ other
    → SameImage image shown → bytes ≡ pam_text other shown
text_as bytes format other image shown text is same =
    text ∙ ap (λ (f : Format). pam_text f image) is ∙ text-same other image shown same

pub returns-clause-text : goal.returns-clause-text
unfolding picture_text
returns-clause-text g c =
    let scene = c.args.self.now.scene in
    let h : Graph = scene.graph in
    let image = image_of c.in_ok-image.image in
    let format = c.graph.result.now.format in
    let text : c.write.new.out.items ≡ pam_text format image =
    c.in_ok-write.ensures.ok ∙ ap (λ bytes. bytes ++ pam_text format image) c.clear.ensures.items in
    let is : format ≡ h.format =
    ap (λ (s : Graph). s.format) c.graph.ensures.shown ∙ ap (λ (s : Shot Shipped). s.graph.format) (ap (λ (m : Making). m.scene) c.in_ok-image.ensures.rest) in
    text_as c.write.new.out.items format h.format image (picture meaning_of h (images_in scene.store) (pos c.args.self.now.frame))
    text is c.in_ok-image.ensures.picture

pub returns-clause-drawn : goal.returns-clause-drawn
returns-clause-drawn g c = λ crew there.
    let drawn = c.in_ok-image.ensures.drawn crew there in
    record {
      count = drawn.count;
      tiles = drawn.tiles;
      none_kept = drawn.none_kept;
      sum = drawn.sum;
      after = drawn.after;
      there = drawn.there;
      is = drawn.is;
      keeps = drawn.keeps;
    }
