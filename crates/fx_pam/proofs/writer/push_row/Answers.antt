use Rattle.std.proofs.Common.{◌≡◌, ℕ, List, ◌++◌, if◌then◌else◌, Result, Ok, Err, OnOk, OnErr, length, take, sym}
use Rattle.std.proofs.Common.{ap, ◌∙◌, arith}
use Rattle.std.specs.Result.{is_ok}
use Rattle.std.proofs.lemmas.Int.{ints}
use Rattle.std.proofs.lemmas.Result.{on_ok_weaker}
use Rattle.fx_base.specs.Rect.{columns}
use Rattle.fx_image.specs.Stored.{image_of}
use Rattle.fx_pam.specs.Laws.{components_for}
use Rattle.fx_pam.specs.Text.{row_bytes}
use Rattle.fx_pam.proofs.WrittenRows.{IsRow, row_of_view, row_bytes-whole, row_bytes-colours, writes_each}
use Rattle.fx_pam.proofs.WrittenImage.{still_front}
use Rattle.fx_pam.proofs.writer.push_row.Goals as goal

-- what was pushed is the text
pushed : {A B : Type 0} (r : Result A B) (old row text new : List ℕ) → new ≡ (if is_ok r then old ++ row else old) → text ≡ row → OnOk r (new ≡ old ++ text)
pushed (Ok a) old row text new is same = is ∙ ap (λ bytes. old ++ bytes) (sym same)
pushed (Err e) old row text new is same = _

-- at an error nothing was
kept : {A B : Type 0} (r : Result A B) (old row new : List ℕ) → new ≡ (if is_ok r then old ++ row else old)
    → OnErr r (take (length old) new ≡ old)
kept (Ok a) old row new is = _
kept (Err e) old row new is = still_front old new is

pub returns-in-RgbAlpha-clause-err : goal.returns-in-RgbAlpha-clause-err
returns-in-RgbAlpha-clause-err c =
    kept c.extend_from_slice.result c.args.out.now.items c.row-row.result.now _ c.extend_from_slice.ensures.items

pub returns-in-RgbAlpha-clause-ok : goal.returns-in-RgbAlpha-clause-ok
returns-in-RgbAlpha-clause-ok c =
    let image = c.args.image.now in
    let view = c.view-view in
    let row : IsRow image c.args.y c.row-row.result.now =
    row_of_view view.result.image.now image view.result.rect _ c.args.y c.row-row.result.now view.ensures.value (view.ensures.rect ∙ c.rect.ensures) (omega (arith, ints)) c.requires.inside.0 c.requires.inside.1
    c.row-row.ensures.len c.row-row.ensures.pixels (λ i low. c.are_bytes.ensures i) in
    let whole = row_bytes-whole c.args.format image c.args.y c.row-row.result.now c.requires.components (writes_each c.args.format c.in-RgbAlpha.is) row in
    pushed c.extend_from_slice.result c.args.out.now.items c.row-row.result.now _ _ c.extend_from_slice.ensures.items whole

pub returns-in-Rgb-clause-ok : goal.returns-in-Rgb-clause-ok
returns-in-Rgb-clause-ok c =
    let image = c.args.image.now in
    let view = c.view-view in
    let row : IsRow image c.args.y c.row-row.result.now =
    row_of_view view.result.image.now image view.result.rect _ c.args.y c.row-row.result.now view.ensures.value (view.ensures.rect ∙ c.rect.ensures) (omega (arith, ints)) c.requires.inside.0 c.requires.inside.1
    c.row-row.ensures.len c.row-row.ensures.pixels (λ i low. c.are_bytes.ensures i) in
    let colours = row_bytes-colours image c.depth.result c.args.y c.row-row.result.now c.depth.ensures (c.requires.components ∙ ap components_for c.in-Rgb.is) row in
    let text = ap (λ format. row_bytes format (image_of image) c.args.y (columns image.rect)) c.in-Rgb.is ∙ colours in
    on_ok_weaker c.push_colours.result (λ is. is ∙ ap (λ bytes. c.args.out.now.items ++ bytes) (sym text)) c.push_colours.ensures.ok
