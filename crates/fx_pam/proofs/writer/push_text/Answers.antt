use Rattle.std.proofs.Common.{◌≡◌, ◌∙◌, ◌++◌, ap, string_bytes, append_assoc, ℕ, Result, Ok, Err, OnErr, rules}
use Rattle.std.proofs.lemmas.Result.{on_ok_weaker, on_err_weaker}
use Rattle.fx_base.specs.Rect.{columns, rows}
use Rattle.fx_pixel.specs.declared.Format.{Format}
use Rattle.fx_pixel.specs.Pixel.{greatest}
use Rattle.fx_image.specs.Stored.{image_of}
use Rattle.fx_pam.specs.Text.{header, raster}
use Rattle.fx_pam.proofs.WrittenImage.{begun_with, kept_front, still_front}
use Rattle.fx_pam.proofs.writer.push_text.Goals as goal

on_err : {A B : Type 0} {P : Type 0} (r : Result A B) → P → OnErr r P
on_err (Ok a) p = _
on_err (Err e) p = p

same_header : (format : Format) {w h m wide high most : ℕ} → w ≡ wide → h ≡ high → m ≡ most → header w h format m ≡ header wide high format most
same_header format {w} {h} {m} {wide} {high} {most} p q r =
    ap (λ n. header n h format m) p ∙ ap (λ n. header wide n format m) q ∙ ap (header wide high format) r

pub returns : goal.returns
returns c =
    let image = c.args.image.now in
    let old = c.args.out.now.items in
    let begun = c.extend_from_slice.new.self.items in
    let head = header (columns image.rect) (rows image.rect) c.args.format (greatest image.depth) in
    let wide : c.gap-width.result ≡ columns image.rect = search rules in
    let high : c.gap-height.result ≡ rows image.rect = search rules in
    let text : string_bytes c.in_ok-header.header ≡ head =
    c.in_ok-header.ensures ∙ same_header c.args.format wide high (c.greatest.ensures ∙ ap greatest c.depth.ensures) in
    let with_head : begun ≡ old ++ head =
    c.in_ok-extend_from_slice.ensures.items
    ∙ ap (λ bs. bs ++ c.as_bytes.result.now) c.reserve_exact.ensures.items
    ∙ ap (λ bs. old ++ bs) (c.as_bytes.ensures.value ∙ text) in
    let below = raster c.args.format (image_of image) (rows image.rect) in
    record {
      ok = on_ok_weaker c.push_rows.result (λ is. is ∙ ap (λ bs. bs ++ below) with_head ∙ append_assoc old head below) c.push_rows.ensures.ok;
      err = on_err_weaker c.push_rows.result (λ is. begun_with old head begun c.push_rows.new.out.items with_head is) c.push_rows.ensures.err;
    }

pub returns-in_err-header-clause-err : goal.returns-in_err-header-clause-err
returns-in_err-header-clause-err c = on_err c.from_residual.result (kept_front c.args.out.now.items)

pub returns-in_err-reserve_exact-clause-err : goal.returns-in_err-reserve_exact-clause-err
returns-in_err-reserve_exact-clause-err c =
    on_err c.from_residual-in_err-reserve_exact.result
    (still_front c.args.out.now.items c.reserve_exact.new.self.items c.reserve_exact.ensures.items)
