use Rattle.std.proofs.Common.{◌≡◌, ◌-◌, ℕ, List, length, take, drop, true, if◌then◌else◌, Some, sym, ap, ◌∙◌}
use Rattle.std.proofs.lemmas.List.{take_rest}
use Rattle.fx_pam.specs.declared.fault.PamFault.TheVariants.{NotPam}
use Rattle.fx_pam.specs.Header.{HeaderReading, Reads, IsWrongAt, lines_of, header_of, no_numbers}
use Rattle.fx_pam.specs.Reading.{header_with, header_in, is_pam, pam_fault, header_fault, field_fault}
use Rattle.fx_pam.proofs.reader.read_numbers.Goals as goal

-- the fault behind the first line is the header's
fault_of : (bytes : List ℕ) (side : ℕ) (reading : HeaderReading) → is_pam bytes ≡ true → header_in bytes ≡ reading
    → pam_fault bytes side ≡ header_fault side reading
fault_of bytes side reading pam reads =
    ap (λ b. if b then header_fault side (header_in bytes) else Some NotPam) pam ∙ ap (header_fault side) reads

-- the header is read behind it
read_behind : (bytes : List ℕ)
    → header_in bytes ≡ header_of 2 no_numbers (lines_of (take (length bytes - 3) (drop 3 bytes)))
read_behind bytes = ap (λ b. header_of 2 no_numbers (lines_of b)) (sym (take_rest bytes 3))

pub returns-in-None-clause-reads : goal.returns-in-None-clause-reads
returns-in-None-clause-reads c = read_behind c.args.bytes.now ∙ sym c.in-Ok.ensures

pub returns-in-None-clause-left : goal.returns-in-None-clause-left
returns-in-None-clause-left c =
    let bytes = c.args.bytes.now in
    let side = c.args.most_side in
    let numbers = c.in-Ok.numbers in let raster = c.in-Ok.raster.now in
    let pam : is_pam bytes ≡ true = sym c.starts_with.ensures.value ∙ c.if-not-starts_with.false in
    fault_of bytes side (Reads numbers raster) pam (returns-in-None-clause-reads c)
    ∙ ap (field_fault (header_with numbers raster)) (sym c.out_of_range.ensures ∙ c.in-None.is)

pub returns-in-Some-clause-fault : goal.returns-in-Some-clause-fault
returns-in-Some-clause-fault c =
    let bytes = c.args.bytes.now in
    let side = c.args.most_side in
    let numbers = c.in-Ok.numbers in let raster = c.in-Ok.raster.now in
    let pam : is_pam bytes ≡ true = sym c.starts_with.ensures.value ∙ c.if-not-starts_with.false in
    fault_of bytes side (Reads numbers raster) pam (read_behind bytes ∙ sym c.in-Ok.ensures)
    ∙ ap (field_fault (header_with numbers raster)) (sym c.out_of_range.ensures ∙ c.in-Some.is)

pub returns-in-Err-clause-fault : goal.returns-in-Err-clause-fault
returns-in-Err-clause-fault c =
    let bytes = c.args.bytes.now in
    let pam : is_pam bytes ≡ true = sym c.starts_with.ensures.value ∙ c.if-not-starts_with.false in
    fault_of bytes c.args.most_side (IsWrongAt c.in-Err.line) pam (read_behind bytes ∙ sym c.in-Err.ensures)
