use Rattle.std.proofs.Common.{◌+◌, sym, ap, ◌∙◌, arith}
use Rattle.fx_pam.specs.Header.{Reads, lines_of, header_of}
use Rattle.std.proofs.lemmas.List.{take_rest, length-drop}
use Rattle.fx_pam.specs.Seen.{seen}
use Rattle.fx_pam.proofs.LineLemmas.{header_past, line_within, line_leads}
use Rattle.fx_pam.proofs.header.read_header.Goals as goal

pub returns-in-Complete : goal.returns-in-Complete
returns-in-Complete c =
    let found = sym c.line_end.ensures ∙ c.in-Some.is in
    let leads = line_leads c.loop-end.line c.loop-end.so_far c.loop-end.rest.now c.in-Some.end (seen c.saying_of-said.result) c.after_line.result found (rw c.trimmed.ensures at c.saying_of-said.ensures) c.after_line.ensures in
    ap (Reads c.in-Complete.numbers) (take_rest c.loop-end.rest.now (c.in-Some.end + 1)) ∙ sym (rw c.in-Complete.is at leads) ∙ c.loop-end.invariant.same_header

pub returns-in-Wrong : goal.returns-in-Wrong
returns-in-Wrong c =
    let found = sym c.line_end.ensures ∙ c.in-Some.is in
    let leads = line_leads c.loop-end.line c.loop-end.so_far c.loop-end.rest.now c.in-Some.end (seen c.saying_of-said.result) c.after_line.result found (rw c.trimmed.ensures at c.saying_of-said.ensures) c.after_line.ensures in
    sym (rw c.in-Wrong.is at leads) ∙ c.loop-end.invariant.same_header

pub loop-end-preserved : goal.loop-end-preserved
loop-end-preserved c =
    let found = sym c.line_end.ensures ∙ c.in-Some.is in
    let within = line_within c.loop-end.rest.now c.in-Some.end found in
    let leads = line_leads c.loop-end.line c.loop-end.so_far c.loop-end.rest.now c.in-Some.end (seen c.saying_of-said.result) c.after_line.result found (rw c.trimmed.ensures at c.saying_of-said.ensures) c.after_line.ensures in
    let rest = take_rest c.loop-end.rest.now (c.in-Some.end + 1) in
    record {
      same_header = ap (λ bytes. header_of (c.loop-end.line + 1) c.in-On.next (lines_of bytes)) rest ∙ sym (rw c.in-On.is at leads) ∙ c.loop-end.invariant.same_header;
      few_lines = rw rest (omega (arith, length-drop (c.in-Some.end + 1) c.loop-end.rest.now, within, c.loop-end.invariant.few_lines));
    }

pub returns : goal.returns
returns c = sym (header_past c.loop-end.line c.loop-end.so_far c.loop-end.rest.now (sym c.line_end.ensures ∙ c.in_default.is)) ∙ c.loop-end.invariant.same_header
